use Rattle.tell_text.proofs.Laws.{last_digit, digit_after}
use Rattle.tell_text.proofs.+put_decimal.Goals as goal

pub returns-then-n-lt10 : goal.returns-then-n-lt10
returns-then-n-lt10 t c = last_digit _ _ _ c.if-n-lt10.true c.put.ensures

pub returns : goal.returns
returns t c = digit_after _ _ _ _ c.if-n-lt10.false c.put_decimal-k.ensures c.put-2.ensures
