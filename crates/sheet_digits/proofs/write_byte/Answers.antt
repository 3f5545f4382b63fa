use Rattle.sheet_digits.proofs.DigitLaws.{byte_put, byte_out}
use Rattle.sheet_digits.proofs.write_byte.Goals as goal

pub returns-then-room-at : goal.returns-then-room-at
returns-then-room-at c = byte_out _ _ _ _ _ c.high_digit.ensures c.put.ensures c.if-room-at.true

pub returns : goal.returns
returns c = let at-put = c in
    byte_put _ _ _ _ _ _ _ at-put.before.high_digit.ensures c.low_digit.ensures at-put.put.ensures c.put-2.ensures
