use Rattle.sheet_digits.proofs.DigitLaws.{digit_low, digit_high}
use Rattle.sheet_digits.proofs.digit.Goals as goal

pub returns-then-v-lt10 : goal.returns-then-v-lt10
returns-then-v-lt10 c = digit_low _ c.if-v-lt10.true

pub returns : goal.returns
returns c = digit_high _ c.if-v-lt10.false
