use Rattle.sheet_digits.proofs.DigitLaws.{four_is}
use Rattle.sheet_digits.proofs.put_four.Goals as goal

pub returns : goal.returns
returns c = let e = four_is c.args.v c.ranges.v.fits in cc
