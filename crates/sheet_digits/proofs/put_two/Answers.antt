use Rattle.sheet_digits.proofs.DigitLaws.{two_is}
use Rattle.sheet_digits.proofs.put_two.Goals as goal

pub returns : goal.returns
returns c = let e = two_is c.args.v c.ranges.v.fits in cc
