use mathlib.Core.Path.{◌∙◌}
use Rattle.paper.specs.Words.{four}
use Rattle.sheet_digits.proofs.DigitLaws.{four_is}
use Rattle.sheet_findings.specs.Written.{five_found}
use Rattle.sheet_findings.proofs.write_five.Goals as goal

pub returns : goal.returns
unfolding five_found four
returns c = rw (c.to_be_bytes.ensures ∙ four_is c.args.n c.ranges.n.fits) at c.write_line.ensures
