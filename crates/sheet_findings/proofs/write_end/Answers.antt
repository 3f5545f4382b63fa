use mathlib.Core.Path.{◌∙◌}
use Rattle.paper.specs.Words.{two}
use Rattle.sheet_digits.proofs.DigitLaws.{two_is}
use Rattle.sheet_findings.specs.Written.{ended_found}
use Rattle.sheet_findings.proofs.write_end.Goals as goal

pub returns : goal.returns
unfolding ended_found two
returns c = rw (c.to_be_bytes.ensures ∙ two_is c.args.sets c.ranges.sets.fits, c.to_be_bytes-2.ensures ∙ two_is c.args.kept c.ranges.kept.fits) at c.write_line.ensures
