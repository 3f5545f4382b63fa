use mathlib.Core.Path.{◌∙◌}
use Rattle.paper.specs.Words.{two}
use Rattle.paper.specs.Sheets.{term_found}
use Rattle.sheet_digits.proofs.DigitLaws.{two_is}
use Rattle.sheet_findings.proofs.write_term.Goals as goal

pub returns : goal.returns
unfolding term_found two
returns c = rw (c.to_be_bytes.ensures ∙ two_is c.args.t c.ranges.t.fits) at c.write_line.ensures
