use mathlib.Core.Path.{refl}
use Rattle.sheet_lines.specs.Held.{no_line, nothing_holds}
use Rattle.sheet_lines.proofs.nothing.Goals as goal

pub returns : goal.returns
unfolding no_line
returns c = (refl, nothing_holds)
