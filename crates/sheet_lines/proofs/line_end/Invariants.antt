use Rattle.std.proofs.Common.{◌≡◌, drop}
use Rattle.sheet_lines.specs.Ends.{line_end}
use Rattle.sheet_lines.proofs.line_end.Given as goal

abbrev pub invariant-loop-i : goal.invariant-loop-i
invariant-loop-i l = line_end l.i (drop l.i l.s) ≡ line_end l.from (drop l.from l.s)
