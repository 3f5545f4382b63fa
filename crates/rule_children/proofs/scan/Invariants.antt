use Prim.Native.Nat.{◌+◌, ◌-◌, ◌≤◌}
use Rattle.rule_children.proofs.ScanLaws.{Walking}
use Rattle.rule_children.proofs.scan.Given as goal

abbrev pub invariant-loop-missing : goal.invariant-loop-missing
invariant-loop-missing l = (l.i ≤ l.n + l.k) × Walking l.m l.n l.tail l.s l.w l.i l.missing l.numbers

abbrev pub decreases-loop-missing : goal.decreases-loop-missing
decreases-loop-missing l = l.n + l.k - l.i
