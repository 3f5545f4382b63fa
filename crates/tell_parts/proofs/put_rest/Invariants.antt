use Prim.Native.Nat.{◌+◌, ◌-◌, ◌*◌}
use mathlib.Core.Path.{◌≡◌}
use Rattle.tell_text.specs.Written.{wrote}
use Rattle.tell_parts.specs.Parts.{rest}
use Rattle.tell_parts.proofs.put_rest.Given as goal

abbrev pub invariant-loop-n : goal.invariant-loop-n
invariant-loop-n l = wrote (l.out, l.k) (rest l.f (l.from + 4 * l.n) (l.count - l.n)) ≡ wrote (l.initial.out, l.at) (rest l.f l.from l.count)
