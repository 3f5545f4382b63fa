use Rattle.std.proofs.Common.{◌≡◌, ◌+◌, ◌-◌, ◌*◌, drop}
use Rattle.site_body.specs.Body.{missing, words}
use Rattle.site_body.proofs.first_missing.Given as goal

abbrev pub invariant-loop-k : goal.invariant-loop-k
invariant-loop-k l = missing l.count (words (l.many - l.k) (drop (l.from + 2 * l.k) l.b)) ≡ missing l.count (words l.many (drop l.from l.b))
