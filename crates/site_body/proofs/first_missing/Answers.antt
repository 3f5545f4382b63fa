use Rattle.std.proofs.Common.{◌≡◌, ◌+◌, ◌-◌, ◌*◌, sym, ap, ◌∙◌, arith}
use Rattle.site_body.specs.Body.{found_as}
use Rattle.site_body.proofs.Turns.{missing_here, missing_next, missing_none}
use Rattle.site_body.proofs.first_missing.Goals as goal

pub returns-then-count-s : goal.returns-then-count-s
returns-then-count-s c =
    let m = c.args.many in
    let k = c.loop-k.k in
    let f = c.args.from in
    ap found_as (sym (missing_here c.args.b.now c.args.count (m - k) (f + 2 * k) _ (omega arith) (omega arith) c.word_at-s.ensures c.if-count-s.true) ∙ c.loop-k.invariant)

pub loop-k-preserved : goal.loop-k-preserved
loop-k-preserved c =
    let m = c.args.many in
    let k = c.loop-k.k in
    let f = c.args.from in
    let one : m - k - 1 ≡ m - (k + 1) = omega arith in
    let two : f + 2 * k + 2 ≡ f + 2 * (k + 1) = omega arith in
    rw (← one, ← two) (sym (missing_next c.args.b.now c.args.count (m - k) (f + 2 * k) _ (omega arith) (omega arith) c.word_at-s.ensures c.if-count-s.false) ∙ c.loop-k.invariant)

pub returns : goal.returns
returns c = ap found_as (sym (missing_none c.args.b.now c.args.count (c.args.many - c.loop-k.k) (c.args.from + 2 * c.loop-k.k) (omega arith)) ∙ c.loop-k.invariant)
