-- `classes::merge_in` meets its contract. Assumes nothing.
use Rattle.std.proofs.lemmas.Result.{err_from_is_err_and}
use Rattle.classes.specs.Answers.{root_in}
use Rattle.classes.proofs.Calls.{rooted_lt, merge_x, merge_y, merge_same, merge_done}
use Rattle.classes.proofs.merge_in.Goals as goal

pub returns-in_err-known : goal.returns-in_err-known
returns-in_err-known c = let p = err_from_is_err_and c.from_residual.result c.from_residual.ensures.1 in rw (p.1, p.2) (merge_x _ _ _ c.in_err-known.ensures.err)

pub returns-in_err-known-2 : goal.returns-in_err-known-2
returns-in_err-known-2 c = let p = err_from_is_err_and c.from_residual-in_err-known-2.result c.from_residual-in_err-known-2.ensures.1 in rw (p.1, p.2) (merge_y _ _ _ c.in_ok-known.ensures.ok c.in_err-known-2.ensures.err)

pub returns-then-x-y : goal.returns-then-x-y
returns-then-x-y c = merge_same _ _ _ c.in_ok-known.ensures.ok c.in_ok-known-2.ensures.ok c.if-x-y.true

pub link-requires : goal.link-requires
link-requires c = (
  rooted_lt _ _ c.in_ok-known.ensures.ok (root_in _ _) c.enter-a.ensures,
  rooted_lt _ _ c.in_ok-known-2.ensures.ok (root_in _ _) c.enter-b.ensures,
)

pub returns : goal.returns
returns c = merge_done _ _ _ c.in_ok-known.ensures.ok c.in_ok-known-2.ensures.ok c.if-x-y.false (root_in _ _) (root_in _ _) _ c.enter-a.ensures c.enter-b.ensures (c.link.ensures _)
