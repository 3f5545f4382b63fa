-- `classes::in_same_set_in` meets its contract. Assumes nothing.
use Rattle.std.proofs.lemmas.Result.{err_from_is_err_and}
use Rattle.classes.proofs.Calls.{same_x, same_y, same_no, same_two}
use Rattle.classes.proofs.in_same_set_in.Goals as goal

pub returns-in_err-known : goal.returns-in_err-known
returns-in_err-known c = let p = err_from_is_err_and c.from_residual.result c.from_residual.ensures.1 in rw (p.1, p.2) (λ R n. same_x _ _ _ c.in_err-known.ensures.err)

pub returns-in_err-known-2 : goal.returns-in_err-known-2
returns-in_err-known-2 c = let p = err_from_is_err_and c.from_residual-in_err-known-2.result c.from_residual-in_err-known-2.ensures.1 in rw (p.1, p.2) (λ R n. same_y _ _ _ c.in_ok-known.ensures.ok c.in_err-known-2.ensures.err)

pub returns-in_default : goal.returns-in_default
returns-in_default c = λ R n. same_no _ _ _ c.in_ok-known.ensures.ok c.in_ok-known-2.ensures.ok _ c.trail_in.ensures c.in_default.is

pub returns : goal.returns
returns c = rw c.eq.ensures (λ R n. same_two _ _ _ c.in_ok-known.ensures.ok c.in_ok-known-2.ensures.ok _ _ _ c.trail_in.ensures c.in-Some.is c.trail_in-2.ensures)
