-- `classes::find_mut_in` meets its contract. Assumes nothing.
use Rattle.std.proofs.lemmas.Result.{err_from_is_err_and}
use Rattle.classes.proofs.Calls.{sought_out, sought_in}
use Rattle.classes.proofs.find_mut_in.Goals as goal

pub returns-in_err-known : goal.returns-in_err-known
returns-in_err-known c = let p = err_from_is_err_and c.from_residual.result c.from_residual.ensures.1 in rw (p.1, p.2) (λ R n. sought_out _ _ c.in_err-known.ensures.err)

pub returns : goal.returns
returns c = λ R n. sought_in _ _ c.in_ok-known.ensures.ok c.flatten_in.ensures
