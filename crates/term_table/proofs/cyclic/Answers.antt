use mathlib.Core.Path.{◌∙◌}
use Rattle.std.proofs.lemmas.Result.{err_from_is_err_and}
use Rattle.term_table.proofs.Turns.{cyclic_over, cyclic_told}
use Rattle.term_table.proofs.Closing.{diagonal}
use Rattle.term_table.proofs.cyclic.Goals as goal

pub returns-in_err-a : goal.returns-in_err-a
returns-in_err-a c =
    let e = err_from_is_err_and c.from_residual.result c.from_residual.ensures.1 in
    let q = c.in_err-a.ensures.high in
    rw (e.1, e.2, q.0) (cyclic_over c.args.t c.args.term q.1)

pub returns : goal.returns
returns c =
    let a = c.in_ok-a.ensures.fits in
    cyclic_told c.args.t c.args.term a.1 (rw a.0 at c.has.ensures ∙ diagonal _ _ _ c.close.ensures a.1)
