use Rattle.std.proofs.lemmas.Result.{err_from_is_err_and}
use Rattle.term_table.proofs.Turns.{add_from, add_to, add_done}
use Rattle.term_table.proofs.add.Goals as goal

pub returns-in_err-i : goal.returns-in_err-i
returns-in_err-i c =
    let e = err_from_is_err_and c.from_residual.result c.from_residual.ensures.1 in
    let q = c.in_err-i.ensures.high in
    let w = add_from c.args.t.now c.args.from c.args.to q.1 in
    record { result_value = rw (e.1, e.2, q.0) w.0; t_after = w.1 }

pub returns-in_err-j : goal.returns-in_err-j
returns-in_err-j c =
    let e = err_from_is_err_and c.from_residual-in_err-j.result c.from_residual-in_err-j.ensures.1 in
    let q = c.in_err-j.ensures.high in
    let w = add_to c.args.t.now c.args.from c.args.to c.in_ok-i.ensures.fits.1 q.1 in
    record { result_value = rw (e.1, e.2, q.0) w.0; t_after = w.1 }

pub returns : goal.returns
returns c =
    let i = c.in_ok-i.ensures.fits in
    let j = c.in_ok-j.ensures.fits in
    let w = add_done c.args.t.now c.args.from c.args.to i.1 j.1 in
    record { result_value = w.0; t_after = rw (i.0, j.0) w.1 }
