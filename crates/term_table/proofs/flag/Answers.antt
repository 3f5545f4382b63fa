use Rattle.std.proofs.lemmas.Result.{err_from_is_err_and}
use Rattle.term_table.proofs.Turns.{flag_over, flag_done}
use Rattle.term_table.proofs.flag.Goals as goal

pub returns-in_err-j : goal.returns-in_err-j
returns-in_err-j c =
    let e = err_from_is_err_and c.from_residual.result c.from_residual.ensures.1 in
    let q = c.in_err-j.ensures.high in
    let w = flag_over c.args.r.now c.args.term q.1 in
    record { result_value = rw (e.1, e.2, q.0) w.0; r_after = w.1 }

pub returns : goal.returns
returns c =
    let j = c.in_ok-j.ensures.fits in
    let w = flag_done c.args.r.now c.args.term j.1 in
    record { result_value = w.0; r_after = rw j.0 w.1 }
