-- `classes::flatten_in` meets its contract. Assumes nothing.
use Rattle.classes.proofs.Calls.{flatten_none, flatten_led, flatten_at}
use Rattle.classes.proofs.flatten_in.Goals as goal

pub returns-in_err-r : goal.returns-in_err-r
returns-in_err-r c = rw c.from_residual.ensures (flatten_none _ _ _ c.trail_in-t.ensures c.in_err-r.was)

pub hang-requires : goal.hang-requires
hang-requires c = flatten_led _ _ _ c.trail_in-t.ensures _ c.in_ok-r.was

pub returns : goal.returns
returns c = flatten_at _ _ _ c.trail_in-t.ensures _ _ c.in_ok-r.was c.hang.ensures
