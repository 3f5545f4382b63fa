-- `class_script::pair` meets its contract. Assumes nothing.
use Rattle.class_script.proofs.Reading.{space_is, pair_end, pair_first, pair_second, pair_told}
use Rattle.class_script.proofs.pair.Goals as goal

pub returns-in_err-x : goal.returns-in_err-x
returns-in_err-x c = rw c.from_residual.ensures (pair_first _ _ (space_is _ _ c.space-k.ensures.within c.space-k.ensures.here c.space-k.ensures.first) c.in_err-x.ensures)

pub returns-in_err-get : goal.returns-in_err-get
returns-in_err-get c = rw c.from_residual-in_err-get.ensures (pair_end _ _ (space_is _ _ c.space-k.ensures.within c.space-k.ensures.here c.space-k.ensures.first) c.in_err-get.ensures.lookup.0)

pub returns-in_err-y : goal.returns-in_err-y
returns-in_err-y c = rw c.from_residual-in_err-y.ensures (pair_second _ _ (space_is _ _ c.space-k.ensures.within c.space-k.ensures.here c.space-k.ensures.first) c.in_ok-get.ensures.lookup.0.2 c.in_err-y.ensures)

pub returns : goal.returns
returns c = pair_told _ _ (space_is _ _ c.space-k.ensures.within c.space-k.ensures.here c.space-k.ensures.first) c.in_ok-get.ensures.lookup.0.2 c.in_ok-x.ensures c.in_ok-y.ensures
