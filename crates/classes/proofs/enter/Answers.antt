-- `classes::enter` meets its contract. Assumes nothing.
use Rattle.paper.specs.Classes.{classes}
use Rattle.classes.proofs.Calls.{entered, entered_new}
use Rattle.classes.proofs.enter.Goals as goal

pub returns-in_default : goal.returns-in_default
returns-in_default c = entered_new (classes _ _ _) _ c.flatten_in.ensures _ _ c.from-i.ensures c.saturating_add.ensures c.in_default.is

pub returns : goal.returns
returns c = entered (classes _ _ _) _ c.flatten_in.ensures _ c.in-Some.is
