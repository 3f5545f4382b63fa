-- `classes::link` meets its contract. Assumes nothing.
use mathlib.Core.Path.{refl}
use Rattle.paper.specs.Classes.{classes}
use Rattle.classes.proofs.Calls.{link_same, link_low, link_high, link_tie}
use Rattle.classes.proofs.link.Goals as goal

pub returns-then-a-b : goal.returns-then-a-b
returns-then-a-b c = λ n. link_same _ _ _ _ _ refl refl c.if-a-b.true

pub returns-then-s-t : goal.returns-then-s-t
returns-then-s-t c = λ n. link_low (classes _ _ n) _ _ _ _ c.from-i.ensures c.from-j.ensures c.if-a-b.false c.if-s-t.true

pub returns-then-s-t-2 : goal.returns-then-s-t-2
returns-then-s-t-2 c = λ n. link_tie (classes _ _ n) _ _ _ _ c.from-i.ensures c.from-j.ensures c.if-a-b.false c.if-s-t.false c.if-s-t-2.true _ c.saturating_add.ensures

pub returns-else-s-t-2 : goal.returns-else-s-t-2
returns-else-s-t-2 c = λ n. link_high (classes _ _ n) _ _ _ _ c.from-i.ensures c.from-j.ensures c.if-a-b.false c.if-s-t.false c.if-s-t-2.false
