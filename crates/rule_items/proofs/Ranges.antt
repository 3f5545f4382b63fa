-- What the code's types say of a constraint: from what a function is told of it on entry.
use mathlib.Core.List.{List}
use mir.Val.{Val}
use denote.Laws.{Is}
use denote.Enum.Declared.{row}
use Rattle.paper.specs.declared.Constraint.{Constraint}
use Rattle.paper.specs.declared.Constraint.TheVariants.{Variant, Struct, ConstBool, ConstInt, ConstPrim, Some}
use Rattle.paper.specs.contracts.Constraint.{the_type}
use Rattle.rule_words.specs.Packing.{InRange}

pub in_range : (c : Constraint) (vs : List Val) → Is (row the_type) c vs → InRange c
in_range (Variant t v n) vs p = let z = p.1.1.1.1 in (z.0.1, (z.1.0.1, z.1.1.0.1))
in_range (Struct t n) vs p = let z = p.1.1.1.1 in (z.0.1, z.1.0.1)
in_range (ConstBool t v) vs p = p.1.1.1.1.0.1
in_range (ConstInt t h l) vs p = p.1.1.1.1.0.1
in_range (ConstPrim v) vs p = p.1.1.1.1.0.1
in_range Some vs p = tt
