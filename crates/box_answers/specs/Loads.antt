-- What crosses of a rule that is loaded.
use Rattle.std.specs.declared.result.Result.TheVariants.{Err, Ok}
use Rattle.std.specs.Prelude.{List, [], ◌∷◌, ℕ, ltb}
use Rattle.paper.specs.declared.Refusal.TheVariants.{Layout}
use Rattle.std.specs.Prelude.{if◌then◌else◌}
use Rattle.paper.specs.Numbers.{Outcome, refused}
use Rattle.item_layout.specs.Layout.{stray}
use Rattle.paper.specs.Answered.{Answer}
use Rattle.box_answers.specs.declared.Said.{Said}
use Rattle.box_answers.specs.Border.{said, refused_said}

-- the words of an item
abbrev pub item_words : ℕ
item_words = 4

unfoldable pub loaded_said : Answer ℕ → Said
loaded_said (Ok n) = said 0 (n ∷ [])
loaded_said (Err r) = refused_said r

-- "1: a frame is not as laid out", of the items that are handed over, a frame each: told is the first such item, counted from 0. It stands before 7 and 8, as
-- on a sheet, where each item is held to its layout at its own line, and the rule is loaded with the last of them.
unfoldable pub handed : {A : Type 0} → List ℕ → ℕ → Outcome A → Outcome A
handed ws many o = if ltb (stray ws many) many then refused (Layout (stray ws many)) else o
