-- 01, "Terms": "The Rust may miss some: edges 0 to 1, 0 to 2, 1 to 0, 2 to 1, started at 0 with 1 taken first, leaves out 2." All three are cyclic.
use Rattle.std.specs.Prelude.{◌≡◌, refl, List, [], ◌∷◌, ℕ}
use Rattle.paper.specs.Words.{keep, Edges, returns, all_words}
use Rattle.term_table.specs.Table.{numbers}

abbrev pub example : Edges
example = (0, 1) ∷ (0, 2) ∷ (1, 0) ∷ (2, 1) ∷ []

abbrev pub its_cyclic : List ℕ
its_cyclic = 0 ∷ 1 ∷ 2 ∷ []

-- over the definitions; of the table after four calls: proofs/Example.antt
pub example_is : keep (returns example) numbers ≡ its_cyclic
unfolding all_words numbers
example_is = refl
