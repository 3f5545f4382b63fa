-- From who reaches whom to the lists of cyclic terms.
use mathlib.Core.Path.{◌≡◌}
use mathlib.Core.Bool.{◌&&◌, not}
use mathlib.Core.List.{List}
use Prim.Native.Nat.{ℕ, ◌<◌}
use Rattle.paper.specs.Words.{below, returns}
use Rattle.paper.proofs.Lists.{and_true}
use Rattle.term_table.specs.Table.{terms, Square, in_row, marked, no_marks, numbers, edges_in, Closure, cyclic_terms, unflagged}
use Rattle.term_table.specs.Loops.{on_diagonal, list_to}
use Rattle.term_table.proofs.Lists.{keep_same, mem_numbers}
use Rattle.term_table.proofs.Marks.{none_row}
use Rattle.term_table.proofs.Closing.{diagonal}

module _ (t u : Square) (C : Closure t u) where
  pub cyclic_listed : list_to terms u no_marks ≡ cyclic_terms t
  unfolding list_to cyclic_terms numbers on_diagonal
  cyclic_listed = keep_same (on_diagonal u no_marks) (returns (edges_in t)) (below terms (λ a. a)) (λ a m. go a ((mem_numbers terms a).0 m))
    where
      go : (a : ℕ) → a < terms → (marked u a a && not (in_row no_marks a)) ≡ returns (edges_in t) a
      go a h = simp (none_row a h, diagonal t u a C h) (and_true _)

  pub unflagged_listed : (recs : List ℕ) → list_to terms u recs ≡ unflagged t recs
  unfolding list_to unflagged numbers on_diagonal
  unflagged_listed recs =
      keep_same (on_diagonal u recs) (λ a. returns (edges_in t) a && not (in_row recs a)) (below terms (λ a. a)) (λ a m. go a ((mem_numbers terms a).0 m))
    where
      go : (a : ℕ) → a < terms → (marked u a a && not (in_row recs a)) ≡ (returns (edges_in t) a && not (in_row recs a))
      go a h = simp (diagonal t u a C h)
