-- "Classes start empty and only these calls make them".
use Rattle.std.specs.Prelude.{◌≡◌, Bool, false, ◌||◌, ◌&&◌, not, List, [], ◌∷◌, ℕ, eqb}
use Rattle.paper.specs.Words.{has}
use Rattle.paper.specs.Numbers.{Outcome, done, ◌>>=◌}
use Rattle.paper.specs.Classes.{Classes, no_classes, Flattened, find_mut, merge, Removed, remove_set_of}

-- c was made by calls, and j tells which sites were joined since each was last removed. (A refused call, and a plain find, make nothing.)
pub data Made : Classes → (ℕ → Bool) → Type 0 where
  begun : Made no_classes (λ z. false)
  joined : {c d : Classes} {j : ℕ → Bool} (x y : ℕ) → Made c j → merge c x y ≡ done d → Made d (λ z. j z || (eqb z x || eqb z y))
  sought : {c : Classes} {h : Flattened} {j : ℕ → Bool} (x : ℕ) → Made c j → find_mut c x ≡ done h → Made h.after j
  taken : {c : Classes} {q : Removed} {j : ℕ → Bool} (x : ℕ) → Made c j → remove_set_of c x ≡ done q → Made q.after (λ z. j z && not (has q.members z))

-- a run of joins
unfoldable pub merge_all : Classes → List (ℕ × ℕ) → Outcome Classes
merge_all c [] = done c
merge_all c (p ∷ ps) = merge c p.0 p.1 >>= λ d. merge_all d ps
