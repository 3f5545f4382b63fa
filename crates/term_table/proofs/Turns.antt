-- What one body or one turn of a loop makes, as the code has it.
use mathlib.Core.Path.{◌≡◌, sym, ◌∙◌, ap}
use mathlib.Core.Bool.{Bool}
use mathlib.Core.List.{List, []}
use Prim.Native.Nat.{ℕ, ◌+◌, ◌*◌, ◌/◌, ◌%◌, ◌^◌, ◌≤◌, ◌<◌}
use native.Mathlib.Omega.{arith}
use native.Mathlib.Numerals.{add-one}
use native.Mathlib.Nat.{one-mul}
use lib.ListN.{get_or, set}
use lib.Dec.{eqb}
use lib.Bits.{bit_and, bit_or, and_mask}
use lib.Pow.{shl_exact}
use borrow.Author.Tests.{le-leb, lt-leb}
use Rattle.std.specs.declared.result.Result.TheVariants.{Err, Ok}
use Rattle.paper.specs.Words.{returns}
use Rattle.paper.specs.Numbers.{max_term, Outcome, done, refused}
use Rattle.paper.specs.declared.Refusal.TheVariants.{TermTooHigh}
use Rattle.term_table.specs.Table.{terms, Square, in_row, marked, row_with, with_mark, edges_in, if_term, with_edge, with_term, has_edge, is_cyclic, left, bare, added, asked}
use Rattle.term_table.specs.Loops.{join_by, join_to, pass, reach_to}

-- ---- a mark, read and written

pub read_row : (r : List ℕ) (b : ℕ) → eqb (bit_and (get_or r (b / 64) 0 / 2 ^ (b % 64)) 1) 1 ≡ in_row r b
unfolding in_row
read_row r b = ap (λ (v : ℕ). eqb v 1) (and_mask (get_or r (b / 64) 0 / 2 ^ (b % 64)) 1)

one_bit : (s : ℕ) → s < 64 → (1 * 2 ^ s) % 2 ^ 64 ≡ 2 ^ s
one_bit s h = shl_exact {a = 1} 1 s 64 (omega arith) (omega arith) ∙ one-mul (2 ^ s)

write_row : (r : List ℕ) (b : ℕ) → set r (b / 64) (bit_or (get_or r (b / 64) 0) ((1 * 2 ^ (b % 64)) % 2 ^ 64)) ≡ row_with r b
unfolding row_with
write_row r b = rw (one_bit (b % 64) (omega arith))

-- ---- "term numbers to 255"

within : {A : Type 0} (a : ℕ) (o : Outcome A) → a < terms → if_term a o ≡ o
unfolding if_term
within a o h = simp (le-leb a max_term (omega arith))

over : {A : Type 0} (a : ℕ) (o : Outcome A) → terms ≤ a → if_term a o ≡ refused (TermTooHigh a)
unfolding if_term
over a o h = simp (lt-leb a max_term (omega arith))

module _ (t : Square) (a b : ℕ) where
  pub from_over : terms ≤ a → with_edge t a b ≡ refused (TermTooHigh a)
  unfolding with_edge
  from_over h = over a _ h

  pub to_over : a < terms → terms ≤ b → with_edge t a b ≡ refused (TermTooHigh b)
  unfolding with_edge
  to_over h k = within a _ h ∙ over b _ k

  pub both_within : a < terms → b < terms → with_edge t a b ≡ done (with_mark t a b)
  unfolding with_edge
  both_within h k = within a _ h ∙ within b _ k

  pub add_from : terms ≤ a → (added (Err (TermTooHigh a)) ≡ bare (with_edge t a b)) × (t ≡ left t (with_edge t a b))
  unfolding added
  add_from h = (sym (ap bare (from_over h)), sym (ap (left t) (from_over h)))

  pub add_to : a < terms → terms ≤ b → (added (Err (TermTooHigh b)) ≡ bare (with_edge t a b)) × (t ≡ left t (with_edge t a b))
  unfolding added
  add_to h k = (sym (ap bare (to_over h k)), sym (ap (left t) (to_over h k)))

  pub add_done : a < terms → b < terms
      → (added (Ok tt) ≡ bare (with_edge t a b))
      × (set t a (set (get_or t a []) (b / 64) (bit_or (get_or (get_or t a []) (b / 64) 0) ((1 * 2 ^ (b % 64)) % 2 ^ 64))) ≡ left t (with_edge t a b))
  unfolding added with_mark
  add_done h k = (sym (ap bare (both_within h k)), ap (set t a) (write_row (get_or t a []) b) ∙ sym (ap (left t) (both_within h k)))

  pub edge_from : terms ≤ a → asked (Err (TermTooHigh a)) ≡ has_edge t a b
  unfolding asked has_edge
  edge_from h = sym (over a _ h)

  pub edge_to : a < terms → terms ≤ b → asked (Err (TermTooHigh b)) ≡ has_edge t a b
  unfolding asked has_edge
  edge_to h k = sym (within a _ h ∙ over b _ k)

  pub edge_told : {x : Bool} → a < terms → b < terms → x ≡ marked t a b → asked (Ok x) ≡ has_edge t a b
  unfolding asked has_edge
  edge_told h k e = ap done e ∙ sym (within a _ h ∙ within b _ k)

module _ (r : List ℕ) (a : ℕ) where
  pub term_over : terms ≤ a → with_term r a ≡ refused (TermTooHigh a)
  unfolding with_term
  term_over h = over a _ h

  pub term_within : a < terms → with_term r a ≡ done (row_with r a)
  unfolding with_term
  term_within h = within a _ h

  pub flag_over : terms ≤ a → (added (Err (TermTooHigh a)) ≡ bare (with_term r a)) × (r ≡ left r (with_term r a))
  unfolding added
  flag_over h = (sym (ap bare (term_over h)), sym (ap (left r) (term_over h)))

  pub flag_done : a < terms
      → (added (Ok tt) ≡ bare (with_term r a))
      × (set r (a / 64) (bit_or (get_or r (a / 64) 0) ((1 * 2 ^ (a % 64)) % 2 ^ 64)) ≡ left r (with_term r a))
  unfolding added
  flag_done h = (sym (ap bare (term_within h)), write_row r a ∙ sym (ap (left r) (term_within h)))

module _ (t : Square) (a : ℕ) where
  pub cyclic_over : terms ≤ a → asked (Err (TermTooHigh a)) ≡ is_cyclic t a
  unfolding asked is_cyclic
  cyclic_over h = sym (over a _ h)

  pub cyclic_within : a < terms → is_cyclic t a ≡ done (returns (edges_in t) a)
  unfolding is_cyclic
  cyclic_within h = within a _ h

  pub cyclic_told : {x : Bool} → a < terms → x ≡ returns (edges_in t) a → asked (Ok x) ≡ is_cyclic t a
  unfolding asked
  cyclic_told h e = ap done e ∙ sym (cyclic_within h)

-- ---- the loops

pub join_turn : (t₀ t u : Square) (i k : ℕ) (one other two : List ℕ) → t ≡ join_to i t₀ k one other two → u ≡ join_by t i k one other two → u ≡ join_to (i + 1) t₀ k one other two
unfolding join_to
join_turn t₀ t u i k one other two q e = rw (add-one, ← q) e

pub reach_turn : (t₀ t u : Square) (n : ℕ) → t ≡ reach_to n t₀ → u ≡ pass t (n * 2) → u ≡ reach_to (n + 1) t₀
unfolding reach_to
reach_turn t₀ t u n q e = rw (add-one, ← q) e
