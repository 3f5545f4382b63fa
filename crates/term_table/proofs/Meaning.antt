-- What the answers mean, and that no other answer satisfies the contracts.
use mathlib.Core.Path.{◌≡◌, refl, sym, ◌∙◌, ap}
use mathlib.Core.Bool.{Bool, true, false}
use mathlib.Core.Logic.{◌↔◌}
use mathlib.Core.List.{[], Memᴰ}
use Prim.Native.Nat.{ℕ, zero, suc, ◌+◌, ◌*◌, ◌/◌, ◌%◌, ◌^◌, ◌<◌}
use native.Mathlib.Omega.{arith}
use native.Mathlib.Nat.{pow-succ'}
use native.Mathlib.Numerals.{one-add}
use lib.ListN.{get_or}
use lib.Seq.{ext_get_or}
use lib.Dec.{eqb}
use lib.Pow.{shr-shr}
use borrow.Author.Tests.{eqb-true, eqb-false}
use Rattle.std.specs.declared.result.Result.TheVariants.{Err, Ok}
use Rattle.paper.specs.Words.{Walk, one, more, returns}
use Rattle.paper.proofs.Walks.{returns_is}
use Rattle.paper.specs.Numbers.{Outcome, done}
use Rattle.paper.specs.Answered.{Verdict}
use Rattle.paper.proofs.Lists.{no_way}
use Rattle.paper.specs.Answered.{Answer}
use Rattle.term_table.specs.Table.{terms, words, Square, row, in_row, marked, numbers, edges_in, is_cyclic, Closure, cyclic_terms, added, asked}
use Rattle.term_table.proofs.Bits.{bit}
use Rattle.term_table.proofs.Lists.{mem_keep, mem_numbers}
use Rattle.term_table.proofs.Turns.{cyclic_within}
use Rattle.term_table.proofs.Marks.{Stored}
use Rattle.term_table.proofs.Closing.{of_edges, same_test}

-- ---- "A term is cyclic exactly when a walk of one or more edges returns to it."

pub cyclic_is : (t : Square) (a : ℕ) → a < terms → (is_cyclic t a ≡ done true) ↔ Walk (edges_in t) a a
cyclic_is t a h =
    (λ e. (returns_is (edges_in t) a).0 (out (sym (cyclic_within t a h) ∙ e)), λ w. cyclic_within t a h ∙ ap done ((returns_is (edges_in t) a).1 w))
  where
    out : {x : Bool} → ◌≡◌ {A = Outcome Bool} (done x) (done true) → x ≡ true
    out e = cc

start_of : (t : Square) {a b : ℕ} → Walk (edges_in t) a b → a < terms
start_of t {a} {b} (one m) = (of_edges t a b m).from
start_of t {a} (more {b = c} m w) = (of_edges t a c m).from

pub listed_is : (t : Square) (a : ℕ) → Memᴰ a (cyclic_terms t) ↔ Walk (edges_in t) a a
unfolding cyclic_terms numbers
listed_is t a = (
  λ m. (returns_is (edges_in t) a).0 ((mem_keep (returns (edges_in t)) a numbers).0 m).1,
  λ w. (mem_keep (returns (edges_in t)) a numbers).1 ((mem_numbers terms a).1 (start_of t w), (returns_is (edges_in t) a).1 w),
)

-- ---- no second answer

pub one_added : (x y : Verdict) → added x ≡ added y → x ≡ y
unfolding added
one_added (Ok _) (Ok _) e = refl
one_added (Ok _) (Err s) e = no_way (cc)
one_added (Err r) (Ok _) e = no_way (cc)
one_added (Err r) (Err s) e = cc

pub one_asked : (x y : Answer Bool) → asked x ≡ asked y → x ≡ y
unfolding asked
one_asked (Ok a) (Ok b) e = cc
one_asked (Ok a) (Err s) e = no_way (cc)
one_asked (Err r) (Ok b) e = no_way (cc)
one_asked (Err r) (Err s) e = cc

-- a word is known by its bits
half_bit : (w k : ℕ) → bit (w / 2) k ≡ bit w (suc k)
half_bit w k = ap (λ (v : ℕ). eqb (v % 2) 1) (shr-shr w 1 k ∙ ap (λ (v : ℕ). w / 2 ^ v) (one-add k))

low_bit : (w v : ℕ) → bit w 0 ≡ bit v 0 → w % 2 ≡ v % 2
low_bit w v e = go (bit v 0) refl
  where
    go : (b : Bool) → bit v 0 ≡ b → w % 2 ≡ v % 2
    go true p = let x = eqb-true (w / 1 % 2) 1 (e ∙ p) in let y = eqb-true (v / 1 % 2) 1 p in omega arith
    go false p = let x = eqb-false (w / 1 % 2) 1 (e ∙ p) in let y = eqb-false (v / 1 % 2) 1 p in omega arith

pub word_same : (n w v : ℕ) → w < 2 ^ n → v < 2 ^ n → ((k : ℕ) → k < n → bit w k ≡ bit v k) → w ≡ v
word_same zero w v hw hv f = omega arith
word_same (suc n) w v hw hv f =
    let p : 2 ^ suc n ≡ 2 * 2 ^ n = pow-succ' 2 n in
    let q : w / 2 ≡ v / 2 = word_same n (w / 2) (v / 2) (omega arith) (omega arith) (λ k h. half_bit w k ∙ f (suc k) (omega arith) ∙ sym (half_bit v k)) in
    let r = low_bit w v (f 0 (omega arith)) in
    omega arith

pub square_same : (t u : Square) → Stored t → Stored u → ((a b : ℕ) → a < terms → b < terms → marked t a b ≡ marked u a b) → t ≡ u
unfolding marked in_row
square_same t u T U f = ext_get_or [] t u (T.whole.rows ∙ sym U.whole.rows) (λ a h. same_row a (omega (arith, T.whole.rows)))
  where
    same_word : (a q k : ℕ) → a < terms → q < words → k < 64 → bit (get_or (row t a) q 0) k ≡ bit (get_or (row u a) q 0) k
    same_word a q k ha hq hk =
        let b = q * 64 + k in
        let d : b / 64 ≡ q = omega arith in
        let m : b % 64 ≡ k = omega arith in
        rw (d, m) at (f a b ha (omega arith))

    same_row : (a : ℕ) → a < terms → row t a ≡ row u a
    same_row a ha =
        ext_get_or 0 (row t a) (row u a) (T.whole.words a ha ∙ sym (U.whole.words a ha))
        (λ q h. let hq : q < words = omega (arith, T.whole.words a ha) in
        word_same 64 (get_or (row t a) q 0) (get_or (row u a) q 0) (T.fits a q ha hq) (U.fits a q ha hq) (λ k hk. same_word a q k ha hq hk))

-- who reaches whom has one table (Shape.antt, `Stored-of`: a table by value is stored)
pub one_closure : (t u v : Square) → Stored u → Stored v → Closure t u → Closure t v → u ≡ v
unfolding Closure
one_closure t u v U W C D =
    square_same u v U W
    (λ a b ha hb. same_test (marked u a b) (marked v a b) (λ m. (D a b ha hb).1 ((C a b ha hb).0 m)) (λ m. (C a b ha hb).1 ((D a b ha hb).0 m)))
