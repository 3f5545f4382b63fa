-- Edges added one by one: the table holds an edge exactly when it was added. The same of the terms marked in a row.
use mathlib.Core.Path.{◌≡◌, refl, sym, ◌∙◌, ap}
use mathlib.Core.Bool.{true, ◌&&◌}
use mathlib.Core.Logic.{◌↔◌, ◌⊎◌, inl, inr, ⊎_elim}
use mathlib.Core.List.Memᴰ
use mathlib.Core.List.{List, [], ◌∷◌, ◌++◌, Memᴰ}
use Prim.Native.Nat.{ℕ, ◌/◌, ◌<◌}
use native.Mathlib.Omega.{arith}
use native.Mathlib.Decide.{dec_lt}
use lib.ListN.{length, length-set}
use lib.Dec.{eqb}
use borrow.Author.Tests.{eqb-true, eq-eqb}
use Rattle.paper.specs.Words.{keep, Edges, Walk, one, more, returns}
use Rattle.paper.proofs.Walks.{returns_is}
use Rattle.paper.proofs.Lists.{no_way, and_both, or_cases, or_left, or_right}
use Rattle.term_table.specs.Table.{terms, words, Square, in_row, marked, row_with, with_mark, no_edges, numbers, edges_in, with_edge, with_term, left, with_edges, with_terms, cyclic_terms}
use Rattle.term_table.specs.Heads.{Between}
use Rattle.term_table.proofs.Lists.{keep_same}
use Rattle.term_table.proofs.Turns.{from_over, to_over, both_within, term_over, term_within}
use Rattle.term_table.proofs.Marks.{Whole, put_row, put_whole, put_marks, none_whole, none_marks}
use Rattle.term_table.proofs.Closing.{in_edges, of_edges, same_test}

-- the ways in which an or, an and hold

-- ---- edges

-- one call: the edge, and what was there. A refused one is no edge between terms.
record Stepped (t u : Square) (e : ℕ × ℕ) : Type 0 where
  whole : Whole u
  marks : (a b : ℕ) → a < terms → b < terms → (marked u a b ≡ true) ↔ ((marked t a b ≡ true) ⊎ ((a, b) ≡ e))

stays : (t u : Square) (e : ℕ × ℕ) → Whole t → u ≡ t → ((a b : ℕ) → a < terms → b < terms → (a, b) ≡ e → ⊥) → Stepped t u e
stays t u e W q n = rw q (record { whole = W; marks = λ a b ha hb. (λ m. inl m, λ w. ⊎_elim (λ m. m) (λ p. absurd (n a b ha hb p)) w) })

step : (t : Square) (x y : ℕ) → Whole t → Stepped t (left t (with_edge t x y)) (x, y)
step t x y W = go (dec_lt x terms) (dec_lt y terms)
  where
    go : Dec (x < terms) → Dec (y < terms) → Stepped t (left t (with_edge t x y)) (x, y)
    go (no d) k =
        stays t _ (x, y) W (ap (left t) (from_over t x y (omega arith))) (λ a b ha hb p. let q : a ≡ x = ap (λ (z : ℕ × ℕ). z.0) p in omega arith)
    go (yes h) (no d) =
        stays t _ (x, y) W (ap (left t) (to_over t x y h (omega arith))) (λ a b ha hb p. let q : b ≡ y = ap (λ (z : ℕ × ℕ). z.1) p in omega arith)
    go (yes h) (yes k) =
        rw (both_within t x y h k) (record { whole = put_whole t W x h y; marks = λ a b ha hb. (of a b hb, to a b hb) })
      where
        of : (a b : ℕ) → b < terms → marked (with_mark t x y) a b ≡ true → (marked t a b ≡ true) ⊎ (◌≡◌ {A = ℕ × ℕ} (a, b) (x, y))
        of a b hb m =
            ⊎_elim (λ w. inl w)
            (λ w. let p = and_both (eqb a x) (eqb b y) w in inr (rw (eqb-true a x p.0, eqb-true b y p.1) refl))
            (or_cases (marked t a b) (eqb a x && eqb b y) (sym (put_marks t W x h y a b k hb) ∙ m))

        to : (a b : ℕ) → b < terms → (marked t a b ≡ true) ⊎ (◌≡◌ {A = ℕ × ℕ} (a, b) (x, y)) → marked (with_mark t x y) a b ≡ true
        to a b hb (inl m) = put_marks t W x h y a b k hb ∙ or_left (marked t a b) _ m
        to a b hb (inr p) =
            let q : a ≡ x = ap (λ (z : ℕ × ℕ). z.0) p in
            let r : b ≡ y = ap (λ (z : ℕ × ℕ). z.1) p in
            put_marks t W x h y a b k hb ∙ or_right (marked t a b) (eqb a x && eqb b y) (rw (eq-eqb a x q, eq-eqb b y r) refl)

pub edges_whole : (es : Edges) (t : Square) → Whole t → Whole (with_edges t es)
unfolding with_edges
edges_whole [] t W = W
edges_whole (e ∷ es) t W = edges_whole es _ (step t e.0 e.1 W).whole

pub edges_marked : (es : Edges) (t : Square) (a b : ℕ) → Whole t → a < terms → b < terms
    → (marked (with_edges t es) a b ≡ true) ↔ ((marked t a b ≡ true) ⊎ Memᴰ (a, b) es)
unfolding with_edges
edges_marked [] t a b W ha hb = (λ m. inl m, λ w. ⊎_elim (λ m. m) (λ m. absurd (Memᴰ.not-nil m)) w)
edges_marked (e ∷ es) t a b W ha hb = go (step t e.0 e.1 W) (edges_marked es _ a b (step t e.0 e.1 W).whole ha hb)
  where
    u : Square
    u = left t (with_edge t e.0 e.1)

    go : Stepped t u e → (marked (with_edges u es) a b ≡ true) ↔ ((marked u a b ≡ true) ⊎ Memᴰ (a, b) es)
        → (marked (with_edges u es) a b ≡ true) ↔ ((marked t a b ≡ true) ⊎ Memᴰ (a, b) (e ∷ es))
    go S I = (
      λ m. ⊎_elim (λ w. ⊎_elim (λ x. inl x) (λ x. inr (Memᴰ.head x)) ((S.marks a b ha hb).0 w)) (λ w. inr (Memᴰ.tail w)) (I.0 m),
      λ w. I.1
          (⊎_elim (λ x. inl ((S.marks a b ha hb).1 (inl x)))
          (λ x. ⊎_elim (λ y. inl ((S.marks a b ha hb).1 (inr y))) (λ y. inr y) (Memᴰ.cases_cons x)) w),
    )

-- one call after the others, as a loop makes them
pub edges_append : (es fs : Edges) (t : Square) → with_edges t (es ++ fs) ≡ with_edges (with_edges t es) fs
unfolding with_edges
edges_append [] fs t = refl
edges_append (e ∷ es) fs t = edges_append es fs _

-- from the empty table: just the edges that were added
pub edges_held : (es : Edges) → Between es → (a b : ℕ) → Memᴰ (a, b) (edges_in (with_edges no_edges es)) ↔ Memᴰ (a, b) es
unfolding Between
edges_held es B a b = (of, to)
  where
    of : Memᴰ (a, b) (edges_in (with_edges no_edges es)) → Memᴰ (a, b) es
    of m =
        let E = of_edges _ a b m in
        ⊎_elim (λ x. no_way (sym x ∙ none_marks a b E.from E.to)) (λ x. x)
        ((edges_marked es no_edges a b none_whole E.from E.to).0 E.mark)

    to : Memᴰ (a, b) es → Memᴰ (a, b) (edges_in (with_edges no_edges es))
    to m =
        let h = B a b m in
        in_edges _ a b (record { from = h.0; to = h.1; mark = (edges_marked es no_edges a b none_whole h.0 h.1).1 (inr m) })

walk_map : {es fs : Edges} → ((a b : ℕ) → Memᴰ (a, b) es → Memᴰ (a, b) fs) → {a b : ℕ} → Walk es a b → Walk fs a b
walk_map f {a} {b} (one m) = one (f a b m)
walk_map f {a} (more {b = c} m w) = more (f a c m) (walk_map f w)

-- the order of edges, and how often one was added, don't matter
pub returns_same : (es fs : Edges) → ((a b : ℕ) → Memᴰ (a, b) es ↔ Memᴰ (a, b) fs) → (a : ℕ) → returns es a ≡ returns fs a
returns_same es fs h a =
    same_test (returns es a) (returns fs a)
    (λ r. (returns_is fs a).1 (walk_map (λ x y. (h x y).0) ((returns_is es a).0 r)))
    (λ r. (returns_is es a).1 (walk_map (λ x y. (h x y).1) ((returns_is fs a).0 r)))

pub cyclic_held : (es : Edges) → Between es → (a : ℕ) → returns (edges_in (with_edges no_edges es)) a ≡ returns es a
cyclic_held es B a = returns_same _ es (edges_held es B) a

pub cyclic_terms_held : (es : Edges) → Between es → cyclic_terms (with_edges no_edges es) ≡ keep (returns es) numbers
unfolding cyclic_terms
cyclic_terms_held es B = keep_same _ (returns es) numbers (λ a m. cyclic_held es B a)

-- ---- marks in a row

row_length : (r : List ℕ) (x : ℕ) → length (row_with r x) ≡ length r
unfolding row_with
row_length r x = length-set r (x / 64) _

record Flagged (r s : List ℕ) (x : ℕ) : Type 0 where
  long : length s ≡ words
  marks : (b : ℕ) → b < terms → (in_row s b ≡ true) ↔ ((in_row r b ≡ true) ⊎ (b ≡ x))

term_step : (r : List ℕ) (x : ℕ) → length r ≡ words → Flagged r (left r (with_term r x)) x
term_step r x l = go (dec_lt x terms)
  where
    go : Dec (x < terms) → Flagged r (left r (with_term r x)) x
    go (no d) = rw (term_over r x (omega arith)) (record { long = l; marks = λ b hb. (λ m. inl m, λ w. ⊎_elim (λ m. m) (λ p. absurd (omega arith)) w) })
    go (yes h) = rw (term_within r x h) (record { long = row_length r x ∙ l; marks = λ b hb. (of b hb, to b hb) })
      where
        of : (b : ℕ) → b < terms → in_row (row_with r x) b ≡ true → (in_row r b ≡ true) ⊎ (b ≡ x)
        of b hb m = ⊎_elim (λ y. inl y) (λ y. inr (eqb-true b x y)) (or_cases (in_row r b) (eqb b x) (sym (put_row r x b l h hb) ∙ m))

        to : (b : ℕ) → b < terms → (in_row r b ≡ true) ⊎ (b ≡ x) → in_row (row_with r x) b ≡ true
        to b hb (inl y) = put_row r x b l h hb ∙ or_left (in_row r b) (eqb b x) y
        to b hb (inr y) = put_row r x b l h hb ∙ or_right (in_row r b) (eqb b x) (eq-eqb b x y)

pub terms_marked : (ts : List ℕ) (r : List ℕ) (b : ℕ) → length r ≡ words → b < terms
    → (in_row (with_terms r ts) b ≡ true) ↔ ((in_row r b ≡ true) ⊎ Memᴰ b ts)
unfolding with_terms
terms_marked [] r b l hb = (λ m. inl m, λ w. ⊎_elim (λ m. m) (λ m. absurd (Memᴰ.not-nil m)) w)
terms_marked (x ∷ ts) r b l hb = go (term_step r x l) (terms_marked ts _ b (term_step r x l).long hb)
  where
    s : List ℕ
    s = left r (with_term r x)

    go : Flagged r s x → (in_row (with_terms s ts) b ≡ true) ↔ ((in_row s b ≡ true) ⊎ Memᴰ b ts)
        → (in_row (with_terms s ts) b ≡ true) ↔ ((in_row r b ≡ true) ⊎ Memᴰ b (x ∷ ts))
    go S I = (
      λ m. ⊎_elim (λ w. ⊎_elim (λ y. inl y) (λ y. inr (Memᴰ.head y)) ((S.marks b hb).0 w)) (λ w. inr (Memᴰ.tail w)) (I.0 m),
      λ w. I.1
          (⊎_elim (λ y. inl ((S.marks b hb).1 (inl y)))
          (λ y. ⊎_elim (λ z. inl ((S.marks b hb).1 (inr z))) (λ z. inr z) (Memᴰ.cases_cons y)) w),
    )
