-- Writing, store by store and turn by turn.
use mathlib.Core.Path.{◌≡◌, sym, ◌∙◌}
use mathlib.Core.Bool.{true, false}
use mathlib.Core.List.{List}
use Prim.Native.Nat.{ℕ, ◌+◌, ◌*◌, ◌≤◌, ◌<◌}
use native.Mathlib.Omega.{arith}
use native.Mathlib.Numerals.{add-one}
use lib.ListN.{length, get_or}
use lib.Dec.{leb}
use borrow.Author.Tests.{le-leb, lt-leb}
use Rattle.paper.specs.Numbers.{max_constrained, max_equal}
use Rattle.paper.specs.Rules.{rank}
use Rattle.paper.proofs.Lists.{and_false}
use Rattle.rule_words.specs.Stored.{constrained_word, equal_word, stride, base, put_two, put_four, put_constrained, put_equal, put_rule, fits_in, written}

pub constrained_turn : (ws v w : List ℕ) (b k : ℕ) (ss sh : List ℕ) (s x y z p : ℕ) → v ≡ put_constrained ws b ss sh k → s ≡ get_or ss k 0 → x ≡ get_or sh (3 * k) 0 → y ≡ get_or sh (3 * k + 1) 0 → z ≡ get_or sh (3 * k + 2) 0 → p ≡ constrained_word b k → w ≡ put_four v p s x y z → w ≡ put_constrained ws b ss sh (k + 1)
unfolding put_constrained
constrained_turn ws v w b k ss sh s x y z p e f g h i l j = j ∙ rw (add-one, l, e, f, g, h, i)

pub equal_turn : (ws v w : List ℕ) (b k : ℕ) (es lo : List ℕ) (s l p : ℕ) → v ≡ put_equal ws b es lo k → s ≡ get_or es k 0 → l ≡ get_or lo k 0 → p ≡ equal_word b k → w ≡ put_two v p s l → w ≡ put_equal ws b es lo (k + 1)
unfolding put_equal
equal_turn ws v w b k es lo s l p e f g i h = h ∙ rw (add-one, i, e, f, g)

-- ---- the whole

fit_all : (ws : List ℕ) (i : ℕ) (ss es : List ℕ) → length ss ≤ max_constrained → length es ≤ max_equal → base i + stride ≤ length ws → fits_in ws i ss es ≡ true
unfolding fits_in
fit_all ws i ss es h k l = rw (le-leb (length ss) max_constrained h, le-leb (length es) max_equal k, le-leb (base i + stride) (length ws) l)

whole_of : (ws : List ℕ) (i p q : ℕ) (ss sh es lo : List ℕ) → fits_in ws i ss es ≡ true → put_equal (put_constrained (put_four ws (base i) p (rank q) (length ss) (length es)) (base i) ss sh (length ss)) (base i) es lo (length es) ≡ written ws i p q ss sh es lo
unfolding written put_rule
whole_of ws i p q ss sh es lo e = rw e

module _ (ws : List ℕ) (i p q : ℕ) (ss sh es lo : List ℕ) where
  abbrev pub Refused : Type 0
  Refused = (false ≡ fits_in ws i ss es) × (ws ≡ written ws i p q ss sh es lo)

  refused : fits_in ws i ss es ≡ false → Refused
  unfolding written
  refused e = (sym e, rw e)

  pub many_constrained : max_constrained < length ss → Refused
  unfolding fits_in
  many_constrained h = refused (rw (lt-leb (length ss) max_constrained h))

  pub many_equal : max_equal < length es → Refused
  unfolding fits_in
  many_equal h = refused (rw (lt-leb (length es) max_equal h) (and_false (leb (length ss) max_constrained)))

  pub short : (b : ℕ) → b ≡ base i → length ws < b + stride → Refused
  unfolding fits_in
  short b e h =
      let k : length ws < base i + stride = omega arith in
      refused (rw (lt-leb (base i + stride) (length ws) k, and_false (leb (length es) max_equal)) (and_false (leb (length ss) max_constrained)))

  pub stored : (b v n m : ℕ) (w x y : List ℕ) → b ≡ base i → length ss ≤ max_constrained → length es ≤ max_equal → b + stride ≤ length ws → v ≡ rank q → n ≡ length ss → m ≡ length es
      → w ≡ put_four ws b p v n m → x ≡ put_constrained w b ss sh n → y ≡ put_equal x b es lo m
      → (true ≡ fits_in ws i ss es) × (y ≡ written ws i p q ss sh es lo)
  stored b v n m w x y e h k l f g j r s t =
      let z : base i + stride ≤ length ws = omega arith in
      let a = fit h k z in
      (sym a, (t ∙ rw (s, r, f, g, j, e)) ∙ whole a)
    where
      fit : length ss ≤ max_constrained → length es ≤ max_equal → base i + stride ≤ length ws → fits_in ws i ss es ≡ true
      fit a b c = fit_all ws i ss es a b c

      whole : fits_in ws i ss es ≡ true → put_equal (put_constrained (put_four ws (base i) p (rank q) (length ss) (length es)) (base i) ss sh (length ss)) (base i) es lo (length es) ≡ written ws i p q ss sh es lo
      whole a = whole_of ws i p q ss sh es lo a
