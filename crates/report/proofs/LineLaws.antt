-- Lines written piece by piece.
use mathlib.Core.Path.{◌≡◌, refl, sym, ◌∙◌}
use mathlib.Core.Bool.{Bool, true, false}
use mathlib.Core.List.{List, [], ◌∷◌, ◌++◌, append_assoc}
use Prim.Native.Nat.{ℕ, zero, suc, ◌+◌, ◌*◌, ◌≤◌, ◌<◌}
use native.Mathlib.Omega.{arith}
use native.Mathlib.Numerals.{add-one}
use lib.ListN.{length, get_or, set, length-append}
use lib.Seq.{sets}
use lib.Count.{ones, ones-le}
use lib.Dec.{eqb}
use borrow.Author.Tests.{eq-eqb, ne_eqb}
use Rattle.paper.specs.Numbers.{max_rules}
use Rattle.std.specs.Prelude.{if◌then◌else◌}
use Rattle.paper.specs.Words.{two, four}
use Rattle.sheet_digits.specs.Digits.{digits_of}
use Rattle.sheet_digits.proofs.DigitLaws.{then_sets}
use Rattle.report.specs.Rows.{bits, bit_at}
use Rattle.report.specs.Lines.{line_room, report_room, Wrote, place_text, places_text, rest_text, overlap_text, mask_text, masks_in, rule_text, lists_text}

pub wrote_none : (l : List ℕ) (at : ℕ) → Wrote l l at at []
wrote_none l at = record { ends = omega arith; into = refl }

pub wrote_then : {l v w : List ℕ} {at e f : ℕ} {xs ys : List ℕ} → Wrote l v at e xs → Wrote v w e f ys → Wrote l w at f (xs ++ ys)
wrote_then {l} {v} {w} {at} {e} {f} {xs} {ys} a b = record { ends = omega (arith, a.ends, b.ends, length-append xs ys); into = then_sets l v w at e xs ys a.into a.ends b.into }

pub length_four : (n : ℕ) → length (digits_of (four n)) ≡ 8
unfolding digits_of four
length_four n = refl

pub length_two : (n : ℕ) → length (digits_of (two n)) ≡ 4
unfolding digits_of two
length_two n = refl

length_one : (n : ℕ) → length (digits_of (n ∷ [])) ≡ 2
unfolding digits_of
length_one n = refl

-- ---- the places
module _ (l v : List ℕ) (at : ℕ) (ps : List ℕ) (w k : ℕ) (t : Bool) (e : t ≡ bit_at w k) where
  pub place_there : (x : ℕ) → t ≡ true → x ≡ get_or ps k 0 → v ≡ sets l at (digits_of (four x)) → Wrote l v at (at + 8) (place_text ps w k)
  unfolding place_text
  place_there x h f g = let b : bit_at w k ≡ true = sym e ∙ h in rw (b, ← f) (record { ends = omega (arith, length_four x); into = g })

  pub place_lacks : t ≡ false → Wrote l l at at (place_text ps w k)
  unfolding place_text
  place_lacks h = let b : bit_at w k ≡ false = sym e ∙ h in rw b (wrote_none l at)

place_short : (ps : List ℕ) (w k : ℕ) → length (place_text ps w k) ≤ 8
unfolding place_text
place_short ps w k = go (bit_at w k)
  where
    go : (t : Bool) → length (if t then digits_of (four (get_or ps k 0)) else []) ≤ 8
    go true = omega (arith, length_four (get_or ps k 0))
    go false = omega arith

pub places_short : (ps : List ℕ) (w k : ℕ) → length (places_text ps w k) ≤ 8 * k
unfolding places_text
places_short ps w zero = omega arith
places_short ps w (suc k) = omega (arith, places_short ps w k, place_short ps w k, length-append (places_text ps w k) (place_text ps w k))

pub places_none : (l : List ℕ) (at : ℕ) (ps : List ℕ) (w : ℕ) → Wrote l l at at (places_text ps w 0)
unfolding places_text
places_none l at ps w = wrote_none l at

pub places_turn : (l v z : List ℕ) (at e f : ℕ) (ps : List ℕ) (w k : ℕ) → Wrote l v at e (places_text ps w k) → Wrote v z e f (place_text ps w k) → Wrote l z at f (places_text ps w (k + 1))
unfolding places_text
places_turn l v z at e f ps w k a b = rw add-one (wrote_then a b)

pub places_fit : (l v : List ℕ) (at e : ℕ) (ps : List ℕ) (w k : ℕ) → Wrote l v at e (places_text ps w k) → k ≤ max_rules → e ≤ at + 8 * max_rules
places_fit l v at e ps w k a h = omega (arith, a.ends, places_short ps w k)

-- ---- the lines
pub count_fits : (w : ℕ) → w < 18446744073709551616 → ones w ≤ 64
count_fits w h = ones-le 64 w h

module _ (ps : List ℕ) (p w n : ℕ) where
  pub overlap_none : (l : List ℕ) (at : ℕ) → w ≡ 0 → Wrote l l at at (overlap_text ps p w n)
  unfolding overlap_text
  overlap_none l at e = rw (eq-eqb w 0 e) (wrote_none l at)

  pub mask_none : (l : List ℕ) (at : ℕ) → w ≡ 0 → Wrote l l at at (mask_text ps p w n)
  unfolding mask_text
  mask_none l at e = rw (eq-eqb w 0 e) (wrote_none l at)

  module _ (l₀ l₁ l₂ l₃ l₄ l₅ : List ℕ) (at e : ℕ) (ne : w ≡ 0 → ⊥) (d : Wrote l₃ l₄ (at + 14) e (places_text ps w n)) (f : l₅ ≡ set l₄ e 10) where
    pub overlap_put : (x : ℕ) → l₁ ≡ sets l₀ at (digits_of (18 ∷ [])) → l₂ ≡ sets l₁ (at + 2) (digits_of (two (ones w + 1))) → x ≡ get_or ps p 0 → l₃ ≡ sets l₂ (at + 6) (digits_of (four x)) → Wrote l₀ l₅ at (e + 1) (overlap_text ps p w n)
    unfolding overlap_text rest_text
    overlap_put x a b g c = rw (ne_eqb w 0 ne, ← g) (simp append_assoc at (wrote_then (wrote_then (wrote_then (wrote_then (one_at a) (two_at b)) (four_at c)) d) (end_at f)))
      where
        one_at : l₁ ≡ sets l₀ at (digits_of (18 ∷ [])) → Wrote l₀ l₁ at (at + 2) (digits_of (18 ∷ []))
        one_at q = record { ends = omega (arith, length_one 18); into = q }

        end_at : l₅ ≡ set l₄ e 10 → Wrote l₄ l₅ e (e + 1) (10 ∷ [])
        end_at q = record { ends = omega arith; into = q }

        two_at : l₂ ≡ sets l₁ (at + 2) (digits_of (two (ones w + 1))) → Wrote l₁ l₂ (at + 2) (at + 6) (digits_of (two (ones w + 1)))
        two_at q = record { ends = omega (arith, length_two (ones w + 1)); into = q }

        four_at : l₃ ≡ sets l₂ (at + 6) (digits_of (four x)) → Wrote l₂ l₃ (at + 6) (at + 14) (digits_of (four x))
        four_at q = record { ends = omega (arith, length_four x); into = q }

    pub mask_put : l₁ ≡ sets l₀ at (digits_of (19 ∷ [])) → l₂ ≡ sets l₁ (at + 2) (digits_of (four p)) → l₃ ≡ sets l₂ (at + 10) (digits_of (two (ones w))) → Wrote l₀ l₅ at (e + 1) (mask_text ps p w n)
    unfolding mask_text rest_text
    mask_put a b c = rw (ne_eqb w 0 ne) (simp append_assoc at (wrote_then (wrote_then (wrote_then (wrote_then (one_at a) (four_at b)) (two_at c)) d) (end_at f)))
      where
        one_at : l₁ ≡ sets l₀ at (digits_of (19 ∷ [])) → Wrote l₀ l₁ at (at + 2) (digits_of (19 ∷ []))
        one_at q = record { ends = omega (arith, length_one 19); into = q }

        end_at : l₅ ≡ set l₄ e 10 → Wrote l₄ l₅ e (e + 1) (10 ∷ [])
        end_at q = record { ends = omega arith; into = q }

        four_at : l₂ ≡ sets l₁ (at + 2) (digits_of (four p)) → Wrote l₁ l₂ (at + 2) (at + 10) (digits_of (four p))
        four_at q = record { ends = omega (arith, length_four p); into = q }

        two_at : l₃ ≡ sets l₂ (at + 10) (digits_of (two (ones w))) → Wrote l₂ l₃ (at + 10) (at + 14) (digits_of (two (ones w)))
        two_at q = record { ends = omega (arith, length_two (ones w)); into = q }

-- ---- how long they are
line_long : (xs ys zs rest : List ℕ) (k : ℕ) → length xs ≡ 2 → length ys ≡ 4 → length zs ≡ 8 → length rest ≤ 8 * k + 1 → length (xs ++ (ys ++ (zs ++ rest))) ≤ 15 + 8 * k
line_long xs ys zs rest k a b c d = simp length-append (omega arith)

line_long' : (xs ys zs rest : List ℕ) (k : ℕ) → length xs ≡ 2 → length zs ≡ 8 → length ys ≡ 4 → length rest ≤ 8 * k + 1 → length (xs ++ (zs ++ (ys ++ rest))) ≤ 15 + 8 * k
line_long' xs ys zs rest k a b c d = simp length-append (omega arith)

rest_long : (ps : List ℕ) (w n : ℕ) → length (rest_text ps w n) ≤ 8 * n + 1
unfolding rest_text
rest_long ps w n = simp length-append (omega (arith, places_short ps w n))

pub overlap_long : (ps : List ℕ) (p w n : ℕ) → length (overlap_text ps p w n) ≤ 15 + 8 * n
unfolding overlap_text
overlap_long ps p w n = go (eqb w 0)
  where
    go : (t : Bool) → length (if t then [] else digits_of (18 ∷ []) ++ (digits_of (two (ones w + 1)) ++ (digits_of (four (get_or ps p 0)) ++ rest_text ps w n))) ≤ 15 + 8 * n
    go true = omega arith
    go false = line_long (digits_of (18 ∷ [])) (digits_of (two (ones w + 1))) (digits_of (four (get_or ps p 0))) (rest_text ps w n) n (length_one 18) (length_two (ones w + 1)) (length_four (get_or ps p 0)) (rest_long ps w n)

pub mask_long : (ps : List ℕ) (p w n : ℕ) → length (mask_text ps p w n) ≤ 15 + 8 * n
unfolding mask_text
mask_long ps p w n = go (eqb w 0)
  where
    go : (t : Bool) → length (if t then [] else digits_of (19 ∷ []) ++ (digits_of (four p) ++ (digits_of (two (ones w)) ++ rest_text ps w n))) ≤ 15 + 8 * n
    go true = omega arith
    go false = line_long' (digits_of (19 ∷ [])) (digits_of (two (ones w))) (digits_of (four p)) (rest_text ps w n) n (length_one 19) (length_four p) (length_two (ones w)) (rest_long ps w n)

module _ (ws all os ps ts : List ℕ) (n : ℕ) where
  pub rule_long : (p : ℕ) → length (rule_text ws all os ps ts n p) ≤ 30 + 16 * n
  unfolding rule_text
  rule_long p = simp length-append (omega (arith, overlap_long ps p (get_or ts p 0) n, mask_long all (get_or ps p 0) (bits (masks_in ws (get_or os p 0)) n) n))

  pub lists_long : n ≤ max_rules → (k : ℕ) → length (lists_text ws all os ps ts n k) ≤ 2 * line_room * k
  unfolding lists_text
  lists_long h zero = omega arith
  lists_long h (suc k) = simp length-append (omega (arith, lists_long h k, rule_long k))

  pub rule_put : {l v z : List ℕ} {at e f : ℕ} (p w i m q : ℕ) → w ≡ get_or ts p 0 → Wrote l v at e (overlap_text ps p w n) → i ≡ get_or os p 0 → m ≡ bits (masks_in ws i) n → q ≡ get_or ps p 0 → Wrote v z e f (mask_text all q m n) → Wrote l z at f (rule_text ws all os ps ts n p)
  unfolding rule_text
  rule_put p w i m q a b c d g h = rw (← a, ← c, ← d, ← g) (wrote_then b h)

  pub lists_none : (l : List ℕ) → Wrote l l 0 0 (lists_text ws all os ps ts n 0)
  unfolding lists_text
  lists_none l = wrote_none l 0

  pub lists_turn : {l v z : List ℕ} {e f : ℕ} (k : ℕ) → Wrote l v 0 e (lists_text ws all os ps ts n k) → Wrote v z e f (rule_text ws all os ps ts n k) → Wrote l z 0 f (lists_text ws all os ps ts n (k + 1))
  unfolding lists_text
  lists_turn k a b = rw add-one (wrote_then a b)

  pub lists_fit : {l v : List ℕ} {e : ℕ} (k : ℕ) → Wrote l v 0 e (lists_text ws all os ps ts n k) → n ≤ max_rules → k ≤ n → e ≤ report_room
  lists_fit k a h m = omega (arith, a.ends, lists_long h k)

pub overlap_fit : {l v : List ℕ} {at e : ℕ} (ps : List ℕ) (p w n : ℕ) → Wrote l v at e (overlap_text ps p w n) → n ≤ max_rules → e ≤ at + line_room
overlap_fit ps p w n a h = omega (arith, a.ends, overlap_long ps p w n)

pub line_fit : {l v : List ℕ} {at e : ℕ} (ps : List ℕ) (w n : ℕ) → Wrote l v at e (places_text ps w n) → n ≤ max_rules → e ≤ at + 8 * max_rules
line_fit ps w n a h = omega (arith, a.ends, places_short ps w n)
