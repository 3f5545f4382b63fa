-- What the functions' proofs cite: the line's numbers, the line anew, and the answer.
use mathlib.Core.Path.{◌≡◌, refl, sym, ap, ◌∙◌}
use mathlib.Core.Bool.{Bool, true, false, ◌&&◌}
use mathlib.Core.List.{List, [], ◌∷◌, ◌++◌, append_assoc}
use Prim.Native.Nat.{ℕ, ◌+◌, ◌-◌, ◌*◌, ◌≤◌, ◌<◌}
use native.Mathlib.Omega.{arith}
use lib.ListN.{length, get_or, take, drop}
use lib.Seq.{sets, sets-eq, length-sets, length-take-le, take_at}
use lib.Dec.{eqb}
use Rattle.std.specs.Cmp.Lexicographic.{pointwise}
use borrow.Author.Tests.{lt-ltb, le-ltb}
use Rattle.paper.specs.Words.{same_list, two, four, eight}
use Rattle.paper.specs.Layout.{digit}
use Rattle.paper.specs.Text.{unended}
use Rattle.sheet_digits.specs.Digits.{digits_of}
use Rattle.plan.specs.Plans.{by_mask, by_sameness}
use Rattle.tell_text.specs.Written.{Room, wrote, follows, fits}
use Rattle.tell_plan.specs.PlanText.{set_head, rule_line, two_places}
use Rattle.plan_text.specs.declared.Spoken.TheVariants.{Set, Rule, None, Bad}
use Rattle.plan_text.specs.Lines.{set_line, none_words, digit_at, term_at, place_at, priority_at, term_from, first_from, second_from, line_of}
use Rattle.plan_text.proofs.Laws.{reads_rule, reads_set, reads_mask, reads_same, reads_bad}

-- ---- a digit
pub value_below : (b : ℕ) → b < 48 → (0 ≡ digit_at (b ∷ []) 0) × (0 < 16)
unfolding digit_at digit
value_below b h = (rw (lt-ltb b 48 h) refl, omega arith)

pub value_low : (b r : ℕ) → 48 ≤ b → b < 58 → r ≡ b - 48 → (r ≡ digit_at (b ∷ []) 0) × (r < 16)
unfolding digit_at digit
value_low b r h k e = (rw (le-ltb b 48 h, lt-ltb b 58 k) (omega arith), omega arith)

pub value_between : (b : ℕ) → 58 ≤ b → b < 65 → (0 ≡ digit_at (b ∷ []) 0) × (0 < 16)
unfolding digit_at digit
value_between b h k = (rw (le-ltb b 48 (omega arith), le-ltb b 58 h, lt-ltb b 65 k) refl, omega arith)

pub value_high : (b r : ℕ) → 65 ≤ b → b < 71 → r ≡ b - 55 → (r ≡ digit_at (b ∷ []) 0) × (r < 16)
unfolding digit_at digit
value_high b r h k e = (rw (le-ltb b 48 (omega arith), le-ltb b 58 (omega arith), le-ltb b 65 h, lt-ltb b 71 k) (omega arith), omega arith)

pub value_above : (b : ℕ) → 71 ≤ b → (0 ≡ digit_at (b ∷ []) 0) × (0 < 16)
unfolding digit_at digit
value_above b h = (rw (le-ltb b 48 (omega arith), le-ltb b 58 (omega arith), le-ltb b 65 (omega arith), le-ltb b 71 h) refl, omega arith)

pub digit_there : (l : List ℕ) (i r : ℕ) → (r ≡ digit_at (get_or l i 0 ∷ []) 0) × (r < 16) → (r ≡ digit_at l i) × (r < 16)
unfolding digit_at
digit_there l i r e = e

-- ---- numbers
pub term_is : (l : List ℕ) (i a b c d : ℕ) → (a ≡ digit_at l i) × (a < 16) → (b ≡ digit_at l (i + 1)) × (b < 16) → (c ≡ digit_at l (i + 2)) × (c < 16) → (d ≡ digit_at l (i + 3)) × (d < 16) → a * 4096 + b * 256 + c * 16 + d ≡ term_at l i
unfolding term_at
term_is l i a b c d e f g h = rw (e.0, f.0, g.0, h.0) refl

pub place_is : (l : List ℕ) (i a b : ℕ) → a ≡ term_at l i → b ≡ term_at l (i + 4) → a * 65536 + b ≡ place_at l i
unfolding place_at
place_is l i a b e f = rw (e, f) refl

pub priority_is : (l : List ℕ) (i a b : ℕ) → a ≡ place_at l i → b ≡ place_at l (i + 8) → a * 4294967296 + b ≡ priority_at l i
unfolding priority_at
priority_is l i a b e f = rw (e, f) refl

-- ---- two texts
pub same_as : (s t : List ℕ) → pointwise eqb s t ≡ same_list s t
unfolding same_list
same_as [] [] = refl
same_as [] (y ∷ t) = refl
same_as (x ∷ s) [] = refl
same_as (x ∷ s) (y ∷ t) = go (eqb x y) (same_as s t)
  where
    go : (b : Bool) → pointwise eqb s t ≡ same_list s t → (b && pointwise eqb s t) ≡ elim b as (λ _. Bool) [ true ↦ same_list s t | false ↦ false ]
    go true e = e
    go false e = refl

-- ---- the line anew
pub anew : (m room s : List ℕ) (e : ℕ) → (room, e) ≡ wrote (m, 0) s → length s ≤ length m → (take e room ≡ s) × (e ≤ length room)
anew m room s e w h =
    let f : wrote (m, 0) s ≡ (sets m 0 s, 0 + length s) = fits s m 0 (omega arith) in
    let a : room ≡ sets m 0 s = ap (λ (p : Room). p.0) (w ∙ f) in
    let b : e ≡ length s = ap (λ (p : Room). p.1) (w ∙ f) ∙ omega arith in
    let c : sets m 0 s ≡ s ++ drop (0 + length s) m = sets-eq s m 0 (omega arith) in
    let n = ap length a ∙ length-sets m 0 s in
    (ap (λ x. take x room) b ∙ (ap (λ x. take (length s) x) (a ∙ c) ∙ take_at s (drop (0 + length s) m) (length s) refl), omega arith)

pub chain3 : (p q r s : Room) (a b c : List ℕ) → q ≡ wrote p a → r ≡ wrote q b → s ≡ wrote r c → s ≡ wrote p (a ++ (b ++ c))
chain3 p q r s a b c e f g = follows p q s a (b ++ c) e (follows q r s b c f g)

pub chain5 : (p q r s t u : Room) (a b c d k : List ℕ) → q ≡ wrote p a → r ≡ wrote q b → s ≡ wrote r c → t ≡ wrote s d → u ≡ wrote t k → u ≡ wrote p (a ++ (b ++ (c ++ (d ++ k))))
chain5 p q r s t u a b c d k e f g h i = chain3 p q r u a b (c ++ (d ++ k)) e f (chain3 r s t u c d k g h i)

module _ (m : List ℕ) (long : length m ≡ 32) where
  set_long : (t : ℕ) → length (set_line t) ≤ length m
  unfolding set_line set_head two digits_of
  set_long t = omega arith

  rule_long : (p q : ℕ) → length (rule_line p q) ≤ length m
  unfolding rule_line four eight digits_of
  rule_long p q = omega arith

  none_long : (a b : ℕ) (w : List ℕ) → length w ≤ 8 → length (unended "none " ++ (two_places a b ++ w)) ≤ length m
  unfolding two_places four digits_of
  none_long a b w h = omega arith

  pub set_anew : (q r : Room) (room : List ℕ) (e t : ℕ) → q ≡ wrote (m, 0) (unended "set ") → r ≡ wrote q (digits_of (two t)) → (room, e) ≡ wrote r (10 ∷ []) → (take e room ≡ set_line t) × (e ≤ length room)
  unfolding set_line set_head
  set_anew q r room e t f g h = anew m room (set_line t) e (chain3' f g h) (set_long t)
    where
      chain3' : q ≡ wrote (m, 0) (unended "set ") → r ≡ wrote q (digits_of (two t)) → (room, e) ≡ wrote r (10 ∷ []) → (room, e) ≡ wrote (m, 0) (set_line t)
      chain3' f g h = unfold set_line in unfold set_head in (follows (m, 0) r (room, e) (unended "set " ++ digits_of (two t)) (10 ∷ []) (follows (m, 0) q r (unended "set ") (digits_of (two t)) f g) h)

  pub rule_anew : (q r s t : Room) (room : List ℕ) (e p v : ℕ) → q ≡ wrote (m, 0) (unended "rule ") → r ≡ wrote q (digits_of (four p)) → s ≡ wrote r (unended " ") → t ≡ wrote s (digits_of (eight v)) → (room, e) ≡ wrote t (10 ∷ []) → (take e room ≡ rule_line p v) × (e ≤ length room)
  rule_anew q r s t room e p v a b c d f = anew m room (rule_line p v) e lines (rule_long p v)
    where
      lines : (room, e) ≡ wrote (m, 0) (rule_line p v)
      lines = unfold rule_line in (chain5 (m, 0) q r s t (room, e) (unended "rule ") (digits_of (four p)) (unended " ") (digits_of (eight v)) (10 ∷ []) a b c d f)

  pub none_anew : (q r s t : Room) (room : List ℕ) (e x y : ℕ) (w : List ℕ) → length w ≤ 8 → q ≡ wrote (m, 0) (unended "none ") → r ≡ wrote q (digits_of (four x)) → s ≡ wrote r (unended " ") → t ≡ wrote s (digits_of (four y)) → (room, e) ≡ wrote t w → (take e room ≡ unended "none " ++ (two_places x y ++ w)) × (e ≤ length room)
  none_anew q r s t room e x y w h a b c d f = anew m room (unended "none " ++ (two_places x y ++ w)) e lines (none_long x y w h)
    where
      lines : (room, e) ≡ wrote (m, 0) (unended "none " ++ (two_places x y ++ w))
      lines = unfold two_places in (chain5 (m, 0) q r s t (room, e) (unended "none ") (digits_of (four x)) (unended " ") (digits_of (four y)) w a b c d f ∙ ap (λ z. wrote (m, 0) (unended "none " ++ z)) (sym (append_assoc (digits_of (four x)) (unended " " ++ digits_of (four y)) w)))

pub same_then : (l s t : List ℕ) (r : Bool) → r ≡ pointwise eqb l s → s ≡ t → r ≡ same_list l t
same_then l s t r e f = e ∙ (same_as l s ∙ ap (λ x. same_list l x) f)

-- ---- the answer
module _ (l : List ℕ) (p q : ℕ) (ep : p ≡ place_at l first_from) (eq : q ≡ priority_at l second_from) (a : Bool) (ea : a ≡ same_list l (rule_line p q)) where
  rule_test : same_list l (rule_line (place_at l first_from) (priority_at l second_from)) ≡ a
  rule_test = sym (ea ∙ (ap (λ x. same_list l (rule_line x q)) ep ∙ ap (λ x. same_list l (rule_line (place_at l first_from) x)) eq))

  pub is_rule : a ≡ true → Rule p q ≡ line_of l
  is_rule h = (ap (λ x. Rule x q) ep ∙ ap (λ x. Rule (place_at l first_from) x) eq) ∙ sym (reads_rule l (rule_test ∙ h))

  module _ (no_rule : a ≡ false) (t : ℕ) (et : t ≡ term_at l term_from) (b : Bool) (eb : b ≡ same_list l (set_line t)) where
    set_test : same_list l (set_line (term_at l term_from)) ≡ b
    set_test = sym (eb ∙ ap (λ x. same_list l (set_line x)) et)

    pub is_set : b ≡ true → Set t ≡ line_of l
    is_set h = ap Set et ∙ sym (reads_set l (rule_test ∙ no_rule) (set_test ∙ h))

    module _ (no_set : b ≡ false) (o : ℕ) (eo : o ≡ place_at l second_from) (c : Bool) (ec : c ≡ same_list l (unended "none " ++ (two_places p o ++ (32 ∷ 109 ∷ 97 ∷ 115 ∷ 107 ∷ 10 ∷ [])))) where
      mask_test : same_list l (none_words (place_at l first_from) (place_at l second_from) by_mask) ≡ c
      unfolding none_words
      mask_test = sym (ec ∙ (ap (λ x. same_list l (none_words x o by_mask)) ep ∙ ap (λ x. same_list l (none_words (place_at l first_from) x by_mask)) eo))

      pub is_mask : c ≡ true → None ≡ line_of l
      is_mask h = sym (reads_mask l (rule_test ∙ no_rule) (set_test ∙ no_set) (mask_test ∙ h))

      module _ (no_mask : c ≡ false) (d : Bool) (ed : d ≡ same_list l (unended "none " ++ (two_places p o ++ (32 ∷ 115 ∷ 97 ∷ 109 ∷ 101 ∷ 10 ∷ [])))) where
        same_test : same_list l (none_words (place_at l first_from) (place_at l second_from) by_sameness) ≡ d
        unfolding none_words
        same_test = sym (ed ∙ (ap (λ x. same_list l (none_words x o by_sameness)) ep ∙ ap (λ x. same_list l (none_words (place_at l first_from) x by_sameness)) eo))

        pub is_same : d ≡ true → None ≡ line_of l
        is_same h = sym (reads_same l (rule_test ∙ no_rule) (set_test ∙ no_set) (mask_test ∙ no_mask) (same_test ∙ h))

        pub is_bad : d ≡ false → Bad ≡ line_of l
        is_bad h = sym (reads_bad l (rule_test ∙ no_rule) (set_test ∙ no_set) (mask_test ∙ no_mask) (same_test ∙ h))

pub long_so : (room s : List ℕ) (e : ℕ) → (take e room ≡ s) × (e ≤ length room) → e ≡ length (take e room)
long_so room s e h = sym (length-take-le e room h.1)
