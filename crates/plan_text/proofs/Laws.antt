-- A line reads as what was written (`rule_back`, `set_back`, `none_back`), and nothing else reads so (`one_line`): what is read is what the line says
-- (`says_exactly`).
use mathlib.Core.Path.{◌≡◌, refl, sym, ap, subst, ◌∙◌}
use mathlib.Core.Bool.{Bool, true, false}
use mathlib.Core.List.{List}
use Prim.Native.Nat.{ℕ, ◌+◌, ◌*◌, ◌/◌, ◌%◌, ◌≤◌, ◌<◌}
use native.Mathlib.Omega.{arith}
use lib.ListN.{get_or}
use lib.Dec.{ltb}
use borrow.Author.Tests.{lt-ltb, le-ltb, ltb-true, ltb-false}
use Rattle.std.specs.Prelude.{if◌then◌else◌}
use Rattle.paper.specs.Words.{same_list, two, four, eight}
use Rattle.paper.specs.Layout.{digit, digit_of}
use Rattle.paper.specs.Loading as loading
use Rattle.paper.specs.Priorities.{rule}
use Rattle.paper.proofs.Laws.{same_list_true, same_list_refl}
use Rattle.sheet_digits.specs.Digits.{digits_of}
use Rattle.sheet_digits.proofs.DigitLaws.{digit_low, digit_high}
use Rattle.plan.specs.Plans.{Obstacle, by_mask, by_sameness, Obstructed}
use Rattle.tell_plan.specs.PlanText.{set_head, rule_line, two_places, none_line}
use Rattle.plan_text.specs.declared.Spoken.{Spoken}
use Rattle.plan_text.specs.declared.Spoken.TheVariants.{Set, Rule, None, Bad}
use Rattle.plan_text.specs.Lines.{set_line, none_words, terms, places, priorities, Nones, Rules, Sets, Others, Says, digit_at, term_at, place_at, priority_at, term_from, first_from, second_from, is_none, line_of}

-- ---- digits
low_back : (v : ℕ) → v < 10 → digit (v + 48) ≡ v
unfolding digit
low_back v h = rw (le-ltb (v + 48) 48 (omega arith), lt-ltb (v + 48) 58 (omega arith)) (omega arith)

high_back : (v : ℕ) → 10 ≤ v → v < 16 → digit (v + 55) ≡ v
unfolding digit
high_back v h k =
    rw (le-ltb (v + 55) 48 (omega arith), le-ltb (v + 55) 58 (omega arith), le-ltb (v + 55) 65 (omega arith), lt-ltb (v + 55) 71 (omega arith)) (omega arith)

digit_back : (v : ℕ) → v < 16 → digit (digit_of v) ≡ v
digit_back v h = go (ltb v 10) refl
  where
    go : (t : Bool) → ltb v 10 ≡ t → digit (digit_of v) ≡ v
    go true e = let l = ltb-true v 10 e in ap digit (sym (digit_low v l)) ∙ low_back v l
    go false e = let l = ltb-false v 10 e in ap digit (sym (digit_high v l)) ∙ high_back v l h

at_digit : (l : List ℕ) (i v : ℕ) → v < 16 → get_or l i 0 ≡ digit_of v → digit_at l i ≡ v
unfolding digit_at
at_digit l i v h e = let d : digit (get_or l i 0) ≡ v = ap digit e ∙ digit_back v h in rw d (omega arith)

pub digit_bound : (l : List ℕ) (i : ℕ) → digit_at l i < 16
unfolding digit_at
digit_bound l i = omega arith

-- ---- numbers
bytes_back : (l : List ℕ) (i a b : ℕ) → a < 256 → b < 256 → get_or l i 0 ≡ digit_of (a / 16) → get_or l (i + 1) 0 ≡ digit_of (a % 16) → get_or l (i + 2) 0 ≡ digit_of (b / 16) → get_or l (i + 3) 0 ≡ digit_of (b % 16) → term_at l i ≡ a * 256 + b
unfolding term_at
bytes_back l i a b ha hb e f g h =
    let w = at_digit l i (a / 16) (omega arith) e in
    let x = at_digit l (i + 1) (a % 16) (omega arith) f in
    let y = at_digit l (i + 2) (b / 16) (omega arith) g in
    let z = at_digit l (i + 3) (b % 16) (omega arith) h in
    rw (w, x, y, z) (omega arith)

pub term_bound : (l : List ℕ) (i : ℕ) → term_at l i < terms
unfolding term_at
term_bound l i =
    let a = digit_bound l i in
    let b = digit_bound l (i + 1) in
    let c = digit_bound l (i + 2) in
    let d = digit_bound l (i + 3) in
    omega arith

pub place_bound : (l : List ℕ) (i : ℕ) → place_at l i < places
unfolding place_at
place_bound l i =
    let a = term_bound l i in
    let b = term_bound l (i + 4) in
    omega arith

pub priority_bound : (l : List ℕ) (i : ℕ) → priority_at l i < priorities
unfolding priority_at
priority_bound l i =
    let a = place_bound l i in
    let b = place_bound l (i + 8) in
    omega arith

place_back : (l : List ℕ) (i p : ℕ) → p < places → get_or l i 0 ≡ digit_of (p / 256 / 256 / 256 / 16) → get_or l (i + 1) 0 ≡ digit_of (p / 256 / 256 / 256 % 16) → get_or l (i + 2) 0 ≡ digit_of (p / 256 / 256 % 256 / 16) → get_or l (i + 3) 0 ≡ digit_of (p / 256 / 256 % 256 % 16) → get_or l (i + 4) 0 ≡ digit_of (p / 256 % 256 / 16) → get_or l (i + 4 + 1) 0 ≡ digit_of (p / 256 % 256 % 16) → get_or l (i + 4 + 2) 0 ≡ digit_of (p % 256 / 16) → get_or l (i + 4 + 3) 0 ≡ digit_of (p % 256 % 16) → place_at l i ≡ p
unfolding place_at
place_back l i p h e0 e1 e2 e3 e4 e5 e6 e7 =
    let x = bytes_back l i (p / 256 / 256 / 256) (p / 256 / 256 % 256) (omega arith) (omega arith) e0 e1 e2 e3 in
    let y = bytes_back l (i + 4) (p / 256 % 256) (p % 256) (omega arith) (omega arith) e4 e5 e6 e7 in
    rw (x, y) (omega arith)

set_term : (t : ℕ) → t < terms → term_at (set_line t) term_from ≡ t
unfolding set_line set_head two digits_of
set_term t h = let e : term_at (set_line t) term_from ≡ t / 256 * 256 + t % 256 = bytes_back (set_line t) term_from (t / 256) (t % 256) (omega arith) (omega arith) refl refl refl refl in e ∙ omega arith

rule_place : (p q : ℕ) → p < places → place_at (rule_line p q) first_from ≡ p
unfolding rule_line four digits_of
rule_place p q h = place_back (rule_line p q) first_from p h refl refl refl refl refl refl refl refl

rule_high : (p q : ℕ) → q < priorities → place_at (rule_line p q) second_from ≡ q / 4294967296
unfolding rule_line four eight digits_of
rule_high p q h = place_back (rule_line p q) second_from (q / 4294967296) (omega arith) refl refl refl refl refl refl refl refl

rule_low : (p q : ℕ) → place_at (rule_line p q) (second_from + 8) ≡ q % 4294967296
unfolding rule_line four eight digits_of
rule_low p q = place_back (rule_line p q) (second_from + 8) (q % 4294967296) (omega arith) refl refl refl refl refl refl refl refl

rule_priority : (p q : ℕ) → q < priorities → priority_at (rule_line p q) second_from ≡ q
unfolding priority_at
rule_priority p q h = rw (rule_high p q h, rule_low p q) (omega arith)

none_one : (a b : ℕ) (w : Obstacle) → a < places → place_at (none_words a b w) first_from ≡ a
unfolding none_words two_places four digits_of
none_one a b w h = place_back (none_words a b w) first_from a h refl refl refl refl refl refl refl refl

none_other : (a b : ℕ) (w : Obstacle) → b < places → place_at (none_words a b w) second_from ≡ b
unfolding none_words two_places four digits_of
none_other a b w h = place_back (none_words a b w) second_from b h refl refl refl refl refl refl refl refl

-- ---- the first letters differ
set_no_rule : (t a b : ℕ) → same_list (set_line t) (rule_line a b) ≡ false
unfolding same_list set_line set_head rule_line
set_no_rule t a b = refl

none_no_rule : (a b : ℕ) (w : Obstacle) (p q : ℕ) → same_list (none_words a b w) (rule_line p q) ≡ false
unfolding same_list none_words rule_line
none_no_rule a b w p q = refl

none_no_set : (a b : ℕ) (w : Obstacle) (t : ℕ) → same_list (none_words a b w) (set_line t) ≡ false
unfolding same_list none_words set_line set_head
none_no_set a b w t = refl

-- ---- what was written is read
pub rule_back : (place priority : ℕ) → place < places → priority < priorities → line_of (rule_line place priority) ≡ Rule place priority
unfolding line_of
rule_back p q h k = rw (rule_place p q h, rule_priority p q k, same_list_refl (rule_line p q)) refl

pub set_back : (term : ℕ) → term < terms → line_of (set_line term) ≡ Set term
unfolding line_of
set_back t h = rw (set_no_rule t (place_at (set_line t) first_from) (priority_at (set_line t) second_from), set_term t h, same_list_refl (set_line t)) refl

words_back : (a b : ℕ) (why : Obstacle) → a < places → b < places → line_of (none_words a b why) ≡ None
unfolding line_of
words_back a b by_mask h k =
    let l = none_words a b by_mask in
    rw (none_no_rule a b by_mask (place_at l first_from) (priority_at l second_from), none_no_set a b by_mask (term_at l term_from), none_one a b by_mask h, none_other a b by_mask k, same_list_refl l) refl
words_back a b by_sameness h k =
    let l = none_words a b by_sameness in
    rw (none_no_rule a b by_sameness (place_at l first_from) (priority_at l second_from), none_no_set a b by_sameness (term_at l term_from), none_one a b by_sameness h, none_other a b by_sameness k, same_list_refl l) (go (same_list l (none_words a b by_mask)))
  where
    go : (t : Bool) → (if t then None else None) ≡ None
    go true = refl
    go false = refl

-- the line that `plan` writes of a pair that no proposal mends
pub none_back : (g : loading.Set) (o : Obstructed) → (rule g o.earlier).place < places → (rule g o.later).place < places → line_of (none_line g o) ≡ None
none_back g o h k = ap line_of line ∙ words_back (rule g o.earlier).place (rule g o.later).place o.why h k
  where
    line : none_line g o ≡ none_words (rule g o.earlier).place (rule g o.later).place o.why
    line = unfold none_line in unfold none_words in refl

-- ---- how it is read
module _ (l : List ℕ) where
  abbrev as_rule : Bool
  as_rule = same_list l (rule_line (place_at l first_from) (priority_at l second_from))

  abbrev as_set : Bool
  as_set = same_list l (set_line (term_at l term_from))

  pub reads_rule : as_rule ≡ true → line_of l ≡ Rule (place_at l first_from) (priority_at l second_from)
  unfolding line_of
  reads_rule e = rw e refl

  pub reads_set : as_rule ≡ false → as_set ≡ true → line_of l ≡ Set (term_at l term_from)
  unfolding line_of
  reads_set e f = rw (e, f) refl

  pub reads_mask : as_rule ≡ false → as_set ≡ false → is_none l by_mask ≡ true → line_of l ≡ None
  unfolding line_of
  reads_mask e f g = rw (e, f, g) refl

  pub reads_same : as_rule ≡ false → as_set ≡ false → is_none l by_mask ≡ false → is_none l by_sameness ≡ true → line_of l ≡ None
  unfolding line_of
  reads_same e f g h = rw (e, f, g, h) refl

  pub reads_bad : as_rule ≡ false → as_set ≡ false → is_none l by_mask ≡ false → is_none l by_sameness ≡ false → line_of l ≡ Bad
  unfolding line_of
  reads_bad e f g h = rw (e, f, g, h) refl

-- ---- what is read is what the line says, and what it says is read
set_read : (l : List ℕ) (t : ℕ) → Sets l t → line_of l ≡ Set t
set_read l t s = ap line_of s.words ∙ set_back t s.fits

rule_read : (l : List ℕ) (p q : ℕ) → Rules l p q → line_of l ≡ Rule p q
rule_read l p q s = ap line_of s.words ∙ rule_back p q s.place_fits s.priority_fits

none_read : (l : List ℕ) → Nones l → line_of l ≡ None
none_read l s = ap line_of s.words ∙ words_back s.one s.other s.why s.one_fits s.other_fits

bad_set : (t : ℕ) → Bad ≡ Set t → ⊥
bad_set t e = let z : ◌≡◌ {A = ℕ} 0 1 = cc in omega arith

bad_rule : (p q : ℕ) → Bad ≡ Rule p q → ⊥
bad_rule p q e = let z : ◌≡◌ {A = ℕ} 0 1 = cc in omega arith

bad_none : Bad ≡ None → ⊥
bad_none e = let z : ◌≡◌ {A = ℕ} 0 1 = cc in omega arith

others : (l : List ℕ) → line_of l ≡ Bad → Others l
others l e = record { no_set = λ t s. bad_set t (sym e ∙ set_read l t s); no_rule = λ p q s. bad_rule p q (sym e ∙ rule_read l p q s); no_none = λ s. bad_none (sym e ∙ none_read l s) }

nones : (l : List ℕ) (why : Obstacle) → is_none l why ≡ true → Nones l
nones l why e = record { one = place_at l first_from; other = place_at l second_from; why = why; one_fits = place_bound l first_from; other_fits = place_bound l second_from; words = same_list_true l (none_words (place_at l first_from) (place_at l second_from) why) e }

says_line : (l : List ℕ) → Says l (line_of l)
says_line l = go (as_rule l) refl (as_set l) refl (is_none l by_mask) refl (is_none l by_sameness) refl
  where
    go : (a : Bool) → as_rule l ≡ a → (b : Bool) → as_set l ≡ b → (c : Bool) → is_none l by_mask ≡ c → (d : Bool) → is_none l by_sameness ≡ d → Says l (line_of l)
    go true e b f c g d h = subst (λ (s : Spoken). Says l s) (sym (reads_rule l e)) (record { place_fits = place_bound l first_from; priority_fits = priority_bound l second_from; words = same_list_true l (rule_line (place_at l first_from) (priority_at l second_from)) e })
    go false e true f c g d h = subst (λ (s : Spoken). Says l s) (sym (reads_set l e f)) (record { fits = term_bound l term_from; words = same_list_true l (set_line (term_at l term_from)) f })
    go false e false f true g d h = subst (λ (s : Spoken). Says l s) (sym (reads_mask l e f g)) (nones l by_mask g)
    go false e false f false g true h = subst (λ (s : Spoken). Says l s) (sym (reads_same l e f g h)) (nones l by_sameness h)
    go false e false f false g false h = let w = reads_bad l e f g h in subst (λ (s : Spoken). Says l s) (sym w) (others l w)

pub says_read : (l : List ℕ) (s : Spoken) → Says l s → line_of l ≡ s
says_read l (Set t) s = set_read l t s
says_read l (Rule p q) s = rule_read l p q s
says_read l None s = none_read l s
says_read l Bad s = go (line_of l) refl (says_line l)
  where
    go : (r : Spoken) → line_of l ≡ r → Says l (line_of l) → line_of l ≡ Bad
    go (Set t) e w = absurd (s.no_set t (subst (λ (r : Spoken). Says l r) e w))
    go (Rule p q) e w = absurd (s.no_rule p q (subst (λ (r : Spoken). Says l r) e w))
    go None e w = absurd (s.no_none (subst (λ (r : Spoken). Says l r) e w))
    go Bad e w = e

pub says_exactly : (l : List ℕ) (s : Spoken) → (line_of l ≡ s → Says l s) × (Says l s → line_of l ≡ s)
says_exactly l s = ((λ e. subst (λ (r : Spoken). Says l r) e (says_line l)), says_read l s)

-- two texts that read as the same rule, or as the same set, are one text
pub one_line : (l m : List ℕ) (place priority : ℕ) → line_of l ≡ Rule place priority → line_of m ≡ Rule place priority → l ≡ m
one_line l m p q e f = ((says_exactly l (Rule p q)).0 e).words ∙ sym ((says_exactly m (Rule p q)).0 f).words

pub one_set : (l m : List ℕ) (term : ℕ) → line_of l ≡ Set term → line_of m ≡ Set term → l ≡ m
one_set l m t e f = ((says_exactly l (Set t)).0 e).words ∙ sym ((says_exactly m (Set t)).0 f).words
