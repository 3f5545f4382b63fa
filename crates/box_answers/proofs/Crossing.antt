-- What crosses is what the calls beneath answer: one law for each kind of answer, and those of slices that are too short.
use mathlib.Core.Path.{◌≡◌, refl, ap, sym, ◌∙◌}
use mathlib.Core.Bool.{Bool, true, false, not}
use mathlib.Core.List.{List, [], ◌∷◌}
use Prim.Native.Nat.{ℕ, ◌+◌, ◌<◌, ◌≤◌}
use native.Mathlib.Omega.{arith}
use lib.ListN.{length, get_or}
use lib.Dec.{ltb}
use borrow.Author.Tests.{le-leb, lt-leb, lt-ltb, le-ltb, eq-eqb, ne_eqb}
use Rattle.std.specs.declared.result.Result.TheVariants.{Err, Ok}
use Rattle.paper.specs.declared.Refusal.{Refusal}
use Rattle.paper.specs.declared.Refusal.TheVariants.{Layout}
use Rattle.paper.specs.Numbers.{max_sites, number, told, Outcome, done, refused}
use Rattle.rule_words.specs.Stored.{base, stride}
use Rattle.paper.specs.Classes.{Classes, classes, is_empty, Trail, Flattened, Removed, merge, remove_set_of}
use Rattle.paper.specs.Sites.{Added}
use Rattle.classes.specs.Answers.{looked, sought_by, joined_by, joined, two_classes, same, taken_by, taken_if, taken}
use Rattle.paper.specs.Answered.{Maybe}
use Rattle.paper.specs.Answered.{Answer}
use Rattle.classes.specs.Called.{Taken}
use Rattle.sites.specs.declared.Numbered.TheVariants as N
use Rattle.std.specs.Prelude.{if◌then◌else◌}
use Rattle.sites.specs.Slots.{numbered_as, unfolded_as}
use Rattle.paper.specs.declared.Rule.{Rule}
use Rattle.paper.specs.Loading.{Set}
use Rattle.item_layout.specs.Layout.{stray}
use Rattle.rule_load.specs.Whole.{load_in, loaded_as, sites_after, words_after}
use Rattle.paper.specs.Answered.{Verdict as Edged}
use Rattle.term_table.specs.Table.{left, bare, added, no_marks, listed}
use Rattle.box_answers.specs.declared.Said.{Said}
use Rattle.box_answers.specs.Loads.{loaded_said, handed}
use Rattle.box_answers.specs.Telling.{one_told, two_told, tells}
use Rattle.box_answers.specs.Border.{short, said, said_by, left_by, has_room, both, has_rule, has_rules, answered, after, bit, trail_words, flattened_words, removed_words, added_words, listed_in, looked_said, sought_said, joined_said, same_said, taken_said, numbered_said, unfolded_said, added_said}

-- ---- slices that are too short, and those that are not

pub too_short : (m : List ℕ) (s : Said) (b : Bool) → b ≡ false → (m, short) ≡ answered b m s
unfolding answered
too_short m s b e = rw e

pub stayed : {A : Type 0} (b : Bool) (old new : A) → b ≡ false → old ≡ after b old new
unfolding after
stayed b old new e = rw e

pub went : {A : Type 0} (b : Bool) (old new x : A) → b ≡ true → x ≡ new → x ≡ after b old new
unfolding after
went b old new x e p = rw e p

pub less : (m : List ℕ) (n : ℕ) → length m < n → has_room m n ≡ false
unfolding has_room
less m n h = lt-leb n (length m) h

pub enough : (m : List ℕ) (n : ℕ) → n ≤ length m → has_room m n ≡ true
unfolding has_room
enough m n h = le-leb n (length m) h

-- the same of kept rules, by where a rule starts
pub no_rule : (ws : List ℕ) (i a : ℕ) → a ≡ base i → length ws < a + stride → has_rule ws i ≡ false
unfolding has_rule
no_rule ws i a e h = lt-leb (base i + stride) (length ws) (rw e at h)

pub rule_there : (ws : List ℕ) (i a : ℕ) → a ≡ base i → a + stride ≤ length ws → has_rule ws i ≡ true
unfolding has_rule
rule_there ws i a e h = le-leb (base i + stride) (length ws) (rw e at h)

pub no_rules : (ws : List ℕ) (n a : ℕ) → a ≡ base n → length ws < a → has_rules ws n ≡ false
unfolding has_rules
no_rules ws n a e h = lt-leb (base n) (length ws) (rw e at h)

pub rules_there : (ws : List ℕ) (n a : ℕ) → a ≡ base n → a ≤ length ws → has_rules ws n ≡ true
unfolding has_rules
rules_there ws n a e h = le-leb (base n) (length ws) (rw e at h)

pub first_no : (a b : Bool) → a ≡ false → both a b ≡ false
unfolding both
first_no a b e = rw e

pub second_no : (a b : Bool) → a ≡ true → b ≡ false → both a b ≡ false
unfolding both
second_no a b e f = rw (e, f)

pub both_yes : (a b : Bool) → a ≡ true → b ≡ true → both a b ≡ true
unfolding both
both_yes a b e f = rw (e, f)

-- another word for what is said; another test that is passed
pub via : (x : List ℕ × ℕ) (b : Bool) (m : List ℕ) (s t : Said) → x ≡ answered b m s → s ≡ t → x ≡ answered b m t
via x b m s t e p = e ∙ ap (answered b m) p

pub past : (x : List ℕ × ℕ) (a b : Bool) (m : List ℕ) (s : Said) → a ≡ true → x ≡ answered b m s → x ≡ answered (both a b) m s
unfolding both
past x a b m s e p = rw e p

-- ---- the answers of the calls beneath

pub done_as : (s : Said) (a b x y : ℕ) → s ≡ said 0 (a ∷ b ∷ []) → a ≡ x → b ≡ y → s ≡ said 0 (x ∷ y ∷ [])
done_as s a b x y e p q = e ∙ ap (λ (k : ℕ). said 0 (k ∷ b ∷ [])) p ∙ ap (λ (k : ℕ). said 0 (x ∷ k ∷ [])) q

abbrev words_said : ℕ → ℕ → ℕ → Said
words_said n a b = record { number = n; one = a; two = b }

pub refused_as : (r : Refusal) (n a b : ℕ) → n ≡ number r → a ≡ one_told r → b ≡ two_told r → words_said n a b ≡ said (number r) (told r)
refused_as r n a b p q t =
    ap (λ (k : ℕ). words_said k a b) p
    ∙ ap (λ (k : ℕ). words_said (number r) k b) (q ∙ (tells r).0)
    ∙ ap (λ (k : ℕ). words_said (number r) (get_or (told r) 0 0) k) (t ∙ (tells r).1)

pub looked_is : (o : Outcome Trail) → looked_said (looked o) ≡ said_by trail_words o
unfolding looked_said said_by
looked_is (done t) = refl
looked_is (refused r) = refl

pub sought_is : (c d : Classes) (s : Answer (Maybe ℕ)) (o : Outcome Flattened) → (d, s) ≡ sought_by c o → (sought_said s ≡ said_by flattened_words o) × (d ≡ left_by c (λ h. h.after) o)
unfolding sought_said said_by left_by
sought_is c d s (done h) e = (ap (λ p. sought_said p.1) e, ap (λ p. p.0) e)
sought_is c d s (refused r) e = (ap (λ p. sought_said p.1) e, ap (λ p. p.0) e)

joined_is : (c d : Classes) (j : Answer Bool) (b : Bool) (o : Outcome Classes) → (d, j) ≡ joined_by c b o → (joined_said j ≡ said_by (λ _. bit b ∷ []) o) × (d ≡ left_by c (λ x. x) o)
unfolding joined_said said_by left_by
joined_is c d j b (done x) e = (ap (λ p. joined_said p.1) e, ap (λ p. p.0) e)
joined_is c d j b (refused r) e = (ap (λ p. joined_said p.1) e, ap (λ p. p.0) e)

pub merged_is : (c d : Classes) (j : Answer Bool) (x y : ℕ) → (d, j) ≡ joined c x y → (joined_said j ≡ said_by (λ _. bit (two_classes c x y) ∷ []) (merge c x y)) × (d ≡ left_by c (λ z. z) (merge c x y))
merged_is c d j x y e = joined_is c d j (two_classes c x y) (merge c x y) e

pub same_is : (o : Outcome Bool) → same_said (same o) ≡ said_by (λ b. bit b ∷ []) o
unfolding same_said said_by
same_is (done b) = refl
same_is (refused r) = refl

pub record Takes (c d : Classes) (m n : List ℕ) (t : Taken) (o : Outcome Removed) : Type 0 where
  pub says : taken_said t ≡ said_by removed_words o
  pub leaves : d ≡ left_by c (λ q. q.after) o
  pub lists : n ≡ left_by m (λ q. listed_in m q.members) o

taken_is : (c d : Classes) (m n : List ℕ) (t : Taken) (o : Outcome Removed) → (d, n, t) ≡ taken_by c m o → Takes c d m n t o
unfolding taken_said said_by left_by
taken_is c d m n t (done q) e = record { says = ap (λ p. taken_said p.2) e; leaves = ap (λ p. p.0) e; lists = ap (λ p. p.1) e }
taken_is c d m n t (refused r) e = record { says = ap (λ p. taken_said p.2) e; leaves = ap (λ p. p.0) e; lists = ap (λ p. p.1) e }

pub all_taken : (c d : Classes) (m n : List ℕ) (t : Taken) (x : ℕ) → max_sites ≤ length m → (d, n, t) ≡ taken c m x → Takes c d m n t (remove_set_of c x)
all_taken c d m n t x h e = taken_is c d m n t (remove_set_of c x) (e ∙ ap (λ b. taken_if b c m (remove_set_of c x)) (le-leb max_sites (length m) h))

numbered_at : (i : ℕ) (b : Bool) → numbered_said (if b then (Ok (N.Known i)) else (Ok (N.Fresh i))) ≡ said 0 (i ∷ bit (not b) ∷ [])
unfolding numbered_said
numbered_at i true = refl
numbered_at i false = refl

pub numbered_is : (n : ℕ) (o : Outcome Added) → numbered_said (numbered_as n o) ≡ said_by (added_words n) o
unfolding numbered_said said_by
numbered_is n (done a) = numbered_at a.number (ltb a.number n)
numbered_is n (refused r) = refl

pub unfolded_is : (o : Outcome (List ℕ)) → unfolded_said (unfolded_as o) ≡ said_by (λ u. length u ∷ []) o
unfolding unfolded_said said_by
unfolded_is (done u) = refl
unfolded_is (refused r) = refl

pub added_is : {T : Type 0} (a : Edged) (o : Outcome T) → added a ≡ bare o → added_said a ≡ said_by (λ _. []) o
unfolding added added_said said_by
added_is (Ok _) (done x) e = refl
added_is (Ok _) (refused r) e = let z : ◌≡◌ {A = ℕ} 0 1 = cc in absurd (omega arith)
added_is (Err q) (done x) e = let z : ◌≡◌ {A = ℕ} 0 1 = cc in absurd (omega arith)
added_is (Err q) (refused r) e = let p : q ≡ r = cc in rw p

pub left_is : {T : Type 0} (t : T) (o : Outcome T) → left t o ≡ left_by t (λ x. x) o
unfolding left_by
left_is t (done x) = refl
left_is t (refused r) = refl

-- ---- loading

loaded_is : (o : Outcome Set) → loaded_said (loaded_as o) ≡ said_by (λ g. length g.sites ∷ []) o
unfolding loaded_said said_by
loaded_is (done g) = refl
loaded_is (refused r) = refl

-- the rule that is handed over, by another name
pub load_said : (m : List ℕ) (n : ℕ) (ws : List ℕ) (k : ℕ) (r q : Rule) (l : Answer ℕ) (s : Said) → r ≡ q → l ≡ loaded_as (load_in m n ws k r) →
    s ≡ loaded_said l → s ≡ said_by (λ g. length g.sites ∷ []) (load_in m n ws k q)
load_said m n ws k r q l s p e t = t ∙ ap loaded_said (e ∙ ap (λ (x : Rule). loaded_as (load_in m n ws k x)) p) ∙ loaded_is (load_in m n ws k q)

pub load_sites : (m : List ℕ) (n : ℕ) (ws : List ℕ) (k : ℕ) (r q : Rule) (x : List ℕ) → r ≡ q →
    x ≡ sites_after m n (load_in m n ws k r) → x ≡ sites_after m n (load_in m n ws k q)
load_sites m n ws k r q x p e = e ∙ ap (λ (y : Rule). sites_after m n (load_in m n ws k y)) p

pub load_words : (m : List ℕ) (n : ℕ) (ws : List ℕ) (k : ℕ) (r q : Rule) (x : List ℕ) → r ≡ q →
    x ≡ words_after ws k (load_in m n ws k r) → x ≡ words_after ws k (load_in m n ws k q)
load_words m n ws k r q x p e = e ∙ ap (λ (y : Rule). words_after ws k (load_in m n ws k y)) p

-- items that are not as laid out, and those that are
module _ (ws : List ℕ) (many k : ℕ) (e : k ≡ stray ws many) where
  strayed : {A : Type 0} (o : Outcome A) → k < many → handed ws many o ≡ refused (Layout k)
  unfolding handed
  strayed o h = rw (← e, lt-ltb k many h)

  kept_straight : {A : Type 0} (o : Outcome A) → many ≤ k → handed ws many o ≡ o
  unfolding handed
  kept_straight o h = rw (← e, le-ltb k many h)

  pub stray_said : (o : Outcome Set) (s : Said) → k < many → s ≡ said (number (Layout k)) (told (Layout k)) → s ≡ said_by (λ g. length g.sites ∷ []) (handed ws many o)
  unfolding said_by
  stray_said o s h p = p ∙ sym (ap (λ (x : Outcome Set). said_by (λ g. length g.sites ∷ []) x) (strayed o h))

  pub stray_sites : (m : List ℕ) (n : ℕ) (o : Outcome Set) → k < many → m ≡ sites_after m n (handed ws many o)
  stray_sites m n o h = sym (ap (sites_after m n) (strayed o h))

  pub stray_words : (m : List ℕ) (n : ℕ) (o : Outcome Set) → k < many → m ≡ words_after m n (handed ws many o)
  stray_words m n o h = sym (ap (words_after m n) (strayed o h))

  pub straight_said : (o : Outcome Set) (s : Said) → many ≤ k → s ≡ said_by (λ g. length g.sites ∷ []) o → s ≡ said_by (λ g. length g.sites ∷ []) (handed ws many o)
  straight_said o s h p = p ∙ sym (ap (λ (x : Outcome Set). said_by (λ g. length g.sites ∷ []) x) (kept_straight o h))

  pub straight_sites : (m : List ℕ) (n : ℕ) (o : Outcome Set) (x : List ℕ) → many ≤ k → x ≡ sites_after m n o → x ≡ sites_after m n (handed ws many o)
  straight_sites m n o x h p = p ∙ sym (ap (sites_after m n) (kept_straight o h))

  pub straight_words : (m : List ℕ) (n : ℕ) (o : Outcome Set) (x : List ℕ) → many ≤ k → x ≡ words_after m n o → x ≡ words_after m n (handed ws many o)
  straight_words m n o x h p = p ∙ sym (ap (words_after m n) (kept_straight o h))

-- ---- the few that are left

pub empty_is : (P R : List ℕ) (n : ℕ) → n ≡ 0 → 1 ≡ bit (is_empty (classes P R n))
unfolding is_empty
empty_is P R n e = rw (eq-eqb n 0 e)

pub not_empty_is : (P R : List ℕ) (n : ℕ) → (n ≡ 0 → ⊥) → 0 ≡ bit (is_empty (classes P R n))
unfolding is_empty
not_empty_is P R n e = rw (ne_eqb n 0 e)

pub no_marks_is : (0 ∷ 0 ∷ 0 ∷ 0 ∷ []) ≡ no_marks
unfolding no_marks
no_marks_is = refl

pub listed_count : (xs : List ℕ) → (listed xs).count ≡ length xs
unfolding listed
listed_count xs = refl
