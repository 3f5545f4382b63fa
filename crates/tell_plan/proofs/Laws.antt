-- Laws of the lines, for the functions that write them.
use mathlib.Core.Path.{◌≡◌, refl, sym, ap, ◌∙◌}
use mathlib.Core.Bool.{Bool, true, false}
use mathlib.Core.Option.{Option, none, some}
use mathlib.Core.List.{List, [], ◌∷◌, ◌++◌, map, append_assoc, append-nil}
use Prim.Native.Nat.{ℕ, zero, suc, ◌+◌, ◌≤◌, ◌<◌}
use native.Mathlib.Omega.{arith}
use native.Mathlib.Numerals.{add-one}
use lib.ListN.{length, get_or, drop}
use lib.Dec.{ltb}
use borrow.Author.Tests.{lt-ltb, le-ltb, ltb-false}
use Rattle.std.specs.declared.result.Result.TheVariants.{Err, Ok}
use Rattle.paper.specs.declared.Break.{Break}
use Rattle.std.specs.Prelude.{if◌then◌else◌}
use Rattle.paper.specs.Words.{below, joined, four, eight}
use Rattle.paper.specs.Numbers.{max_rules}
use Rattle.paper.specs.Loading.{Kept, Set}
use Rattle.paper.specs.Priorities.{rule}
use Rattle.paper.specs.Text.{unended}
use Rattle.rule_words.specs.Stored.{kept_in, kept_at, base, place_at}
use Rattle.sheet_digits.specs.Digits.{digits_of}
use Rattle.tell_text.specs.Written.{Room, wrote, after, follows, nothing}
use Rattle.plan.specs.Answered.{Judged}
use Rattle.plan.specs.declared.Fault.TheVariants.{Bad, WrongLength}
use Rattle.plan.specs.Answered.{Planned}
use Rattle.plan.specs.declared.Unplanned.TheVariants.{Nothing, TooManyRules, NoRoom}
use Rattle.plan.specs.declared.Hurdle.{Hurdle}
use Rattle.plan.specs.declared.Hurdle.TheVariants.{Free}
use Rattle.plan.specs.Plans.{check, Obstacle, by_mask, by_sameness, obstacle, Obstructed, listed, obstructed_at, obstructed, numbers, Plan, proposal, no_proposal, plan}
use Rattle.plan.specs.Lent.{set_in, hurdle, plan_answer, plan_over, planned, proposal_after}
use Rattle.plan.proofs.CheckLaws.{set_length, set_rule}
use Rattle.plan.proofs.Checked.{check_first}
use Rattle.plan.proofs.Planning.{plan_some, plan_none}
use Rattle.plan.proofs.Tools.{below_length}
use Rattle.tell_plan.specs.PlanText.{set_head, rule_line, two_places, why_text, none_line, plan_lines, plan_text, break_text, judged_rest, judged_text}
use Rattle.tell_plan.specs.Lent.{rule_at, obstructed_words, none_text, judged_words}

-- ---- one text after the other
pub chain3 : (p q r s : Room) (a b c : List ℕ) → q ≡ wrote p a → r ≡ wrote q b → s ≡ wrote r c → s ≡ wrote p (a ++ (b ++ c))
chain3 p q r s a b c e f g = follows p q s a (b ++ c) e (follows q r s b c f g)

pub chain5 : (p q r s t u : Room) (a b c d k : List ℕ) → q ≡ wrote p a → r ≡ wrote q b → s ≡ wrote r c → t ≡ wrote s d → u ≡ wrote t k → u ≡ wrote p (a ++ (b ++ (c ++ (d ++ k))))
chain5 p q r s t u a b c d k e f g h i = chain3 p q r u a b (c ++ (d ++ k)) e f (chain3 r s t u c d k g h i)

pub instead : (p q : Room) (s t : List ℕ) → s ≡ t → q ≡ wrote p s → q ≡ wrote p t
instead p q s t e f = f ∙ ap (λ z. wrote p z) e

-- ---- places
place_is : (ws : List ℕ) (i a x : ℕ) → a ≡ base i → x ≡ place_at ws a → x ≡ (kept_in ws i).place
unfolding kept_in kept_at
place_is ws i a x e f = f ∙ ap (place_at ws) e

pub rule_put : (p q r s t u : Room) (ws ps : List ℕ) (i a x v : ℕ) → a ≡ base i → x ≡ place_at ws a → v ≡ get_or ps i 0 → q ≡ wrote p (unended "rule ") → r ≡ wrote q (digits_of (four x)) → s ≡ wrote r (unended " ") → t ≡ wrote s (digits_of (eight v)) → u ≡ wrote t (10 ∷ []) → u ≡ wrote p (rule_at ws ps i)
unfolding rule_at rule_line
rule_put p q r s t u ws ps i a x v ea ex ev e f g h k =
    let fx = place_is ws i a x ea ex in
    chain5 p q r s t u (unended "rule ") (digits_of (four (kept_in ws i).place)) (unended " ") (digits_of (eight (get_or ps i 0))) (10 ∷ [])
    e (f ∙ ap (λ z. wrote q (digits_of (four z))) fx) g (h ∙ ap (λ z. wrote s (digits_of (eight z))) ev) k

pub places_put : (p q r s : Room) (ws : List ℕ) (i j a b x y : ℕ) → a ≡ base i → x ≡ place_at ws a → b ≡ base j → y ≡ place_at ws b → q ≡ wrote p (digits_of (four x)) → r ≡ wrote q (unended " ") → s ≡ wrote r (digits_of (four y)) → s ≡ wrote p (two_places (kept_in ws i).place (kept_in ws j).place)
unfolding two_places
places_put p q r s ws i j a b x y ea ex eb ey e f g =
    let fx = place_is ws i a x ea ex in
    let fy = place_is ws j b y eb ey in
    chain3 p q r s (digits_of (four (kept_in ws i).place)) (unended " ") (digits_of (four (kept_in ws j).place))
    (e ∙ ap (λ z. wrote p (digits_of (four z))) fx) f (g ∙ ap (λ z. wrote r (digits_of (four z))) fy)

-- ---- lines one after the other
joined_last : (xs : List (List ℕ)) (x : List ℕ) → joined (xs ++ (x ∷ [])) ≡ joined xs ++ x
unfolding joined
joined_last [] x = append-nil x
joined_last (y ∷ xs) x = ap (λ z. y ++ z) (joined_last xs x) ∙ sym (append_assoc y (joined xs) x)

pub lines_none : (p : Room) (f : ℕ → List ℕ) → p ≡ wrote p (joined (below 0 f))
unfolding joined below
lines_none p f = nothing p

pub lines_next : (p q r : Room) (f : ℕ → List ℕ) (i : ℕ) → q ≡ wrote p (joined (below i f)) → r ≡ wrote q (f i) → r ≡ wrote p (joined (below (i + 1) f))
unfolding below
lines_next p q r f i e g = let z = add-one i in rw z (follows p q r (joined (below i f)) (f i) e g ∙ ap (λ t. wrote p t) (sym (joined_last (below i f) (f i))))

pub lines_end : (p q : Room) (f : ℕ → List ℕ) (i n : ℕ) → i ≤ n → n ≤ i → q ≡ wrote p (joined (below i f)) → q ≡ wrote p (joined (below n f))
lines_end p q f i n l h e = let z : i ≡ n = omega arith in rw z at e

-- the lines of no pair
below_empty : (f : ℕ → List ℕ) (k : ℕ) → ((j : ℕ) → j < k → f j ≡ []) → joined (below k f) ≡ []
unfolding below joined
below_empty f zero h = refl
below_empty f (suc k) h = let a = below_empty f k (λ j l. h j (omega arith)) in let b = h k (omega arith) in joined_last (below k f) (f k) ∙ rw (a, b) refl

none_before : (g : Set) (i j : ℕ) → j ≤ i → none_text g i j ≡ []
unfolding none_text obstructed_at joined
none_before g i j l = rw (le-ltb i j l) refl

pub nones_start : (p : Room) (g : Set) (i : ℕ) → p ≡ wrote p (joined (below (i + 1) (none_text g i)))
nones_start p g i = nothing p ∙ ap (λ z. wrote p z) (sym (below_empty (none_text g i) (i + 1) (λ j l. none_before g i j (omega arith))))

-- ---- a pair that no proposal mends
none_so : (ws : List ℕ) (n flags i j : ℕ) → i < j → j < n → (o : Option Obstacle) → obstacle (set_in ws n flags) i j ≡ o → none_text (set_in ws n flags) i j ≡ joined (map (none_line (set_in ws n flags)) (listed i j o))
unfolding none_text obstructed_at
none_so ws n flags i j l k o e = rw (lt-ltb i j l, e) refl

one_line : (ws : List ℕ) (n flags i j : ℕ) → i < j → j < n → (o : Obstacle) → joined (map (none_line (set_in ws n flags)) (listed i j (some o))) ≡ obstructed_words ws i j (why_text o)
unfolding joined none_line obstructed_words
one_line ws n flags i j l k o =
    let a = ap (λ (x : Kept). x.place) (set_rule ws n flags i (omega arith)) in
    let b = ap (λ (x : Kept). x.place) (set_rule ws n flags j k) in
    rw (a, b) (append-nil _)

hurdle_none : (o : Option Obstacle) → hurdle o ≡ Free → o ≡ none
hurdle_none none e = refl
hurdle_none (some by_mask) e = let z : ◌≡◌ {A = ℕ} 0 1 = cc in absurd (omega arith)
hurdle_none (some by_sameness) e = let z : ◌≡◌ {A = ℕ} 0 1 = cc in absurd (omega arith)

hurdle_some : (o : Option Obstacle) (w : Obstacle) → hurdle o ≡ hurdle (some w) → o ≡ some w
hurdle_some none by_mask e = let z : ◌≡◌ {A = ℕ} 0 1 = cc in absurd (omega arith)
hurdle_some none by_sameness e = let z : ◌≡◌ {A = ℕ} 0 1 = cc in absurd (omega arith)
hurdle_some (some by_mask) by_mask e = refl
hurdle_some (some by_mask) by_sameness e = let z : ◌≡◌ {A = ℕ} 0 1 = cc in absurd (omega arith)
hurdle_some (some by_sameness) by_mask e = let z : ◌≡◌ {A = ℕ} 0 1 = cc in absurd (omega arith)
hurdle_some (some by_sameness) by_sameness e = refl

pub none_free : (p : Room) (ws : List ℕ) (n flags i j : ℕ) → i < j → j < n → (h : Hurdle) → h ≡ hurdle (obstacle (set_in ws n flags) i j) → h ≡ Free → p ≡ wrote p (none_text (set_in ws n flags) i j)
none_free p ws n flags i j l k h e f =
    let s = none_so ws n flags i j l k none (hurdle_none (obstacle (set_in ws n flags) i j) (sym e ∙ f)) in
    nothing p ∙ ap (λ z. wrote p z) (sym (s ∙ empty))
  where
    empty : joined (map (none_line (set_in ws n flags)) (listed i j none)) ≡ []
    empty = unfold joined in refl

pub none_why : (p q : Room) (ws : List ℕ) (n flags i j : ℕ) → i < j → j < n → (h : Hurdle) (o : Obstacle) → h ≡ hurdle (obstacle (set_in ws n flags) i j) → h ≡ hurdle (some o) → q ≡ wrote p (obstructed_words ws i j (why_text o)) → q ≡ wrote p (none_text (set_in ws n flags) i j)
none_why p q ws n flags i j l k h o e f w =
    let s = none_so ws n flags i j l k (some o) (hurdle_some (obstacle (set_in ws n flags) i j) o (sym e ∙ f)) in
    w ∙ ap (λ z. wrote p z) (sym (s ∙ one_line ws n flags i j l k o))

-- ---- all of them
joined_append : (xs ys : List (List ℕ)) → joined (xs ++ ys) ≡ joined xs ++ joined ys
unfolding joined
joined_append [] ys = refl
joined_append (x ∷ xs) ys = ap (λ z. x ++ z) (joined_append xs ys) ∙ sym (append_assoc x (joined xs) (joined ys))

map_append : {A B : Type 0} (f : A → B) (xs ys : List A) → map f (xs ++ ys) ≡ map f xs ++ map f ys
map_append f [] ys = refl
map_append f (x ∷ xs) ys = ap (λ z. f x ∷ z) (map_append f xs ys)

no_more : {A : Type 0} (l : List A) → l ++ [] ≡ l
no_more [] = refl
no_more (x ∷ l) = ap (λ z. x ∷ z) (no_more l)

shift : {A : Type 0} (a b c : List A) → a ++ (b ++ c) ≡ (a ++ b) ++ c
shift [] b c = refl
shift (x ∷ a) b c = ap (λ z. x ∷ z) (shift a b c)

last_of : {A : Type 0} (xs : List (List A)) (x : List A) → joined (xs ++ (x ∷ [])) ≡ joined xs ++ x
unfolding joined
last_of [] x = no_more x
last_of (y ∷ xs) x = ap (λ z. y ++ z) (last_of xs x) ∙ shift y (joined xs) x

lines_joined : {A : Type 0} (f : A → List ℕ) (n : ℕ) (k : ℕ → List A) → joined (map f (joined (below n k))) ≡ joined (below n (λ i. joined (map f (k i))))
unfolding below joined
lines_joined f zero k = refl
lines_joined f (suc n) k =
    ap (λ z. joined (map f z)) (last_of (below n k) (k n)) ∙
    (ap joined (map_append f (joined (below n k)) (k n)) ∙
    (joined_append (map f (joined (below n k))) (map f (k n)) ∙
    (ap (λ z. z ++ joined (map f (k n))) (lines_joined f n k) ∙
    sym (joined_last (below n (λ i. joined (map f (k i)))) (joined (map f (k n)))))))

below_same : (n : ℕ) (f k : ℕ → List ℕ) → ((i : ℕ) → i < n → f i ≡ k i) → below n f ≡ below n k
unfolding below
below_same zero f k h = refl
below_same (suc n) f k h = let a = below_same n f k (λ i l. h i (omega arith)) in let b = h n (omega arith) in cc

all_nones : (g : Set) (n : ℕ) → length g.kept ≡ n → joined (below n (λ i. joined (below n (none_text g i)))) ≡ joined (map (none_line g) (obstructed g))
unfolding obstructed none_text
all_nones g n size =
    rw size (sym (lines_joined (none_line g) n (λ i. joined (below n (obstructed_at g i))) ∙ ap joined (below_same n (λ i. joined (map (none_line g) (joined (below n (obstructed_at g i))))) (λ i. joined (below n (λ j. joined (map (none_line g) (obstructed_at g i j))))) (λ i l. lines_joined (none_line g) n (obstructed_at g i)))))

-- ---- a set of `plan`

proposal_long : (g : Set) (q : List ℕ) → plan g ≡ proposal q → length q ≡ length g.kept
unfolding numbers
proposal_long g q e = ap length (plan_some g q e).1 ∙ below_length (length g.kept) _

module _ (ws : List ℕ) (n flags : ℕ) (m : List ℕ) (long : length m ≡ max_rules) where
  abbrev g : Set
  g = set_in ws n flags

  planned_as : planned g m ≡ (if ltb max_rules n then (Err TooManyRules) else (if ltb (length m) n then (Err NoRoom) else plan_answer (plan g)))
  unfolding planned
  planned_as = rw (set_length ws n flags) refl

  after_as : proposal_after g m ≡ (if ltb max_rules n then m else (if ltb (length m) n then m else plan_over (plan g) m))
  unfolding proposal_after
  after_as = rw (set_length ws n flags) refl

  abbrev lines : List ℕ
  lines = if ltb max_rules (length g.kept) then [] else plan_lines g (plan g)

  -- the lines that a set of too many rules, and one that has a plan, then have
  lines_many : ltb max_rules n ≡ true → lines ≡ []
  lines_many t = rw (set_length ws n flags, t) refl

  lines_few : ltb max_rules n ≡ false → lines ≡ plan_lines g (plan g)
  lines_few t = rw (set_length ws n flags, t) refl

  few_room : ltb max_rules n ≡ false → ltb (length m) n ≡ false
  few_room t = le-ltb (length m) n (let l = ltb-false max_rules n t in omega arith)

  planned_few : ltb max_rules n ≡ false → (planned g m ≡ plan_answer (plan g)) × (proposal_after g m ≡ plan_over (plan g) m)
  planned_few t = let u = few_room t in (planned_as ∙ rw (t, u) refl, after_as ∙ rw (t, u) refl)

  not_many : ltb max_rules n ≡ true → planned g m ≡ Err TooManyRules
  not_many t = planned_as ∙ rw t refl

  get_front : (q r : List ℕ) (i : ℕ) → i < length q → get_or (q ++ r) i 0 ≡ get_or q i 0
  get_front [] r i h = absurd (omega arith)
  get_front (x ∷ q) r zero h = refl
  get_front (x ∷ q) r (suc i) h = get_front q r i (omega arith)

  proposed_lines : planned g m ≡ Ok tt → (after : List ℕ) → after ≡ proposal_after g m → joined (below n (rule_at ws after)) ≡ lines
  proposed_lines e after w = go (ltb max_rules n) refl (plan g) refl
    where
      each : (q : List ℕ) → length q ≡ n → after ≡ q ++ drop (length q) m → (i : ℕ) → i < n → rule_at ws after i ≡ rule_line (rule g i).place (get_or q i 0)
      each q l v i h = unfold rule_at in (
          let a = ap (λ (x : Kept). x.place) (set_rule ws n flags i h) in
          let b : get_or after i 0 ≡ get_or q i 0 = ap (λ x. get_or x i 0) v ∙ get_front q (drop (length q) m) i (omega arith) in
          rw (a, b) refl)

      go : (t : Bool) → ltb max_rules n ≡ t → (a : Plan) → plan g ≡ a → joined (below n (rule_at ws after)) ≡ lines
      go true t a r = let f = sym e ∙ not_many t in let z : ◌≡◌ {A = ℕ} 0 1 = cc in absurd (omega arith)
      go false t (no_proposal os) r = let f = sym e ∙ ((planned_few t).0 ∙ ap plan_answer r) in let z : ◌≡◌ {A = ℕ} 0 1 = cc in absurd (omega arith)
      go false t (proposal q) r =
          let v = w ∙ ((planned_few t).1 ∙ ap (λ a. plan_over a m) r) in
          let l = proposal_long g q r ∙ set_length ws n flags in
          let s = set_length ws n flags in
          ap joined (below_same n (rule_at ws after) (λ i. rule_line (rule g i).place (get_or q i 0)) (each q l v) ∙ ap (λ x. below x (λ i. rule_line (rule g i).place (get_or q i 0))) (sym s)) ∙ sym (lines_few t ∙ as_lines q r)
        where
          as_lines : (q : List ℕ) → plan g ≡ proposal q → plan_lines g (plan g) ≡ joined (below (length g.kept) (λ i. rule_line (rule g i).place (get_or q i 0)))
          as_lines q r = unfold plan_lines in (ap (plan_lines g) r)

  nothing_lines : planned g m ≡ Err Nothing → joined (below n (λ i. joined (below n (none_text g i)))) ≡ lines
  nothing_lines e = go (ltb max_rules n) refl (plan g) refl
    where
      go : (t : Bool) → ltb max_rules n ≡ t → (a : Plan) → plan g ≡ a → joined (below n (λ i. joined (below n (none_text g i)))) ≡ lines
      go true t a r = let f = sym e ∙ not_many t in let z : ◌≡◌ {A = ℕ} 0 1 = cc in absurd (omega arith)
      go false t (proposal q) r = let f = sym e ∙ ((planned_few t).0 ∙ ap plan_answer r) in let z : ◌≡◌ {A = ℕ} 0 1 = cc in absurd (omega arith)
      go false t (no_proposal os) r = all_nones g n (set_length ws n flags) ∙ sym (lines_few t ∙ (as_lines os r ∙ ap (λ x. joined (map (none_line g) x)) (plan_none g os r).0))
        where
          as_lines : (os : List Obstructed) → plan g ≡ no_proposal os → plan_lines g (plan g) ≡ joined (map (none_line g) os)
          as_lines os r = unfold plan_lines in (ap (plan_lines g) r)

  many_lines : planned g m ≡ Err TooManyRules → [] ≡ lines
  many_lines e = go (ltb max_rules n) refl (plan g) refl
    where
      go : (t : Bool) → ltb max_rules n ≡ t → (a : Plan) → plan g ≡ a → [] ≡ lines
      go true t a r = sym (lines_many t)
      go false t (proposal q) r = let f = sym e ∙ ((planned_few t).0 ∙ ap plan_answer r) in let z : ◌≡◌ {A = ℕ} 0 1 = cc in absurd (omega arith)
      go false t (no_proposal os) r = let f = sym e ∙ ((planned_few t).0 ∙ ap plan_answer r) in let z : ◌≡◌ {A = ℕ} 0 1 = cc in absurd (omega arith)

  room_lines : planned g m ≡ Err NoRoom → [] ≡ lines
  room_lines e = go (ltb max_rules n) refl (plan g) refl
    where
      go : (t : Bool) → ltb max_rules n ≡ t → (a : Plan) → plan g ≡ a → [] ≡ lines
      go true t a r = sym (lines_many t)
      go false t (proposal q) r = let f = sym e ∙ ((planned_few t).0 ∙ ap plan_answer r) in let z : ◌≡◌ {A = ℕ} 0 1 = cc in absurd (omega arith)
      go false t (no_proposal os) r = let f = sym e ∙ ((planned_few t).0 ∙ ap plan_answer r) in let z : ◌≡◌ {A = ℕ} 0 1 = cc in absurd (omega arith)

  module _ (term : ℕ) (p q s : Room) (head : q ≡ wrote p (set_head term)) (end : s ≡ wrote q (10 ∷ [])) (r : Planned) (answer : r ≡ planned g m) where
    text_so : (t : Room) (rest : List ℕ) → rest ≡ lines → t ≡ wrote s rest → t ≡ wrote p (plan_text term g)
    unfolding plan_text
    text_so t rest e w = chain3 p q s t (set_head term) (10 ∷ []) lines head end (w ∙ ap (λ z. wrote s z) e)

    pub plan_proposed : (after : List ℕ) → after ≡ proposal_after g m → r ≡ Ok tt → (t : Room) → t ≡ wrote s (joined (below n (rule_at ws after))) → t ≡ wrote p (plan_text term g)
    plan_proposed after w e t v = text_so t (joined (below n (rule_at ws after))) (proposed_lines (sym answer ∙ e) after w) v

    pub plan_nothing : r ≡ Err Nothing → (t : Room) → t ≡ wrote s (joined (below n (λ i. joined (below n (none_text g i))))) → t ≡ wrote p (plan_text term g)
    plan_nothing e t v = text_so t (joined (below n (λ i. joined (below n (none_text g i))))) (nothing_lines (sym answer ∙ e)) v

    pub plan_many : r ≡ Err TooManyRules → s ≡ wrote p (plan_text term g)
    plan_many e = text_so s [] (many_lines (sym answer ∙ e)) (nothing s)

    pub plan_no_room : r ≡ Err NoRoom → s ≡ wrote p (plan_text term g)
    plan_no_room e = text_so s [] (room_lines (sym answer ∙ e)) (nothing s)

-- ---- a set of `check-plan`

pub break_put : (p q : Room) (b c : Break) → b ≡ c → q ≡ wrote p (break_text c) → q ≡ wrote p (break_text b)
break_put p q b c e f = f ∙ ap (λ z. wrote p (break_text z)) (sym e)

judged_same : (ws ps : List ℕ) (n flags : ℕ) (v : Judged) → check (set_in ws n flags) ps ≡ v → judged_words ws v ≡ judged_rest (set_in ws n flags) v
judged_same ws ps n flags (Ok _) e = refl
judged_same ws ps n flags (Err (Bad b i j)) e =
    let F = ((check_first (set_in ws n flags) ps b i j).0 e).1 in
    let s = set_length ws n flags in
    let l = F.in_order in
    let k = F.inside in
    let a = ap (λ (x : Kept). x.place) (set_rule ws n flags i (omega arith)) in
    let c = ap (λ (x : Kept). x.place) (set_rule ws n flags j (omega arith)) in
    rw (a, c) refl
judged_same ws ps n flags (Err (WrongLength m)) e = refl

pub check_put : (p q r : Room) (ws ps : List ℕ) (n flags term : ℕ) (v : Judged) → v ≡ check (set_in ws n flags) ps → q ≡ wrote p (set_head term) → r ≡ wrote q (judged_words ws v) → r ≡ wrote p (judged_text term (set_in ws n flags) (check (set_in ws n flags) ps))
unfolding judged_text
check_put p q r ws ps n flags term v e f k =
    follows p q r (set_head term) (judged_rest (set_in ws n flags) (check (set_in ws n flags) ps)) f
    (k ∙ ap (λ z. wrote q z) (judged_same ws ps n flags v (sym e) ∙ ap (judged_rest (set_in ws n flags)) e))
