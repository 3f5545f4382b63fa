-- [3]: "The number told is above the limit"; "The item told is the first, in item order, that is refused, and all items before it were taken."
use Rattle.std.specs.Prelude.{◌≡◌, refl, Bool, true, false, length, ltb, leb}
use Rattle.std.proofs.Common.{ap, ◌∙◌, arith, ltb-false, leb-false}
use Rattle.std.proofs.Math.Bool.{not}
use Rattle.std.proofs.Math.Option.{Option, none, some}
use mathlib.Core.List.{List, [], ◌∷◌, ◌++◌}
use Prim.Native.Nat.{ℕ, zero, suc, ◌+◌, ◌<◌}
use Rattle.paper.specs.declared.Constraint.{Constraint}
use Rattle.paper.specs.declared.Item.{Item}
use Rattle.paper.specs.declared.Item.TheVariants.{Is, Equal}
use Rattle.paper.specs.declared.Refusal.{Refusal}
use Rattle.paper.specs.declared.Refusal.TheVariants.{Layout, Unknown, Itself, Unreachable, Hanging, Endless, TooManySites, TooManySources, TooManyFields, TooManyRules, TooManyItems, TooManyConstrained, TooManyEqual, TooManySets, TermTooHigh, UnfoldingTooLong, PlaceUsed, Repeated}
use Rattle.paper.specs.Words.{first, look}
use Rattle.paper.specs.Numbers.{max_sites, max_sources, max_fields, max_rules, max_items, max_constrained, max_equal, max_sets, max_term, most_rounds, Outcome, done, refused, ◌>>=◌, demand}
use Rattle.paper.specs.Sites.{Site, Sites, sources, term_of, same_constraint, fields, children, known, number_of, missing_source, term_fits, or_next, add, add_all}
use Rattle.paper.specs.Loading.{Written, Set, Loading, Solving, Labels, Holder, no_items, constrain, load_item, load_items, hanging, closure, holders, first_holder, lowest, conflict, told_4, check_4, steps, endless, no_hanging, no_endless, take_class, members, grow_all, round, rounds, started, normalise, used, load}

-- ---- what is told is above the limit

abbrev pub Past : Refusal → Type 0
Past (Layout line) = Unit {0}
Past (Unknown site) = Unit {0}
Past (Itself site) = Unit {0}
Past (Unreachable site other) = Unit {0}
Past (Hanging site) = Unit {0}
Past (Endless site) = Unit {0}
Past (TooManySites asked at) = max_sites < asked
Past (TooManySources asked at) = max_sources < asked
Past (TooManyFields asked at) = max_fields < asked
Past (TooManyRules asked) = max_rules < asked
Past (TooManyItems asked) = max_items < asked
Past (TooManyConstrained asked) = max_constrained < asked
Past (TooManyEqual asked) = max_equal < asked
Past (TooManySets asked) = max_sets < asked
Past (TermTooHigh asked) = max_term < asked
Past (UnfoldingTooLong asked) = Unit {0}
Past (PlaceUsed place) = Unit {0}
Past (Repeated line) = Unit {0}

-- of an outcome: if it is refused
abbrev pub Passed : {A : Type 0} → Outcome A → Type 0
Passed (done a) = Unit {0}
Passed (refused x) = Past x

past_demand : {A : Type 0} (b : Bool) (r : Refusal) (f : Unit {0} → Outcome A) → (b ≡ false → Past r) → Passed (f tt) → Passed (demand b r >>= f)
past_demand true r f h k = k
past_demand false r f h k = h refl

past_bind : {A B : Type 0} (o : Outcome A) (f : A → Outcome B) → Passed o → ((a : A) → Passed (f a)) → Passed (o >>= f)
past_bind (done a) f h k = k a
past_bind (refused x) f h k = h

past_missing : (o : Option ℕ) → Passed (missing_source o)
past_missing none = tt
past_missing (some n) = tt

past_term : (o : Option ℕ) → Passed (term_fits o)
past_term none = tt
past_term (some t) = go (leb t max_term) refl
  where
    go : (b : Bool) → leb t max_term ≡ b → Passed (demand b (TermTooHigh t))
    go true e = tt
    go false e = leb-false t max_term e

past_next : (t : Sites) (at : ℕ) (s : Site) (o : Option ℕ) → Passed (or_next t at s o)
past_next t at s (some n) = tt
past_next t at s none = past_demand (ltb (length t) max_sites) (TooManySites (suc (length t)) at) _
    (λ e. let h = ltb-false (length t) max_sites e in omega arith) tt

pub add_past : (t : Sites) (at : ℕ) (s : Site) → Passed (add t at s)
unfolding add
add_past t at s =
    past_bind (missing_source (first (λ n. not (known t n)) (sources s))) _ (past_missing (first (λ n. not (known t n)) (sources s))) (λ _.
    past_demand (leb (length (sources s)) max_sources) (TooManySources (length (sources s)) at) _ (λ e. leb-false (length (sources s)) max_sources e)
    (past_bind (term_fits (term_of s)) _ (past_term (term_of s)) (λ _. past_next t at s (number_of t s))))

all_past : (t : Sites) (at : ℕ) (ss : List Site) → Passed (add_all t at ss)
unfolding add_all
all_past t at [] = tt
all_past t at (s ∷ rest) = past_bind (add t at s) _ (add_past t at s) (λ a. all_past a.sites at rest)

past_constrain : (l : Loading) (at s : ℕ) (c : Constraint) (o : Option Constraint) → Passed (constrain l at s c o)
past_constrain l at s c none = past_bind (add_all l.sites at (children s c)) _ (all_past l.sites at (children s c)) (λ t. tt)
past_constrain l at s c (some d) = past_demand (same_constraint c d) (Unreachable s s) _ (λ e. tt) tt

item_past : (l : Loading) (at : ℕ) (i : Item) → Passed (load_item l at i)
unfolding load_item
item_past l at (Is s c) =
    past_demand (known l.sites s) (Unknown s) _ (λ e. tt)
    (past_demand (leb (fields c) max_fields) (TooManyFields (fields c) at) _ (λ e. leb-false (fields c) max_fields e)
    (past_constrain l at s c (look l.constraints s)))
item_past l at (Equal a b) = past_demand (known l.sites a) (Unknown a) _ (λ e. tt) (past_demand (known l.sites b) (Unknown b) _ (λ e. tt) tt)

items_past : (l : Loading) (at : ℕ) (is : List Item) → Passed (load_items l at is)
unfolding load_items
items_past l at [] = tt
items_past l at (i ∷ rest) = past_bind (load_item l at i) _ (item_past l at i) (λ l'. items_past l' (suc at) rest)

past_hanging : (o : Option ℕ) → Passed (no_hanging o)
past_hanging none = tt
past_hanging (some n) = tt

past_endless : (o : Option ℕ) → Passed (no_endless o)
past_endless none = tt
past_endless (some n) = tt

past_4 : (k : Labels) (hs : List Holder) (o : Option Holder) → Passed (check_4 k hs o)
past_4 k hs none = tt
past_4 k hs (some h) = go (first_holder k hs (lowest k h.site))
  where
    go : (o : Option Holder) → Passed (told_4 h.site o)
    go none = tt
    go (some g) = tt

grow_past : (t : Sites) (at : ℕ) (ns : List ℕ) (c : Constraint) → Passed (grow_all t at ns c)
unfolding grow_all
grow_past t at [] c = tt
grow_past t at (n ∷ ns) c = past_bind (add_all t at (children n c)) _ (all_past t at (children n c)) (λ t'. grow_past t' at ns c)

round_past : (s : Solving) (at low : ℕ) (c : Constraint) → Passed (round s at low c)
unfolding round
round_past s at low c = past_bind (grow_all s.sites at (members s.classes low) c) _ (grow_past s.sites at (members s.classes low) c) (λ t. tt)

rounds_past : (n at : ℕ) (s : Solving) → Passed (rounds n at s)
unfolding rounds
rounds_past zero at s = tt
rounds_past (suc n) at s = go (take_class s.classes s.constraints s.classes) (rounds_past n at)
  where
    go : (o : Option (ℕ × Constraint)) → ((z : Solving) → Passed (rounds n at z)) →
        Passed {A = Solving} (elim o [ none ↦ done s | some p ↦ round s at p.0 p.1 >>= rounds n at ])
    go none h = tt
    go (some p) h = past_bind (round s at p.0 p.1) (rounds n at) (round_past s at p.0 p.1) h

normal_past : (l : Loading) (count : ℕ) → Passed (normalise l count)
unfolding normalise
normal_past l count =
    past_bind (no_hanging (hanging l)) _ (past_hanging (hanging l)) (λ _.
    past_bind (check_4 (closure l) (holders l) (conflict (closure l) (holders l))) _ (past_4 (closure l) (holders l) (conflict (closure l) (holders l))) (λ _.
    past_bind (no_endless (endless (steps (closure l) (holders l)))) _ (past_endless (endless (steps (closure l) (holders l)))) (λ _.
    past_bind (rounds most_rounds count (started l)) _ (rounds_past most_rounds count (started l)) (λ s.
    past_demand (leb (length s.constraints) max_constrained) (TooManyConstrained (length s.constraints)) _
    (λ e. leb-false (length s.constraints) max_constrained e)
    (past_demand (leb (length s.classes) max_equal) (TooManyEqual (length s.classes)) _ (λ e. leb-false (length s.classes) max_equal e) tt)))))

-- "The number told is above the limit"
pub load_past : (g : Set) (r : Written) → Passed (load g r)
unfolding load
load_past g r =
    past_demand (ltb (length g.kept) max_rules) (TooManyRules (suc (length g.kept))) _
    (λ e. let h = ltb-false (length g.kept) max_rules e in omega arith)
    (past_demand (leb r.count max_items) (TooManyItems r.count) _ (λ e. leb-false r.count max_items e)
    (past_demand (not (used g r.place)) (PlaceUsed r.place) _ (λ e. tt)
    (past_bind (load_items (no_items g.sites) 0 r.items) _ (items_past (no_items g.sites) 0 r.items) (λ l.
    past_bind (normalise l r.count) _ (normal_past l r.count) (λ s. tt)))))

-- ---- the item told

-- the items before it were taken, and it is the first that is refused
pub record First (l : Loading) (at : ℕ) (is : List Item) (x : Refusal) : Type 0 where
  pub before : List Item
  pub item : Item
  pub after : List Item
  pub are : is ≡ before ++ (item ∷ after)
  pub taken : Loading
  pub took : load_items l at before ≡ done taken
  pub refuses : load_item taken (at + length before) item ≡ refused x

-- the first item is refused, or one of the others
first_here : (l : Loading) (at : ℕ) (i : Item) (rest : List Item) (x : Refusal) → load_item l at i ≡ refused x → First l at (i ∷ rest) x
unfolding load_items
first_here l at i rest x e = let n : at + 0 ≡ at = omega arith in
    record { before = []; item = i; after = rest; are = refl; taken = l; took = refl; refuses = ap (λ k. load_item l k i) n ∙ e }

first_later : (l : Loading) (at : ℕ) (i : Item) (rest : List Item) (x : Refusal) (l' : Loading) → load_item l at i ≡ done l' → First l' (suc at) rest x →
    First l at (i ∷ rest) x
unfolding load_items
first_later l at i rest x l' f F =
    let n : at + suc (length F.before) ≡ suc at + length F.before = omega arith in
    record {
      before = i ∷ F.before;
      item = F.item;
      after = F.after;
      are = ap (λ z. i ∷ z) F.are;
      taken = F.taken;
      took = ap (λ o. o >>= λ m. load_items m (suc at) F.before) f ∙ F.took;
      refuses = ap (λ k. load_item F.taken k F.item) n ∙ F.refuses;
    }

pub first_refused : (l : Loading) (at : ℕ) (is : List Item) (x : Refusal) → load_items l at is ≡ refused x → First l at is x
unfolding load_items
first_refused l at [] x e = let z : ◌≡◌ {A = ℕ} 0 1 = cc in absurd (omega arith)
first_refused l at (i ∷ rest) x e = go (load_item l at i) refl e (λ m. first_refused m (suc at) rest x)
  where
    go : (o : Outcome Loading) → load_item l at i ≡ o → (o >>= λ l'. load_items l' (suc at) rest) ≡ refused x
        → ((m : Loading) → load_items m (suc at) rest ≡ refused x → First m (suc at) rest x) → First l at (i ∷ rest) x
    go (refused y) f h k = first_here l at i rest x (f ∙ h)
    go (done l') f h k = first_later l at i rest x l' f (k l' h)

-- who is told with a limit
abbrev pub Tells : ℕ → Refusal → Type 0
Tells n (Layout line) = Unit {0}
Tells n (Unknown site) = Unit {0}
Tells n (Itself site) = Unit {0}
Tells n (Unreachable site other) = Unit {0}
Tells n (Hanging site) = Unit {0}
Tells n (Endless site) = Unit {0}
Tells n (TooManySites asked at) = at ≡ n
Tells n (TooManySources asked at) = at ≡ n
Tells n (TooManyFields asked at) = at ≡ n
Tells n (TooManyRules asked) = Unit {0}
Tells n (TooManyItems asked) = Unit {0}
Tells n (TooManyConstrained asked) = Unit {0}
Tells n (TooManyEqual asked) = Unit {0}
Tells n (TooManySets asked) = Unit {0}
Tells n (TermTooHigh asked) = Unit {0}
Tells n (UnfoldingTooLong asked) = Unit {0}
Tells n (PlaceUsed place) = Unit {0}
Tells n (Repeated line) = Unit {0}

abbrev ToldBy : {A : Type 0} → ℕ → Outcome A → Type 0
ToldBy n (done a) = Unit {0}
ToldBy n (refused x) = Tells n x

told_demand : {A : Type 0} (n : ℕ) (b : Bool) (r : Refusal) (f : Unit {0} → Outcome A) → Tells n r → ToldBy n (f tt) → ToldBy n (demand b r >>= f)
told_demand n true r f h k = k
told_demand n false r f h k = h

told_bind : {A B : Type 0} (n : ℕ) (o : Outcome A) (f : A → Outcome B) → ToldBy n o → ((a : A) → ToldBy n (f a)) → ToldBy n (o >>= f)
told_bind n (done a) f h k = k a
told_bind n (refused x) f h k = h

told_missing : (n : ℕ) (o : Option ℕ) → ToldBy n (missing_source o)
told_missing n none = tt
told_missing n (some m) = tt

told_term : (n : ℕ) (o : Option ℕ) → ToldBy n (term_fits o)
told_term n none = tt
told_term n (some t) = go (leb t max_term)
  where
    go : (b : Bool) → ToldBy n (demand b (TermTooHigh t))
    go true = tt
    go false = tt

told_next : (t : Sites) (at : ℕ) (s : Site) (o : Option ℕ) → ToldBy at (or_next t at s o)
told_next t at s (some n) = tt
told_next t at s none = told_demand at (ltb (length t) max_sites) (TooManySites (suc (length t)) at) _ refl tt

-- adding tells the item or the line that asks
pub add_tells : (t : Sites) (at : ℕ) (s : Site) → ToldBy at (add t at s)
unfolding add
add_tells t at s =
    told_bind at (missing_source (first (λ n. not (known t n)) (sources s))) _ (told_missing at (first (λ n. not (known t n)) (sources s))) (λ _.
    told_demand at (leb (length (sources s)) max_sources) (TooManySources (length (sources s)) at) _ refl
    (told_bind at (term_fits (term_of s)) _ (told_term at (term_of s)) (λ _. told_next t at s (number_of t s))))

all_tell : (t : Sites) (at : ℕ) (ss : List Site) → ToldBy at (add_all t at ss)
unfolding add_all
all_tell t at [] = tt
all_tell t at (s ∷ rest) = told_bind at (add t at s) _ (add_tells t at s) (λ a. all_tell a.sites at rest)

told_constrain : (l : Loading) (at s : ℕ) (c : Constraint) (o : Option Constraint) → ToldBy at (constrain l at s c o)
told_constrain l at s c none = told_bind at (add_all l.sites at (children s c)) _ (all_tell l.sites at (children s c)) (λ t. tt)
told_constrain l at s c (some d) = told_demand at (same_constraint c d) (Unreachable s s) _ tt tt

item_tells : (l : Loading) (at : ℕ) (i : Item) → ToldBy at (load_item l at i)
unfolding load_item
item_tells l at (Is s c) =
    told_demand at (known l.sites s) (Unknown s) _ tt
    (told_demand at (leb (fields c) max_fields) (TooManyFields (fields c) at) _ refl (told_constrain l at s c (look l.constraints s)))
item_tells l at (Equal a b) = told_demand at (known l.sites a) (Unknown a) _ tt (told_demand at (known l.sites b) (Unknown b) _ tt tt)

-- "The item told is the first, in item order, that is refused, and all items before it were taken": its number is how many were
pub item_told : (l : Loading) (is : List Item) (x : Refusal) → load_items l 0 is ≡ refused x → (F : First l 0 is x) × Tells (length F.before) x
item_told l is x e =
    let F = first_refused l 0 is x e in
    let n : 0 + length F.before ≡ length F.before = omega arith in
    (F, go (load_item F.taken (0 + length F.before) F.item) F.refuses n (item_tells F.taken (0 + length F.before) F.item))
  where
    go : {m k : ℕ} (o : Outcome Loading) → o ≡ refused x → m ≡ k → ToldBy m o → Tells k x
    go o f n h = rw (f, n) at h

-- in the rounds the item count is told
grow_tells : (t : Sites) (at : ℕ) (ns : List ℕ) (c : Constraint) → ToldBy at (grow_all t at ns c)
unfolding grow_all
grow_tells t at [] c = tt
grow_tells t at (n ∷ ns) c = told_bind at (add_all t at (children n c)) _ (all_tell t at (children n c)) (λ t'. grow_tells t' at ns c)

round_tells : (s : Solving) (at low : ℕ) (c : Constraint) → ToldBy at (round s at low c)
unfolding round
round_tells s at low c = told_bind at (grow_all s.sites at (members s.classes low) c) _ (grow_tells s.sites at (members s.classes low) c) (λ t. tt)

pub rounds_tell : (n at : ℕ) (s : Solving) → ToldBy at (rounds n at s)
unfolding rounds
rounds_tell zero at s = tt
rounds_tell (suc n) at s = go (take_class s.classes s.constraints s.classes) (rounds_tell n at)
  where
    go : (o : Option (ℕ × Constraint)) → ((z : Solving) → ToldBy at (rounds n at z)) →
        ToldBy {A = Solving} at (elim o [ none ↦ done s | some p ↦ round s at p.0 p.1 >>= rounds n at ])
    go none h = tt
    go (some p) h = told_bind at (round s at p.0 p.1) (rounds n at) (round_tells s at p.0 p.1) h

-- ---- "in 25 and 26 it is how many the rounds of 01 end with"

abbrev pub Counts : Loading → ℕ → Refusal → Type 0
Counts l n (Layout line) = Unit {0}
Counts l n (Unknown site) = Unit {0}
Counts l n (Itself site) = Unit {0}
Counts l n (Unreachable site other) = Unit {0}
Counts l n (Hanging site) = Unit {0}
Counts l n (Endless site) = Unit {0}
Counts l n (TooManySites asked at) = Unit {0}
Counts l n (TooManySources asked at) = Unit {0}
Counts l n (TooManyFields asked at) = Unit {0}
Counts l n (TooManyRules asked) = Unit {0}
Counts l n (TooManyItems asked) = Unit {0}
Counts l n (TooManyConstrained asked) = (s : Solving) × (rounds most_rounds n (started l) ≡ done s) × (asked ≡ length s.constraints)
Counts l n (TooManyEqual asked) = (s : Solving) × (rounds most_rounds n (started l) ≡ done s) × (asked ≡ length s.classes)
Counts l n (TooManySets asked) = Unit {0}
Counts l n (TermTooHigh asked) = Unit {0}
Counts l n (UnfoldingTooLong asked) = Unit {0}
Counts l n (PlaceUsed place) = Unit {0}
Counts l n (Repeated line) = Unit {0}

abbrev Counted : {A : Type 0} → Loading → ℕ → Outcome A → Type 0
Counted l n (done a) = Unit {0}
Counted l n (refused x) = Counts l n x

-- the rounds refuse with what adding a site refuses: neither 25 nor 26
module _ (l : Loading) (n : ℕ) where
  count_demand : {A : Type 0} (b : Bool) (r : Refusal) (f : Unit {0} → Outcome A) → Counts l n r → Counted l n (f tt) → Counted l n (demand b r >>= f)
  count_demand true r f h k = k
  count_demand false r f h k = h

  count_bind : {A B : Type 0} (o : Outcome A) (f : A → Outcome B) → Counted l n o → ((a : A) → o ≡ done a → Counted l n (f a)) → Counted l n (o >>= f)
  count_bind (done a) f h k = k a refl
  count_bind (refused x) f h k = h

  count_missing : (o : Option ℕ) → Counted l n (missing_source o)
  count_missing none = tt
  count_missing (some m) = tt

  count_term : (o : Option ℕ) → Counted l n (term_fits o)
  count_term none = tt
  count_term (some t) = go (leb t max_term)
    where
      go : (b : Bool) → Counted l n (demand b (TermTooHigh t))
      go true = tt
      go false = tt

  count_next : (t : Sites) (at : ℕ) (s : Site) (o : Option ℕ) → Counted l n (or_next t at s o)
  count_next t at s (some m) = tt
  count_next t at s none = count_demand (ltb (length t) max_sites) (TooManySites (suc (length t)) at) _ tt tt

  count_add : (t : Sites) (at : ℕ) (s : Site) → Counted l n (add t at s)
  unfolding add
  count_add t at s =
      count_bind (missing_source (first (λ m. not (known t m)) (sources s))) _ (count_missing (first (λ m. not (known t m)) (sources s))) (λ _ _.
      count_demand (leb (length (sources s)) max_sources) (TooManySources (length (sources s)) at) _ tt
      (count_bind (term_fits (term_of s)) _ (count_term (term_of s)) (λ _ _. count_next t at s (number_of t s))))

  count_all : (t : Sites) (at : ℕ) (ss : List Site) → Counted l n (add_all t at ss)
  unfolding add_all
  count_all t at [] = tt
  count_all t at (s ∷ rest) = count_bind (add t at s) _ (count_add t at s) (λ a _. count_all a.sites at rest)

  count_grow : (t : Sites) (at : ℕ) (ns : List ℕ) (c : Constraint) → Counted l n (grow_all t at ns c)
  unfolding grow_all
  count_grow t at [] c = tt
  count_grow t at (m ∷ ns) c = count_bind (add_all t at (children m c)) _ (count_all t at (children m c)) (λ t' _. count_grow t' at ns c)

  count_round : (s : Solving) (at low : ℕ) (c : Constraint) → Counted l n (round s at low c)
  unfolding round
  count_round s at low c = count_bind (grow_all s.sites at (members s.classes low) c) _ (count_grow s.sites at (members s.classes low) c)
      (λ t _. tt)

  count_rounds : (k at : ℕ) (s : Solving) → Counted l n (rounds k at s)
  unfolding rounds
  count_rounds zero at s = tt
  count_rounds (suc k) at s = go (take_class s.classes s.constraints s.classes) (count_rounds k at)
    where
      go : (o : Option (ℕ × Constraint)) → ((z : Solving) → Counted l n (rounds k at z)) →
          Counted {A = Solving} l n (elim o [ none ↦ done s | some p ↦ round s at p.0 p.1 >>= rounds k at ])
      go none h = tt
      go (some p) h = count_bind (round s at p.0 p.1) (rounds k at) (count_round s at p.0 p.1) (λ z _. h z)

  count_hanging : (o : Option ℕ) → Counted l n (no_hanging o)
  count_hanging none = tt
  count_hanging (some m) = tt

  count_endless : (o : Option ℕ) → Counted l n (no_endless o)
  count_endless none = tt
  count_endless (some m) = tt

  count_4 : (k : Labels) (hs : List Holder) (o : Option Holder) → Counted l n (check_4 k hs o)
  count_4 k hs none = tt
  count_4 k hs (some h) = go (first_holder k hs (lowest k h.site))
    where
      go : (o : Option Holder) → Counted l n (told_4 h.site o)
      go none = tt
      go (some g) = tt

  pub rounds_counted : Counted l n (normalise l n)
  unfolding normalise
  rounds_counted =
      count_bind (no_hanging (hanging l)) _ (count_hanging (hanging l)) (λ _ _.
      count_bind (check_4 (closure l) (holders l) (conflict (closure l) (holders l))) _
      (count_4 (closure l) (holders l) (conflict (closure l) (holders l))) (λ _ _.
      count_bind (no_endless (endless (steps (closure l) (holders l)))) _ (count_endless (endless (steps (closure l) (holders l)))) (λ _ _.
      count_bind (rounds most_rounds n (started l)) _ (count_rounds most_rounds n (started l)) (λ s e.
      count_demand (leb (length s.constraints) max_constrained) (TooManyConstrained (length s.constraints)) _ (s, e, refl)
      (count_demand (leb (length s.classes) max_equal) (TooManyEqual (length s.classes)) _ (s, e, refl) tt)))))
