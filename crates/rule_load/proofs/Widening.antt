-- What a rule does to its set's table, whatever the table: it appends new sites, children of sites that are there, and never passes max-sites; its
-- constraints stay ascending, as many as the items at most; its classes are of sites. (paper's Fair says more, of sound tables.)
use mathlib.Core.Path.{◌≡◌, refl, sym, ap, ◌∙◌}
use mathlib.Core.Option.{Option, none, some}
use mathlib.Core.Logic.{◌⊎◌, inl, inr, ⊎_elim}
use mathlib.Core.List.Memᴰ
use mathlib.Core.List.{List, [], ◌∷◌, ◌++◌, append_assoc, append-nil, Memᴰ}
use Prim.Native.Nat.{ℕ, zero, suc, ◌+◌, ◌*◌, ◌≤◌, ◌<◌}
use native.Mathlib.Omega.{arith}
use lib.ListN.{length, length-append}
use lib.Dec.{leb}
use borrow.Author.Tests.{ltb-true, leb-true}
use Rattle.paper.specs.declared.Constraint.{Constraint}
use Rattle.paper.specs.declared.Item.{Item}
use Rattle.paper.specs.declared.Item.TheVariants.{Is, Equal}
use Rattle.paper.specs.declared.Refusal.TheVariants.{Unknown, Unreachable, TooManyFields}
use Rattle.paper.specs.Words.{Table, or_else, look}
use Rattle.paper.specs.Numbers.{max_sites, max_fields, Outcome, done, ◌>>=◌}
use Rattle.paper.specs.Sites.{Site, Sites, sources, same_constraint, fields, child, child_count, children, known, child_number, Added, add, add_all}
use Rattle.paper.specs.Loading.{Loading, Labels, Solving, join_all, members, others, dissolve, like_children, constrain, load_item, load_items, grow_all, join_children, round, rounds, take_class, started}
use Rattle.paper.proofs.Laws.{taken, next_is, There, Fresh}
use Rattle.paper.proofs.Outcomes.{done_once, bind_done, demand_done}
use Rattle.paper.proofs.Adding.{get_inside, Numbered, here, nowhere, numbered}
use Rattle.paper.proofs.Closure.{of_below}
use Rattle.paper.proofs.Tables.{Rising, put_rising, in_look, Fine, none_fine, join_all_fine, dissolve_fine}
use Rattle.site_body.proofs.Tables.{laid}
use Rattle.sites.specs.Slots.{no_site}
use Rattle.sites.proofs.After.{Storable, AllStorable, Grows}
use Rattle.rule_items.proofs.Numbering.{length_all}
use Rattle.rule_items.proofs.Stepping.{few_children}
use Rattle.class_labels.specs.Rows.{below_length}
use Rattle.rule_rounds.proofs.RoundGive.{put_long}

-- ---- new sites
pub record NewSite (s : Site) : Type 0 where
  pub storable : Storable s
  pub low : (m : ℕ) → Memᴰ m (sources s) → m < max_sites

pub record Widens (t u : Sites) : Type 0 where
  pub more : List Site
  pub is : u ≡ t ++ more
  pub new : (s : Site) → Memᴰ s more → NewSite s
  pub fits : length u ≤ max_sites

all_storable : (ss : List Site) → ((s : Site) → Memᴰ s ss → NewSite s) → AllStorable ss
all_storable [] h = tt
all_storable (s ∷ ss) h = ((h s (Memᴰ.head refl)).storable, all_storable ss (λ x m. h x (Memᴰ.tail m)))

pub widens_grows : (t u : Sites) → Widens t u → Grows t u
widens_grows t u w = record { more = w.more; is = w.is; kept = all_storable w.more w.new }

pub widens_none : (t : Sites) → length t ≤ max_sites → Widens t t
widens_none t h = record { more = []; is = sym (append-nil t); new = λ s m. elim m [ ]; fits = h }

pub widens_both : (t u v : Sites) → Widens t u → Widens u v → Widens t v
widens_both t u v a b = record {
  more = a.more ++ b.more;
  is = b.is ∙ (ap (λ x. x ++ b.more) a.is ∙ append_assoc t a.more b.more);
  new = λ s m. ⊎_elim (a.new s) (b.new s) (Memᴰ.append_cases a.more m);
  fits = b.fits;
}

add_widens : (t : Sites) (at : ℕ) (s : Site) (a : Added) → length t ≤ max_sites → add t at s ≡ done a → Widens t a.sites
unfolding sources
add_widens t at s a h e = let k = taken t at s a e in ⊎_elim (λ (x : There t s a). rw x.sites (widens_none t h)) fresh (next_is t at s a k.next)
  where
    fresh : Fresh t s a → Widens t a.sites
    fresh f =
        let k = taken t at s a e in
        let d = laid s in
        let m = d.many in
        let l = d.fits (let w = k.few in omega arith) in
        let r : s ≡ no_site → ⊥ = λ q. let x : Memᴰ 65535 (sources s) = rw q (Memᴰ.head refl) in let y = k.lower 65535 x in omega arith in
        let n : NewSite s = record { storable = record { fits = let w = k.few in omega arith; real = r }; low = λ i j. let y = k.lower i j in omega arith } in
        record { more = s ∷ []; is = f.sites; new = λ x j. let z = Memᴰ.eq_of_singleton j in rw z n; fits = rw (f.sites, length-append) (let w = f.room in omega arith) }

add_all_widens : (t : Sites) (at : ℕ) (ss : List Site) (u : Sites) → length t ≤ max_sites → add_all t at ss ≡ done u → Widens t u
unfolding add_all
add_all_widens t at [] u h e = let q = done_once e in rw (← q) (widens_none t h)
add_all_widens t at (s ∷ ss) u h e =
    let x = bind_done (add t at s) (λ a. add_all a.sites at ss) u e in
    let w = add_widens t at s x.0 h x.1 in
    widens_both t x.0.sites u w (add_all_widens x.0.sites at ss u w.fits x.2)

-- ---- items

-- after k items at most, over the table t
pub record Passed (t : Sites) (k : ℕ) (l : Loading) : Type 0 where
  pub widens : Widens t l.sites
  pub rising : Rising 0 l.constraints
  pub few : length l.constraints ≤ k
  pub grown : length l.sites ≤ length t + max_fields * k
  pub equal : (p : ℕ × ℕ) → Memᴰ p l.equalities → (p.0 < max_sites) × (p.1 < max_sites)

item_passed : (t : Sites) (k : ℕ) (l : Loading) (at : ℕ) (i : Item) (l' : Loading) → Passed t k l → load_item l at i ≡ done l' → Passed t (suc k) l'
unfolding load_item known children
item_passed t k l at (Is s c) l' P e =
    let x = demand_done (known l.sites s) (Unknown s) _ l' e in
    let y = demand_done (leb (fields c) max_fields) (TooManyFields (fields c) at) _ l' x.1 in
    go (few_children c (leb-true (fields c) max_fields y.0)) (look l.constraints s) y.1
  where
    go : child_count c ≤ max_fields → (o : Option Constraint) → constrain l at s c o ≡ done l' → Passed t (suc k) l'
    go n none f =
        let x = bind_done (add_all l.sites at (children s c)) _ l' f in
        let u = length_all l.sites at (children s c) x.0 x.1 in
        let v = below_length (child_count c) (child s c) in
        let w = P.grown in
        let q = done_once x.2 in
        let h = put_long s c l.constraints in
        let g = P.few in
        rw (← q) (record {
          widens = widens_both t l.sites x.0 P.widens (add_all_widens l.sites at (children s c) x.0 P.widens.fits x.1);
          rising = put_rising 0 s c l.constraints (omega arith) P.rising;
          few = omega arith;
          grown = omega arith;
          equal = P.equal;
        })
    go n (some d) f =
        let x = demand_done (same_constraint c d) (Unreachable s s) _ l' f in
        let q = done_once x.1 in
        let g = P.few in
        let w = P.grown in
        rw (← q) (record { widens = P.widens; rising = P.rising; few = omega arith; grown = omega arith; equal = P.equal })
item_passed t k l at (Equal a b) l' P e =
    let x = demand_done (known l.sites a) (Unknown a) _ l' e in
    let y = demand_done (known l.sites b) (Unknown b) _ l' x.1 in
    let q = done_once y.1 in
    let ha = ltb-true a (length l.sites) x.0 in
    let hb = ltb-true b (length l.sites) y.0 in
    let g = P.few in
    let w = P.grown in
    rw (← q) (record { widens = P.widens; rising = P.rising; few = omega arith; grown = omega arith; equal = λ p m. go ha hb p (Memᴰ.append_cases l.equalities m) })
  where
    go : a < length l.sites → b < length l.sites → (p : ℕ × ℕ) → Memᴰ p l.equalities ⊎ Memᴰ p ((a, b) ∷ []) → (p.0 < max_sites) × (p.1 < max_sites)
    go ha hb p (inl m) = P.equal p m
    go ha hb p (inr m) = let z = Memᴰ.eq_of_singleton m in let f = P.widens.fits in rw z (omega arith, omega arith)

pub items_passed : (t : Sites) (k : ℕ) (l : Loading) (at : ℕ) (is : List Item) (l' : Loading) → Passed t k l → load_items l at is ≡ done l' → Passed t (k + length is) l'
unfolding load_items
items_passed t k l at [] l' P e = let q = done_once e in let z : k + 0 ≡ k = omega arith in rw (← q, z) P
items_passed t k l at (i ∷ is) l' P e =
    let x = bind_done (load_item l at i) (λ m. load_items m (suc at) is) l' e in
    let z : k + suc (length is) ≡ suc k + length is = omega arith in
    rw z (items_passed t (suc k) x.0 (suc at) is l' (item_passed t k l at i x.0 P x.1) x.2)

-- ---- rounds

abbrev pub In : ℕ → Type 0
In n = n < max_sites

pub record Turned (t : Sites) (s : Solving) : Type 0 where
  pub widens : Widens t s.sites
  pub classes : Fine In s.classes

child_in : (t : Sites) (s : ℕ) (c : Constraint) (i : ℕ) → length t ≤ max_sites → child_number t s c i < max_sites
unfolding child_number
child_in t s c i h = go (numbered t (child s c i))
  where
    go : {o : Option ℕ} → Numbered t (child s c i) o → or_else o 0 < max_sites
    go (here e) = let z = get_inside t _ (child s c i) e in omega arith
    go (nowhere f) = omega arith

children_in : (t : Sites) (low : ℕ) (c : Constraint) (ns : List ℕ) (k : Labels) → length t ≤ max_sites → Fine In k → Fine In (join_children t low c ns k)
unfolding join_children like_children
children_in t low c [] k h F = F
children_in t low c (n ∷ ns) k h F = children_in t low c ns (join_all k (like_children t low n c)) h (join_all_fine k (like_children t low n c) pair F)
  where
    pair : (p : ℕ × ℕ) → Memᴰ p (like_children t low n c) → In p.0 × In p.1
    pair p q = let r = of_below (child_count c) (λ i. (child_number t low c i, child_number t n c i)) p q in rw r.2 (child_in t low c r.0 h, child_in t n c r.0 h)

grow_widens : (t : Sites) (at : ℕ) (ns : List ℕ) (c : Constraint) (u : Sites) → length t ≤ max_sites → grow_all t at ns c ≡ done u → Widens t u
unfolding grow_all
grow_widens t at [] c u h e = let q = done_once e in rw (← q) (widens_none t h)
grow_widens t at (n ∷ ns) c u h e =
    let x = bind_done (add_all t at (children n c)) (λ v. grow_all v at ns c) u e in
    let w = add_all_widens t at (children n c) x.0 h x.1 in
    widens_both t x.0 u w (grow_widens x.0 at ns c u w.fits x.2)

round_turned : (t : Sites) (s : Solving) (at low : ℕ) (c : Constraint) (s' : Solving) → Turned t s → round s at low c ≡ done s' → Turned t s'
unfolding round
round_turned t s at low c s' T e =
    let x = bind_done (grow_all s.sites at (members s.classes low) c) _ s' e in
    let q = done_once x.2 in
    let w = grow_widens s.sites at (members s.classes low) c x.0 T.widens.fits x.1 in
    rw (← q) (record {
      widens = widens_both t s.sites x.0 T.widens w;
      classes = children_in x.0 low c (others s.classes low) (dissolve s.classes low) w.fits (dissolve_fine s.classes low T.classes (λ n v f d. T.classes.within n v f));
    })

pub rounds_turned : (k : ℕ) (t : Sites) (at : ℕ) (s s' : Solving) → Turned t s → rounds k at s ≡ done s' → Turned t s'
unfolding rounds
rounds_turned zero t at s s' T e = let q = done_once e in rw (← q) T
rounds_turned (suc k) t at s s' T e = go (take_class s.classes s.constraints s.classes) (λ r U f. rounds_turned k t at r s' U f) e
  where
    go : (o : Option (ℕ × Constraint)) → ((r : Solving) → Turned t r → rounds k at r ≡ done s' → Turned t s') → elim o as (λ _. Outcome Solving) [ none ↦ done s | some p ↦ round s at p.0 p.1 >>= rounds k at ] ≡ done s' → Turned t s'
    go none f q = let z = done_once q in rw (← z) T
    go (some p) f q = let x = bind_done (round s at p.0 p.1) (rounds k at) s' q in f x.0 (round_turned t s at p.0 p.1 x.0 T x.1) x.2

pub started_turned : (t : Sites) (k : ℕ) (l : Loading) → Passed t k l → Turned t (started l)
started_turned t k l P = record { widens = P.widens; classes = join_all_fine [] l.equalities P.equal none_fine }

-- ascending numbers below b are at most b
rising_few : {A : Type 0} (n b : ℕ) (t : Table A) → Rising n t → ((p : ℕ × A) → Memᴰ p t → p.0 < b) → n ≤ b → n + length t ≤ b
rising_few n b [] r h l = omega arith
rising_few n b (p ∷ t) r h l =
    let a = h p (Memᴰ.head refl) in
    let q = r.0 in
    let z = rising_few (suc p.0) b t r.1 (λ x m. h x (Memᴰ.tail m)) (omega arith) in
    omega arith

pub classes_few : (k : Labels) → Fine In k → length k ≤ max_sites
classes_few k F = let z = rising_few 0 max_sites k F.rising (λ p m. F.within p.0 p.1 (in_look 0 k p F.rising m)) (omega arith) in omega arith
