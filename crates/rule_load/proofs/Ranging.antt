-- A rule whose numbers have the widths of 01's frames: its kept constraints are in range, and so are read back from the words as they were.
use mathlib.Core.Path.{◌≡◌, refl, sym, ap, ◌∙◌}
use mathlib.Core.Bool.{Bool, true, false}
use mathlib.Core.Option.{Option, none, some}
use mathlib.Core.Logic.{◌⊎◌, inl, inr, ⊎_elim}
use mathlib.Core.List.Memᴰ
use mathlib.Core.List.{List, [], ◌∷◌, map, Memᴰ}
use Prim.Native.Nat.{ℕ, zero, suc, ◌+◌, ◌*◌, ◌<◌, compare, Ordering}
use native.Mathlib.Omega.{arith}
use native.Mathlib.Nat.{not-suc-le-zero}
use lib.ListN.{length, get_or, length-map, get_or-map}
use lib.Dec.{eqb, leb}
use Rattle.paper.specs.declared.Constraint.{Constraint}
use Rattle.paper.specs.declared.Constraint.TheVariants.{Some}
use Rattle.paper.specs.declared.Item.{Item}
use Rattle.paper.specs.declared.Item.TheVariants.{Is, Equal}
use Rattle.paper.specs.declared.Refusal.TheVariants.{Unknown, Unreachable, TooManyFields}
use Rattle.paper.specs.declared.Rule.{Rule}
use Rattle.paper.specs.Words.{Table, first, joined, look, put}
use Rattle.paper.specs.Numbers.{max_fields, Outcome, done, ◌>>=◌}
use Rattle.paper.specs.Sites.{same_constraint, fields, children, known, add_all}
use Rattle.paper.specs.Loading.{written, Loading, Labels, Constraints, Solving, lowest, members, constrain, load_item, load_items, first_constrained, with_low, take_class, give_all, grow_all, round, rounds}
use Rattle.paper.proofs.Outcomes.{done_once, bind_done, demand_done}
use Rattle.paper.proofs.Labels.{never}
use Rattle.rule_words.specs.Packing.{unpack, InRange}
use Rattle.rule_words.specs.Stored.{run, handed}
use Rattle.rule_words.proofs.PackLaws.{unpack_pack}
use Rattle.rule_load.specs.Whole.{three}

abbrev pub InRanges : Constraints → Type 0
InRanges cs = (p : ℕ × Constraint) → Memᴰ p cs → InRange p.1

abbrev pub ItemFits : Item → Type 0
ItemFits (Is s c) = InRange c
ItemFits (Equal a b) = Unit {0}

-- what the types of the code allow
pub record RuleFits (r : Rule) : Type 0 where
  pub place : r.place < 4294967296
  pub priority : r.priority < 18446744073709551616
  pub items : (i : Item) → Memᴰ i (written r).items → ItemFits i

put_of : {A : Type 0} (n : ℕ) (a : A) (t : Table A) (q : ℕ × A) → Memᴰ q (put n a t) → (q ≡ (n, a)) ⊎ Memᴰ q t
unfolding put
put_of n a [] q m = inl (Memᴰ.eq_of_singleton m)
put_of {A} n a (p ∷ t) q m = go (compare n p.0) (λ j. put_of n a t q j) m
  where
    go : (o : Ordering) → (Memᴰ q (put n a t) → (q ≡ (n, a)) ⊎ Memᴰ q t) → Memᴰ q (elim o as (λ _. Table A) [ Ordering.lt ↦ (n, a) ∷ p ∷ t | Ordering.eq ↦ (n, a) ∷ t | Ordering.gt ↦ p ∷ put n a t ]) → (q ≡ (n, a)) ⊎ Memᴰ q (p ∷ t)
    go Ordering.lt f (Memᴰ.head e) = inl e
    go Ordering.lt f (Memᴰ.tail j) = inr j
    go Ordering.eq f (Memᴰ.head e) = inl e
    go Ordering.eq f (Memᴰ.tail j) = inr (Memᴰ.tail j)
    go Ordering.gt f (Memᴰ.head e) = inr (Memᴰ.head e)
    go Ordering.gt f (Memᴰ.tail j) = ⊎_elim (λ e. inl e) (λ k. inr (Memᴰ.tail k)) (f j)

put_ranged : (n : ℕ) (c : Constraint) (cs : Constraints) → InRange c → InRanges cs → InRanges (put n c cs)
put_ranged n c cs h k p m = ⊎_elim (λ (e : p ≡ (n, c)). let z : p.1 ≡ c = ap (λ (x : ℕ × Constraint). x.1) e in rw z h) (k p) (put_of n c cs p m)

-- ---- items
item_ranged : (l : Loading) (at : ℕ) (i : Item) (l' : Loading) → ItemFits i → InRanges l.constraints → load_item l at i ≡ done l' → InRanges l'.constraints
unfolding load_item
item_ranged l at (Is s c) l' h k e =
    let x = demand_done (known l.sites s) (Unknown s) _ l' e in
    let y = demand_done (leb (fields c) max_fields) (TooManyFields (fields c) at) _ l' x.1 in
    go (look l.constraints s) y.1
  where
    go : (o : Option Constraint) → constrain l at s c o ≡ done l' → InRanges l'.constraints
    go none f =
        let x = bind_done (add_all l.sites at (children s c)) _ l' f in
        let q = ap (λ (z : Loading). z.constraints) (done_once x.2) in
        rw (← q) (put_ranged s c l.constraints h k)
    go (some d) f =
        let x = demand_done (same_constraint c d) (Unreachable s s) _ l' f in
        let q = ap (λ (z : Loading). z.constraints) (done_once x.1) in
        rw (← q) k
item_ranged l at (Equal a b) l' h k e =
    let x = demand_done (known l.sites a) (Unknown a) _ l' e in
    let y = demand_done (known l.sites b) (Unknown b) _ l' x.1 in
    let q = ap (λ (z : Loading). z.constraints) (done_once y.1) in
    rw (← q) k

pub items_ranged : (l : Loading) (at : ℕ) (is : List Item) (l' : Loading) → ((i : Item) → Memᴰ i is → ItemFits i) → InRanges l.constraints → load_items l at is ≡ done l' → InRanges l'.constraints
unfolding load_items
items_ranged l at [] l' h k e = let q = ap (λ (z : Loading). z.constraints) (done_once e) in rw (← q) k
items_ranged l at (i ∷ is) l' h k e =
    let x = bind_done (load_item l at i) (λ m. load_items m (suc at) is) l' e in
    items_ranged x.0 (suc at) is l' (λ j m. h j (Memᴰ.tail m)) (item_ranged l at i x.0 (h i (Memᴰ.head refl)) k x.1) x.2

-- ---- rounds
first_in : {A : Type 0} (f : A → Bool) (l : List A) (x : A) → first f l ≡ some x → Memᴰ x l
unfolding first
first_in f [] x e = absurd (never e)
first_in {A} f (y ∷ l) x e = go (f y) (λ q. first_in f l x q) e
  where
    go : (b : Bool) → (first f l ≡ some x → Memᴰ x l) → elim b as (λ _. Option A) [ true ↦ some y | false ↦ first f l ] ≡ some x → Memᴰ x (y ∷ l)
    go true g q = let z : x ≡ y = cc in Memᴰ.head z
    go false g q = Memᴰ.tail (g q)

class_ranged : (k : Labels) (cs : Constraints) (ks : Labels) (p : ℕ × Constraint) → InRanges cs → take_class k cs ks ≡ some p → InRange p.1
unfolding take_class first_constrained
class_ranged k cs [] p h e = absurd (never e)
class_ranged k cs (q ∷ ks) p h e = go (first_constrained k cs q.1) refl (λ f. class_ranged k cs ks p h f) e
  where
    go : (o : Option (ℕ × Constraint)) → first_constrained k cs q.1 ≡ o → (take_class k cs ks ≡ some p → InRange p.1) → elim (with_low q.1 o) as (λ _. Option (ℕ × Constraint)) [ some x ↦ some x | none ↦ take_class k cs ks ] ≡ some p → InRange p.1
    go none w f r = f r
    go (some x) w f r =
        let z : p.1 ≡ x.1 = cc in
        rw z (h x (first_in (λ y. eqb (lowest k y.0) q.1) cs x w))

give_ranged : (ns : List ℕ) (c : Constraint) (cs : Constraints) → InRange c → InRanges cs → InRanges (give_all ns c cs)
unfolding give_all
give_ranged [] c cs h k = k
give_ranged (n ∷ ns) c cs h k = give_ranged ns c (put n c cs) h (put_ranged n c cs h k)

round_ranged : (s : Solving) (at low : ℕ) (c : Constraint) (r : Solving) → InRange c → InRanges s.constraints → round s at low c ≡ done r → InRanges r.constraints
unfolding round
round_ranged s at low c r h k e =
    let x = bind_done (grow_all s.sites at (members s.classes low) c) _ r e in
    let q = ap (λ (z : Solving). z.constraints) (done_once x.2) in
    rw (← q) (give_ranged (members s.classes low) c s.constraints h k)

pub rounds_ranged : (k at : ℕ) (s s' : Solving) → InRanges s.constraints → rounds k at s ≡ done s' → InRanges s'.constraints
unfolding rounds
rounds_ranged zero at s s' h e = let q = ap (λ (z : Solving). z.constraints) (done_once e) in rw (← q) h
rounds_ranged (suc k) at s s' h e = go (take_class s.classes s.constraints s.classes) refl (λ r u f. rounds_ranged k at r s' u f) e
  where
    go : (o : Option (ℕ × Constraint)) → take_class s.classes s.constraints s.classes ≡ o → ((r : Solving) → InRanges r.constraints → rounds k at r ≡ done s' → InRanges s'.constraints) → elim o as (λ _. Outcome Solving) [ none ↦ done s | some p ↦ round s at p.0 p.1 >>= rounds k at ] ≡ done s' → InRanges s'.constraints
    go none w f q = let z = ap (λ (z : Solving). z.constraints) (done_once q) in rw (← z) h
    go (some p) w f q = let x = bind_done (round s at p.0 p.1) (rounds k at) s' q in f x.0 (round_ranged s at p.0 p.1 x.0 (class_ranged s.classes s.constraints s.classes p h w) h x.1) x.2

-- ---- reading back
at_list : {A : Type 0} (l : List A) (j : ℕ) (d : A) → j < length l → Memᴰ (get_or l j d) l
at_list [] j d h = absurd (not-suc-le-zero h)
at_list (x ∷ l) zero d h = Memᴰ.head refl
at_list (x ∷ l) (suc j) d h = Memᴰ.tail (at_list l j d (omega arith))

run_is : {A : Type 0} (xs : List A) (d : A) (f : ℕ → A) (i : ℕ) → ((j : ℕ) → j < length xs → f (i + j) ≡ get_or xs j d) → run f i (length xs) ≡ xs
unfolding run
run_is [] d f i h = refl
run_is (x ∷ xs) d f i h =
    let z : i + 0 ≡ i = omega arith in
    let a : f i ≡ x = ap f (sym z) ∙ h 0 (omega arith) in
    let b = run_is xs d f (suc i) (λ j l. let e : suc i + j ≡ i + suc j = omega arith in ap f e ∙ h (suc j) (omega arith)) in
    rw (a, b)

abbrev none_held : ℕ × Constraint
none_held = (0, Some)

third_of : (cs : Constraints) (j o : ℕ) → j < length cs → o < 3 → get_or (joined (map three cs)) (3 * j + o) 0 ≡ get_or (three (get_or cs j none_held)) o 0
unfolding joined
third_of [] j o h l = absurd (not-suc-le-zero h)
third_of (p ∷ cs) zero zero h l = refl
third_of (p ∷ cs) zero (suc zero) h l = refl
third_of (p ∷ cs) zero (suc (suc zero)) h l = refl
third_of (p ∷ cs) zero (suc (suc (suc o))) h l = absurd (omega arith)
third_of (p ∷ cs) (suc j) o h l = let e : 3 * suc j + o ≡ suc (suc (suc (3 * j + o))) = omega arith in rw e (third_of cs j o (omega arith) l)

module _ (cs : Constraints) (h : InRanges cs) (es : Labels) where
  constraint_back : (j : ℕ) → j < length cs → (get_or (map (λ p. p.0) cs) j 0, unpack (get_or (joined (map three cs)) (3 * j) 0) (get_or (joined (map three cs)) (3 * j + 1) 0) (get_or (joined (map three cs)) (3 * j + 2) 0)) ≡ get_or cs j none_held
  constraint_back j l =
      let z : 3 * j ≡ 3 * j + 0 = omega arith in
      let a = ap (λ i. get_or (joined (map three cs)) i 0) z ∙ third_of cs j 0 l (omega arith) in
      let b = third_of cs j 1 l (omega arith) in
      let c = third_of cs j 2 l (omega arith) in
      let d = get_or-map (λ (p : ℕ × Constraint). p.0) cs j none_held in
      let u = unpack_pack (get_or cs j none_held).1 (h (get_or cs j none_held) (at_list cs j none_held l)) in
      rw (a, b, c, d, u)

  pub handed_is : (p q : ℕ) → handed p q (map (λ p. p.0) cs) (joined (map three cs)) (map (λ p. p.0) es) (map (λ p. p.1) es) ≡ record { place = p; priority = q; constraints = cs; equals = es }
  unfolding handed
  handed_is p q =
      let a = length-map cs (λ (p : ℕ × Constraint). p.0) in
      let b = length-map es (λ (p : ℕ × ℕ). p.0) in
      let c = run_is cs none_held (λ j. (get_or (map (λ p. p.0) cs) j 0, unpack (get_or (joined (map three cs)) (3 * j) 0) (get_or (joined (map three cs)) (3 * j + 1) 0) (get_or (joined (map three cs)) (3 * j + 2) 0))) 0 (λ j l. let e : 0 + j ≡ j = omega arith in rw e (constraint_back j l)) in
      let d = run_is es (0, 0) (λ j. (get_or (map (λ p. p.0) es) j 0, get_or (map (λ p. p.1) es) j 0)) 0 (λ j l. let e : 0 + j ≡ j = omega arith in rw (e, get_or-map (λ (p : ℕ × ℕ). p.0) es j (0, 0), get_or-map (λ (p : ℕ × ℕ). p.1) es j (0, 0))) in
      rw (a, b, c, d)
