-- The items of a rule as loaded: what they leave (`load_part`), and that 4 among them is right (`items_clear`).
use Rattle.std.specs.Prelude.{◌≡◌, refl, Bool, true, false, ◌⊎◌, ℕ, suc, ◌≤◌, ◌<◌, length, leb}
use Rattle.std.proofs.Common.{sym, ap, ◌∙◌, inl, inr, arith, ltb-true}
use Rattle.std.proofs.Math.Option.{Option, none, some}
use mathlib.Core.List.{List, [], ◌∷◌, ◌++◌, Memᴰ, append_assoc, append-nil}
use Rattle.std.proofs.Math.Decide.{ℕ_discrete}
use Rattle.paper.specs.declared.Constraint.{Constraint}
use Rattle.paper.specs.declared.Item.{Item}
use Rattle.paper.specs.declared.Item.TheVariants.{Is, Equal}
use Rattle.paper.specs.declared.Refusal.TheVariants.{Unknown, Unreachable, TooManyFields}
use Rattle.paper.specs.Words.{look, put}
use Rattle.paper.specs.Numbers.{max_fields, number, done, demand}
use Rattle.paper.specs.Sites.{Sites, same_constraint, fields, child, child_count, children, known, add_all, Sound, Extends}
use Rattle.paper.specs.Inputs.{Given, Meets, MeetsItem, Matches, shape}
use Rattle.paper.specs.Loading.{Loading, constrain, load_item, load_items, no_items}
use Rattle.paper.proofs.Laws.{same_constraint_true, same_list_refl}
use Rattle.paper.proofs.Labels.{never, put_here, put_there}
use Rattle.paper.proofs.Outcomes.{done_once, bind_done, demand_done}
use Rattle.paper.proofs.Adding.{Has, extends_length, add_all_sound, add_all_extends, add_all_has}
use Rattle.paper.proofs.Tables.{Rising, put_rising}
use Rattle.meaning.specs.Places.{in_children}
use Rattle.meaning.specs.Clear.{Clear, clear_done, clear_demand, clear_then, add_all_clear}

-- ---- what holds after some items

pub record Part (items : List Item) (l : Loading) : Type 0 where
  pub sound : Sound l.sites
  pub rising : Rising 0 l.constraints
  pub has : (n : ℕ) (c : Constraint) (i : ℕ) → look l.constraints n ≡ some c → i < child_count c → Has l.sites (child n c i)
  pub con_of : (n : ℕ) (c : Constraint) → Memᴰ (Is n c) items → look l.constraints n ≡ some c
  pub of_con : (n : ℕ) (c : Constraint) → look l.constraints n ≡ some c → Memᴰ (Is n c) items
  pub eq_of : (a b : ℕ) → Memᴰ (Equal a b) items → Memᴰ (a, b) l.equalities
  pub of_eq : (a b : ℕ) → Memᴰ (a, b) l.equalities → Memᴰ (Equal a b) items
  pub named_con : (n : ℕ) (c : Constraint) → look l.constraints n ≡ some c → Memᴰ n l.named
  pub named_eq : (a b : ℕ) → Memᴰ (a, b) l.equalities → Memᴰ a l.named × Memᴰ b l.named
  pub known : (n : ℕ) → Memᴰ n l.named → n < length l.sites

pub begin_part : (t : Sites) → Sound t → Part [] (no_items t)
unfolding look
begin_part t S = record {
  sound = S;
  rising = tt;
  has = λ n c i e h. absurd (never e);
  con_of = λ n c m. elim m [ ];
  of_con = λ n c e. absurd (never e);
  eq_of = λ a b m. elim m [ ];
  of_eq = λ a b m. elim m [ ];
  named_con = λ n c e. absurd (never e);
  named_eq = λ a b m. elim m [ ];
  known = λ n m. elim m [ ];
}

not_equal : {A : Type 0} {n a b : ℕ} {c : Constraint} → Is n c ≡ Equal a b → A
not_equal e = let z : ◌≡◌ {A = ℕ} 0 1 = cc in absurd (omega arith)

pub same_constraint_refl : (c : Constraint) → same_constraint c c ≡ true
unfolding same_constraint
same_constraint_refl c = same_list_refl _

-- an equality
part_equal : (items : List Item) (l : Loading) (a b : ℕ) → Part items l → a < length l.sites → b < length l.sites →
    Part (items ++ (Equal a b ∷ []))
    (record { sites = l.sites; constraints = l.constraints; equalities = l.equalities ++ ((a, b) ∷ []); named = a ∷ b ∷ l.named })
part_equal items l a b P la lb = record {
  sound = P.sound;
  rising = P.rising;
  has = P.has;
  con_of = λ n c m. con_of n c (mathlib.Core.List.Memᴰ.append_cases items m);
  of_con = λ n c e. mathlib.Core.List.Memᴰ.append_left (Equal a b ∷ []) (P.of_con n c e);
  eq_of = λ x y m. eq_of x y (mathlib.Core.List.Memᴰ.append_cases items m);
  of_eq = λ x y m. of_eq x y (mathlib.Core.List.Memᴰ.append_cases l.equalities m);
  named_con = λ n c e. mathlib.Core.List.Memᴰ.tail (mathlib.Core.List.Memᴰ.tail (P.named_con n c e));
  named_eq = λ x y m. named_eq x y (mathlib.Core.List.Memᴰ.append_cases l.equalities m);
  known = known;
}
  where
    con_of : (n : ℕ) (c : Constraint) → Memᴰ (Is n c) items ⊎ Memᴰ (Is n c) (Equal a b ∷ []) → look l.constraints n ≡ some c
    con_of n c (inl m) = P.con_of n c m
    con_of n c (inr m) = not_equal (mathlib.Core.List.Memᴰ.eq_of_singleton m)

    eq_of : (x y : ℕ) → Memᴰ (Equal x y) items ⊎ Memᴰ (Equal x y) (Equal a b ∷ []) → Memᴰ (x, y) (l.equalities ++ ((a, b) ∷ []))
    eq_of x y (inl m) = mathlib.Core.List.Memᴰ.append_left ((a, b) ∷ []) (P.eq_of x y m)
    eq_of x y (inr m) = let e = mathlib.Core.List.Memᴰ.eq_of_singleton m in let p : x ≡ a = cc in let q : y ≡ b = cc in
        let w : Memᴰ {A = ℕ × ℕ} (x, y) ((a, b) ∷ []) = rw (p, q) (mathlib.Core.List.Memᴰ.head refl) in mathlib.Core.List.Memᴰ.append_right l.equalities w

    of_eq : (x y : ℕ) → Memᴰ (x, y) l.equalities ⊎ Memᴰ {A = ℕ × ℕ} (x, y) ((a, b) ∷ []) → Memᴰ (Equal x y) (items ++ (Equal a b ∷ []))
    of_eq x y (inl m) = mathlib.Core.List.Memᴰ.append_left (Equal a b ∷ []) (P.of_eq x y m)
    of_eq x y (inr m) =
        let e = mathlib.Core.List.Memᴰ.eq_of_singleton m in
        let p : x ≡ a = ap (λ (z : ℕ × ℕ). z.0) e in
        let q : y ≡ b = ap (λ (z : ℕ × ℕ). z.1) e in
        mathlib.Core.List.Memᴰ.append_right items (rw (p, q) (mathlib.Core.List.Memᴰ.head refl))

    named_eq : (x y : ℕ) → Memᴰ (x, y) l.equalities ⊎ Memᴰ {A = ℕ × ℕ} (x, y) ((a, b) ∷ []) →
        Memᴰ x (a ∷ b ∷ l.named) × Memᴰ y (a ∷ b ∷ l.named)
    named_eq x y (inl m) = let r = P.named_eq x y m in (mathlib.Core.List.Memᴰ.tail (mathlib.Core.List.Memᴰ.tail r.0), mathlib.Core.List.Memᴰ.tail (mathlib.Core.List.Memᴰ.tail r.1))
    named_eq x y (inr m) =
        let e = mathlib.Core.List.Memᴰ.eq_of_singleton m in
        (mathlib.Core.List.Memᴰ.head (ap (λ (z : ℕ × ℕ). z.0) e), mathlib.Core.List.Memᴰ.tail (mathlib.Core.List.Memᴰ.head (ap (λ (z : ℕ × ℕ). z.1) e)))

    known : (n : ℕ) → Memᴰ n (a ∷ b ∷ l.named) → n < length l.sites
    known n (mathlib.Core.List.Memᴰ.head e) = rw e la
    known n (mathlib.Core.List.Memᴰ.tail (mathlib.Core.List.Memᴰ.head e)) = rw e lb
    known n (mathlib.Core.List.Memᴰ.tail (mathlib.Core.List.Memᴰ.tail m)) = P.known n m

-- a constraint that the site has already
part_again : (items : List Item) (l : Loading) (s : ℕ) (c : Constraint) → Part items l → look l.constraints s ≡ some c → s < length l.sites →
    Part (items ++ (Is s c ∷ [])) (record { sites = l.sites; constraints = l.constraints; equalities = l.equalities; named = s ∷ l.named })
part_again items l s c P e ls = record {
  sound = P.sound;
  rising = P.rising;
  has = P.has;
  con_of = λ n d m. con_of n d (mathlib.Core.List.Memᴰ.append_cases items m);
  of_con = λ n d q. mathlib.Core.List.Memᴰ.append_left (Is s c ∷ []) (P.of_con n d q);
  eq_of = λ x y m. eq_of x y (mathlib.Core.List.Memᴰ.append_cases items m);
  of_eq = λ x y m. mathlib.Core.List.Memᴰ.append_left (Is s c ∷ []) (P.of_eq x y m);
  named_con = λ n d q. mathlib.Core.List.Memᴰ.tail (P.named_con n d q);
  named_eq = λ x y m. let r = P.named_eq x y m in (mathlib.Core.List.Memᴰ.tail r.0, mathlib.Core.List.Memᴰ.tail r.1);
  known = known;
}
  where
    con_of : (n : ℕ) (d : Constraint) → Memᴰ (Is n d) items ⊎ Memᴰ (Is n d) (Is s c ∷ []) → look l.constraints n ≡ some d
    con_of n d (inl q) = P.con_of n d q
    con_of n d (inr q) = let r = mathlib.Core.List.Memᴰ.eq_of_singleton q in let a : n ≡ s = cc in let b : d ≡ c = cc in rw (a, b) e

    eq_of : (x y : ℕ) → Memᴰ (Equal x y) items ⊎ Memᴰ (Equal x y) (Is s c ∷ []) → Memᴰ (x, y) l.equalities
    eq_of x y (inl q) = P.eq_of x y q
    eq_of x y (inr q) = not_equal (sym (mathlib.Core.List.Memᴰ.eq_of_singleton q))

    known : (n : ℕ) → Memᴰ n (s ∷ l.named) → n < length l.sites
    known n (mathlib.Core.List.Memᴰ.head q) = rw q ls
    known n (mathlib.Core.List.Memᴰ.tail m) = P.known n m

-- a new constraint
part_new : (items : List Item) (l : Loading) (s : ℕ) (c : Constraint) (at : ℕ) (t : Sites) → Part items l → look l.constraints s ≡ none →
    s < length l.sites → add_all l.sites at (children s c) ≡ done t →
    Part (items ++ (Is s c ∷ [])) (record { sites = t; constraints = put s c l.constraints; equalities = l.equalities; named = s ∷ l.named })
part_new items l s c at t P e ls grew = record {
  sound = add_all_sound l.sites at (children s c) t P.sound grew;
  rising = put_rising 0 s c l.constraints (omega arith) P.rising;
  has = λ n d i q h. has n d i h (new_con n d q (ℕ_discrete s n));
  con_of = λ n d q. con_of n d (mathlib.Core.List.Memᴰ.append_cases items q);
  of_con = λ n d q. of_con n d (new_con n d q (ℕ_discrete s n));
  eq_of = λ x y m. eq_of x y (mathlib.Core.List.Memᴰ.append_cases items m);
  of_eq = λ x y m. mathlib.Core.List.Memᴰ.append_left (Is s c ∷ []) (P.of_eq x y m);
  named_con = λ n d q. named n d (new_con n d q (ℕ_discrete s n));
  named_eq = λ x y m. let r = P.named_eq x y m in (mathlib.Core.List.Memᴰ.tail r.0, mathlib.Core.List.Memᴰ.tail r.1);
  known = known;
}
  where
    more : Extends l.sites t
    more = add_all_extends l.sites at (children s c) t grew

    longer : length l.sites ≤ length t
    longer = extends_length l.sites t more

    -- where a constraint comes from
    new_con : (n : ℕ) (d : Constraint) → look (put s c l.constraints) n ≡ some d → Dec (s ≡ n) → ((n ≡ s) × (d ≡ c)) ⊎ (look l.constraints n ≡ some d)
    new_con n d q (yes p) = let r : some c ≡ some d = sym (put_here n c l.constraints) ∙ (rw p at q) in let z : d ≡ c = cc in inl (sym p, z)
    new_con n d q (no p) = inr (sym (put_there s n c l.constraints p) ∙ q)

    has : (n : ℕ) (d : Constraint) (i : ℕ) → i < child_count d → ((n ≡ s) × (d ≡ c)) ⊎ (look l.constraints n ≡ some d) → Has t (child n d i)
    has n d i h (inl q) =
        let k : i < child_count c = rw q.1 at h in rw (q.0, q.1) (add_all_has l.sites at (children s c) t grew (child s c i) (in_children s c i k))
    has n d i h (inr q) = let r = P.has n d i q h in (r.0, more r.0 (child n d i) r.1)

    old_con : (n : ℕ) (d : Constraint) → look l.constraints n ≡ some d → Dec (s ≡ n) → look (put s c l.constraints) n ≡ some d
    old_con n d q (yes p) = absurd (never (sym e ∙ (ap (look l.constraints) p ∙ q)))
    old_con n d q (no p) = put_there s n c l.constraints p ∙ q

    con_of : (n : ℕ) (d : Constraint) → Memᴰ (Is n d) items ⊎ Memᴰ (Is n d) (Is s c ∷ []) → look (put s c l.constraints) n ≡ some d
    con_of n d (inl q) = old_con n d (P.con_of n d q) (ℕ_discrete s n)
    con_of n d (inr q) = let r = mathlib.Core.List.Memᴰ.eq_of_singleton q in let a : n ≡ s = cc in let b : d ≡ c = cc in rw (a, b) (put_here s c l.constraints)

    of_con : (n : ℕ) (d : Constraint) → ((n ≡ s) × (d ≡ c)) ⊎ (look l.constraints n ≡ some d) → Memᴰ (Is n d) (items ++ (Is s c ∷ []))
    of_con n d (inl q) = mathlib.Core.List.Memᴰ.append_right items (mathlib.Core.List.Memᴰ.head (let a = q.0 in let b = q.1 in cc))
    of_con n d (inr q) = mathlib.Core.List.Memᴰ.append_left (Is s c ∷ []) (P.of_con n d q)

    eq_of : (x y : ℕ) → Memᴰ (Equal x y) items ⊎ Memᴰ (Equal x y) (Is s c ∷ []) → Memᴰ (x, y) l.equalities
    eq_of x y (inl q) = P.eq_of x y q
    eq_of x y (inr q) = not_equal (sym (mathlib.Core.List.Memᴰ.eq_of_singleton q))

    named : (n : ℕ) (d : Constraint) → ((n ≡ s) × (d ≡ c)) ⊎ (look l.constraints n ≡ some d) → Memᴰ n (s ∷ l.named)
    named n d (inl q) = mathlib.Core.List.Memᴰ.head q.0
    named n d (inr q) = mathlib.Core.List.Memᴰ.tail (P.named_con n d q)

    known : (n : ℕ) → Memᴰ n (s ∷ l.named) → n < length t
    known n (mathlib.Core.List.Memᴰ.head q) = let w = longer in let z = ls in omega arith
    known n (mathlib.Core.List.Memᴰ.tail m) = let w = longer in let z = P.known n m in omega arith

-- ---- an item, all items

pub record Went (items : List Item) (l f : Loading) : Type 0 where
  pub part : Part items f
  pub extends : Extends l.sites f.sites

is_known : (t : Sites) (n : ℕ) → known t n ≡ true → n < length t
unfolding known
is_known t n e = ltb-true n (length t) e

part_item : (before : List Item) (l f : Loading) (at : ℕ) (i : Item) → Part before l → load_item l at i ≡ done f → Went (before ++ (i ∷ [])) l f
unfolding load_item
part_item before l f at (Is s c) P e =
    let x = demand_done (known l.sites s) (Unknown s) _ f e in
    let y = demand_done (leb (fields c) max_fields) (TooManyFields (fields c) at) _ f x.1 in
    go (is_known l.sites s x.0) (look l.constraints s) refl y.1
  where
    go : s < length l.sites → (o : Option Constraint) → look l.constraints s ≡ o → constrain l at s c o ≡ done f → Went (before ++ (Is s c ∷ [])) l f
    go k none q h =
        let w = bind_done (add_all l.sites at (children s c)) _ f h in
        let z = done_once w.2 in
        rw (← z) (record { part = part_new before l s c at w.0 P q k w.1; extends = add_all_extends l.sites at (children s c) w.0 w.1 })
    go k (some d) q h =
        let w = demand_done (same_constraint c d) (Unreachable s s) _ f h in
        let z = done_once w.1 in
        let v = same_constraint_true c d w.0 in
        rw (← z) (record { part = part_again before l s c P (q ∙ ap some (sym v)) k; extends = λ i u p. p })
part_item before l f at (Equal a b) P e =
    let x = demand_done (known l.sites a) (Unknown a) _ f e in
    let y = demand_done (known l.sites b) (Unknown b) _ f x.1 in
    let z = done_once y.1 in
    rw (← z) (record { part = part_equal before l a b P (is_known l.sites a x.0) (is_known l.sites b y.0); extends = λ i u p. p })

went_on : (before : List Item) (i : Item) (rest : List Item) (l l' f : Loading) → Extends l.sites l'.sites → Went ((before ++ (i ∷ [])) ++ rest) l' f →
    Went (before ++ (i ∷ rest)) l f
went_on before i rest l l' f x W = record { part = rw append_assoc at W.part; extends = λ n s q. W.extends n s (x n s q) }

pub load_part : (before items : List Item) (l f : Loading) (at : ℕ) → Part before l → load_items l at items ≡ done f → Went (before ++ items) l f
unfolding load_items
load_part before [] l f at P e = let q : l ≡ f = cc in rw (append-nil, ← q) (record { part = P; extends = λ i s h. h })
load_part before (i ∷ rest) l f at P e =
    go (λ l' P' h. load_part (before ++ (i ∷ [])) rest l' f (suc at) P' h) (bind_done (load_item l at i) (λ l'. load_items l' (suc at) rest) f e)
  where
    go : ((l' : Loading) → Part (before ++ (i ∷ [])) l' → load_items l' (suc at) rest ≡ done f → Went ((before ++ (i ∷ [])) ++ rest) l' f) →
        (l' : Loading) × (load_item l at i ≡ done l') × (load_items l' (suc at) rest ≡ done f) → Went (before ++ (i ∷ rest)) l f
    go k (l', q, h) = let w = part_item before l l' at i P q in went_on before i rest l l' f w.extends (k l' w.part h)

-- ---- 4 among the items: no values at all meet them

clash : (before : List Item) (l : Loading) (s : ℕ) (c d : Constraint) (at : Given) → Part before l → look l.constraints s ≡ some d → Matches at before →
    Meets at s c → c ≡ d
clash before l s c d at P e all m =
    let x = all (Is s d) (P.of_con s d e) in
    let xt = x.there in
    let mt = m.there in
    let v : m.value ≡ x.value = cc in
    let q : some c ≡ some d = sym m.shaped ∙ (ap shape v ∙ x.shaped) in
    cc

item_clear : (before : List Item) (l : Loading) (k : ℕ) (i : Item) (at : Given) → Part before l → Matches at before → MeetsItem at i → Clear (load_item l k i)
unfolding load_item number
item_clear before l k (Is s c) at P all m =
    clear_demand (known l.sites s) (Unknown s) _ refl
    (clear_demand (leb (fields c) max_fields) (TooManyFields (fields c) k) _ refl (given (look l.constraints s) refl))
  where
    same : (d : Constraint) → look l.constraints s ≡ some d → (b : Bool) → same_constraint c d ≡ b → Clear (demand b (Unreachable s s))
    same d q true w = clear_done tt
    same d q false w =
        let y : c ≡ d = clash before l s c d at P q all m in
        let r : same_constraint c d ≡ true = rw (← y) (same_constraint_refl c) in
        let z : ◌≡◌ {A = ℕ} 0 1 = cc in
        absurd (omega arith)

    given : (o : Option Constraint) → look l.constraints s ≡ o → Clear (constrain l k s c o)
    given none q = clear_then (add_all l.sites k (children s c)) _ (add_all_clear l.sites k (children s c)) (λ t e. clear_done _)
    given (some d) q = clear_then (demand (same_constraint c d) (Unreachable s s)) _ (same d q (same_constraint c d) refl) (λ a e. clear_done _)
item_clear before l k (Equal a b) at P all m =
    clear_demand (known l.sites a) (Unknown a) _ refl (clear_demand (known l.sites b) (Unknown b) _ refl (clear_done _))

pub items_clear : (before items : List Item) (l : Loading) (k : ℕ) (at : Given) → Part before l → Matches at (before ++ items) → Clear (load_items l k items)
unfolding load_items
items_clear before [] l k at P M = clear_done l
items_clear before (i ∷ rest) l k at P M =
    clear_then
    (load_item l k i) _ (item_clear before l k i at P (λ j m. M j (mathlib.Core.List.Memᴰ.append_left (i ∷ rest) m)) (M i (mathlib.Core.List.Memᴰ.append_right before (mathlib.Core.List.Memᴰ.head refl))))
    (λ l' e. items_clear (before ++ (i ∷ [])) rest l' (suc k) at (part_item before l l' k i P e).part (rw append_assoc M))
