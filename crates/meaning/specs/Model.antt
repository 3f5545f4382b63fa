-- Every solved form has a matching input, and one that forces nothing which the form does not say.
use Rattle.std.specs.Prelude.{◌≡◌}
use Rattle.std.proofs.Math.Path.{refl, sym, ap}
use Rattle.std.proofs.Common.{◌∙◌, arith}
use Rattle.std.proofs.Math.Option.{Option, none, some}
use Prim.Native.Nat.{ℕ, zero, suc, ◌+◌, ◌≤◌, ◌<◌}
use Rattle.paper.specs.Inputs.{Value, int, shape, and_then, value_at, Meets, Agree, Given}
use Rattle.paper.specs.declared.Constraint.{Constraint}
use Rattle.paper.specs.declared.Constraint.TheVariants.{ConstInt}
use Rattle.paper.specs.Sites.{child_count}
use Rattle.paper.proofs.Labels.{never}
use Rattle.meaning.specs.Values.{Proj, make, proj_at, field_of, field, tab, count_tab, at_tab, tab_ext, shape_make, field_make, field_of_inv}
use Rattle.meaning.specs.Kinds.{Kind, outside, free, child_of, Places, Reads, Fulfils, Held}

-- A named child site is a child of a constrained one (check 5).
pub data Rooted (kind : ℕ → Kind) (con : ℕ → Option Constraint) (n : ℕ) : Type 0 where
  top : kind n ≡ free → Rooted kind con n
  under : (m : ℕ) (p : Proj) (c : Constraint) (i : ℕ) → kind n ≡ child_of m p → con m ≡ some c → field_of c p ≡ some i → Rooted kind con n

-- A solved form: constraints whose children are all in the table, and classes (a representative for each site, its own for a lone one)
-- that hold no constrained site beside another.
pub record Solved (kind : ℕ → Kind) (con : ℕ → Option Constraint) (kid : ℕ → Constraint → ℕ → ℕ) (rep : ℕ → ℕ) : Type 0 where
  pub kids : (n : ℕ) (c : Constraint) (i : ℕ) → con n ≡ some c → i < child_count c → kind (kid n c i) ≡ child_of n (proj_at c i)
  pub rooted : (n : ℕ) (c : Constraint) → con n ≡ some c → Rooted kind con n
  pub joined_rooted : (a b : ℕ) → rep a ≡ rep b → (a ≡ b → ⊥) → Rooted kind con a
  pub joined_free : (a b : ℕ) → rep a ≡ rep b → (a ≡ b → ⊥) → con a ≡ none

-- ---- the values: an unconstrained site's is a number of its class, at the type t; a constrained site's is its shape over its children's

leaf : ℕ → ℕ → Value
leaf t r = int t 0 r

gen : (ℕ → Option Constraint) → (ℕ → Constraint → ℕ → ℕ) → (ℕ → ℕ) → ℕ → ℕ → ℕ → Value
gen con kid rep t zero n = leaf t (rep n)
gen con kid rep t (suc k) n = elim (con n) [
  | none ↦ leaf t (rep n)
  | some c ↦ make c (tab (child_count c) (λ i. gen con kid rep t k (kid n c i)))
]

-- a child's value, if its source has it as a child
abbrev placed : Option Constraint → Proj → Value → Option Value
placed none p x = none
placed (some c) p x = and_then (field_of c p) (λ i. some x)

abbrev placed_at : (ℕ → Option Constraint) → Kind → Value → Option Value
placed_at con outside x = none
placed_at con free x = some x
placed_at con (child_of m p) x = placed (con m) p x

placed_plain : (o : Option Constraint) (q : Proj) (x : Value) (p : Proj) → field p x ≡ none → and_then (placed o q x) (field p) ≡ none
placed_plain none q x p e = refl
placed_plain (some c) q x p e = go (field_of c q)
  where
    go : (o : Option ℕ) → and_then (and_then o (λ i. some x)) (field p) ≡ none
    go none = refl
    go (some i) = e

placed_at_plain : (con : ℕ → Option Constraint) (k : Kind) (x : Value) (p : Proj) → field p x ≡ none → and_then (placed_at con k x) (field p) ≡ none
placed_at_plain con outside x p e = refl
placed_at_plain con free x p e = e
placed_at_plain con (child_of m q) x p e = placed_plain (con m) q x p e

placed_is : (o : Option Constraint) (q : Proj) (x y : Value) → placed o q x ≡ some y → y ≡ x
placed_is none q x y e = absurd (never e)
placed_is (some c) q x y e = go (field_of c q) e
  where
    go : (o : Option ℕ) → and_then o (λ i. some x) ≡ some y → y ≡ x
    go none e = absurd (never e)
    go (some i) e = cc

placed_at_is : (con : ℕ → Option Constraint) (k : Kind) (x y : Value) → placed_at con k x ≡ some y → y ≡ x
placed_at_is con outside x y e = absurd (never e)
placed_at_is con free x y e = cc
placed_at_is con (child_of m q) x y e = placed_is (con m) q x y e

module _ (con : ℕ → Option Constraint) (kid : ℕ → Constraint → ℕ → ℕ) (rep : ℕ → ℕ) (t : ℕ) where
  gen_none : (k n : ℕ) → con n ≡ none → gen con kid rep t k n ≡ leaf t (rep n)
  unfolding gen
  gen_none zero n e = refl
  gen_none (suc k) n e = rw (e, gen)

  gen_some : (k n : ℕ) (c : Constraint) → con n ≡ some c → gen con kid rep t (suc k) n ≡ make c (tab (child_count c) (λ i. gen con kid rep t k (kid n c i)))
  unfolding gen
  gen_some k n c e = rw (e, gen)

-- more fuel changes nothing, once there is enough to reach the end of the table
module _ (kind : ℕ → Kind) (room : ℕ) (con : ℕ → Option Constraint) (kid : ℕ → Constraint → ℕ → ℕ) (rep : ℕ → ℕ) (T : Places kind room)
    (S : Solved kind con kid rep) (t : ℕ) where
  rooted_inside : (n : ℕ) → Rooted kind con n → n < room
  rooted_inside n (top e) = T.inside n (λ d. let z : ◌≡◌ {A = ℕ} 0 1 = cc in omega arith)
  rooted_inside n (under m p c i e f g) = T.inside n (λ d. let z : ◌≡◌ {A = ℕ} 0 1 = cc in omega arith)

  gen_more : (k n : ℕ) (o : Option Constraint) → con n ≡ o → room ≤ k + n → gen con kid rep t k n ≡ gen con kid rep t (suc k) n
  gen_more zero n none e h = gen_none con kid rep t 0 n e ∙ sym (gen_none con kid rep t 1 n e)
  gen_more (suc k) n none e h = gen_none con kid rep t (suc k) n e ∙ sym (gen_none con kid rep t (suc (suc k)) n e)
  gen_more zero n (some c) e h = let l = rooted_inside n (S.rooted n c e) in absurd (omega arith)
  gen_more (suc k) n (some c) e h =
      gen_some con kid rep t k n c e
      ∙ ap (make c) (tab_ext (child_count c) _ _ (λ i b.
      let j = kid n c i in
      let l = T.lower j n (proj_at c i) (S.kids n c i e b) in
      gen_more k j (con j) refl (omega arith)))
      ∙ sym (gen_some con kid rep t (suc k) n c e)

  -- the value of each site that has one, and the input
  the : ℕ → Value
  the n = gen con kid rep t (suc room) n

  at : Given
  at n = placed_at con (kind n) (the n)

  the_none : (n : ℕ) → con n ≡ none → the n ≡ leaf t (rep n)
  unfolding the
  the_none n e = gen_none con kid rep t (suc room) n e

  the_some : (n : ℕ) (c : Constraint) → con n ≡ some c → the n ≡ make c (tab (child_count c) (λ i. the (kid n c i)))
  unfolding the
  the_some n c e =
      gen_some con kid rep t room n c e ∙ ap (make c) (tab_ext (child_count c) _ _ (λ i b. gen_more room (kid n c i) (con (kid n c i)) refl (omega arith)))

  the_shape : (n : ℕ) (c : Constraint) → con n ≡ some c → shape (the n) ≡ some c
  the_shape n c e = rw (the_some n c e) (shape_make c _ (count_tab (child_count c) _)).0

  at_rooted : (n : ℕ) → Rooted kind con n → at n ≡ some (the n)
  unfolding at
  at_rooted n (top e) = rw e
  at_rooted n (under m p c i e f g) = rw (e, f, g)

  -- the field of a constrained site's value
  the_field : (m : ℕ) (c : Constraint) (p : Proj) → con m ≡ some c → field p (the m) ≡ and_then (field_of c p) (λ i. some (the (kid m c i)))
  the_field m c p e = rw (the_some m c e) (field_make c p _ (count_tab (child_count c) _) ∙ go (field_of c p) refl)
    where
      go : (o : Option ℕ) → field_of c p ≡ o →
          and_then (field_of c p) (value_at (tab (child_count c) (λ i. the (kid m c i)))) ≡ and_then (field_of c p) (λ i. some (the (kid m c i)))
      go none d = rw d
      go (some i) d = rw d (at_tab (child_count c) _ i (field_of_inv c p i d).1)

  -- an unconstrained site's value has no field
  the_plain : (m : ℕ) (p : Proj) → con m ≡ none → and_then (at m) (field p) ≡ none
  unfolding at leaf shape
  the_plain m p e = placed_at_plain con (kind m) (the m) p (rw (the_none m e) refl)

  at_child : (n m : ℕ) (p : Proj) → kind n ≡ child_of m p → at n ≡ and_then (at m) (field p)
  at_child n m p e = go (con m) refl
    where
      -- the child that the table has there is n: no site stands twice
      is_kid : (c : Constraint) (i : ℕ) → con m ≡ some c → field_of c p ≡ some i → n ≡ kid m c i
      is_kid c i f g = let v = field_of_inv c p i g in T.once n (kid m c i) m p e (let k = S.kids m c i f v.1 in cc v.0)

      same : (c : Constraint) (o : Option ℕ) → con m ≡ some c → field_of c p ≡ o →
          and_then (field_of c p) (λ i. some (the n)) ≡ and_then (field_of c p) (λ i. some (the (kid m c i)))
      same c none f g = rw g
      same c (some i) f g = rw g (ap (λ x. some (the x)) (is_kid c i f g))

      go : (o : Option Constraint) → con m ≡ o → at n ≡ and_then (at m) (field p)
      go none f = unfold at in (rw (e, f)) ∙ sym (the_plain m p f)
      go (some c) f =
          unfold at in (rw (e, f))
          ∙ (same c (field_of c p) f refl ∙ sym (the_field m c p f))
          ∙ rw (at_rooted m (S.rooted m c f))

  input : Reads kind at
  input = record { free_has = λ n e. (the n, at_rooted n (top e)); child_has = at_child }

  matches : Fulfils at con (Held rep)
  matches = record {
    meets = λ n c e. record { value = the n; there = at_rooted n (S.rooted n c e); shaped = the_shape n c e };
    agrees = λ a b h.
        let ba : b ≡ a → ⊥ = λ e. h.two (sym e) in
        let pa = the_none a (S.joined_free a b h.same h.two) in
        let pb = the_none b (S.joined_free b a (sym h.same) ba) in
        let q : the b ≡ the a = pb ∙ ap (leaf t) (sym h.same) ∙ sym pa in
        record {
          value = the a;
          one = at_rooted a (S.joined_rooted a b h.same h.two);
          other = at_rooted b (S.joined_rooted b a (sym h.same) ba) ∙ ap some q;
        };
  }

  -- what the input says of an unconstrained site
  at_is : (n : ℕ) (x : Value) → at n ≡ some x → x ≡ the n
  unfolding at
  at_is n x e = placed_at_is con (kind n) (the n) x e

  plain_equal : (a b : ℕ) → con a ≡ none → con b ≡ none → Agree at a b → rep a ≡ rep b
  unfolding leaf
  plain_equal a b e f h =
      let q : int t 0 (rep a) ≡ int t 0 (rep b) = sym (the_none a e) ∙ (sym (at_is a h.value h.one) ∙ (at_is b h.value h.other ∙ the_none b f)) in
      cc

  plain_shape : (n : ℕ) (c : Constraint) → con n ≡ none → Meets at n c → c ≡ ConstInt t 0 (rep n)
  unfolding leaf shape
  plain_shape n c e h =
      let q : h.value ≡ leaf t (rep n) = at_is n h.value h.there ∙ the_none n e in
      let s : some c ≡ some (ConstInt t 0 (rep n)) = sym h.shaped ∙ ap shape q in
      cc

-- ---- the theorem, of a table and a solved form

module _ (kind : ℕ → Kind) (room : ℕ) (con : ℕ → Option Constraint) (kid : ℕ → Constraint → ℕ → ℕ) (rep : ℕ → ℕ) (T : Places kind room)
    (S : Solved kind con kid rep) where
  -- some finite input matches it
  pub model_exists : (at : Given) × Reads kind at × Fulfils at con (Held rep)
  model_exists = (at kind room con kid rep T S 0, input kind room con kid rep T S 0, matches kind room con kid rep T S 0)

  -- a shape that every matching input has at a site is the constraint there
  pub forced_shape : (n : ℕ) (c : Constraint) → ((at : Given) → Reads kind at → Fulfils at con (Held rep) → Meets at n c) → con n ≡ some c
  forced_shape n c h = go (con n) refl
    where
      in_model : (t : ℕ) → Meets (at kind room con kid rep T S t) n c
      in_model t = h (at kind room con kid rep T S t) (input kind room con kid rep T S t) (matches kind room con kid rep T S t)

      go : (o : Option Constraint) → con n ≡ o → con n ≡ some c
      go none e =
          let p = plain_shape kind room con kid rep T S 0 n c e (in_model 0) in
          let q = plain_shape kind room con kid rep T S 1 n c e (in_model 1) in
          let z : ◌≡◌ {A = ℕ} 0 1 = cc in
          absurd (omega arith)
      go (some d) e =
          let m = in_model 0 in
          let v = at_is kind room con kid rep T S 0 n m.value m.there in
          let s = the_shape kind room con kid rep T S 0 n d e in
          let u : some d ≡ some c = sym s ∙ (ap shape (sym v) ∙ m.shaped) in
          e ∙ u

  -- two unconstrained sites that every matching input makes equal are held equal
  pub forced_equal : (a b : ℕ) → (a ≡ b → ⊥) → con a ≡ none → con b ≡ none → ((at : Given) → Reads kind at → Fulfils at con (Held rep) → Agree at a b) →
      Held rep a b
  forced_equal a b ne e f h =
      record {
        same = plain_equal kind room con kid rep T S 0 a b e f
            (h (at kind room con kid rep T S 0) (input kind room con kid rep T S 0) (matches kind room con kid rep T S 0));
        two = ne;
      }
