-- A rule whose classes hold no differing constraints and go round in no circle has a matching input: each class has one value, of the shape of its
-- constrained members over the values of their children's classes, or an integer of its own.
use Rattle.std.specs.Prelude.{◌≡◌}
use Rattle.std.proofs.Math.Path.{refl, ap}
use Rattle.std.proofs.Common.{sym, ◌∙◌, arith}
use Rattle.std.proofs.Math.Option.{Option, none, some}
use Prim.Native.Nat.{ℕ, zero, suc, ◌<◌}
use Rattle.paper.specs.Inputs.{Value, int, and_then, Given}
use Rattle.paper.specs.declared.Constraint.{Constraint}
use Rattle.paper.specs.Sites.{child_count}
use Rattle.meaning.specs.Values.{Proj, make, proj_at, field_of, field, tab, count_tab, at_tab, tab_ext, shape_make, field_make, field_of_inv}
use Rattle.meaning.specs.Kinds.{Kind, free, child_of, Places, Reads, Fulfils}
use Rattle.meaning.specs.Model.{Rooted, top, under}
use Rattle.meaning.specs.Eval.{value_of, value_of_free, value_of_child, value_of_input}

-- Classes by representative, a member `boss` of each that is constrained if any is, and a height that falls from a class to its children's
pub record Ordered (kind : ℕ → Kind) (con : ℕ → Option Constraint) (kid : ℕ → Constraint → ℕ → ℕ) (rep boss height : ℕ → ℕ) : Type 0 where
  pub kids : (n : ℕ) (c : Constraint) (i : ℕ) → con n ≡ some c → i < child_count c → kind (kid n c i) ≡ child_of n (proj_at c i)
  pub rooted : (n : ℕ) (c : Constraint) → con n ≡ some c → Rooted kind con n
  pub uniform : (n : ℕ) (c : Constraint) → con n ≡ some c → con (boss (rep n)) ≡ some c
  pub boss_in : (n : ℕ) (c : Constraint) → con (boss (rep n)) ≡ some c → rep (boss (rep n)) ≡ rep n
  pub joins : (n m : ℕ) (c : Constraint) (i : ℕ) → rep n ≡ rep m → con n ≡ some c → con m ≡ some c → i < child_count c → rep (kid n c i) ≡ rep (kid m c i)
  pub falls : (n : ℕ) (c : Constraint) (i : ℕ) → con n ≡ some c → i < child_count c → height (rep (kid n c i)) < height (rep n)

gen : (ℕ → Option Constraint) → (ℕ → Constraint → ℕ → ℕ) → (ℕ → ℕ) → (ℕ → ℕ) → ℕ → ℕ → ℕ → Value
gen con kid rep boss t zero r = int t 0 r
gen con kid rep boss t (suc k) r = elim (con (boss r)) [
  | none ↦ int t 0 r
  | some c ↦ make c (tab (child_count c) (λ i. gen con kid rep boss t k (rep (kid (boss r) c i))))
]

-- the value of each class, and of each free site: computed with no proof in hand
pub class_value : (ℕ → Option Constraint) → (ℕ → Constraint → ℕ → ℕ) → (ℕ → ℕ) → (ℕ → ℕ) → (ℕ → ℕ) → ℕ → ℕ → Value
class_value con kid rep boss height t r = gen con kid rep boss t (suc (height r)) r

pub free_value : (ℕ → Option Constraint) → (ℕ → Constraint → ℕ → ℕ) → (ℕ → ℕ) → (ℕ → ℕ) → (ℕ → ℕ) → ℕ → ℕ → Value
free_value con kid rep boss height t n = class_value con kid rep boss height t (rep n)

module _ (con : ℕ → Option Constraint) (kid : ℕ → Constraint → ℕ → ℕ) (rep boss : ℕ → ℕ) (t : ℕ) where
  gen_none : (k r : ℕ) → con (boss r) ≡ none → gen con kid rep boss t k r ≡ int t 0 r
  unfolding gen
  gen_none zero r e = refl
  gen_none (suc k) r e = rw (e, gen)

  gen_some : (k r : ℕ) (c : Constraint) → con (boss r) ≡ some c →
      gen con kid rep boss t (suc k) r ≡ make c (tab (child_count c) (λ i. gen con kid rep boss t k (rep (kid (boss r) c i))))
  unfolding gen
  gen_some k r c e = rw (e, gen)

module _ (kind : ℕ → Kind) (room : ℕ) (con : ℕ → Option Constraint) (kid : ℕ → Constraint → ℕ → ℕ) (rep boss height : ℕ → ℕ) (T : Places kind room)
    (S : Ordered kind con kid rep boss height) (t : ℕ) where
  -- two amounts of fuel above a class's height give one value
  gen_agree : (k j n : ℕ) (o : Option Constraint) → con (boss (rep n)) ≡ o → height (rep n) < k → height (rep n) < j →
      gen con kid rep boss t k (rep n) ≡ gen con kid rep boss t j (rep n)
  gen_agree zero j n o e h l = absurd (omega arith)
  gen_agree (suc k) zero n o e h l = absurd (omega arith)
  gen_agree (suc k) (suc j) n none e h l = gen_none con kid rep boss t (suc k) (rep n) e ∙ sym (gen_none con kid rep boss t (suc j) (rep n) e)
  gen_agree (suc k) (suc j) n (some c) e h l =
      gen_some con kid rep boss t k (rep n) c e
      ∙ (ap (make c) (tab_ext (child_count c) _ _ (λ i b.
      let q = S.boss_in n c e in
      let f : height (rep (kid (boss (rep n)) c i)) < height (rep n) = rw q at (S.falls (boss (rep n)) c i e b) in
      gen_agree k j (kid (boss (rep n)) c i) (con (boss (rep (kid (boss (rep n)) c i)))) refl (omega arith) (omega arith)))
      ∙ sym (gen_some con kid rep boss t j (rep n) c e))

  abbrev the : ℕ → Value
  the r = class_value con kid rep boss height t r

  abbrev values : ℕ → Value
  values n = free_value con kid rep boss height t n

  the_some : (n : ℕ) (c : Constraint) → con n ≡ some c → the (rep n) ≡ make c (tab (child_count c) (λ i. the (rep (kid n c i))))
  unfolding class_value
  the_some n c e =
      let b = S.uniform n c e in
      let q = S.boss_in n c b in
      gen_some con kid rep boss t (height (rep n)) (rep n) c b
      ∙ ap (make c) (tab_ext (child_count c) _ _ (λ i l.
      let d = kid (boss (rep n)) c i in
      let j : rep d ≡ rep (kid n c i) = S.joins (boss (rep n)) n c i q b e l in
      let f : height (rep d) < height (rep n) = rw q at (S.falls (boss (rep n)) c i b l) in
      gen_agree (height (rep n)) (suc (height (rep d))) d (con (boss (rep d))) refl f (omega arith) ∙ ap (λ r. gen con kid rep boss t (suc (height r)) r) j))

  -- the field of a constrained site's value
  the_field : (m : ℕ) (c : Constraint) (p : Proj) (i : ℕ) → con m ≡ some c → field_of c p ≡ some i → field p (the (rep m)) ≡ some (the (rep (kid m c i)))
  the_field m c p i e g = rw (the_some m c e) (field_make c p _ (count_tab (child_count c) _) ∙ rw g (at_tab (child_count c) _ i (field_of_inv c p i g).1))

  abbrev pub at : Given
  at = value_of kind values

  free_at : (n : ℕ) → kind n ≡ free → at n ≡ some (the (rep n))
  unfolding free_value
  free_at n e = value_of_free kind values n e

  -- every named site has its class's value
  at_rooted : (k n : ℕ) → n < k → Rooted kind con n → at n ≡ some (the (rep n))
  at_rooted zero n h r = absurd (omega arith)
  at_rooted (suc k) n h (top e) = free_at n e
  at_rooted (suc k) n h (under m p c i e f g) =
      let v = field_of_inv c p i g in
      let l = T.lower n m p e in
      let w : kid m c i ≡ n = T.once (kid m c i) n m p (let q = S.kids m c i f v.1 in cc v.0) e in
      value_of_child kind values T.lower n m p e
      ∙ (ap (λ x. and_then x (field p)) (at_rooted k m (omega arith) (S.rooted m c f))
      ∙ (the_field m c p i f g ∙ ap (λ x. some (the (rep x))) w))

  pub input : Reads kind at
  input = value_of_input kind values T.lower

  -- a rule whose equalities stay within the classes, and name rooted sites only, is matched
  pub matches : (Eq : ℕ → ℕ → Type 0) → ((a b : ℕ) → Eq a b → (rep a ≡ rep b) × Rooted kind con a × Rooted kind con b) → Fulfils at con Eq
  matches Eq h = record {
    meets = λ n c e. record {
      value = the (rep n);
      there = at_rooted (suc n) n (omega arith) (S.rooted n c e);
      shaped = rw (the_some n c e) (shape_make c _ (count_tab (child_count c) _)).0;
    };
    agrees = λ a b q.
        let k = h a b q in
        record {
          value = the (rep a);
          one = at_rooted (suc a) a (omega arith) k.1;
          other = at_rooted (suc b) b (omega arith) k.2 ∙ ap (λ r. some (the r)) (sym k.0);
        };
  }
