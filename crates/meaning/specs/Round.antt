-- One round of normalising keeps the set of matching inputs.
use Rattle.std.specs.Prelude.{◌≡◌, refl, ◌↔◌, ℕ, ◌<◌}
use Rattle.std.proofs.Common.{sym, ap, ◌∙◌}
use Rattle.std.proofs.Math.Option.{Option, some}
use Rattle.std.proofs.Math.Decide.{ℕ_discrete}
use Rattle.paper.specs.Inputs.{Value, and_then, Meets, Agree, Given}
use Rattle.paper.specs.declared.Constraint.{Constraint}
use Rattle.paper.specs.Sites.{child_count}
use Rattle.meaning.specs.Values.{proj_at, field, field_has, field_ext}
use Rattle.meaning.specs.Kinds.{Kind, child_of, Reads, Fulfils, Held, class_same}
use Rattle.meaning.specs.Model.{Rooted, top, under}

-- the children of the constrained sites are in the table
pub record Grown (kind : ℕ → Kind) (con : ℕ → Option Constraint) (kid : ℕ → Constraint → ℕ → ℕ) : Type 0 where
  pub kids : (n : ℕ) (c : Constraint) (i : ℕ) → con n ≡ some c → i < child_count c → kind (kid n c i) ≡ child_of n (proj_at c i)

-- A state between rounds: constraints, and classes by representative. Its children are in the table; what it names is rooted.
pub record State (kind : ℕ → Kind) (con : ℕ → Option Constraint) (kid : ℕ → Constraint → ℕ → ℕ) (rep : ℕ → ℕ) : Type 0 where
  pub grown : Grown kind con kid
  pub rooted : (n : ℕ) (c : Constraint) → con n ≡ some c → Rooted kind con n
  pub joined_rooted : (a b : ℕ) → rep a ≡ rep b → (a ≡ b → ⊥) → Rooted kind con a

-- the equivalence that a round leaves: the other classes, and the children of the dissolved class's members joined with its lowest's
pub data Left (kid : ℕ → Constraint → ℕ → ℕ) (rep : ℕ → ℕ) (low : ℕ) (c : Constraint) : ℕ → ℕ → Type 0 where
  old : {a b : ℕ} → rep a ≡ rep b → (rep a ≡ rep low → ⊥) → Left kid rep low c a b
  kids : {n : ℕ} (i : ℕ) → rep n ≡ rep low → i < child_count c → Left kid rep low c (kid low c i) (kid n c i)
  self : {a : ℕ} → Left kid rep low c a a
  back : {a b : ℕ} → Left kid rep low c a b → Left kid rep low c b a
  via : {a b d : ℕ} → Left kid rep low c a b → Left kid rep low c b d → Left kid rep low c a d

-- one round: the class of `low`, which holds the constrained site `seen`, is dissolved
pub record Round (kid : ℕ → Constraint → ℕ → ℕ) (con : ℕ → Option Constraint) (rep : ℕ → ℕ) (con' : ℕ → Option Constraint) (rep' : ℕ → ℕ) (low : ℕ)
    (c : Constraint) : Type 0 where
  pub seen : ℕ
  pub seen_in : rep seen ≡ rep low
  pub seen_con : con seen ≡ some c
  pub uniform : (n : ℕ) (d : Constraint) → rep n ≡ rep low → con n ≡ some d → d ≡ c
  pub con_in : (n : ℕ) → rep n ≡ rep low → con' n ≡ some c
  pub con_out : (n : ℕ) → (rep n ≡ rep low → ⊥) → con' n ≡ con n
  pub joined : (a b : ℕ) → Left kid rep low c a b → rep' a ≡ rep' b
  pub only : (a b : ℕ) → rep' a ≡ rep' b → Left kid rep low c a b

-- in a matching input every rooted site has a value
pub rooted_has : (kind : ℕ → Kind) (con : ℕ → Option Constraint) (at : Given) → Reads kind at → ((n : ℕ) (c : Constraint) → con n ≡ some c → Meets at n c) →
    (n : ℕ) → Rooted kind con n → (x : Value) × (at n ≡ some x)
rooted_has kind con at I M n (top e) = I.free_has n e
rooted_has kind con at I M n (under m p c i e f g) =
    let x = M m c f in
    let y = field_has c x.value p i x.shaped g in
    (y.0, I.child_has n m p e ∙ rw x.there y.1)

module _ (kind : ℕ → Kind) (kid : ℕ → Constraint → ℕ → ℕ) (con : ℕ → Option Constraint) (rep : ℕ → ℕ) (con' : ℕ → Option Constraint) (rep' : ℕ → ℕ) (low : ℕ)
    (c : Constraint)
    (R : Round kid con rep con' rep' low c) (at : Given) (I : Reads kind at) where
  module _ (S' : State kind con' kid rep') where
    kid_at : (n : ℕ) (i : ℕ) → rep n ≡ rep low → i < child_count c → at (kid n c i) ≡ and_then (at n) (field (proj_at c i))
    kid_at n i e h = I.child_has (kid n c i) n (proj_at c i) (S'.grown.kids n c i (R.con_in n e) h)

    module _ (M : Fulfils at con (Held rep)) where
      meets_after : (n : ℕ) (d : Constraint) → con' n ≡ some d → Meets at n d
      meets_after n d e = go (ℕ_discrete (rep n) (rep low))
        where
          go : Dec (rep n ≡ rep low) → Meets at n d
          go (yes q) =
              let x = M.meets R.seen c R.seen_con in
              let s = class_same con rep at M n R.seen (q ∙ sym R.seen_in) in
              let f : some c ≡ some d = sym (R.con_in n q) ∙ e in
              record { value = x.value; there = s ∙ x.there; shaped = x.shaped ∙ f }
          go (no q) = M.meets n d (sym (R.con_out n q) ∙ e)

      left_same : {a b : ℕ} → Left kid rep low c a b → at a ≡ at b
      left_same (old {a = a} {b = b} e q) = class_same con rep at M a b e
      left_same (kids {n = n} i e h) =
          kid_at low i refl h ∙ (ap (λ o. and_then o (field (proj_at c i))) (class_same con rep at M low n (sym e)) ∙ sym (kid_at n i e h))
      left_same self = refl
      left_same (back h) = sym (left_same h)
      left_same (via h k) = left_same h ∙ left_same k

      forth : Fulfils at con' (Held rep')
      forth = record {
        meets = meets_after;
        agrees = λ a b h.
            let x = rooted_has kind con' at I meets_after a (S'.joined_rooted a b h.same h.two) in
            record { value = x.0; one = x.1; other = sym (left_same (R.only a b h.same)) ∙ x.1 };
      }

    module _ (M : Fulfils at con' (Held rep')) where
      meets_before : (n : ℕ) (d : Constraint) → con n ≡ some d → Meets at n d
      meets_before n d e = go (ℕ_discrete (rep n) (rep low))
        where
          go : Dec (rep n ≡ rep low) → Meets at n d
          go (yes q) = M.meets n d (R.con_in n q ∙ ap some (sym (R.uniform n d q e)))
          go (no q) = M.meets n d (R.con_out n q ∙ e)

      -- the members of the dissolved class have one shape and the same children, so the same value
      members : (a b : ℕ) → rep a ≡ rep low → rep b ≡ rep low → Agree at a b
      members a b p q =
          let x = M.meets a c (R.con_in a p) in
          let y = M.meets b c (R.con_in b q) in
          let same : x.value ≡ y.value = field_ext c x.value y.value x.shaped y.shaped (λ i h.
          let r : rep' (kid a c i) ≡ rep' (kid b c i) = R.joined (kid a c i) (kid b c i) (via (back (kids i p h)) (kids i q h)) in
          let k = class_same con' rep' at M (kid a c i) (kid b c i) r in
          let ka = kid_at a i p h in
          let kb = kid_at b i q h in
          rw x.there at (sym ka) ∙ k ∙ (rw y.there at kb)) in
          record { value = x.value; one = x.there; other = y.there ∙ ap some (sym same) }

      back_to : Fulfils at con (Held rep)
      back_to = record {
        meets = meets_before;
        agrees = λ a b h. pick a b h (ℕ_discrete (rep a) (rep low));
      }
        where
          pick : (a b : ℕ) → Held rep a b → Dec (rep a ≡ rep low) → Agree at a b
          pick a b h (yes q) = members a b q (sym h.same ∙ q)
          pick a b h (no q) = M.agrees a b (record { same = R.joined a b (old h.same q); two = h.two })

    -- the theorem: the round matches the same inputs
    pub round_same : Fulfils at con (Held rep) ↔ Fulfils at con' (Held rep')
    round_same = (forth, back_to)
