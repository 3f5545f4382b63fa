-- From the written items over the rounds to the kept rule, with constraints and classes as functions of a site: a solved form with the same inputs.
use Rattle.std.specs.Prelude.{◌≡◌, refl, ◌↔◌, ◌⊎◌, ℕ}
use Rattle.std.proofs.Common.{sym, ap, ◌∙◌, inl, inr}
use Rattle.std.proofs.Math.Option.{Option, none, some}
use mathlib.Core.List.{List, Memᴰ}
use Rattle.std.proofs.Math.Decide.{ℕ_discrete}
use Rattle.paper.specs.Inputs.{Meets, Agree, MeetsItem, Matches, Given}
use Rattle.paper.specs.declared.Constraint.{Constraint}
use Rattle.paper.specs.declared.Item.{Item}
use Rattle.paper.specs.declared.Item.TheVariants.{Is, Equal}
use Rattle.meaning.specs.Values.{proj_at, field_of_proj_at}
use Rattle.meaning.specs.Kinds.{Kind, Places, Reads, Fulfils, Held, class_same}
use Rattle.meaning.specs.Model.{Rooted, top, under, Solved, model_exists, forced_shape, forced_equal}
use Rattle.meaning.specs.Round.{Grown, State, Left, old, kids, self, back, via, Round, rooted_has, round_same}

-- ---- a round keeps what a state promises

-- the constraint of a site stays
con_stays : (kid : ℕ → Constraint → ℕ → ℕ) (con : ℕ → Option Constraint) (rep : ℕ → ℕ) (con' : ℕ → Option Constraint) (rep' : ℕ → ℕ) (low : ℕ)
    (c : Constraint) → Round kid con rep con' rep' low c → (n : ℕ) (d : Constraint) → con n ≡ some d → con' n ≡ some d
con_stays kid con rep con' rep' low c R n d e = go (ℕ_discrete (rep n) (rep low))
  where
    go : Dec (rep n ≡ rep low) → con' n ≡ some d
    go (yes q) = R.con_in n q ∙ ap some (sym (R.uniform n d q e))
    go (no q) = R.con_out n q ∙ e

pub rooted_stays : (kind : ℕ → Kind) (con con' : ℕ → Option Constraint) → ((n : ℕ) (d : Constraint) → con n ≡ some d → con' n ≡ some d) → (n : ℕ) →
    Rooted kind con n → Rooted kind con' n
rooted_stays kind con con' h n (top e) = top e
rooted_stays kind con con' h n (under m p c i e f g) = under m p c i e (h m c f) g

module _ (kind : ℕ → Kind) (kid : ℕ → Constraint → ℕ → ℕ) (con : ℕ → Option Constraint) (rep : ℕ → ℕ) (con' : ℕ → Option Constraint) (rep' : ℕ → ℕ) (low : ℕ)
    (c : Constraint)
    (R : Round kid con rep con' rep' low c) (S : State kind con kid rep) (G : Grown kind con' kid) where
  stays : (n : ℕ) → Rooted kind con n → Rooted kind con' n
  stays = rooted_stays kind con con' (con_stays kid con rep con' rep' low c R)

  -- two sites that a round leaves joined are one, or both rooted
  left_rooted : {a b : ℕ} → Left kid rep low c a b → (a ≡ b) ⊎ (Rooted kind con' a × Rooted kind con' b)
  left_rooted (old {a = a} {b = b} e q) = go (ℕ_discrete a b)
    where
      go : Dec (a ≡ b) → (a ≡ b) ⊎ (Rooted kind con' a × Rooted kind con' b)
      go (yes p) = inl p
      go (no p) = inr (stays a (S.joined_rooted a b e p), stays b (S.joined_rooted b a (sym e) (λ k. p (sym k))))
  left_rooted (kids {n = n} i e h) = inr (one low refl, one n e)
    where
      one : (n : ℕ) → rep n ≡ rep low → Rooted kind con' (kid n c i)
      one n e = under n (proj_at c i) c i (G.kids n c i (R.con_in n e) h) (R.con_in n e) (field_of_proj_at c i h)
  left_rooted self = inl refl
  left_rooted (back h) = go (left_rooted h)
    where
      go : {a b : ℕ} → (a ≡ b) ⊎ (Rooted kind con' a × Rooted kind con' b) → (b ≡ a) ⊎ (Rooted kind con' b × Rooted kind con' a)
      go (inl p) = inl (sym p)
      go (inr p) = inr (p.1, p.0)
  left_rooted (via h k) = go (left_rooted h) (left_rooted k)
    where
      go : {a b d : ℕ} → (a ≡ b) ⊎ (Rooted kind con' a × Rooted kind con' b) → (b ≡ d) ⊎ (Rooted kind con' b × Rooted kind con' d) →
          (a ≡ d) ⊎ (Rooted kind con' a × Rooted kind con' d)
      go (inl p) (inl q) = inl (p ∙ q)
      go {a} {b} {d} (inl p) (inr q) = inr (rw p q.0, q.1)
      go {a} {b} {d} (inr p) (inl q) = inr (p.0, rw (sym q) p.1)
      go (inr p) (inr q) = inr (p.0, q.1)

  pub state_after : State kind con' kid rep'
  state_after = record {
    grown = G;
    rooted = λ n d e. con_case n d e (ℕ_discrete (rep n) (rep low));
    joined_rooted = λ a b e p. go a b p (left_rooted (R.only a b e));
  }
    where
      go : (a b : ℕ) → (a ≡ b → ⊥) → (a ≡ b) ⊎ (Rooted kind con' a × Rooted kind con' b) → Rooted kind con' a
      go a b p (inl q) = absurd (p q)
      go a b p (inr q) = q.0

      -- a member of the dissolved class is the constrained one that was seen, or was joined with it
      member : (n : ℕ) → rep n ≡ rep low → Dec (n ≡ R.seen) → Rooted kind con n
      member n q (yes p) = rw p (S.rooted R.seen c R.seen_con)
      member n q (no p) = S.joined_rooted n R.seen (q ∙ sym R.seen_in) p

      con_case : (n : ℕ) (d : Constraint) → con' n ≡ some d → Dec (rep n ≡ rep low) → Rooted kind con' n
      con_case n d e (yes q) = stays n (member n q (ℕ_discrete n R.seen))
      con_case n d e (no q) = stays n (S.rooted n d (sym (R.con_out n q) ∙ e))

-- ---- the rounds, all over the last table

pub data Rounds (kind : ℕ → Kind) (kid : ℕ → Constraint → ℕ → ℕ) : (ℕ → Option Constraint) → (ℕ → ℕ) → (ℕ → Option Constraint) → (ℕ → ℕ) → Type 0 where
  no_more : {con : ℕ → Option Constraint} {rep : ℕ → ℕ} → Rounds kind kid con rep con rep
  one_more : {con con₁ con₂ : ℕ → Option Constraint} {rep rep₁ rep₂ : ℕ → ℕ} (low : ℕ) (c : Constraint) → Round kid con rep con₁ rep₁ low c →
      Grown kind con₁ kid → Rounds kind kid con₁ rep₁ con₂ rep₂ → Rounds kind kid con rep con₂ rep₂

pub rounds_state : {kind : ℕ → Kind} {kid : ℕ → Constraint → ℕ → ℕ} {con con' : ℕ → Option Constraint} {rep rep' : ℕ → ℕ} → Rounds kind kid con rep con' rep' →
    State kind con kid rep → State kind con' kid rep'
rounds_state no_more S = S
rounds_state {kind} {kid} (one_more {con = con} {con₁ = con₁} {rep = rep} {rep₁ = rep₁} low c R G N) S =
    rounds_state N (state_after kind kid con rep con₁ rep₁ low c R S G)

pub rounds_same : {kind : ℕ → Kind} {kid : ℕ → Constraint → ℕ → ℕ} {con con' : ℕ → Option Constraint} {rep rep' : ℕ → ℕ} → Rounds kind kid con rep con' rep' →
    State kind con kid rep → (at : Given) → Reads kind at → Fulfils at con (Held rep) ↔ Fulfils at con' (Held rep')
rounds_same no_more S at I = (λ m. m, λ m. m)
rounds_same {kind} {kid} (one_more {con = con} {con₁ = con₁} {rep = rep} {rep₁ = rep₁} low c R G N) S at I =
    let S₁ = state_after kind kid con rep con₁ rep₁ low c R S G in
    let one = round_same kind kid con rep con₁ rep₁ low c R at I S₁ in
    let rest = rounds_same N S₁ at I in
    (λ m. rest.0 (one.0 m), λ m. one.1 (rest.1 m))

-- ---- the written items

-- the equivalence of the written equalities
pub data Wrote (items : List Item) : ℕ → ℕ → Type 0 where
  given : {a b : ℕ} → Memᴰ (Equal a b) items → Wrote items a b
  self_w : {a : ℕ} → Wrote items a a
  back_w : {a b : ℕ} → Wrote items a b → Wrote items b a
  via_w : {a b d : ℕ} → Wrote items a b → Wrote items b d → Wrote items a d

-- what loading leaves of items that passed 4 (of one site) and 5
pub record Loaded (kind : ℕ → Kind) (items : List Item) (con : ℕ → Option Constraint) (rep : ℕ → ℕ) : Type 0 where
  pub con_of : (n : ℕ) (c : Constraint) → Memᴰ (Is n c) items → con n ≡ some c
  pub of_con : (n : ℕ) (c : Constraint) → con n ≡ some c → Memᴰ (Is n c) items
  pub joined : (a b : ℕ) → Memᴰ (Equal a b) items → rep a ≡ rep b
  pub only : (a b : ℕ) → rep a ≡ rep b → Wrote items a b
  pub named : (a b : ℕ) → Memᴰ (Equal a b) items → Rooted kind con a × Rooted kind con b

module _ (kind : ℕ → Kind) (kid : ℕ → Constraint → ℕ → ℕ) (items : List Item) (con : ℕ → Option Constraint) (rep : ℕ → ℕ) (L : Loaded kind items con rep)
    (S : State kind con kid rep) (at : Given) (I : Reads kind at) where
  wrote_same : (h : (i : Item) → Memᴰ i items → MeetsItem at i) {a b : ℕ} → Wrote items a b → at a ≡ at b
  wrote_same h (given {a = a} {b = b} m) = let g = h (Equal a b) m in g.one ∙ sym g.other
  wrote_same h self_w = refl
  wrote_same h (back_w w) = sym (wrote_same h w)
  wrote_same h (via_w w v) = wrote_same h w ∙ wrote_same h v

  pub written_same : Matches at items ↔ Fulfils at con (Held rep)
  written_same = (forth, back_to)
    where
      forth : Matches at items → Fulfils at con (Held rep)
      forth h =
          let k : (n : ℕ) (c : Constraint) → con n ≡ some c → Meets at n c = λ n c e. h (Is n c) (L.of_con n c e) in
          record {
            meets = k;
            agrees = λ a b q.
                let x = rooted_has kind con at I k a (S.joined_rooted a b q.same q.two) in
                record { value = x.0; one = x.1; other = sym (wrote_same h (L.only a b q.same)) ∙ x.1 };
          }

      one_item : Fulfils at con (Held rep) → (i : Item) → Memᴰ i items → MeetsItem at i
      one_item M (Is n c) m = M.meets n c (L.con_of n c m)
      one_item M (Equal a b) m =
          let x = rooted_has kind con at I M.meets a (L.named a b m).0 in
          record { value = x.0; one = x.1; other = sym (class_same con rep at M a b (L.joined a b m)) ∙ x.1 }

      back_to : Fulfils at con (Held rep) → Matches at items
      back_to M = one_item M

-- ---- demand 3, of a kept rule

pub record Kept (kind : ℕ → Kind) (room : ℕ) (kid : ℕ → Constraint → ℕ → ℕ) (items : List Item) (con : ℕ → Option Constraint) (rep : ℕ → ℕ) : Type 0 where
  pub con₀ : ℕ → Option Constraint
  pub rep₀ : ℕ → ℕ
  pub table : Places kind room
  pub loaded : Loaded kind items con₀ rep₀
  pub start : State kind con₀ kid rep₀
  pub rounds : Rounds kind kid con₀ rep₀ con rep
  pub ended : (a b : ℕ) → rep a ≡ rep b → (a ≡ b → ⊥) → con a ≡ none

module _ {kind : ℕ → Kind} {room : ℕ} {kid : ℕ → Constraint → ℕ → ℕ} {items : List Item} {con : ℕ → Option Constraint} {rep : ℕ → ℕ}
    (K : Kept kind room kid items con rep) where
  pub solved : Solved kind con kid rep
  solved = let S = rounds_state K.rounds K.start in
      record { kids = S.grown.kids; rooted = S.rooted; joined_rooted = S.joined_rooted; joined_free = K.ended }

  pub kept_same : (at : Given) → Reads kind at → Matches at items ↔ Fulfils at con (Held rep)
  kept_same at I =
      let w = written_same kind kid items K.con₀ K.rep₀ K.loaded K.start at I in
      let r = rounds_same K.rounds K.start at I in
      (λ m. r.0 (w.0 m), λ m. w.1 (r.1 m))

  pub kept_matched : (at : Given) × Reads kind at × Matches at items
  kept_matched = let m = model_exists kind room con kid rep K.table solved in (m.0, m.1, (kept_same m.0 m.1).1 m.2)

  pub kept_shape : (n : ℕ) (c : Constraint) → (con n ≡ some c) ↔ ((at : Given) → Reads kind at → Matches at items → Meets at n c)
  kept_shape n c = (
    λ e at I m. ((kept_same at I).0 m).meets n c e,
    λ h. forced_shape kind room con kid rep K.table solved n c (λ at I m. h at I ((kept_same at I).1 m)),
  )

  pub kept_equal : (a b : ℕ) → (a ≡ b → ⊥) → con a ≡ none → con b ≡ none → Held rep a b ↔ ((at : Given) → Reads kind at → Matches at items → Agree at a b)
  kept_equal a b ne e f = (
    λ k at I m. ((kept_same at I).0 m).agrees a b k,
    λ h. forced_equal kind room con kid rep K.table solved a b ne e f (λ at I m. h at I ((kept_same at I).1 m)),
  )
