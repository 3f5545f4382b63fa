-- A round as it is computed is a `Round`: the class is dissolved, its members get the constraint, and pairs of children are joined.
use Rattle.std.specs.Prelude.{◌≡◌, refl, ℕ, ◌<◌}
use Rattle.std.proofs.Common.{sym, ap, ◌∙◌}
use Rattle.std.proofs.Math.Option.{Option, some}
use mathlib.Core.List.{List, Memᴰ}
use Rattle.std.proofs.Math.Decide.{ℕ_discrete}
use Rattle.paper.specs.declared.Constraint.{Constraint}
use Rattle.paper.specs.Sites.{child_count}
use Rattle.paper.proofs.Joins as J
use Rattle.meaning.specs.Round.{Left, old, kids, self, back, via, Round}
use Rattle.meaning.specs.Joining.{apart, apart_in, apart_out, apart_lowest}

-- the pairs that are joined: the lowest member's children with the like-numbered children of the others
pub record Pairs (kid : ℕ → Constraint → ℕ → ℕ) (rep : ℕ → ℕ) (low : ℕ) (c : Constraint) (ps : List (ℕ × ℕ)) : Type 0 where
  pub each : (n i : ℕ) → rep n ≡ low → (n ≡ low → ⊥) → i < child_count c → Memᴰ (kid low c i, kid n c i) ps
  pub none_else : (p : ℕ × ℕ) → Memᴰ p ps → (n : ℕ) × (i : ℕ) × (rep n ≡ low) × (i < child_count c) × (p ≡ (kid low c i, kid n c i))

module _ (kid : ℕ → Constraint → ℕ → ℕ) (con con' : ℕ → Option Constraint) (rep : ℕ → ℕ) (low : ℕ) (c : Constraint) (ps : List (ℕ × ℕ)) (L : J.Lowest rep)
    (is_low : rep low ≡ low) (P : Pairs kid rep low c ps)
    (seen : ℕ) (seen_in : rep seen ≡ low) (seen_con : con seen ≡ some c) (uniform : (n : ℕ) (d : Constraint) → rep n ≡ low → con n ≡ some d → d ≡ c)
    (con_in : (n : ℕ) → rep n ≡ low → con' n ≡ some c) (con_out : (n : ℕ) → (rep n ≡ low → ⊥) → con' n ≡ con n) where
  joins : {a b : ℕ} → Left kid rep low c a b → J.joined_by ps (apart rep low) a ≡ J.joined_by ps (apart rep low) b
  joins (old {a = a} {b = b} e q) =
      J.joined_by_keeps ps (apart rep low) a b (apart_out rep low a (λ k. q (k ∙ sym is_low)) ∙ (e ∙ sym (apart_out rep low b (λ k. q (e ∙ (k ∙ sym is_low))))))
  joins (kids {n = n} i e h) = go (ℕ_discrete n low)
    where
      go : Dec (n ≡ low) → J.joined_by ps (apart rep low) (kid low c i) ≡ J.joined_by ps (apart rep low) (kid n c i)
      go (yes q) = rw q refl
      go (no q) = J.joined_by_joins ps (apart rep low) (kid low c i, kid n c i) (P.each n i (e ∙ is_low) q h)
  joins self = refl
  joins (back l) = sym (joins l)
  joins (via l k) = joins l ∙ joins k

  before_left : (a b : ℕ) → apart rep low a ≡ apart rep low b → Dec (rep a ≡ low) → Dec (rep b ≡ low) → Left kid rep low c a b
  before_left a b e (yes p) (yes q) = let z : a ≡ b = sym (apart_in rep low a p) ∙ (e ∙ apart_in rep low b q) in rw z self
  before_left a b e (yes p) (no q) =
      let z : a ≡ rep b = sym (apart_in rep low a p) ∙ (e ∙ apart_out rep low b q) in absurd (q (sym (L.idem b) ∙ (ap rep (sym z) ∙ p)))
  before_left a b e (no p) (yes q) =
      let z : rep a ≡ b = sym (apart_out rep low a p) ∙ (e ∙ apart_in rep low b q) in absurd (p (sym (L.idem a) ∙ (ap rep z ∙ q)))
  before_left a b e (no p) (no q) = old (sym (apart_out rep low a p) ∙ (e ∙ apart_out rep low b q)) (λ k. p (k ∙ is_low))

  to_left : {a b : ℕ} → J.Gen (J.Base (apart rep low) ps) a b → Left kid rep low c a b
  to_left (J.base {a = a} {b = b} (J.before e)) = before_left a b e (ℕ_discrete (rep a) low) (ℕ_discrete (rep b) low)
  to_left (J.base {a = a} {b = b} (J.listed p m f g)) =
      let r = P.none_else p m in
      let n = r.0 in
      let i = r.1 in
      let ea : a ≡ kid low c i = f ∙ ap (λ x. x.0) r.4 in
      let eb : b ≡ kid n c i = g ∙ ap (λ x. x.1) r.4 in
      rw (ea, eb) (kids {n = n} i (r.2 ∙ sym is_low) r.3)
  to_left J.self = self
  to_left (J.back g) = back (to_left g)
  to_left (J.via g h) = via (to_left g) (to_left h)

  pub round_is : Round kid con rep con' (J.joined_by ps (apart rep low)) low c
  round_is = record {
    seen = seen;
    seen_in = seen_in ∙ sym is_low;
    seen_con = seen_con;
    uniform = λ n d e f. uniform n d (e ∙ is_low) f;
    con_in = λ n e. con_in n (e ∙ is_low);
    con_out = λ n e. con_out n (λ q. e (q ∙ sym is_low));
    joined = λ a b l. joins l;
    only = λ a b e. to_left (J.joined_by_only ps (apart rep low) (apart_lowest rep low L) a b e);
  }
