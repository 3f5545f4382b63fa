-- Laws of `Leads`, and what a find answers where it holds.
use mathlib.Core.Path.{◌≡◌, refl, sym, ◌∙◌, ap, subst}
use mathlib.Core.List.{List}
use Prim.Native.Nat.{ℕ, zero, suc, ◌+◌, ◌≤◌, ◌<◌}
use native.Mathlib.Omega.{arith}
use native.Mathlib.Decide.{ℕ_discrete}
use Rattle.std.specs.declared.option.Option.TheVariants.{None, Some}
use Rattle.paper.specs.Numbers.{max_sites}
use Rattle.paper.specs.Classes.{up, trail, seek, find_in}
use Rattle.classes.specs.Well.{log_sites, Leads, Well, rank}
use Rattle.classes.proofs.Steps.{seek_out, seek_root, seek_step}

pub seek_leads : (n k : ℕ) (p : List ℕ) (x r l : ℕ) → n < k → Leads n p x r → seek k p x l ≡ trail (Some r) (l + n)
seek_leads zero zero p x r l h t = absurd (omega arith)
seek_leads zero (suc k) p x r l h t =
    let e : l ≡ l + 0 = omega arith in
    seek_root p x k l t.0 t.1 ∙ (rw t.2 (ap (trail (Some r)) e))
seek_leads (suc n) zero p x r l h t = absurd (omega arith)
seek_leads (suc n) (suc k) p x r l h t =
    let e : (l + 1) + n ≡ l + suc n = omega arith in
    seek_step p x k l t.0 t.1 ∙ seek_leads n k p (up p x) r (l + 1) (omega arith) t.2 ∙ ap (trail (Some r)) e

pub find_leads : (n : ℕ) (p : List ℕ) (x r : ℕ) → n < max_sites → Leads n p x r → find_in p x ≡ trail (Some r) n
unfolding find_in
find_leads n p x r h t = let e : 0 + n ≡ n = omega arith in seek_leads n max_sites p x r 0 h t ∙ ap (trail (Some r)) e

pub find_out : (p : List ℕ) (x : ℕ) → max_sites ≤ x → find_in p x ≡ trail None 0
unfolding find_in
find_out p x h = seek_out p x max_sites 0 h

-- a site with no parent
pub find_none : (p : List ℕ) (x : ℕ) → x < max_sites → max_sites ≤ up p x → find_in p x ≡ trail None 0
unfolding find_in
find_none p x h g = seek_step p x _ 0 h (λ e. omega arith) ∙ seek_out p (up p x) _ 1 g

pub one_root : (n m : ℕ) (p : List ℕ) (x r s : ℕ) → Leads n p x r → Leads m p x s → (r ≡ s) × (n ≡ m)
one_root zero zero p x r s t u = (sym t.2 ∙ u.2, refl)
one_root zero (suc m) p x r s t u = absurd (u.1 t.1)
one_root (suc n) zero p x r s t u = absurd (t.1 u.1)
one_root (suc n) (suc m) p x r s t u = let i = one_root n m p (up p x) r s t.2 u.2 in (i.0, ap suc i.1)

pub is_root : (n : ℕ) (p : List ℕ) (x r : ℕ) → Leads n p x r → (r < max_sites) × (up p r ≡ r)
is_root zero p x r t = subst (λ (y : ℕ). (y < max_sites) × (up p y ≡ y)) t.2 (t.0, t.1)
is_root (suc n) p x r t = is_root n p (up p x) r t.2

module _ (p R : List ℕ) (c : ℕ) (W : Well p R c) where
  climbs : (d x : ℕ) → x < max_sites → up p x < max_sites → log_sites ≤ rank R x + d → (n : ℕ) × (r : ℕ) × Leads n p x r × (n + rank R x ≤ rank R r)
  climbs zero x h j g = go (ℕ_discrete (up p x) x)
    where
      go : Dec (up p x ≡ x) → (n : ℕ) × (r : ℕ) × Leads n p x r × (n + rank R x ≤ rank R r)
      go (yes e) = (0, x, (h, e, refl), omega arith)
      go (no d) = absurd (omega (arith, W.rise x h j d, W.low (up p x) j (W.closed x h j)))
  climbs (suc d) x h j g = go (λ a b q. climbs d (up p x) a b q) (ℕ_discrete (up p x) x)
    where
      go : (up p x < max_sites → up p (up p x) < max_sites → log_sites ≤ rank R (up p x) + d → (n : ℕ) × (r : ℕ) × Leads n p (up p x) r × (n + rank R (up p x) ≤ rank R r))
          → Dec (up p x ≡ x) → (n : ℕ) × (r : ℕ) × Leads n p x r × (n + rank R x ≤ rank R r)
      go ih (yes e) = (0, x, (h, e, refl), omega arith)
      go ih (no e) =
          let k : rank R x < rank R (up p x) = W.rise x h j e in
          let i = ih j (W.closed x h j) (omega arith) in
          (suc i.0, i.1, (h, e, i.2), omega (arith, i.3))

  pub reaches : (x : ℕ) → x < max_sites → up p x < max_sites → (n : ℕ) × (r : ℕ) × Leads n p x r × (n + rank R x ≤ rank R r)
  reaches x h j = climbs log_sites x h j (omega arith)

-- one link more in front
pub lead_by : (q : List ℕ) (z u m s : ℕ) → up q z ≡ u → z < max_sites → (u ≡ z → ⊥) → Leads m q u s → Leads (suc m) q z s
lead_by q z u m s e h d t = subst (λ (y : ℕ). (z < max_sites) × (y ≡ z → ⊥) × Leads m q y s) (sym e) (h, d, t)

pub lead_lt : (n : ℕ) (p : List ℕ) (x r : ℕ) → Leads n p x r → x < max_sites
lead_lt zero p x r t = t.0
lead_lt (suc n) p x r t = t.0
