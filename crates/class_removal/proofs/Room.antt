-- Looking at a site that was never joined does nothing: on any contents.
use mathlib.Core.Path.{◌≡◌, refl, ◌∙◌, ap, subst⁻¹}
use mathlib.Core.List.{List, [], ◌∷◌, ◌++◌}
use Prim.Native.Nat.{ℕ, zero, suc, ◌≤◌, ◌<◌}
use Rattle.std.specs.declared.option.Option.TheVariants.{Some}
use Rattle.paper.specs.Answered.{Maybe}
use Rattle.std.specs.Prelude.{if◌then◌else◌}
use Rattle.paper.specs.Numbers.{max_sites}
use Rattle.paper.specs.Classes.{Classes, up, is_at, flattened, Swept, sweep}
use Rattle.classes.proofs.Updating.{update_none, update_leaves}

sweep_leaves : (j : ℕ) (p : List ℕ) (r z : ℕ) → max_sites ≤ up p z → up (sweep j p r).parents z ≡ up p z
unfolding sweep
sweep_leaves zero p r z g = refl
sweep_leaves (suc j) p r z g =
    let i = sweep_leaves j p r z g in
    update_leaves (sweep j p r).parents j z (subst⁻¹ (λ (w : ℕ). max_sites ≤ w) i g) ∙ i

pub sweep_idle : (j : ℕ) (p : List ℕ) (r : ℕ) → j < max_sites → max_sites ≤ up p j → sweep (suc j) p r ≡ sweep j p r
unfolding sweep
sweep_idle j p r h g =
    let i = sweep_leaves j p r j g in
    let g' : max_sites ≤ up (sweep j p r).parents j = subst⁻¹ (λ (w : ℕ). max_sites ≤ w) i g in
    ap (λ (u : List ℕ × Maybe ℕ). the u) (update_none (sweep j p r).parents j h g')
  where
    the : List ℕ × Maybe ℕ → Swept
    the u = record { parents = u.0; members = if is_at u.1 (Some r) then (sweep j p r).members ++ (j ∷ []) else (sweep j p r).members }

-- the updating find leaves it so
pub kept : (c : Classes) (x z : ℕ) → max_sites ≤ up c.parents z → max_sites ≤ up (flattened c x).after.parents z
unfolding flattened
kept c x z g = subst⁻¹ (λ (w : ℕ). max_sites ≤ w) (update_leaves c.parents x z g) g
