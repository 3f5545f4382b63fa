-- Labels as paper's tables: `join` and `dissolve` keep them ascending, and `dissolve` takes one class apart. So the parts go with the labels through a removal.
use mathlib.Core.Path.{◌≡◌, refl, sym, ◌∙◌, ap, subst⁻¹, fun_ext}
use mathlib.Core.Bool.{Bool, true, false}
use mathlib.Core.Option.{Option, none, some}
use mathlib.Core.List.{[], ◌∷◌}
use Prim.Native.Nat.{ℕ}
use native.Mathlib.Decide.{ℕ_discrete}
use lib.Dec.{eqb}
use Rattle.std.specs.declared.option.Option.TheVariants.{Some}
use Rattle.std.specs.Prelude.{if◌then◌else◌}
use Rattle.paper.specs.Words.{or_else, keep, look}
use Rattle.paper.specs.Numbers.{done}
use Rattle.paper.specs.Classes.{Classes, Removed, remove_set_of}
use Rattle.paper.specs.Loading.{Labels, lowest, dissolve}
use Rattle.paper.proofs.Labels.{Sound, look_here, look_past}
use Rattle.classes.specs.Well.{WellMade, rep_of}
use Rattle.classes.specs.Equal.{Holds, dissolve_at}
use Rattle.classes.proofs.Labelled.{remove_holds}

-- no site stands twice
abbrev pub Once : Labels → Type 0
Once [] = Unit {0}
Once ((n, v) ∷ t) = (look t n ≡ none) × Once t

abbrev without : ℕ → Option ℕ → Option ℕ
without low none = none
without low (some v) = if eqb v low then none else some v

look_dissolve : (k : Labels) → Once k → (low n : ℕ) → look (dissolve k low) n ≡ without low (look k n)
unfolding dissolve keep look
look_dissolve [] o low n = refl
look_dissolve ((m, v) ∷ t) o low n = go (eqb v low) refl (ℕ_discrete m n) (look_dissolve t o.1 low n)
  where
    go : (b : Bool) → eqb v low ≡ b → Dec (m ≡ n) → look (dissolve t low) n ≡ without low (look t n)
        → look (dissolve ((m, v) ∷ t) low) n ≡ without low (look ((m, v) ∷ t) n)
    go true q (yes e) i = rw (q, keep) (i ∙ (ap (without low) (ap (look t) (sym e) ∙ o.0) ∙ sym (ap (without low) (ap (look ((m, v) ∷ t)) (sym e) ∙ look_here m v t) ∙ simp q)))
    go true q (no d) i = rw (q, keep) (i ∙ sym (ap (without low) (look_past m n v t d)))
    go false q (yes e) i = rw (q, keep) (ap (look ((m, v) ∷ dissolve t low)) (sym e) ∙ (look_here m v (dissolve t low) ∙ sym (ap (without low) (ap (look ((m, v) ∷ t)) (sym e) ∙ look_here m v t) ∙ simp q)))
    go false q (no d) i = rw (q, keep) (look_past m n v (dissolve t low) d ∙ (i ∙ sym (ap (without low) (look_past m n v t d))))

pub lowest_dissolve : (k : Labels) → Once k → (low n : ℕ) → lowest (dissolve k low) n ≡ dissolve_at (lowest k) low n
unfolding lowest dissolve_at
lowest_dissolve k o low n = ap (λ (v : Option ℕ). or_else v n) (look_dissolve k o low n) ∙ go (look k n)
  where
    go : (v : Option ℕ) → or_else (without low v) n ≡ (if eqb (or_else v n) low then n else or_else v n)
    go none = same (eqb n low)
      where
        same : (b : Bool) → n ≡ (if b then n else n)
        same true = refl
        same false = refl
    go (some v) = by (eqb v low)
      where
        by : (b : Bool) → or_else (if b then none else some v) n ≡ (if b then n else v)
        by true = refl
        by false = refl

-- a removal is paper's `dissolve` of the class whose lowest member is x's
pub remove_dissolves : (c : Classes) → WellMade c → (x r : ℕ) (q : Removed) → remove_set_of c x ≡ done q → rep_of c x ≡ Some r
    → (k : Labels) → Sound k → Once k → Holds c.parents (lowest k) → Holds q.after.parents (lowest (dissolve k (lowest k x)))
remove_dissolves c W x r q e mine k S o H =
    subst⁻¹ (λ (g : ℕ → ℕ). Holds q.after.parents g) (fun_ext (λ n. lowest_dissolve k o (lowest k x) n))
    (remove_holds c W x r q e mine (lowest k) S.function H)
