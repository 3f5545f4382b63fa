-- Laws of outcomes: what is done by two steps was done by each; what was demanded held.
use mathlib.Core.Path.{◌≡◌, refl}
use mathlib.Core.Bool.{Bool, true, false}
use Prim.Native.Nat.{ℕ}
use native.Mathlib.Omega.{arith}
use Rattle.paper.specs.declared.Refusal.{Refusal}
use Rattle.paper.specs.Numbers.{Outcome, done, refused, ◌>>=◌, demand}

pub not_refused : {A : Type 0} {r : Refusal} {a : A} → refused r ≡ done a → ⊥
not_refused e = let z : ◌≡◌ {A = ℕ} 0 1 = cc in omega arith

pub done_once : {A : Type 0} {a b : A} → done a ≡ done b → a ≡ b
done_once e = cc

pub bind_done : {A B : Type 0} (x : Outcome A) (f : A → Outcome B) (b : B) → (x >>= f) ≡ done b → (a : A) × (x ≡ done a) × (f a ≡ done b)
bind_done (done a) f b e = (a, refl, e)
bind_done (refused r) f b e = absurd (not_refused e)

pub demand_done : {B : Type 0} (t : Bool) (r : Refusal) (f : Unit {0} → Outcome B) (b : B) → (demand t r >>= f) ≡ done b → (t ≡ true) × (f tt ≡ done b)
demand_done true r f b e = (refl, e)
demand_done false r f b e = absurd (not_refused e)
