-- What the body of `step` computes is what specs/Script.antt says.
use mathlib.Core.Path.{◌≡◌, refl, sym, ◌∙◌, ap}
use mathlib.Core.List.{List}
use Prim.Native.Nat.{ℕ}
use lib.Dec.{eqb}
use Rattle.std.specs.Prelude.{Bool}
use Rattle.paper.specs.Classes.{Classes, find, in_same_set, len, is_empty}
use Rattle.classes.specs.Called.{Looked}
use Rattle.paper.specs.Answered.{Maybe}
use Rattle.paper.specs.Answered.{Answer}
use Rattle.classes.specs.Called.{Taken}
use Rattle.class_script.specs.declared.Call.{Call}
use Rattle.class_script.specs.declared.Call.TheVariants as K
use Rattle.class_script.specs.declared.Reply.{Reply}
use Rattle.class_script.specs.declared.Reply.TheVariants as R
use Rattle.classes.specs.Answers.{looked, sought, joined, same, taken}
use Rattle.class_script.specs.Script.{call_in, stepped}

abbrev After : Type 0
After = Classes × List ℕ × Reply

-- the call that the line s is, and what was answered
module _ (c : Classes) (m s : List ℕ) {k l : Call} (e : k ≡ call_in s) (h : k ≡ l) where
  to : {a : After} → a ≡ stepped c m l → a ≡ stepped c m (call_in s)
  to q = q ∙ ap (stepped c m) (sym h ∙ e)

module _ (c : Classes) (m s : List ℕ) {k : Call} (e : k ≡ call_in s) where
  pub step_merge : {x y : ℕ} {d : Classes} {j : Answer Bool} → k ≡ K.Merge x y → ◌≡◌ {A = Classes × Answer Bool} (d, j) (joined c x y)
      → ◌≡◌ {A = After} (d, m, R.Merged j) (stepped c m (call_in s))
  step_merge h q = to c m s e h (ap (λ (u : Classes × Answer Bool). (u.0, m, R.Merged u.1)) q)

  pub step_find : {x : ℕ} {r : Looked} → k ≡ K.Find x → r ≡ looked (find c x) → ◌≡◌ {A = After} (c, m, R.Found r) (stepped c m (call_in s))
  step_find h q = to c m s e h (ap (λ (r : Looked). (c, m, R.Found r)) q)

  pub step_find_mut : {x : ℕ} {d : Classes} {j : Answer (Maybe ℕ)} → k ≡ K.FindMut x → ◌≡◌ {A = Classes × Answer (Maybe ℕ)} (d, j) (sought c x)
      → ◌≡◌ {A = After} (d, m, R.FoundMut j) (stepped c m (call_in s))
  step_find_mut h q = to c m s e h (ap (λ (u : Classes × Answer (Maybe ℕ)). (u.0, m, R.FoundMut u.1)) q)

  pub step_same : {x y : ℕ} {r : Answer Bool} → k ≡ K.SameSet x y → r ≡ same (in_same_set c x y) → ◌≡◌ {A = After} (c, m, R.Compared r) (stepped c m (call_in s))
  step_same h q = to c m s e h (ap (λ (r : Answer Bool). (c, m, R.Compared r)) q)

  pub step_remove : {x : ℕ} {d : Classes} {n : List ℕ} {j : Taken} → k ≡ K.Remove x → ◌≡◌ {A = Classes × List ℕ × Taken} (d, n, j) (taken c m x)
      → ◌≡◌ {A = After} (d, n, R.Removed j) (stepped c m (call_in s))
  step_remove h q = to c m s e h (ap (λ (u : Classes × List ℕ × Taken). (u.0, u.1, R.Removed u.2)) q)

  pub step_len : k ≡ K.Len → ◌≡◌ {A = After} (c, m, R.Length (len c)) (stepped c m (call_in s))
  step_len h = to c m s e h refl

  pub step_empty : k ≡ K.Empty → ◌≡◌ {A = After} (c, m, R.Emptiness (eqb c.count 0)) (stepped c m (call_in s))
  unfolding is_empty
  step_empty h = to c m s e h refl

  pub step_bad : k ≡ K.Bad → ◌≡◌ {A = After} (c, m, R.Bad) (stepped c m (call_in s))
  step_bad h = to c m s e h refl
