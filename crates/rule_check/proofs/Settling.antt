-- A class gets its turn after the classes of its children: then no walk from it returns.
use mathlib.Core.Path.{◌≡◌, sym, ap, ◌∙◌, subst}
use mathlib.Core.Bool.{Bool, true, false}
use mathlib.Core.Logic.{◌⊎◌, inl, inr}
use mathlib.Core.List.{List}
use Prim.Native.Nat.{ℕ, ◌+◌, ◌≤◌, ◌<◌}
use native.Mathlib.Omega.{arith}
use native.Mathlib.Decide.{ℕ_discrete}
use lib.ListN.{get_or, set, length-set, replicate, length-replicate, get_or-replicate}
use lib.Seq.{get_or-set_same, get_or-set_other}
use Rattle.paper.specs.Numbers.{max_sites}
use Rattle.paper.proofs.Lists.{no_way}
use Rattle.classes.specs.Answers.{rep}
use Rattle.rule_rows.specs.Holding.{Held, chart, kid_count, kid_in, count_of, kid_of, Inside}
use Rattle.rule_classes.specs.Meeting.{Reps}
use Rattle.rule_check.specs.Search.{Edge, Path, edge, then, Ready, Safe, Over, Keeps}
use Rattle.rule_rows.proofs.Reading.{kid_inside}

pub rep_inside : (p kids : List ℕ) → Ready p kids → (s w z : ℕ) → s < max_sites → w ≡ rep p s → z ≡ w → z < max_sites
rep_inside p kids Q s w z h ew ez = let r = Q.reps.inside s h in omega arith

pub kid_root : (p kids : List ℕ) → Ready p kids → (i f k w z : ℕ) → k ≡ kid_in kids i f → w ≡ rep p k → z ≡ w → z < max_sites
kid_root p kids Q i f k w z ek ew ez = rep_inside p kids Q k w z (rw ek (kid_inside kids i f Q.inside)) ew ez

-- ---- over

-- ---- ready

pub ready_step : (boss turned p kids : List ℕ) (i f k w z : ℕ) (t : Bool) → k ≡ kid_in kids i f → w ≡ rep p k → z ≡ w → (t ≡ true → Over boss turned z) → t ≡ true
    → Over boss turned (rep p (kid_in kids i f))
ready_step boss turned p kids i f k w z t ek ew ez h e =
    let q : z ≡ rep p (kid_in kids i f) = ez ∙ (ew ∙ ap (rep p) ek) in
    rw q at (h e)

-- ---- a turn

module _ (H : Held) (p boss turned : List ℕ) (S : Safe H p boss turned) where
  pub keeps_self : Keeps turned turned
  keeps_self z h = h

  starts_at : {a b : ℕ} → Path H p boss a b → (a < max_sites) × (get_or boss a 0 < max_sites)
  starts_at (edge e) = (e.root, e.there)
  starts_at (then e q) = (e.root, e.there)

  module _ (z : ℕ) (hz : z < max_sites) (done : (f : ℕ) → f < count_of H (get_or boss z 0) → Over boss turned (rep p (kid_of H (get_or boss z 0) f))) where
    here : get_or (set turned z 1) z 0 ≡ 1
    here = get_or-set_same turned z 1 0 (omega (arith, S.long))

    off : (y : ℕ) → (y ≡ z → ⊥) → get_or (set turned z 1) y 0 ≡ get_or turned y 0
    off y d = get_or-set_other turned z y 1 0 d

    -- where an edge of z leads has had its turn, if it goes on from there
    led : (x : ℕ) → Edge H p boss z x → get_or boss x 0 < max_sites → get_or turned x 0 ≡ 0 → ⊥
    led x e = rw (← e.to) at (done e.place e.in_range)

    -- what the first edge of a walk from z leads to
    beyond_z : (y : ℕ) → Path H p boss z y → Path H p boss y y → ⊥
    beyond_z y (edge e) c = let s = starts_at c in S.none y s.0 (led y e s.1) c
    beyond_z y (then {b = x} e q) c = let s = starts_at q in S.beyond x y s.0 (led x e s.1) q c

    pub safe_set : Safe H p boss (set turned z 1)
    safe_set = record {
      long = length-set turned z 1 ∙ S.long;
      none = λ y h t. nones y h t (ℕ_discrete y z);
      beyond = λ y w h t. beyonds y w h t (ℕ_discrete y z);
    }
      where
        nones : (y : ℕ) → y < max_sites → (get_or (set turned z 1) y 0 ≡ 0 → ⊥) → Dec (y ≡ z) → Path H p boss y y → ⊥
        nones y h t (yes e) c = let c' : Path H p boss z z = rw e at c in beyond_z z c' c'
        nones y h t (no d) c = S.none y h (λ o. t (off y d ∙ o)) c

        beyonds : (y w : ℕ) → y < max_sites → (get_or (set turned z 1) y 0 ≡ 0 → ⊥) → Dec (y ≡ z) → Path H p boss y w → Path H p boss w w → ⊥
        beyonds y w h t (yes e) q c = beyond_z w (rw e at q) c
        beyonds y w h t (no d) q c = S.beyond y w h (λ o. t (off y d ∙ o)) q c

    pub keeps_set : Keeps turned (set turned z 1)
    keeps_set y h = go (ℕ_discrete y z)
      where
        go : Dec (y ≡ z) → get_or (set turned z 1) y 0 ≡ 0 → ⊥
        go (yes e) o = let w = ap (λ (u : ℕ). get_or (set turned z 1) u 0) e ∙ here in omega arith
        go (no d) o = h (sym (off y d) ∙ o)

    pub turned_set : get_or (set turned z 1) z 0 ≡ 0 → ⊥
    turned_set o = let w = here in omega arith

-- the body of turn: z is the root of s, v its first holder, i that one's row
module _ (rows words kids p boss turned : List ℕ) (S : Safe (chart rows words kids) p boss turned) (s w z : ℕ) (hz : z < max_sites) (ew : w ≡ rep p s) (ez : z ≡ w) where
  pub turn_was : (get_or turned z 0 ≡ 0 → ⊥) → Safe (chart rows words kids) p boss turned × (Keeps turned turned × (true ≡ true → get_or turned (rep p s) 0 ≡ 0 → ⊥))
  turn_was n = (S, (keeps_self (chart rows words kids) p boss turned S, λ _. rw (ez ∙ ew) at n))

  pub turn_not : Safe (chart rows words kids) p boss turned × (Keeps turned turned × (false ≡ true → get_or turned (rep p s) 0 ≡ 0 → ⊥))
  turn_not = (S, (keeps_self (chart rows words kids) p boss turned S, λ e. no_way (sym e)))

  pub turn_now : (v i : ℕ) → v ≡ get_or boss z 0 → i ≡ get_or rows v 0 → ((f : ℕ) → f < kid_count words i → Over boss turned (rep p (kid_in kids i f)))
      → Safe (chart rows words kids) p boss (set turned z 1) × (Keeps turned (set turned z 1) × (true ≡ true → get_or (set turned z 1) (rep p s) 0 ≡ 0 → ⊥))
  turn_now v i ev ei D =
      let e : i ≡ get_or rows (get_or boss z 0) 0 = ei ∙ ap (λ (u : ℕ). get_or rows u 0) ev in
      let D' : (f : ℕ) → f < kid_count words (get_or rows (get_or boss z 0) 0) → Over boss turned (rep p (kid_in kids (get_or rows (get_or boss z 0) 0) f)) = rw e at D in
      let H = chart rows words kids in
      (safe_set H p boss turned S z hz D', (keeps_set H p boss turned S z hz D', λ _. subst (λ (u : ℕ). get_or (set turned z 1) u 0 ≡ 0 → ⊥) (ez ∙ ew) (turned_set H p boss turned S z hz D')))

-- ---- all holders, last first

pub record TurnsTo (H : Held) (p boss sites turned : List ℕ) (left m h : ℕ) : Type 0 where
  pub safe : Safe H p boss turned
  pub few : left + h ≤ m
  pub all : left ≡ 0 → (g : ℕ) → h ≤ g → g < m → get_or turned (rep p (get_or sites g 0)) 0 ≡ 0 → ⊥

module _ (H : Held) (p boss sites : List ℕ) (m : ℕ) where
  pub turns_none : (turned : List ℕ) → Safe H p boss turned → TurnsTo H p boss sites turned 0 m m
  turns_none turned S = record { safe = S; few = omega arith; all = λ _ g a b. absurd (omega arith) }

  pub turns_step : (turned turned' : List ℕ) (left left' h i s : ℕ) (t : Bool) → i + 1 ≡ h → s ≡ get_or sites i 0 → TurnsTo H p boss sites turned left m h
      → Safe H p boss turned' × (Keeps turned turned' × (t ≡ true → get_or turned' (rep p s) 0 ≡ 0 → ⊥)) → ((t ≡ false) × (left' ≡ left + 1)) ⊎ ((t ≡ true) × (left' ≡ left))
      → TurnsTo H p boss sites turned' left' m i
  turns_step turned turned' left left' h i s t ei es T U w = record {
    safe = U.0;
    few = fits w;
    all = λ o g a b. at w o g (ℕ_discrete g i) a b;
  }
    where
      fits : ((t ≡ false) × (left' ≡ left + 1)) ⊎ ((t ≡ true) × (left' ≡ left)) → left' + i ≤ m
      fits (inl e) = let f = T.few in let q = e.1 in omega arith
      fits (inr e) = let f = T.few in let q = e.1 in omega arith

      at : ((t ≡ false) × (left' ≡ left + 1)) ⊎ ((t ≡ true) × (left' ≡ left)) → left' ≡ 0 → (g : ℕ) → Dec (g ≡ i) → i ≤ g → g < m → get_or turned' (rep p (get_or sites g 0)) 0 ≡ 0 → ⊥
      at (inl e) o g d a b = let q = e.1 in absurd (omega arith)
      at (inr e) o g (yes q) a b = let r : s ≡ get_or sites g 0 = es ∙ ap (λ (u : ℕ). get_or sites u 0) (sym q) in rw r at (U.1.1 e.0)
      at (inr e) o g (no d) a b = U.1.0 (rep p (get_or sites g 0)) (T.all (sym e.1 ∙ o) g (omega arith) b)

  pub turns_done : (turned : List ℕ) (left h : ℕ) → h ≡ 0 → TurnsTo H p boss sites turned left m h
      → Safe H p boss turned × (left ≡ 0 → (g : ℕ) → g < m → get_or turned (rep p (get_or sites g 0)) 0 ≡ 0 → ⊥)
  turns_done turned left h e T = (T.safe, λ o g b. T.all o g (omega arith) b)

  -- ---- settled

  pub safe_none : Safe H p boss (replicate max_sites 0)
  safe_none = record {
    long = length-replicate {A = ℕ} max_sites 0;
    none = λ z h t. absurd (t (get_or-replicate {A = ℕ} max_sites z 0 0 h));
    beyond = λ z y h t. absurd (t (get_or-replicate {A = ℕ} max_sites z 0 0 h));
  }

  pub settled_yes : (turned : List ℕ) → Reps p → Inside sites → Safe H p boss turned → ((g : ℕ) → g < m → get_or turned (rep p (get_or sites g 0)) 0 ≡ 0 → ⊥)
      → (h : ℕ) → h < m → Path H p boss (rep p (get_or sites h 0)) (rep p (get_or sites h 0)) → ⊥
  settled_yes turned R I S A h l c = S.none (rep p (get_or sites h 0)) (R.inside (get_or sites h 0) (I h)) (A h l) c
