-- The class check asks labels only for the lowest member of a class, so its answer is the same for any bound on the sites: `lines_agree`.
use mathlib.Core.Path.{◌≡◌, refl, sym, ap, ◌∙◌, fun_ext}
use mathlib.Core.Option.{Option, none, some}
use mathlib.Core.List.{List, map, Memᴰ}
use Prim.Native.Nat.{ℕ, ◌≤◌, ◌<◌}
use native.Mathlib.Omega.{arith}
use lib.Dec.{eqb}
use Rattle.paper.specs.Words.{first, joined, Edges}
use Rattle.paper.specs.Numbers.{Outcome}
use Rattle.paper.proofs.Labels.{Sound}
use Rattle.paper.specs.Loading.{Labels, Holder, lowest, closure_of, first_holder, differs, conflict, told_4, check_4, steps, endless}
use Rattle.paper.proofs.Closure.{closure_of_is, closure_sound}

-- two sound labels with the same classes have the same lowest members
pub same_lowest : (k j : Labels) → Sound k → Sound j → ((x y : ℕ) → lowest k x ≡ lowest k y → lowest j x ≡ lowest j y) → ((x y : ℕ) → lowest j x ≡ lowest j y → lowest k x ≡ lowest k y)
    → (n : ℕ) → lowest k n ≡ lowest j n
same_lowest k j S T f g n =
    let a = f (lowest k n) n (S.function.idem n) in
    let b = g (lowest j n) n (T.function.idem n) in
    let c = T.function.low (lowest k n) in
    let d = S.function.low (lowest j n) in
    omega arith

-- "the least equivalence": however many sites there are, where the children are among them
pub closures_agree : (n N : ℕ) (eqs : List (ℕ × ℕ)) (hs : List Holder) → ((h : Holder) → Memᴰ h hs → (x : ℕ) → Memᴰ x h.kids → x < n)
    → n ≤ N → (x : ℕ) → lowest (closure_of n eqs hs) x ≡ lowest (closure_of N eqs hs) x
closures_agree n N eqs hs inside l =
    same_lowest (closure_of n eqs hs) (closure_of N eqs hs) (closure_sound n eqs hs inside) (closure_sound N eqs hs wide)
    (λ x y e. (closure_of_is N eqs hs wide x y).1 ((closure_of_is n eqs hs inside x y).0 e))
    (λ x y e. (closure_of_is n eqs hs inside x y).1 ((closure_of_is N eqs hs wide x y).0 e))
  where
    wide : (h : Holder) → Memᴰ h hs → (x : ℕ) → Memᴰ x h.kids → x < N
    wide h m x w = let i = inside h m x w in omega arith

-- checks 4 and 6 as functions of the lowest member
abbrev first_by : (ℕ → ℕ) → List Holder → ℕ → Option Holder
first_by low hs n = first (λ h. eqb (low h.site) n) hs

abbrev conflict_by : (ℕ → ℕ) → List Holder → Option Holder
conflict_by low hs = first (λ h. differs h (first_by low hs (low h.site))) hs

abbrev told_by : (ℕ → ℕ) → List Holder → Option Holder → Outcome (Unit {0})
told_by low hs (some h) = told_4 h.site (first_by low hs (low h.site))
told_by low hs none = told_4 0 none

abbrev steps_by : (ℕ → ℕ) → List Holder → Edges
steps_by low hs = joined (map (λ h. map (λ c. (low h.site, low c)) h.kids) hs)

told_is : (k : Labels) (hs : List Holder) (o : Option Holder) → check_4 k hs o ≡ told_by (lowest k) hs o
unfolding first_holder
told_is k hs none = refl
told_is k hs (some h) = refl

four_is : (k : Labels) (hs : List Holder) → check_4 k hs (conflict k hs) ≡ told_by (lowest k) hs (conflict_by (lowest k) hs)
unfolding conflict first_holder
four_is k hs = told_is k hs (conflict k hs)

six_is : (k : Labels) (hs : List Holder) → steps k hs ≡ steps_by (lowest k) hs
unfolding steps
six_is k hs = refl

pub lines_agree : (k j : Labels) (hs : List Holder) → ((n : ℕ) → lowest k n ≡ lowest j n)
    → (check_4 k hs (conflict k hs) ≡ check_4 j hs (conflict j hs)) × (endless (steps k hs) ≡ endless (steps j hs))
lines_agree k j hs e =
    let f : lowest k ≡ lowest j = fun_ext e in (
      four_is k hs ∙ (ap (λ (low : ℕ → ℕ). told_by low hs (conflict_by low hs)) f ∙ sym (four_is j hs)),
      ap endless (six_is k hs ∙ (ap (λ (low : ℕ → ℕ). steps_by low hs) f ∙ sym (six_is j hs))),
    )
