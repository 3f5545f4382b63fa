-- What is told of the rounds, unless the lent lists were too short.
use mathlib.Core.Path.{◌≡◌, refl}
use mathlib.Core.Logic.{inl, inr, ⊎_elim}
use mathlib.Core.List.{List}
use Prim.Native.Nat.{ℕ, ◌<◌}
use native.Mathlib.Omega.{arith}
use lib.ListN.{length}
use Rattle.std.specs.declared.result.Result.TheVariants.{Err, Ok}
use Rattle.paper.specs.declared.Refusal.{Refusal}
use Rattle.paper.specs.Numbers.{max_sites}
use Rattle.rule_rounds.specs.Rounding.{Scant, Unless}
use Rattle.rule_rounds.specs.RoundState.{IfRoom, halt_of}
use Rattle.rule_rounds.specs.Halted.{Halted}
use Rattle.rule_rounds.specs.declared.Halt.TheVariants as halt
use Rattle.rule_rounds.specs.declared.Space.{Space}
use Rattle.rule_rounds.specs.declared.Space.TheVariants as space

pub fine_told : {a : Halted} {tail sites : List ℕ} {P : Type 0} → a ≡ Ok tt → Unless a tail sites P → P
fine_told f u = u.told (λ e. let z : ◌≡◌ {A = ℕ} 0 1 = cc in omega arith)

pub told_fine : {a : Halted} {P : Type 0} (tail sites : List ℕ) → a ≡ Ok tt → P → Unless a tail sites P
told_fine tail sites f p = record { short = λ e. let z : ◌≡◌ {A = ℕ} 0 1 = cc in absurd (omega arith); told = λ d. p }

pub told_refused : {a : Halted} {e : Refusal} {P : Type 0} (tail sites : List ℕ) → a ≡ Err (halt.Refused e) → P → Unless a tail sites P
told_refused tail sites f p = record { short = λ e. let z : ◌≡◌ {A = ℕ} 0 1 = cc in absurd (omega arith); told = λ d. p }

-- what is handed up, from lists that were as long
scant_up : (tail sites tail' sites' : List ℕ) → length tail' ≡ length tail → length sites' ≡ length sites → Scant tail' sites' → Scant tail sites
scant_up tail sites tail' sites' et es = ⊎_elim (λ (h : length tail' < max_sites). inl (omega arith)) (λ (h : length sites' < max_sites). inr (omega arith))

pub told_up : {a : Halted} {P Q : Type 0} (tail sites tail' sites' : List ℕ) → length tail' ≡ length tail → length sites' ≡ length sites → Unless a tail' sites' P → (P → Q) → Unless a tail sites Q
told_up tail sites tail' sites' et es u f = record { short = λ e. scant_up tail sites tail' sites' et es (u.short e); told = λ d. f (u.told d) }

-- and out of the steps
short_of : (at : ℕ) (a : Space) → halt_of at a ≡ Err halt.Short → a ≡ space.Short
short_of at space.Enough e = let z : ◌≡◌ {A = ℕ} 0 1 = cc in absurd (omega arith)
short_of at space.Short e = refl
short_of at space.Full e = let z : ◌≡◌ {A = ℕ} 0 1 = cc in absurd (omega arith)

of_short : (at : ℕ) (a : Space) → a ≡ space.Short → halt_of at a ≡ Err halt.Short
of_short at a e = rw e

pub told_out : (at : ℕ) {a : Space} {P Q : Type 0} (tail sites : List ℕ) → IfRoom a tail sites P → (P → Q) → Unless (halt_of at a) tail sites Q
told_out at {a} tail sites u f = record { short = λ e. u.short (short_of at a e); told = λ d. f (u.told (λ e. d (of_short at a e))) }
