-- Where a frame may stand, and what is asked of a set there.
use mathlib.Core.Path.{◌≡◌, refl, sym, ap}
use mathlib.Core.List.{List, []}
use Prim.Native.Nat.{ℕ, zero, suc}
use native.Mathlib.Omega.{arith}
use lib.ListN.{length}
use Rattle.std.specs.declared.option.Option.TheVariants.{None, Some}
use Rattle.paper.specs.declared.Refusal.TheVariants.{Layout}
use Rattle.paper.specs.Numbers.{refused}
use Rattle.paper.specs.Layout.{a_rule, end_set}
use Rattle.paper.specs.Sheets as paper
use Rattle.paper.specs.Sheets.{rule_begun, set_ended, act}
use Rattle.rule_words.specs.Stored.{run, kept_first}
use Rattle.sheet_ended.specs.Holds.{Endable}
use Rattle.sheet_reader.specs.State.{Lent, set_in, stands_in, Fine}
use Rattle.sheet_reader.specs.Answers.{act_event, rule_set, items_event}
use Rattle.sheet_reader.specs.declared.OpenSet.{OpenSet}
use Rattle.sheet_reader.specs.declared.Stands.{Stands}
use Rattle.sheet_reader.specs.declared.Stands.TheVariants.{Outside, Sites, Rules, Items}
use Rattle.sheet_reader.specs.declared.Event.TheVariants as event

pub where_not : {A : Type 0} {x : OpenSet} → Some x ≡ None → A
where_not e = let z : ◌≡◌ {A = ℕ} 0 1 = cc in absurd (omega arith)

-- ---- where rules and the end may stand
pub rule_out : (p : paper.Ended) (at : ℕ) (k : Lent) (s : Stands) (x y n : ℕ) → rule_set s ≡ None → act p at (stands_in k s) (a_rule x y n) ≡ refused (Layout at)
unfolding act
rule_out p at k Outside x y n e = refl
rule_out p at k (Sites s) x y n e = where_not e
rule_out p at k (Rules s) x y n e = where_not e
rule_out p at k (Items s r m) x y n e = refl

pub end_out : (p : paper.Ended) (at : ℕ) (k : Lent) (s : Stands) → rule_set s ≡ None → act p at (stands_in k s) end_set ≡ refused (Layout at)
unfolding act
end_out p at k Outside e = refl
end_out p at k (Sites s) e = where_not e
end_out p at k (Rules s) e = where_not e
end_out p at k (Items s r m) e = refl

-- an open set, before or after its first 03
pub record Inside (p : paper.Ended) (at : ℕ) (k : Lent) (s : Stands) (g : OpenSet) : Type 0 where
  pub rules : (x y n : ℕ) → act p at (stands_in k s) (a_rule x y n) ≡ rule_begun p (set_in k g) x y n
  pub events : (x y n : ℕ) → act_event (stands_in k s) (a_rule x y n) ≡ items_event (set_in k g) (record { place = x; priority = y; count = n; items = [] }) n
  pub ends : act p at (stands_in k s) end_set ≡ set_ended p (set_in k g)
  pub ended : act_event (stands_in k s) end_set ≡ event.Ended
  pub fine : Fine k p s → Endable p (set_in k g)

pub inside : (p : paper.Ended) (at : ℕ) (k : Lent) (s : Stands) (g : OpenSet) → rule_set s ≡ Some g → Inside p at k s g
unfolding act
inside p at k Outside g e = where_not (sym e)
inside p at k (Sites s) g e = let z : s ≡ g = cc in rw (← z) (record { rules = λ x y n. refl; events = λ x y n. refl; ends = refl; ended = refl; fine = λ f. f })
inside p at k (Rules s) g e = let z : s ≡ g = cc in rw (← z) (record { rules = λ x y n. refl; events = λ x y n. refl; ends = refl; ended = refl; fine = λ f. f })
inside p at k (Items s r m) g e = where_not (sym e)

-- ---- the kept rules of an open set
length_run : {A : Type 0} (f : ℕ → A) (i n : ℕ) → length (run f i n) ≡ n
unfolding run
length_run f i zero = refl
length_run f i (suc n) = ap suc (length_run f (suc i) n)

pub length_kept : (ws : List ℕ) (n : ℕ) → length (kept_first ws n) ≡ n
unfolding kept_first
length_kept ws n = length_run _ 0 n
