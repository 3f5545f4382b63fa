-- Numbers.
use mathlib.Core.Path.{◌≡◌, refl}
use mathlib.Core.Bool.{Bool, true, false}
use native.Mathlib.Omega.{arith}
use lib.Dec.{leb}
use Rattle.std.specs.Prelude.{if◌then◌else◌}
use Prim.Native.Nat.{ℕ, ◌+◌, ◌-◌, ◌≤◌, ◌<◌}
use borrow.Author.Tests.{lt-ltb, le-ltb, leb-false}
use Rattle.paper.specs.Numbers.{max_rules}
use Rattle.sheet_rule.specs.Rules.{next_rule_of, minus_of}

pub rule_more : (n : ℕ) → n < max_rules → n + 1 ≡ next_rule_of n
rule_more n h = rw (lt-ltb n max_rules h)

pub rule_same : (n : ℕ) → max_rules ≤ n → n ≡ next_rule_of n
rule_same n h = rw (le-ltb n max_rules h)

pub sub_is : (a b n : ℕ) → n ≡ a - b → n ≡ minus_of a b
sub_is a b n e = go (leb b a) refl
  where
    go : (t : Bool) → leb b a ≡ t → n ≡ (if t then a - b else 0)
    go true q = e
    go false q = let h = leb-false b a q in omega arith
