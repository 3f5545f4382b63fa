-- The checks before the items and those of the result, one after the other.
use mathlib.Core.Path.{◌≡◌, sym, ◌∙◌}
use mathlib.Core.Bool.{Bool, true, false, ◌&&◌}
use mathlib.Core.List.{List}
use Prim.Native.Nat.{ℕ, suc, ◌+◌, ◌*◌, ◌/◌, ◌≤◌, ◌<◌, min}
use native.Mathlib.Omega.{arith}
use lib.ListN.{length}
use lib.Dec.{ltb, leb}
use borrow.Author.Tests.{lt-ltb, le-ltb, le-leb, lt-leb}
use Rattle.std.specs.declared.result.Result.TheVariants.{Err, Ok}
use Rattle.paper.specs.declared.Refusal.TheVariants.{TooManySites, TooManyRules, TooManyItems, TooManyConstrained, TooManyEqual, PlaceUsed}
use Rattle.paper.specs.Numbers.{max_sites, max_rules, max_items, max_constrained, max_equal}
use Rattle.rule_words.specs.Stored.{base, stride}
use Rattle.sites.specs.Slots.{slot}
use Rattle.rule_load.specs.Parts.{answer_as, has_place, admitted, settled}

module _ (n : ℕ) (ws : List ℕ) (k place count : ℕ) where
  pub rules_many : max_rules ≤ k → Err (TooManyRules (suc max_rules)) ≡ answer_as (admitted n ws k place count)
  unfolding admitted
  rules_many h = let e : min k max_rules ≡ max_rules = omega arith in rw (le-ltb k max_rules h, e)

  module _ (h : k < max_rules) (b : ℕ) (e : b ≡ base k) where
    pub rules_short : length ws < b + stride → Err (TooManyRules (k + 1)) ≡ answer_as (admitted n ws k place count)
    unfolding admitted
    rules_short l =
        let z : length ws < base k + stride = omega arith in
        let f : suc (min k max_rules) ≡ k + 1 = omega arith in
        rw (lt-ltb k max_rules h, lt-leb (base k + stride) (length ws) z, f)

    module _ (l : b + stride ≤ length ws) where
      there : (ltb k max_rules && leb (base k + stride) (length ws)) ≡ true
      there = let z : base k + stride ≤ length ws = omega arith in rw (lt-ltb k max_rules h, le-leb (base k + stride) (length ws) z)

      pub sites_many : (x : ℕ) → x ≡ n → max_sites < x → Err (TooManySites n count) ≡ answer_as (admitted n ws k place count)
      unfolding admitted
      sites_many x q s = let z : max_sites < n = omega arith in rw (there, lt-leb n max_sites z)

      module _ (x : ℕ) (q : x ≡ n) (s : x ≤ max_sites) where
        pub items_many : max_items < count → Err (TooManyItems count) ≡ answer_as (admitted n ws k place count)
        unfolding admitted
        items_many t = let z : n ≤ max_sites = omega arith in rw (there, le-leb n max_sites z, lt-leb count max_items t)

        pub place_had : (r : Bool) → count ≤ max_items → r ≡ has_place ws k place → r ≡ true → Err (PlaceUsed place) ≡ answer_as (admitted n ws k place count)
        unfolding admitted
        place_had r t f g = let z : n ≤ max_sites = omega arith in let u : has_place ws k place ≡ true = sym f ∙ g in rw (there, le-leb n max_sites z, le-leb count max_items t, u)

        pub admitted_so : (r : Bool) → count ≤ max_items → r ≡ has_place ws k place → r ≡ false → (Ok tt) ≡ answer_as (admitted n ws k place count)
        unfolding admitted
        admitted_so r t f g = let z : n ≤ max_sites = omega arith in let u : has_place ws k place ≡ false = sym f ∙ g in rw (there, le-leb n max_sites z, le-leb count max_items t, u)

module _ (total held equal room count : ℕ) where
  pub constrained_many : max_constrained < held → Err (TooManyConstrained held) ≡ answer_as (settled total held equal room count)
  unfolding settled
  constrained_many h = rw (lt-leb held max_constrained h)

  module _ (h : held ≤ max_constrained) where
    pub equal_many : max_equal < equal → Err (TooManyEqual equal) ≡ answer_as (settled total held equal room count)
    unfolding settled
    equal_many k = rw (le-leb held max_constrained h, lt-leb equal max_equal k)

    module _ (k : equal ≤ max_equal) where
      pub room_short : room < total * slot → Err (TooManySites (room / slot + 1) count) ≡ answer_as (settled total held equal room count)
      unfolding settled
      room_short l = rw (le-leb held max_constrained h, le-leb equal max_equal k, lt-leb (total * slot) room l)

      pub settled_so : total * slot ≤ room → (Ok tt) ≡ answer_as (settled total held equal room count)
      unfolding settled
      settled_so l = rw (le-leb held max_constrained h, le-leb equal max_equal k, le-leb (total * slot) room l)
