-- One turn of `seek`.
use mathlib.Core.Path.{◌≡◌, refl, sym, ◌∙◌}
use mathlib.Core.List.{List}
use Prim.Native.Nat.{ℕ, zero, suc, ◌+◌, ◌-◌, ◌≤◌, ◌<◌}
use lib.ListN.{get_or}
use native.Mathlib.Omega.{arith}
use borrow.Author.Tests.{lt-ltb, le-ltb, eq-eqb, ne_eqb}
use Rattle.std.specs.declared.option.Option.TheVariants.{None, Some}
use Rattle.paper.specs.Numbers.{max_sites}
use Rattle.paper.specs.Classes.{up, Trail, trail, seek}

module _ (p : List ℕ) (at : ℕ) where
  pub seek_out : (k n : ℕ) → max_sites ≤ at → seek k p at n ≡ trail None 0
  unfolding seek
  seek_out zero n h = refl
  seek_out (suc k) n h = rw (le-ltb at max_sites h, seek)

  pub seek_none : (n : ℕ) → seek 0 p at n ≡ trail None 0
  unfolding seek
  seek_none n = refl

  pub seek_root : (k n : ℕ) → at < max_sites → up p at ≡ at → seek (suc k) p at n ≡ trail (Some at) n
  unfolding seek
  seek_root k n h e = rw (lt-ltb at max_sites h, eq-eqb (up p at) at e, seek)

  pub seek_step : (k n : ℕ) → at < max_sites → (up p at ≡ at → ⊥) → seek (suc k) p at n ≡ seek k p (up p at) (n + 1)
  unfolding seek
  seek_step k n h e = rw (lt-ltb at max_sites h, ne_eqb (up p at) at e, seek)

-- The same as the loop has it: w is the index that was widened from at, n the turns done, F the answer.
module _ (p : List ℕ) (at w n : ℕ) (e : w ≡ at) (l : n < max_sites) where
  turns : max_sites - n ≡ suc (max_sites - (n + 1))
  turns = omega arith

  pub at_out : {F : Trail} → max_sites ≤ w → seek (max_sites - n) p at n ≡ F → trail None 0 ≡ F
  at_out h q = sym (seek_out p at (max_sites - n) n (rw e at h)) ∙ q

  module _ (g : w < max_sites) where
    h : at < max_sites
    h = rw e at g

    pub at_root : {F : Trail} → get_or p w 0 ≡ at → seek (max_sites - n) p at n ≡ F → trail (Some at) n ≡ F
    at_root r q = sym (seek_root p at _ n h (rw e at r)) ∙ (rw turns at q)

    pub at_step : {F : Trail} → (get_or p w 0 ≡ at → ⊥) → seek (max_sites - n) p at n ≡ F → seek (max_sites - (n + 1)) p (get_or p w 0) (n + 1) ≡ F
    at_step r q = rw e (sym (seek_step p at _ n h (rw e at r)) ∙ (rw turns at q))
