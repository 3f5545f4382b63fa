-- On a well-made state a find follows at most log2 of the class's members.
use mathlib.Core.Path.{◌≡◌, sym, ap, subst}
use mathlib.Core.List.{List}
use Prim.Native.Nat.{ℕ, ◌^◌, ◌≤◌, ◌<◌}
use native.Mathlib.Omega.{arith}
use native.Mathlib.Nat.{le_trans}
use native.Mathlib.Decide.{dec_lt}
use lib.Pow.{pow_mono}
use Rattle.std.specs.declared.option.Option.TheVariants.{Some}
use Rattle.paper.specs.Numbers.{max_sites}
use Rattle.paper.specs.Classes.{up, trail, find_in, Trail}
use Rattle.classes.specs.Well.{log_sites, Leads, Well, rank, members}
use Rattle.classes.proofs.Leading.{find_leads, find_out, find_none, is_root, reaches}

-- a number is outside, a site with no parent, or on a chain to a root
pub data Case (p R : List ℕ) (x : ℕ) : Type 0 where
  outside : max_sites ≤ x → Case p R x
  lone : x < max_sites → max_sites ≤ up p x → Case p R x
  led : (n r : ℕ) → Leads n p x r → n ≤ rank R r → n ≤ log_sites → x < max_sites → up p x < max_sites → Case p R x

module _ (p R : List ℕ) (c : ℕ) (W : Well p R c) where
  pub case : (x : ℕ) → Case p R x
  case x = go (dec_lt x max_sites) (dec_lt (up p x) max_sites)
    where
      go : Dec (x < max_sites) → Dec (up p x < max_sites) → Case p R x
      go (no d) e = outside (omega arith)
      go (yes h) (no d) = lone h (omega arith)
      go (yes h) (yes j) =
          let i = reaches p R c W x h j in
          let q = is_root i.0 p x i.1 i.2 in
          let l : up p i.1 < max_sites = subst (λ (y : ℕ). y < max_sites) (sym q.1) q.0 in
          led i.0 i.1 i.2 (omega (arith, i.3)) (omega (arith, i.3, W.low i.1 q.0 l)) h j

  -- a find that answers r has followed r's chain
  pub found_leads : (x r : ℕ) → (find_in p x).found ≡ Some r → (n : ℕ) × Leads n p x r × (n ≤ rank R r) × ((find_in p x).links ≡ n)
  found_leads x r e = go (case x)
    where
      go : Case p R x → (n : ℕ) × Leads n p x r × (n ≤ rank R r) × ((find_in p x).links ≡ n)
      go (outside h) = let f = find_out p x h in let z : ◌≡◌ {A = ℕ} 0 1 = cc in absurd (omega arith)
      go (lone h g) = let f = find_none p x h g in let z : ◌≡◌ {A = ℕ} 0 1 = cc in absurd (omega arith)
      go (led n s t b k h j) =
          let f : find_in p x ≡ trail (Some s) n = find_leads n p x s (omega arith) t in
          let q : s ≡ r = cc in
          (n, subst (λ (y : ℕ). Leads n p x y) q t, subst (λ (y : ℕ). n ≤ rank R y) q b, ap (λ (y : Trail). y.links) f)

  -- the links that a find follows to the root r: at most log2 of the members of r's class
  pub links_log : (x r : ℕ) → (find_in p x).found ≡ Some r → 2 ^ (find_in p x).links ≤ members p r
  links_log x r e =
      let i = found_leads x r e in
      let q = is_root i.0 p x r i.1 in
      rw i.3 (le_trans (pow_mono i.2) (W.big r q.0 q.1))
