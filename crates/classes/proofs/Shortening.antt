-- 02 [2]: what the updating find does to the links. No site has more than before, and a site that was passed has at most one.
use mathlib.Core.Path.{◌≡◌, refl, sym, ◌∙◌, ap, subst⁻¹}
use mathlib.Core.Bool.{Bool, true, false, ◌||◌}
use mathlib.Core.List.{List}
use Prim.Native.Nat.{ℕ, zero, suc, ◌≤◌, ◌<◌}
use native.Mathlib.Omega.{arith}
use native.Mathlib.Decide.{ℕ_discrete}
use borrow.Author.Tests.{eq-eqb, ne_eqb}
use Rattle.std.specs.declared.option.Option.TheVariants.{None, Some}
use Rattle.paper.specs.Answered.{Maybe}
use Rattle.std.specs.Prelude.{if◌then◌else◌}
use Rattle.paper.specs.Words.{any, has}
use Rattle.paper.specs.Numbers.{max_sites}
use Rattle.paper.specs.Classes.{up, find_in, passed, flat, flatten_in, Trail}
use Rattle.classes.specs.Well.{Leads, Well, bit}
use Rattle.classes.proofs.Leading.{find_leads, find_out, find_none, lead_by, lead_lt, is_root}
use Rattle.classes.proofs.Linked.{Case, outside, lone, led, case}
use Rattle.classes.proofs.Updating.{find_led, flat_up, flat_none, update_leaves}
use Rattle.classes.proofs.Flattening.{Kept, flattened_kept}

not_so : {A : Type 0} (b : Bool) → b ≡ false → b ≡ true → A
not_so b e f = let z : ◌≡◌ {A = ℕ} 0 1 = sym (ap bit e) ∙ ap bit f in absurd (omega arith)

same_at : {a b : ℕ} → Some a ≡ Some b → a ≡ b
same_at e = cc

-- the sites that are passed are sites; the first of them is x
passed_lt : (n : ℕ) (p : List ℕ) (x r y : ℕ) → Leads n p x r → has (passed n p x) y ≡ true → y < max_sites
unfolding passed has any
passed_lt zero p x r y t e = not_so false refl e
passed_lt (suc n) p x r y t e = go (ℕ_discrete y x) (λ f. passed_lt n p (up p x) r y t.2 f)
  where
    go : Dec (y ≡ x) → (has (passed n p (up p x)) y ≡ true → y < max_sites) → y < max_sites
    go (yes d) ih = rw d t.0
    go (no d) ih = ih (sym (ap (λ (b : Bool). b || has (passed n p (up p x)) y) (ne_eqb y x d)) ∙ e)

passed_first : (n : ℕ) (p : List ℕ) (x : ℕ) → has (passed (suc n) p x) x ≡ true
unfolding passed has any
passed_first n p x = ap (λ (b : Bool). b || has (passed n p (up p x)) x) (eq-eqb x x refl)

-- z's parent is its representative
abbrev pub Direct : List ℕ → ℕ → Type 0
Direct p z = (s : ℕ) → (find_in p z).found ≡ Some s → up p z ≡ s

module _ (p R : List ℕ) (c : ℕ) (W : Well p R c) (x : ℕ) where
  K : Kept p (flat p x) R c
  unfolding flatten_in
  K = flattened_kept p R c W x

  leaves : (z : ℕ) → max_sites ≤ up p z → up (flat p x) z ≡ up p z
  unfolding flatten_in
  leaves z g = update_leaves p x z g

  -- "no y has more links at exit than at entry"
  pub links_fewer : (z : ℕ) → (find_in (flat p x) z).links ≤ (find_in p z).links
  links_fewer z = go (case p R c W z)
    where
      go : Case p R z → (find_in (flat p x) z).links ≤ (find_in p z).links
      go (outside h) = let a = ap (λ (t : Trail). t.links) (find_out (flat p x) z h) in omega (arith, a)
      go (lone h g) =
          let a = ap (λ (t : Trail). t.links) (find_none (flat p x) z h (subst⁻¹ (λ (w : ℕ). max_sites ≤ w) (leaves z g) g)) in
          omega (arith, a)
      go (led n r t b k h j) =
          let i = K.shorter n z r t in
          let a = ap (λ (t : Trail). t.links) (find_leads i.0 (flat p x) z r (omega (arith, i.2)) i.1) in
          let b = ap (λ (t : Trail). t.links) (find_leads n p z r (omega arith) t) in
          omega (arith, a, b, i.2)

  module _ (r : ℕ) (e : (find_in p x).found ≡ Some r) where
    n : ℕ
    n = (find_in p x).links

    t : Leads n p x r
    unfolding n
    t = find_led p x r e

    by_flat : (z : ℕ) → z < max_sites → up (flat p x) z ≡ (if has (passed n p x) z then r else up p z)
    unfolding n
    by_flat z h = flat_up p x r e z (omega (arith, W.len))

    root_r : up (flat p x) r ≡ r
    root_r = by_flat r (is_root n p x r t).0 ∙ go (has (passed n p x) r)
      where
        go : (b : Bool) → (if b then r else up p r) ≡ r
        go true = refl
        go false = (is_root n p x r t).1

    passed_up : (y : ℕ) → has (passed n p x) y ≡ true → up (flat p x) y ≡ r
    passed_up y h = by_flat y (passed_lt n p x r y t h) ∙ simp h

    passed_leads : (y : ℕ) → has (passed n p x) y ≡ true → (m : ℕ) × Leads m (flat p x) y r × (m ≤ 1)
    passed_leads y h = go (ℕ_discrete y r)
      where
        go : Dec (y ≡ r) → (m : ℕ) × Leads m (flat p x) y r × (m ≤ 1)
        go (yes d) = (0, (passed_lt n p x r y t h, passed_up y h ∙ sym d, d), omega arith)
        go (no d) =
            (1, lead_by (flat p x) y r 0 r (passed_up y h) (passed_lt n p x r y t h) (λ o. d (sym o)) ((is_root n p x r t).0, root_r, refl), omega arith)

    -- "a y that was passed has at most one"
    pub passed_one : (y : ℕ) → has (passed (find_in p x).links p x) y ≡ true → (find_in (flat p x) y).links ≤ 1
    unfolding n
    passed_one y h =
        let i = passed_leads y h in
        let a = ap (λ (t : Trail). t.links) (find_leads i.0 (flat p x) y r (omega (arith, i.2)) i.1) in
        omega (arith, a, i.2)

    own_up : up (flat p x) x ≡ r
    own_up = go n t (by_flat x (lead_lt n p x r t)) (passed_up x)
      where
        go : (k : ℕ) → Leads k p x r → up (flat p x) x ≡ (if has (passed k p x) x then r else up p x)
            → (has (passed k p x) x ≡ true → up (flat p x) x ≡ r) → up (flat p x) x ≡ r
        go zero u b f = at (has (passed 0 p x) x) refl
          where
            at : (o : Bool) → has (passed 0 p x) x ≡ o → up (flat p x) x ≡ r
            at true q = f q
            at false q = b ∙ (simp q (u.1 ∙ u.2))
        go (suc k) u b f = f (passed_first k p x)

    stays_at : (z : ℕ) → z < max_sites → Direct p z → Direct (flat p x) z
    stays_at z h d s f = go (has (passed n p x) z) refl
      where
        go : (b : Bool) → has (passed n p x) z ≡ b → up (flat p x) z ≡ s
        go true q =
            let i = passed_leads z q in
            let a = ap (λ (t : Trail). t.found) (find_leads i.0 (flat p x) z r (omega (arith, i.2)) i.1) in
            passed_up z q ∙ same_at (sym a ∙ f)
        go false q = by_flat z h ∙ (simp q (d s (sym (K.same z) ∙ f)))

  -- x hangs directly under its representative afterwards, and a site that did so still does
  pub own_direct : Direct (flat p x) x
  own_direct s f = own_up s (sym (K.same x) ∙ f)

  pub direct_stays : (z : ℕ) → z < max_sites → Direct p z → Direct (flat p x) z
  direct_stays z h d = go (find_in p x).found refl
    where
      go : (f : Maybe ℕ) → (find_in p x).found ≡ f → Direct (flat p x) z
      go (Some r) e = stays_at r e z h d
      go None e = subst⁻¹ (λ (q : List ℕ). Direct q z) (flat_none p x e) d
