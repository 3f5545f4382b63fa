-- What is told of all searches: the lowest of the named sites is the lowest of all, since a site that is not named is alone in its class.
use mathlib.Core.Path.{◌≡◌, refl, sym, ap, ◌∙◌, subst, subst⁻¹}
use mathlib.Core.Logic.{◌↔◌, ◌⊎◌, inl, inr}
use mathlib.Core.List.{List, Memᴰ}
use Prim.Native.Nat.{ℕ, ◌+◌, ◌*◌, ◌/◌, ◌≤◌, ◌<◌}
use native.Mathlib.Omega.{arith}
use native.Mathlib.Decide.{ℕ_discrete, dec_lt}
use lib.ListN.{get_or, set, length, replicate, length-replicate, get_or-replicate, get_or-eq_default}
use lib.Seq.{get_or-set_other}
use borrow.Author.Count.{below_more}
use Rattle.paper.specs.Words.{zip}
use Rattle.paper.specs.Numbers.{max_sites, max_fields}
use Rattle.paper.specs.Loading.{Together, written_so, itself, back, through, like}
use Rattle.paper.proofs.Closure.{of_below}
use Rattle.classes.specs.Answers.{rep}
use Rattle.rule_rows.specs.Holding.{Held, bare, kid_in, site_of, row_of, shape_of, kid_of, holder_in, holders_to, eq_at, eqs_in}
use Rattle.rule_classes.specs.Growing.{One}
use Rattle.rule_classes.specs.Meeting.{Reps, Seated}
use Rattle.rule_check.specs.Search.{Path, edge, then, Ready, Fresh, Searched, Returns, Told, Lower, LowestOf, Among, Named, AllNamed, Lowest}
use Rattle.rule_rows.proofs.Holders.{of_holders, of_zip}

pub zero_inside : (p kids : List ℕ) → Ready p kids → (l : ℕ) → l ≡ rep p 0 → l < max_sites
zero_inside p kids Q l e = rw e (Q.reps.inside 0 (omega arith))

pub root_inside : (H : Held) (p boss kids : List ℕ) → Ready p kids → (best z : ℕ) → Told H p boss best → (l : ℕ) → l ≡ rep p z → z < best → l < max_sites
root_inside H p boss kids Q best z T l e h = rw e (Q.reps.inside z (let a = T.within in omega arith))

-- ---- one site

module _ (H : Held) (p boss : List ℕ) where
  pub searched_none : Searched H p boss (replicate max_sites 0) (replicate max_sites 0) (replicate max_sites 0)
  searched_none = record {
    fresh = record { seen_long = length-replicate {A = ℕ} max_sites 0; queue_long = length-replicate {A = ℕ} max_sites 0; clean = λ z h. get_or-replicate {A = ℕ} max_sites z 0 0 h };
    none = λ z h n. absurd (n (get_or-replicate {A = ℕ} max_sites z 0 0 h));
  }

  pub searched_on : (s q s' q' calm : List ℕ) → Searched H p boss s q calm → Fresh s' q' → Searched H p boss s' q' calm
  searched_on s q s' q' calm S F = record { fresh = F; none = S.none }

  pub searched_calm : (s q s' q' calm : List ℕ) (l i : ℕ) → i ≡ l → (Path H p boss l l → ⊥) → Searched H p boss s q calm → Fresh s' q' → Searched H p boss s' q' (set calm i 1)
  searched_calm s q s' q' calm l i e N S F = record { fresh = F; none = λ z h n. by z h n (ℕ_discrete z i) }
    where
      by : (z : ℕ) → z < max_sites → (get_or (set calm i 1) z 0 ≡ 0 → ⊥) → Dec (z ≡ i) → Path H p boss z z → ⊥
      by z h n (yes d) w = N (subst (λ (u : ℕ). Path H p boss u u) (d ∙ e) w)
      by z h n (no d) w = S.none z h (λ o. n (get_or-set_other calm i z 1 0 d ∙ o)) w

  module _ (best z : ℕ) (T : Told H p boss best) where
    pub lower_zero : z ≡ 0 → Lower H p boss best z best
    lower_zero e = record { told = T; down = omega arith; past = λ n. absurd (n e) }

    pub lower_above : best ≤ z → Lower H p boss best z best
    lower_above h = record { told = T; down = omega arith; past = λ _ l. absurd (omega arith) }

    module _ (l : ℕ) (e : l ≡ rep p z) where
      pub lower_not : (Path H p boss l l → ⊥) → Lower H p boss best z best
      lower_not N = record { told = T; down = omega arith; past = λ _ _ w. N (subst⁻¹ (λ (u : ℕ). Path H p boss u u) e w) }

      pub lower_calm : (s q calm : List ℕ) (i : ℕ) → Searched H p boss s q calm → l < max_sites → i ≡ l → (get_or calm i 0 ≡ 0 → ⊥) → Lower H p boss best z best
      lower_calm s q calm i S h ei n = lower_not (S.none l h (λ o. n (ap (λ (u : ℕ). get_or calm u 0) ei ∙ o)))

      pub lower_back : z < best → Path H p boss l l → Lower H p boss best z z
      lower_back h w = record {
        told = record { within = let a = T.within in omega arith; returns = λ _. subst (λ (u : ℕ). Path H p boss u u) e w };
        down = omega arith;
        past = λ _ k. absurd (omega arith);
      }

  -- ---- a list

  pub told_none : Told H p boss max_sites
  told_none = record { within = omega arith; returns = λ h. absurd (omega arith) }

  pub of_none : (xs : List ℕ) (best : ℕ) → Told H p boss best → LowestOf H p boss xs 0 best best
  of_none xs best T = record { told = T; down = omega arith; past = λ k l. absurd (omega arith) }

  pub of_step : (xs : List ℕ) (i best r s x : ℕ) → x ≡ get_or xs i 0 → LowestOf H p boss xs i best r → Lower H p boss r x s → LowestOf H p boss xs (i + 1) best s
  of_step xs i best r s x e L U = record {
    told = U.told;
    down = let a = L.down in let b = U.down in omega arith;
    past = below_more _ _ (λ k l n h. L.past k l n (let b = U.down in omega arith)) (subst (λ (u : ℕ). (u ≡ 0 → ⊥) → u < s → Returns H p boss u → ⊥) e U.past);
  }

  -- ---- the three lists

  path_there : {a b : ℕ} → Path H p boss a b → get_or boss a 0 < max_sites
  path_there (edge e) = e.there
  path_there (then e w) = e.there

  pub lowest_zero : (l : ℕ) → l ≡ rep p 0 → Path H p boss l l → Lowest H p boss 0
  lowest_zero l e w = record { least = λ z h. absurd (omega arith); returns = λ _. subst (λ (u : ℕ). Path H p boss u u) e w }

  module _ (eqs sites kids : List ℕ) (N : AllNamed p boss eqs sites kids) (l : ℕ) (el : l ≡ rep p 0) (Z : Path H p boss l l → ⊥) (a b r : ℕ)
      (S : LowestOf H p boss sites (length sites) max_sites a) (E : LowestOf H p boss eqs (length eqs) a b) (K : LowestOf H p boss kids (length kids) b r) where
    not_zero : (z : ℕ) → z ≡ 0 → Returns H p boss z → ⊥
    not_zero z e w = Z (subst⁻¹ (λ (u : ℕ). Path H p boss u u) (el ∙ ap (rep p) (sym e)) w)

    at : (xs : List ℕ) (best s z : ℕ) → LowestOf H p boss xs (length xs) best s → z < s → Returns H p boss z → Among xs z → ⊥
    at xs best s z L h w (k, i, e) = subst (λ (u : ℕ). (u ≡ 0 → ⊥) → u < s → Returns H p boss u → ⊥) e (L.past k i) (λ o. not_zero z o w) h w

    pub lowest_all : Lowest H p boss r
    lowest_all = record { least = λ z h hz w. by z h w (N.named z hz (path_there w)); returns = K.told.returns }
      where
        by : (z : ℕ) → z < r → Returns H p boss z → Named eqs sites kids z → ⊥
        by z h w (inl e) = not_zero z e w
        by z h w (inr (inl i)) = at eqs a b z E (let d = K.down in omega arith) w i
        by z h w (inr (inr (inl i))) = at sites max_sites a z S (let d = K.down in let c = E.down in omega arith) w i
        by z h w (inr (inr (inr i))) = at kids b r z K h w i

-- ---- why a site whose class has a holder is named

at_or_zero : (xs : List ℕ) (k : ℕ) → Among xs (get_or xs k 0) ⊎ (get_or xs k 0 ≡ 0)
at_or_zero xs k = go (dec_lt k (length xs))
  where
    go : Dec (k < length xs) → Among xs (get_or xs k 0) ⊎ (get_or xs k 0 ≡ 0)
    go (yes l) = inl (k, l, refl)
    go (no n) = inr (get_or-eq_default xs 0 (let v : length xs ≤ k = omega arith in v))

module _ (H : Held) (eqs : List ℕ) where
  abbrev Has : ℕ → Type 0
  Has z = Named eqs H.sites H.kids z

  of_eqs : (k : ℕ) → Has (get_or eqs k 0)
  of_eqs k = go (at_or_zero eqs k)
    where
      go : Among eqs (get_or eqs k 0) ⊎ (get_or eqs k 0 ≡ 0) → Has (get_or eqs k 0)
      go (inl w) = inr (inl w)
      go (inr e) = inl e

  of_sites : (h : ℕ) → Has (site_of H h)
  of_sites h = go (at_or_zero H.sites h)
    where
      go : Among H.sites (site_of H h) ⊎ (site_of H h ≡ 0) → Has (site_of H h)
      go (inl w) = inr (inr (inl w))
      go (inr e) = inl e

  of_kids : (h f : ℕ) → Has (kid_of H h f)
  unfolding kid_in
  of_kids h f = go (at_or_zero H.kids (max_fields * row_of H h + f))
    where
      go : Among H.kids (get_or H.kids (max_fields * row_of H h + f) 0) ⊎ (get_or H.kids (max_fields * row_of H h + f) 0 ≡ 0) → Has (get_or H.kids (max_fields * row_of H h + f) 0)
      go (inl w) = inr (inr (inr w))
      go (inr e) = inl e

  -- two sites of one class are one site, or both are named
  abbrev Both : ℕ → ℕ → Type 0
  Both u v = (u ≡ v) ⊎ (Has u × Has v)

  both_back : (u v : ℕ) → Both u v → Both v u
  both_back u v (inl e) = inl (sym e)
  both_back u v (inr w) = inr (w.1, w.0)

  both_through : (u v w : ℕ) → Both u v → Both v w → Both u w
  both_through u v w (inl e) (inl f) = inl (e ∙ f)
  both_through u v w (inl e) (inr g) = inr (subst⁻¹ Has e g.0, g.1)
  both_through u v w (inr g) (inl f) = inr (g.0, subst Has f g.1)
  both_through u v w (inr g) (inr k) = inr (g.0, k.1)

  together_named : (m : ℕ) {u v : ℕ} → Together (eqs_in eqs) (holders_to H m) u v → Both u v
  unfolding eqs_in
  together_named m (written_so {a = a} {b = b} l) = go (of_below (length eqs / 2) (eq_at eqs) (a, b) l)
    where
      go : (i : ℕ) × (i < length eqs / 2) × ◌≡◌ {A = ℕ × ℕ} (a, b) (eq_at eqs i) → Both a b
      go (i, h, e) = inr (subst⁻¹ (λ (x : ℕ × ℕ). Has x.0 × Has x.1) e (of_eqs (2 * i), of_eqs (2 * i + 1)))
  together_named m itself = inl refl
  together_named m (back t) = both_back _ _ (together_named m t)
  together_named m (through t w) = both_through _ _ _ (together_named m t) (together_named m w)
  together_named m (like {a = a} {b = b} x y mx my e t l) = go (of_holders H m x mx) (of_holders H m y my)
    where
      go : (h : ℕ) × (h < m) × (x ≡ holder_in H h) → (g : ℕ) × (g < m) × (y ≡ holder_in H g) → Both a b
      go (h, lh, eh) (g, lg, eg) =
          let e' : shape_of H h ≡ shape_of H g = rw (eh, eg) at e in
          let l' : Memᴰ (a, b) (zip (holder_in H h).kids (holder_in H g).kids) = rw (eh, eg) at l in
          let w = of_zip H h g e' (a, b) l' in
          inr (subst⁻¹ (λ (x : ℕ × ℕ). Has x.0 × Has x.1) w.2 (of_kids h w.0, of_kids g w.0))

  pub all_named : (q : List ℕ) (m : ℕ) → ((u v : ℕ) → One q u v ↔ Together (eqs_in eqs) (holders_to H m) u v) → Reps q → (boss : List ℕ) (n : ℕ)
      → Seated (bare H.sites H.rows H.words) q boss n → AllNamed q boss eqs H.sites H.kids
  all_named q m exact R boss n T = record { named = λ z hz hb. by z hb (together_named m ((exact z (site_of H (get_or boss (rep q z) 0))).0 (sym (T.bosses.one (rep q z) (R.inside z hz) hb)))) }
    where
      by : (z : ℕ) → get_or boss (rep q z) 0 < max_sites → Both z (site_of H (get_or boss (rep q z) 0)) → Has z
      by z hb (inl e) = subst⁻¹ Has e (of_sites (get_or boss (rep q z) 0))
      by z hb (inr w) = w.0
