-- The loop of check 4.
use mathlib.Core.Path.{◌≡◌, refl, sym, ap, ◌∙◌, subst⁻¹}
use mathlib.Core.Bool.{Bool, true, false}
use mathlib.Core.List.{List}
use Prim.Native.Nat.{ℕ, ◌+◌, ◌≤◌, ◌<◌}
use native.Mathlib.Omega.{arith}
use native.Mathlib.Decide.{ℕ_discrete}
use lib.ListN.{get_or, set, length-set, replicate, length-replicate, get_or-replicate}
use lib.Seq.{get_or-set_same, get_or-set_other}
use borrow.Author.Count.{below_more}
use Rattle.std.specs.declared.option.Option.TheVariants.{None, Some}
use Rattle.paper.specs.Numbers.{max_sites}
use Rattle.paper.specs.Sites.{same_constraint}
use Rattle.rule_words.proofs.PackLaws.{same_refl}
use Rattle.classes.specs.Answers.{rep}
use Rattle.paper.specs.Answered.{Maybe}
use Rattle.rule_rows.specs.Holding.{Held, site_of, row_of, shape_of, shape_in, Inside}
use Rattle.rule_classes.specs.Meeting.{Reps, FirstOf, Like, Unlike, ClashIs, Seated}

module _ (H : Held) (p : List ℕ) where
  pub seated_none : (boss : List ℕ) → boss ≡ replicate max_sites max_sites → Seated H p boss 0
  seated_none boss e = subst⁻¹ (λ (b : List ℕ). Seated H p b 0) e (record {
    bosses = record {
      long = length-replicate {A = ℕ} max_sites max_sites;
      below = λ z h g. absurd (none z h g);
      one = λ z h g. absurd (none z h g);
      least = λ z f h g. absurd (none z h g);
      every = λ h l. absurd (omega arith);
    };
    likes = λ h l. absurd (omega arith);
  })
    where
      none : (z : ℕ) → z < max_sites → get_or (replicate max_sites max_sites) z 0 < max_sites → ⊥
      none z h g = let e = get_or-replicate {A = ℕ} max_sites z max_sites 0 h in omega arith

  module _ (R : Reps p) (I : Inside H.sites) (boss : List ℕ) (h : ℕ) (hh : h < max_sites) (T : Seated H p boss h) where
    root : ℕ
    root = rep p (site_of H h)

    root_in : root < max_sites
    unfolding root
    root_in = R.inside (site_of H h) (I h)

    first_at : get_or boss root 0 < max_sites → FirstOf H p (get_or boss root 0) h
    unfolding root
    first_at g = record {
      before = let b = T.bosses.below root root_in g in omega arith;
      one = T.bosses.one root root_in g;
      least = λ f l o. T.bosses.least root f root_in g l o;
    }

    more : (get_or boss root 0 < max_sites) → Like H p h → Seated H p boss (h + 1)
    unfolding root
    more g L = record {
      bosses = record {
        long = T.bosses.long;
        below = λ z hz b. let w = T.bosses.below z hz b in omega arith;
        one = T.bosses.one;
        least = T.bosses.least;
        every = below_more _ _ T.bosses.every g;
      };
      likes = below_more _ _ T.likes L;
    }

    -- none before h is of a class without a first holder
    fresh : max_sites ≤ get_or boss root 0 → (f : ℕ) → f < h → rep p (site_of H f) ≡ root → ⊥
    unfolding root
    fresh n f l e = let b = T.bosses.every f l in let q = ap (λ (u : ℕ). get_or boss u 0) e in omega arith

    new : max_sites ≤ get_or boss root 0 → Seated H p (set boss root h) (h + 1)
    unfolding root
    new n = record {
      bosses = record {
        long = length-set boss root h ∙ T.bosses.long;
        below = λ z hz. belows z hz (ℕ_discrete z root);
        one = λ z hz. ones z hz (ℕ_discrete z root);
        least = λ z f hz. leasts z f hz (ℕ_discrete z root);
        every = below_more _ _ (λ i l. everys i l (ℕ_discrete (rep p (site_of H i)) root)) (rw here hh);
      };
      likes = below_more _ _ T.likes (record { boss = h; first = record { before = omega arith; one = refl; least = λ f l o. fresh n f l o }; same = same_refl (shape_of H h) });
    }
      where
        here : get_or (set boss root h) root 0 ≡ h
        here = get_or-set_same boss root h 0 (omega (arith, root_in, T.bosses.long))

        off : (z : ℕ) → (z ≡ root → ⊥) → get_or (set boss root h) z 0 ≡ get_or boss z 0
        off z d = get_or-set_other boss root z h 0 d

        belows : (z : ℕ) → z < max_sites → Dec (z ≡ root) → get_or (set boss root h) z 0 < max_sites → get_or (set boss root h) z 0 < h + 1
        belows z hz (yes e) g = let w = ap (λ (u : ℕ). get_or (set boss root h) u 0) e ∙ here in omega arith
        belows z hz (no d) g = let w = off z d in let v = T.bosses.below z hz (omega arith) in omega arith

        ones : (z : ℕ) → z < max_sites → Dec (z ≡ root) → get_or (set boss root h) z 0 < max_sites → rep p (site_of H (get_or (set boss root h) z 0)) ≡ z
        ones z hz (yes e) g = ap (λ (u : ℕ). rep p (site_of H u)) (ap (λ (u : ℕ). get_or (set boss root h) u 0) e ∙ here) ∙ sym e
        ones z hz (no d) g = ap (λ (u : ℕ). rep p (site_of H u)) (off z d) ∙ T.bosses.one z hz (rw (off z d) at g)

        leasts : (z f : ℕ) → z < max_sites → Dec (z ≡ root) → get_or (set boss root h) z 0 < max_sites → f < get_or (set boss root h) z 0 → rep p (site_of H f) ≡ z → ⊥
        leasts z f hz (yes e) g l o = let w = ap (λ (u : ℕ). get_or (set boss root h) u 0) e ∙ here in fresh n f (omega arith) (o ∙ e)
        leasts z f hz (no d) g l o = T.bosses.least z f hz (rw (off z d) at g) (rw (off z d) at l) o

        everys : (i : ℕ) → i < h → Dec (rep p (site_of H i) ≡ root) → get_or (set boss root h) (rep p (site_of H i)) 0 < max_sites
        everys i l (yes e) = let w = ap (λ (u : ℕ). get_or (set boss root h) u 0) e ∙ here in omega arith
        everys i l (no d) = rw (off (rep p (site_of H i)) d) (T.bosses.every i l)

    -- the body of seat: k, s, z are h, its site and its root, widened
    module _ (k s w z : ℕ) (ek : k ≡ h) (es : s ≡ get_or H.sites k 0) (ew : w ≡ rep p s) (ez : z ≡ w) where
      is_root : z ≡ root
      unfolding root
      is_root = ez ∙ (ew ∙ ap (rep p) (es ∙ ap (λ (u : ℕ). get_or H.sites u 0) ek))

      pub in_range : z < max_sites
      in_range = let e = is_root in let i = root_in in omega arith

      pub seat_new : max_sites ≤ get_or boss z 0 → Seated H p (set boss z h) (h + 1)
      seat_new n = rw is_root (new (rw is_root at n))

      module _ (g : get_or boss z 0 < max_sites) (i j v : ℕ) (t : Bool) (ei : i ≡ get_or H.rows k 0) (ev : v ≡ get_or boss z 0) (ej : j ≡ get_or H.rows v 0)
          (et : t ≡ same_constraint (shape_in H.words i) (shape_in H.words j)) where
        same_is : t ≡ same_constraint (shape_of H h) (shape_of H (get_or boss root 0))
        same_is =
            let a : i ≡ row_of H h = ei ∙ ap (λ (u : ℕ). get_or H.rows u 0) ek in
            let b : j ≡ row_of H (get_or boss root 0) = ej ∙ ap (λ (u : ℕ). get_or H.rows u 0) (ev ∙ ap (λ (u : ℕ). get_or boss u 0) is_root) in
            rw (a, b) at et

        pub seat_like : t ≡ true → Seated H p boss (h + 1)
        seat_like o =
            let g' : get_or boss root 0 < max_sites = rw is_root at g in
            more g' (record { boss = get_or boss root 0; first = first_at g'; same = sym same_is ∙ o })

        pub seat_unlike : t ≡ false → Unlike H p h (get_or boss z 0)
        seat_unlike o =
            let g' : get_or boss root 0 < max_sites = rw is_root at g in
            rw is_root (record { first = first_at g'; differ = sym same_is ∙ o })

-- the loop of conflict
module _ (H : Held) (p : List ℕ) (m : ℕ) where
  pub clash_at : (boss : List ℕ) (h b k v s t : ℕ) → Seated H p boss h → h < m → Unlike H p h b → k ≡ h → s ≡ get_or H.sites k 0 → v ≡ b → t ≡ get_or H.sites v 0
      → (boss' : List ℕ) → ClashIs H p m (Some (s, t)) × (◌≡◌ {A = Maybe (ℕ × ℕ)} (Some (s, t)) None → Seated H p boss' m)
  unfolding ClashIs
  clash_at boss h b k v s t T l U ek es ev et boss' = (
    record {
      at = h;
      boss = b;
      among = l;
      site = sym (es ∙ ap (λ (u : ℕ). get_or H.sites u 0) ek);
      other = sym (et ∙ ap (λ (u : ℕ). get_or H.sites u 0) ev);
      unlike = U;
      likes = T.likes;
    },
    λ e. let z : ◌≡◌ {A = ℕ} 0 1 = cc in absurd (omega arith),
  )

  pub clash_none : (boss : List ℕ) (h : ℕ) → h ≡ m → Seated H p boss h → ClashIs H p m None × (◌≡◌ {A = Maybe (ℕ × ℕ)} None None → Seated H p boss m)
  unfolding ClashIs
  clash_none boss h e T = let T' : Seated H p boss m = rw e at T in (T'.likes, λ _. T')
