-- What the code finds over roots is what paper says over labels: check 6.
use mathlib.Core.Path.{◌≡◌, refl, sym, ap, ◌∙◌, subst}
use mathlib.Core.Bool.{Bool, true, false}
use mathlib.Core.Option.{Option, none, some}
use mathlib.Core.Logic.{◌⊎◌, inl, inr}
use mathlib.Core.List.Memᴰ
use mathlib.Core.List.{List, [], ◌∷◌, map, Memᴰ}
use Prim.Native.Nat.{ℕ, ◌≤◌, ◌<◌, min}
use native.Mathlib.Omega.{arith}
use native.Mathlib.Decide.{dec_lt}
use lib.ListN.{get_or}
use Rattle.paper.specs.Words.{below, keep, least, joined, Edges, Walk, one, more, returns}
use Rattle.paper.proofs.Walks.{returns_is}
use Rattle.paper.specs.Numbers.{max_sites}
use Rattle.paper.specs.Sites.{same_constraint}
use Rattle.paper.proofs.Laws.{same_constraint_true}
use Rattle.paper.specs.Loading.{Holder, Labels, lowest, steps, endless, no_endless}
use Rattle.paper.proofs.Closure.{in_below, of_below}
use Rattle.classes.specs.Answers.{rep}
use Rattle.paper.specs.Answered.{Verdict}
use Rattle.rule_rows.specs.Holding.{Held, bare, site_of, shape_of, count_of, kid_of, holder_in, holders_to, class_check, verdict_of, Inside}
use Rattle.rule_classes.specs.Growing.{Rest}
use Rattle.rule_classes.specs.Meeting.{Reps, Like, Seated}
use Rattle.rule_check.specs.Search.{Edge, Path, edge, then, Of, WalksIs, none_of, none_at, from}
use Rattle.rule_rows.proofs.Holders.{in_holders, of_holders, same_count}
use Rattle.rule_classes.proofs.Turning.{kids_joined}
use Rattle.rule_classes.proofs.Clashing.{labels, Agree, no_clash}

-- ---- lists

in_joined : {A : Type 0} (xss : List (List A)) (xs : List A) (x : A) → Memᴰ xs xss → Memᴰ x xs → Memᴰ x (joined xss)
unfolding joined
in_joined {A = A} [] xs x x4 m = elim x4 [ ]
in_joined (ys ∷ xss) xs x (Memᴰ.head e) m = Memᴰ.append_left (joined xss) (rw e at m)
in_joined (ys ∷ xss) xs x (Memᴰ.tail l) m = Memᴰ.append_right ys (in_joined xss xs x l m)

pub of_joined : {A : Type 0} (xss : List (List A)) (x : A) → Memᴰ x (joined xss) → (xs : List A) × Memᴰ xs xss × Memᴰ x xs
unfolding joined
of_joined [] x m = elim m [ ]
of_joined {A} (ys ∷ xss) x m = go (λ q. of_joined xss x q) (Memᴰ.append_cases ys m)
  where
    go : (Memᴰ x (joined xss) → (xs : List A) × Memᴰ xs xss × Memᴰ x xs) → Memᴰ x ys ⊎ Memᴰ x (joined xss) → (xs : List A) × Memᴰ xs (ys ∷ xss) × Memᴰ x xs
    go r (inl q) = (ys, Memᴰ.head refl, q)
    go r (inr q) = let w = r q in (w.0, Memᴰ.tail w.1, w.2)

keep_no : (P : ℕ → Bool) (xs : List ℕ) → ((x : ℕ) → P x ≡ false) → keep P xs ≡ []
unfolding keep
keep_no P [] h = refl
keep_no P (x ∷ xs) h = rw (h x, keep) (keep_no P xs h)

in_keep : (P : ℕ → Bool) (xs : List ℕ) (z : ℕ) → P z ≡ true → Memᴰ z xs → Memᴰ z (keep P xs)
unfolding keep
in_keep P [] z e x'' = elim x'' [ ]
in_keep P (x ∷ xs) z e (Memᴰ.head q) = let w : P x ≡ true = rw q at e in rw (w, keep) (Memᴰ.head q)
in_keep P (x ∷ xs) z e (Memᴰ.tail m) = go (P x) refl (in_keep P xs z e m)
  where
    go : (t : Bool) → P x ≡ t → Memᴰ z (keep P xs) → Memᴰ z (keep P (x ∷ xs))
    go true p h = rw (p, keep) (Memᴰ.tail h)
    go false p h = rw (p, keep) h

of_keep : (P : ℕ → Bool) (xs : List ℕ) (z : ℕ) → Memᴰ z (keep P xs) → P z ≡ true
unfolding keep
of_keep P [] z m = elim m [ ]
of_keep P (x ∷ xs) z m = go (P x) refl (λ q. of_keep P xs z q) m
  where
    go : (t : Bool) → P x ≡ t → (Memᴰ z (keep P xs) → P z ≡ true) → Memᴰ z (elim t as (λ _. List ℕ) [ true ↦ x ∷ keep P xs | false ↦ keep P xs ]) → P z ≡ true
    go true p h (Memᴰ.head e) = ap P e ∙ p
    go true p h (Memᴰ.tail q) = h q
    go false p h q = h q

-- the least of a list is below all of it, and is in it
data Least (xs : List ℕ) : Option ℕ → Type 0 where
  empty : ((x : ℕ) → Memᴰ x xs → ⊥) → Least xs none
  found : (y : ℕ) → Memᴰ y xs → ((x : ℕ) → Memᴰ x xs → y ≤ x) → Least xs (some y)

least_is : (xs : List ℕ) → Least xs (least xs)
unfolding least
least_is [] = empty (λ x m. elim m [ ])
least_is (x ∷ xs) = go (least_is xs)
  where
    lower : (y z : ℕ) → Memᴰ y xs → ((u : ℕ) → Memᴰ u xs → y ≤ u) → Memᴰ z (x ∷ xs) → min x y ≤ z
    lower y z m h (Memᴰ.head e) = omega arith
    lower y z m h (Memᴰ.tail q) = let w = h z q in omega arith

    inside : (y : ℕ) → Memᴰ y xs → Dec (x < y) → Memᴰ (min x y) (x ∷ xs)
    inside y m (yes l) = let e : min x y ≡ x = omega arith in Memᴰ.head e
    inside y m (no d) = let e : min x y ≡ y = omega arith in rw e (Memᴰ.tail m)

    alone : ((u : ℕ) → Memᴰ u xs → ⊥) → (z : ℕ) → Memᴰ z (x ∷ xs) → x ≤ z
    alone h z (Memᴰ.head e) = omega arith
    alone h z (Memᴰ.tail q) = absurd (h z q)

    go : {o : Option ℕ} → Least xs o → Least (x ∷ xs) (elim o as (λ _. Option ℕ) [ none ↦ some x | some y ↦ some (min x y) ])
    go (empty h) = found x (Memᴰ.head refl) (alone h)
    go (found y m h) = found (min x y) (inside y m (dec_lt x y)) (λ z q. lower y z m h q)

least_at : (xs : List ℕ) (z : ℕ) → Memᴰ z xs → ((x : ℕ) → Memᴰ x xs → z ≤ x) → least xs ≡ some z
least_at xs z m h = go (least_is xs)
  where
    go : {o : Option ℕ} → Least xs o → o ≡ some z
    go (empty n) = absurd (n z m)
    go (found y k l) = let a = h y k in let b = l z m in let e : y ≡ z = omega arith in ap some e

-- ---- walks that return

walk_from : {es : Edges} {a b : ℕ} → Walk es a b → (d : ℕ) × Memᴰ (a, d) es
walk_from (one {b = b} m) = (b, m)
walk_from (more {b = b} m w) = (b, m)

not_returns : (es : Edges) (a : ℕ) → (Walk es a a → ⊥) → returns es a ≡ false
not_returns es a h = go (returns es a) refl
  where
    go : (t : Bool) → returns es a ≡ t → t ≡ false
    go true e = absurd (h ((returns_is es a).0 e))
    go false e = refl

pub endless_none : (es : Edges) → ((a : ℕ) → Walk es a a → ⊥) → endless es ≡ none
unfolding endless least
endless_none es h = rw (keep_no (returns es) (map (λ e. e.0) es) (λ a. not_returns es a (h a)))

endless_some : (es : Edges) (z : ℕ) → Walk es z z → ((a : ℕ) → Walk es a a → z ≤ a) → endless es ≡ some z
unfolding endless
endless_some es z w h =
    let f = walk_from w in
    least_at (keep (returns es) (map (λ e. e.0) es)) z
    (in_keep (returns es) (map (λ e. e.0) es) z ((returns_is es z).1 w) (Memᴰ.map (λ (e : ℕ × ℕ). e.0) f.1))
    (λ x m. h x ((returns_is es x).0 (of_keep (returns es) (map (λ e. e.0) es) x m)))

-- ---- over the classes of q, which are the labels

module _ (H : Held) (E : List (ℕ × ℕ)) (q : List ℕ) (m : ℕ) (A : Agree H E q m) (IS : Inside H.sites) where
  abbrev hs : List Holder
  hs = holders_to H m

  abbrev k : Labels
  k = labels H E m

  in_steps : (h f : ℕ) → h < m → f < count_of H h → Memᴰ (lowest k (site_of H h), lowest k (kid_of H h f)) (steps k hs)
  unfolding steps
  in_steps h f l b =
      in_joined (map (λ (x : Holder). map (λ c. (lowest k x.site, lowest k c)) x.kids) hs) (map (λ c. (lowest k (site_of H h), lowest k c)) (below (count_of H h) (kid_of H h)))
      (lowest k (site_of H h), lowest k (kid_of H h f))
      (Memᴰ.map (λ (x : Holder). map (λ c. (lowest k x.site, lowest k c)) x.kids) (in_holders H m h l))
      (Memᴰ.map (λ c. (lowest k (site_of H h), lowest k c)) (in_below (count_of H h) (kid_of H h) f b))

  record StepOf (a b : ℕ) : Type 0 where
    holder_at : ℕ
    among : holder_at < m
    field_at : ℕ
    within : field_at < count_of H holder_at
    start : a ≡ lowest k (site_of H holder_at)
    end : b ≡ lowest k (kid_of H holder_at field_at)

  holder_step : (h : ℕ) → h < m → (a b : ℕ) → Memᴰ {A = ℕ × ℕ} (a, b) (map (λ c. (lowest k (site_of H h), lowest k c)) (below (count_of H h) (kid_of H h))) → StepOf a b
  holder_step h l a b i = go (Memᴰ.of_map (λ c. (lowest k (site_of H h), lowest k c)) (below (count_of H h) (kid_of H h)) i)
    where
      at : (c : ℕ) → ◌≡◌ {A = ℕ × ℕ} (lowest k (site_of H h), lowest k c) (a, b) → (f : ℕ) × (f < count_of H h) × (c ≡ kid_of H h f) → StepOf a b
      at c e (f, j, ef) = record {
        holder_at = h;
        among = l;
        field_at = f;
        within = j;
        start = ap (λ (p : ℕ × ℕ). p.0) (sym e);
        end = ap (λ (p : ℕ × ℕ). p.1) (sym e) ∙ ap (lowest k) ef;
      }

      go : (c : ℕ) × Memᴰ c (below (count_of H h) (kid_of H h)) × ◌≡◌ {A = ℕ × ℕ} (lowest k (site_of H h), lowest k c) (a, b) → StepOf a b
      go (c, j, e) = at c e (of_below (count_of H h) (kid_of H h) c j)

  of_steps : (a b : ℕ) → Memᴰ (a, b) (steps k hs) → StepOf a b
  unfolding steps
  of_steps a b l = go (of_joined (map (λ (x : Holder). map (λ c. (lowest k x.site, lowest k c)) x.kids) hs) (a, b) l)
    where
      at : (x : Holder) → (h : ℕ) × (h < m) × (x ≡ holder_in H h) → Memᴰ {A = ℕ × ℕ} (a, b) (map (λ c. (lowest k x.site, lowest k c)) x.kids) → StepOf a b
      at x (h, j, e) i = holder_step h j a b (subst (λ (y : Holder). Memᴰ {A = ℕ × ℕ} (a, b) (map (λ c. (lowest k y.site, lowest k c)) y.kids)) e i)

      go : (xs : List (ℕ × ℕ)) × Memᴰ xs (map (λ (x : Holder). map (λ c. (lowest k x.site, lowest k c)) x.kids) hs) × Memᴰ {A = ℕ × ℕ} (a, b) xs → StepOf a b
      go (xs, j, i) = let v = Memᴰ.of_map (λ (x : Holder). map (λ c. (lowest k x.site, lowest k c)) x.kids) hs j in at v.0 (of_holders H m v.0 v.1) (rw (← v.2) at i)

  module _ (boss : List ℕ) (R : Reps q) (T : Seated (bare H.sites H.rows H.words) q boss m) (rest : (h : ℕ) → h < m → Rest H q h) where
    low_rep : (x : ℕ) → lowest k (rep q x) ≡ lowest k x
    low_rep x = A.to (rep q x) x (R.again x)

    rep_low : (x : ℕ) → rep q (lowest k x) ≡ rep q x
    rep_low x = A.fro (lowest k x) x (A.sound.function.idem x)

    -- a step from root to root is a step from label to label
    edge_step : (a b : ℕ) → Edge (Of H) q boss a b → Memᴰ (lowest k a, lowest k b) (steps k hs)
    edge_step a b e =
        let g = get_or boss a 0 in
        let B = T.bosses in
        let ea : lowest k a ≡ lowest k (site_of H g) = A.to a (site_of H g) (sym (ap (rep q) (B.one a e.root e.there)) ∙ R.again (site_of H g)) in
        let eb : lowest k b ≡ lowest k (kid_of H g e.place) = ap (lowest k) e.to ∙ low_rep (kid_of H g e.place) in
        rw (ea, eb) (in_steps g e.place (B.below a e.root e.there) e.in_range)

    path_walk : {a b : ℕ} → Path (Of H) q boss a b → Walk (steps k hs) (lowest k a) (lowest k b)
    path_walk (edge e) = one (edge_step _ _ e)
    path_walk (then e w) = more (edge_step _ _ e) (path_walk w)

    -- the first holder of h's class is like h
    boss_like : (h : ℕ) → h < m → shape_of H h ≡ shape_of H (get_or boss (rep q (site_of H h)) 0)
    boss_like h l = go (dec_lt g L.boss) (dec_lt L.boss g)
      where
        z : ℕ
        z = rep q (site_of H h)

        g : ℕ
        g = get_or boss (rep q (site_of H h)) 0

        L : Like (bare H.sites H.rows H.words) q h
        L = T.likes h l

        hz : rep q (site_of H h) < max_sites
        hz = R.inside (site_of H h) (IS h)

        hg : get_or boss (rep q (site_of H h)) 0 < max_sites
        hg = T.bosses.every h l

        go : Dec (g < L.boss) → Dec (L.boss < g) → shape_of H h ≡ shape_of H g
        go (yes b) d = absurd (L.first.least g b (T.bosses.one z hz hg))
        go (no d) (yes b) = absurd (T.bosses.least z L.boss hz hg b L.first.one)
        go (no d) (no d') =
            let e : L.boss ≡ g = omega arith in
            same_constraint_true (shape_of H h) (shape_of H g) (subst (λ (x : ℕ). same_constraint (shape_of H h) (shape_of H x) ≡ true) e L.same)

    step_edge : (a b : ℕ) → StepOf a b → Edge (Of H) q boss (rep q a) (rep q b)
    step_edge a b s =
        let h = s.holder_at in
        let z = rep q (site_of H h) in
        let g = get_or boss z 0 in
        let l = s.among in
        let hz = R.inside (site_of H h) (IS h) in
        let hg = T.bosses.every h l in
        let e = boss_like h l in
        let j = kids_joined H q m rest h g l (T.bosses.below z hz hg) e (sym (T.bosses.one z hz hg)) s.field_at s.within in
        let c = same_count H h g e in
        let w : Edge (Of H) q boss z (rep q (kid_of H h s.field_at)) = record { root = hz; there = hg; place = s.field_at; in_range = let i = s.within in omega arith; to = j } in
        rw (s.start, s.end, rep_low (site_of H h), rep_low (kid_of H h s.field_at)) w

    walk_path : {a b : ℕ} → Walk (steps k hs) a b → Path (Of H) q boss (rep q a) (rep q b)
    walk_path (one {a = a} {b = b} l) = edge (step_edge a b (of_steps a b l))
    walk_path (more {a = a} {b = b} l w) = then (step_edge a b (of_steps a b l)) (walk_path w)

    walk_start : (a : ℕ) → Walk (steps k hs) a a → (h : ℕ) × (h < m) × (rep q a ≡ rep q (site_of H h))
    walk_start a w =
        let f = walk_from w in
        let s = of_steps a f.0 f.1 in
        (s.holder_at, s.among, ap (rep q) s.start ∙ rep_low (site_of H s.holder_at))

    walks_told : (v : Verdict) → WalksIs H q boss m v → no_endless (endless (steps k hs)) ≡ verdict_of v
    walks_told v (none_of N) = ap no_endless (endless_none (steps k hs) none_walks)
      where
        none_walks : (a : ℕ) → Walk (steps k hs) a a → ⊥
        none_walks a w = let s = walk_start a w in N s.0 s.1 (rw s.2 at (walk_path w))
    walks_told v (none_at N) = ap no_endless (endless_none (steps k hs) none_walks)
      where
        none_walks : (a : ℕ) → Walk (steps k hs) a a → ⊥
        none_walks a w = let s = walk_start a w in N (site_of H s.0) (IS s.0) (rw s.2 at (walk_path w))
    walks_told v (from z hz L) = ap no_endless (endless_some (steps k hs) z walk (λ a w. above a w (dec_lt a z)))
      where
        above : (a : ℕ) → Walk (steps k hs) a a → Dec (a < z) → z ≤ a
        above a w (yes l) = absurd (L.least a l (omega arith) (walk_path w))
        above a w (no d) = omega arith

        own : lowest k z ≡ z
        own = go (dec_lt (lowest k z) z)
          where
            go : Dec (lowest k z < z) → lowest k z ≡ z
            go (yes l) = absurd (L.least (lowest k z) l (omega arith) (rw (rep_low z) (L.returns hz)))
            go (no d) = let h = A.sound.function.low z in omega arith

        walk : Walk (steps k hs) z z
        walk = let e : lowest k (rep q z) ≡ z = low_rep z ∙ own in rw e at (path_walk (L.returns hz))

    pub answer_walks : (v : Verdict) → WalksIs H q boss m v → verdict_of v ≡ class_check E hs
    unfolding class_check labels
    answer_walks v W = sym (rw (no_clash H E q m A T.likes) (walks_told v W))
