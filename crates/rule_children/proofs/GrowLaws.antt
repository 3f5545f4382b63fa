-- Adding the children: those that are missing, in the order of their fields, are what adding them one by one adds.
use mathlib.Core.Path.{◌≡◌, refl, sym, ap, ◌∙◌}
use mathlib.Core.Bool.{Bool, true, false, not}
use mathlib.Core.Option.{Option, none, some}
use mathlib.Core.List.{List, [], ◌∷◌, ◌++◌, map, append_assoc, append-nil}
use Prim.Native.Nat.{ℕ, zero, suc, ◌+◌, ◌-◌, ◌<◌, ◌≤◌}
use native.Mathlib.Numerals.{add-one}
use native.Mathlib.Omega.{arith}
use lib.ListN.{length, get_or, set, replicate, length-append, length-set, get_or-replicate}
use lib.Seq.{get_or-set_same, get_or-set_other, sets, length-sets}
use lib.Dec.{eqb, ltb, leb}
use borrow.Author.Tests.{lt-ltb, le-ltb, le-leb, lt-leb, eqb-true, eqb-false, ltb-true, ltb-false, leb-true, leb-false}
use Rattle.paper.specs.declared.Constraint.{Constraint}
use Rattle.paper.specs.declared.Constraint.TheVariants.{Variant, Struct, ConstBool, ConstInt, ConstPrim, Some}
use Rattle.paper.specs.declared.Refusal.TheVariants.{Unknown, TooManySites}
use Rattle.std.specs.Prelude.{if◌then◌else◌}
use Rattle.paper.specs.Words.{first, below}
use Rattle.paper.specs.Numbers.{max_sites, Outcome, done, refused, ◌>>=◌}
use Rattle.paper.specs.Sites.{Site, Sites, sources, term_of, child_count, child, children, number_of, known, Added, or_next, add, add_all}
use Rattle.paper.proofs.Laws.{number_front, number_on, plus, first_here, first_next}
use Rattle.paper.proofs.Outcomes.{not_refused, done_once}
use Rattle.rule_children.specs.Tail.{word_of, site_of_word, Spelt, table, holes, Numbers, news, Ready, Placed}
use Rattle.rule_children.proofs.WordLaws.{child_apart, child_positive}
use Rattle.rule_children.proofs.ScanLaws.{table_more, number_other, number_new, is_none, is_some}

-- ---- adding one by one

add_all_append : (t : Sites) (at : ℕ) (l r : List Site) → add_all t at (l ++ r) ≡ (add_all t at l >>= λ u. add_all u at r)
unfolding add_all
add_all_append t at [] r = refl
add_all_append t at (x ∷ l) r = go (add t at x) (λ u. add_all_append u at l r)
  where
    go : (o : Outcome Added) → ((u : Sites) → add_all u at (l ++ r) ≡ (add_all u at l >>= λ v. add_all v at r)) →
        (o >>= λ a. add_all a.sites at (l ++ r)) ≡ ((o >>= λ a. add_all a.sites at l) >>= λ u. add_all u at r)
    go (done a) f = f a.sites
    go (refused q) f = refl

abbrev only_sites : Outcome Added → Outcome Sites
only_sites (done a) = done a.sites
only_sites (refused r) = refused r

add_last : (t : Sites) (at : ℕ) (x : Site) → add_all t at (x ∷ []) ≡ only_sites (add t at x)
unfolding add_all
add_last t at x = go (add t at x)
  where
    go : (o : Outcome Added) → (o >>= λ a. done a.sites) ≡ only_sites o
    go (done a) = refl
    go (refused r) = refl

source_known : (u : Sites) (s : ℕ) → s < length u → first (λ n. not (known u n)) (s ∷ []) ≡ none
unfolding known first
source_known u s h = first_next (λ n. not (known u n)) s [] (rw (lt-ltb s (length u) h))

source_lost : (u : Sites) (s : ℕ) → length u ≤ s → first (λ n. not (known u n)) (s ∷ []) ≡ some s
unfolding known
source_lost u s h = first_here (λ n. not (known u n)) s [] (rw (le-ltb s (length u) h))

add_child : (u : Sites) (at s : ℕ) (c : Constraint) (f : ℕ) → s < length u → add u at (child s c f) ≡ or_next u at (child s c f) (number_of u (child s c f))
unfolding add sources term_of child
add_child u at s (Variant t v n) f h = rw (source_known u s h)
add_child u at s (Struct t n) f h = rw (source_known u s h)
add_child u at s (ConstBool t v) f h = rw (source_known u s h)
add_child u at s (ConstInt t x y) f h = rw (source_known u s h)
add_child u at s (ConstPrim v) f h = rw (source_known u s h)
add_child u at s Some f h = rw (source_known u s h)

add_lost : (u : Sites) (at s : ℕ) (c : Constraint) (f : ℕ) → length u ≤ s → add u at (child s c f) ≡ refused (Unknown s)
unfolding add sources term_of child
add_lost u at s (Variant t v n) f h = rw (source_lost u s h)
add_lost u at s (Struct t n) f h = rw (source_lost u s h)
add_lost u at s (ConstBool t v) f h = rw (source_lost u s h)
add_lost u at s (ConstInt t x y) f h = rw (source_lost u s h)
add_lost u at s (ConstPrim v) f h = rw (source_lost u s h)
add_lost u at s Some f h = rw (source_lost u s h)

all_lost : (u : Sites) (at s : ℕ) (c : Constraint) (q : ℕ) → length u ≤ s → add_all u at (below (suc q) (child s c)) ≡ refused (Unknown s)
unfolding below
all_lost u at s c zero h = add_last u at (child s c 0) ∙ ap only_sites (add_lost u at s c 0 h)
all_lost u at s c (suc q) h =
    add_all_append u at (below (suc q) (child s c)) (child s c (suc q) ∷ [])
    ∙ ap (λ o. o >>= λ v. add_all v at (child s c (suc q) ∷ [])) (all_lost u at s c q h)

-- ---- what is new

module _ (t : Sites) (s : ℕ) (c : Constraint) where
  news_none : (q : ℕ) → number_of t (child s c q) ≡ none → news t s c (suc q) ≡ news t s c q ++ (child s c q ∷ [])
  unfolding news
  news_none q e = rw (e, news)

  news_some : (q i : ℕ) → number_of t (child s c q) ≡ some i → news t s c (suc q) ≡ news t s c q
  unfolding news
  news_some q i e = rw (e, news)

  news_longer : (q : ℕ) → number_of t (child s c q) ≡ none → length (news t s c (suc q)) ≡ suc (length (news t s c q))
  news_longer q e = ap length (news_none q e) ∙ length-append (news t s c q) (child s c q ∷ []) ∙ (let z : length (news t s c q) + 1 ≡ suc (length (news t s c q)) = omega arith in z)

  news_more : (q : ℕ) → length (news t s c q) ≤ length (news t s c (suc q))
  news_more q = go (number_of t (child s c q)) refl
    where
      go : (o : Option ℕ) → number_of t (child s c q) ≡ o → length (news t s c q) ≤ length (news t s c (suc q))
      go none e = let z = news_longer q e in omega arith
      go (some i) e = let z = ap length (news_some q i e) in omega arith

  news_few : (q : ℕ) → length (news t s c q) ≤ q
  unfolding news
  news_few zero = omega arith
  news_few (suc q) = go (number_of t (child s c q)) refl (news_few q)
    where
      go : (o : Option ℕ) → number_of t (child s c q) ≡ o → length (news t s c q) ≤ q → length (news t s c (suc q)) ≤ suc q
      go none e h = let z = news_longer q e in omega arith
      go (some i) e h = let z = ap length (news_some q i e) in omega arith

  pub news_most : (q d : ℕ) → length (news t s c q) ≤ length (news t s c (q + d))
  news_most q zero = let e : q + 0 ≡ q = omega arith in rw e (omega arith)
  news_most q (suc d) = let e : q + suc d ≡ suc (q + d) = omega arith in let a = news_most q d in let b = news_more (q + d) in rw e (omega arith)

  -- a later child is not among them
  news_apart : (q i : ℕ) → q ≤ i → i < child_count c → number_of (news t s c q) (child s c i) ≡ none
  unfolding news number_of
  news_apart zero i h l = refl
  news_apart (suc q) i h l = go (number_of t (child s c q)) refl (news_apart q i (omega arith) l)
    where
      go : (o : Option ℕ) → number_of t (child s c q) ≡ o → number_of (news t s c q) (child s c i) ≡ none → number_of (news t s c (suc q)) (child s c i) ≡ none
      go none e f = ap (λ l. number_of l (child s c i)) (news_none q e) ∙ number_other (news t s c q) (child s c q) (child s c i) (λ z. let w = child_apart s c q i (omega arith) l z in omega arith) ∙ f
      go (some j) e f = ap (λ l. number_of l (child s c i)) (news_some q j e) ∙ f

  still_none : (q : ℕ) → q < child_count c → number_of t (child s c q) ≡ none → number_of (t ++ news t s c q) (child s c q) ≡ none
  still_none q l e = number_on t (news t s c q) (child s c q) e ∙ ap (plus (length t)) (news_apart q q (omega arith) l)

  -- how many the search has found missing
  pub news_holes : (of : List ℕ) → Numbers t s c of → length t < 65536 → (q : ℕ) → q ≤ child_count c → holes of q ≡ length (news t s c q)
  unfolding holes news
  news_holes of N l zero h = refl
  news_holes of N l (suc q) h = go (eqb (get_or of q 0) 65535) refl (news_holes of N l q (omega arith))
    where
      go : (b : Bool) → eqb (get_or of q 0) 65535 ≡ b → holes of q ≡ length (news t s c q) → holes of q + (if b then 1 else 0) ≡ length (news t s c (suc q))
      go true x e =
          let w = news_longer q (is_none t (child s c q) (get_or of q 0) l (N.each q (omega arith)) (eqb-true (get_or of q 0) 65535 x)) in
          omega arith
      go false x e =
          let w = ap length (news_some q (get_or of q 0) (is_some t (child s c q) (get_or of q 0) l (N.each q (omega arith)) (eqb-false (get_or of q 0) 65535 x))) in
          omega arith

  -- ---- adding the first q

  abbrev asked : ℕ
  asked = length t + (max_sites - length t) + 1

  module _ (at : ℕ) (k : s < length t) where
    abbrev ends : ℕ → Outcome Sites
    ends q = if leb (length (news t s c q)) (max_sites - length t) then done (t ++ news t s c q) else refused (TooManySites asked at)

    ends_fits : (q : ℕ) → length (news t s c q) ≤ max_sites - length t → ends q ≡ done (t ++ news t s c q)
    ends_fits q h = rw (le-leb (length (news t s c q)) (max_sites - length t) h)

    ends_full : (q : ℕ) → max_sites - length t < length (news t s c q) → ends q ≡ refused (TooManySites asked at)
    ends_full q h = rw (lt-leb (length (news t s c q)) (max_sites - length t) h)

    long : (q : ℕ) → length (t ++ news t s c q) ≡ length t + length (news t s c q)
    long q = length-append t (news t s c q)

    one_known : (q i : ℕ) → number_of t (child s c q) ≡ some i → add (t ++ news t s c q) at (child s c q) ≡ done (record { sites = t ++ news t s c q; number = i })
    one_known q i e =
        let z = long q in
        add_child (t ++ news t s c q) at s c q (omega arith) ∙ ap (or_next (t ++ news t s c q) at (child s c q)) (number_front t (news t s c q) (child s c q) i e)

    one_new : (q : ℕ) → q < child_count c → number_of t (child s c q) ≡ none → add (t ++ news t s c q) at (child s c q) ≡ or_next (t ++ news t s c q) at (child s c q) none
    one_new q l e =
        let z = long q in
        add_child (t ++ news t s c q) at s c q (omega arith) ∙ ap (or_next (t ++ news t s c q) at (child s c q)) (still_none q l e)

    one_more : (q : ℕ) → q < child_count c → length (news t s c q) ≤ max_sites - length t → only_sites (add (t ++ news t s c q) at (child s c q)) ≡ ends (suc q)
    one_more q l h = go (number_of t (child s c q)) refl
      where
        size : length (t ++ news t s c q) ≡ length t + length (news t s c q)
        size = long q

        room : (b : Bool) → ltb (length (t ++ news t s c q)) max_sites ≡ b → number_of t (child s c q) ≡ none → only_sites (or_next (t ++ news t s c q) at (child s c q) none) ≡ ends (suc q)
        room true x e =
            let y = ltb-true (length (t ++ news t s c q)) max_sites x in
            let w = news_longer q e in
            let z : ends (suc q) ≡ done (t ++ news t s c (suc q)) = ends_fits (suc q) (omega (arith, size)) in
            let v : (t ++ news t s c q) ++ (child s c q ∷ []) ≡ t ++ news t s c (suc q) = append_assoc t (news t s c q) (child s c q ∷ []) ∙ ap (λ r. t ++ r) (sym (news_none q e)) in
            let u : only_sites (or_next (t ++ news t s c q) at (child s c q) none) ≡ done ((t ++ news t s c q) ++ (child s c q ∷ [])) = rw x in
            u ∙ ap done v ∙ sym z
        room false x e =
            let y = ltb-false (length (t ++ news t s c q)) max_sites x in
            let w = news_longer q e in
            let z : ends (suc q) ≡ refused (TooManySites asked at) = ends_full (suc q) (omega (arith, size)) in
            let v : suc (length (t ++ news t s c q)) ≡ asked = omega (arith, size) in
            let u : only_sites (or_next (t ++ news t s c q) at (child s c q) none) ≡ refused (TooManySites (suc (length (t ++ news t s c q))) at) = rw x in
            u ∙ ap (λ n. refused (TooManySites n at)) v ∙ sym z

        go : (o : Option ℕ) → number_of t (child s c q) ≡ o → only_sites (add (t ++ news t s c q) at (child s c q)) ≡ ends (suc q)
        go (some i) e =
            let w = news_some q i e in
            let v : length (news t s c (suc q)) ≡ length (news t s c q) = ap length w in
            ap only_sites (one_known q i e) ∙ ap (λ r. done (t ++ r)) (sym w) ∙ sym (ends_fits (suc q) (omega arith))
        go none e = ap only_sites (one_new q l e) ∙ room (ltb (length (t ++ news t s c q)) max_sites) refl e

    all_ends : (q : ℕ) → q ≤ child_count c → add_all t at (below q (child s c)) ≡ ends q
    unfolding below news add_all
    all_ends zero h = ap done (sym (append-nil t)) ∙ sym (ends_fits 0 (omega arith))
    all_ends (suc q) h =
        add_all_append t at (below q (child s c)) (child s c q ∷ [])
        ∙ ap (λ o. o >>= λ u. add_all u at (child s c q ∷ [])) (all_ends q (omega arith))
        ∙ go (leb (length (news t s c q)) (max_sites - length t)) refl
      where
        go : (b : Bool) → leb (length (news t s c q)) (max_sites - length t) ≡ b → (ends q >>= λ u. add_all u at (child s c q ∷ [])) ≡ ends (suc q)
        go true e =
            let l = leb-true (length (news t s c q)) (max_sites - length t) e in
            ap (λ o. o >>= λ u. add_all u at (child s c q ∷ [])) (ends_fits q l) ∙ add_last (t ++ news t s c q) at (child s c q) ∙ one_more q (omega arith) l
        go false e =
            let l = leb-false (length (news t s c q)) (max_sites - length t) e in
            let w = news_more q in
            ap (λ o. o >>= λ u. add_all u at (child s c q ∷ [])) (ends_full q l) ∙ sym (ends_full (suc q) (omega arith))

    pub all_fit : length (news t s c (child_count c)) ≤ max_sites - length t → add_all t at (children s c) ≡ done (t ++ news t s c (child_count c))
    unfolding children
    all_fit h = all_ends (child_count c) (omega arith) ∙ ends_fits (child_count c) h

    pub all_full : max_sites - length t < length (news t s c (child_count c)) → add_all t at (children s c) ≡ refused (TooManySites asked at)
    unfolding children
    all_full h = all_ends (child_count c) (omega arith) ∙ ends_full (child_count c) h

  pub all_unknown : (at : ℕ) → length t ≤ s → 0 < child_count c → add_all t at (children s c) ≡ refused (Unknown s)
  unfolding children
  all_unknown at h l = go (child_count c) refl
    where
      go : (q : ℕ) → child_count c ≡ q → add_all t at (below (child_count c) (child s c)) ≡ refused (Unknown s)
      go zero e = absurd (omega arith)
      go (suc q) e = rw e (all_lost t at s c q h)

  pub all_none : (at : ℕ) → child_count c ≡ 0 → add_all t at (children s c) ≡ done t
  unfolding children below add_all
  all_none at e = rw e

  -- a table that grows passes the limit only if it did before
  pub all_length : (at : ℕ) (u : Sites) → add_all t at (children s c) ≡ done u → (length t ≤ length u) × (length u ≤ length t + (max_sites - length t))
  all_length at u e = go (ltb s (length t)) refl (eqb (child_count c) 0) refl
    where
      same : t ≡ u → (length t ≤ length u) × (length u ≤ length t + (max_sites - length t))
      same q = let z = ap length q in (omega arith, omega arith)

      grows : s < length t → (b : Bool) → leb (length (news t s c (child_count c))) (max_sites - length t) ≡ b → (length t ≤ length u) × (length u ≤ length t + (max_sites - length t))
      grows k true q =
          let h = leb-true (length (news t s c (child_count c))) (max_sites - length t) q in
          let z = ap length (done_once (sym (all_fit at k h) ∙ e)) in
          let y = length-append t (news t s c (child_count c)) in
          (omega arith, omega arith)
      grows k false q = absurd (not_refused (sym (all_full at k (leb-false (length (news t s c (child_count c))) (max_sites - length t) q)) ∙ e))

      some_child : (q : ℕ) → (q ≡ 0 → ⊥) → 0 < q
      some_child zero z = absurd (z refl)
      some_child (suc q) z = omega arith

      go : (a : Bool) → ltb s (length t) ≡ a → (b : Bool) → eqb (child_count c) 0 ≡ b → (length t ≤ length u) × (length u ≤ length t + (max_sites - length t))
      go true x b y = grows (ltb-true s (length t) x) (leb (length (news t s c (child_count c))) (max_sites - length t)) refl
      go false x true y = same (done_once (sym (all_none at (eqb-true (child_count c) 0 y)) ∙ e))
      go false x false y = absurd (not_refused (sym (all_unknown at (ltb-false s (length t) x) (some_child (child_count c) (eqb-false (child_count c) 0 y))) ∙ e))

-- ---- writing them

sets_last : (l : List ℕ) (i : ℕ) (vs : List ℕ) (a : ℕ) → set (sets l i vs) (i + length vs) a ≡ sets l i (vs ++ (a ∷ []))
sets_last l i [] a = let e : i + 0 ≡ i = omega arith in rw e
sets_last l i (v ∷ vs) a = let e : i + suc (length vs) ≡ suc i + length vs = omega arith in rw e (sets_last (set l i v) (suc i) vs a)

map_last : (l : List Site) (x : Site) → map word_of (l ++ (x ∷ [])) ≡ map word_of l ++ (word_of x ∷ [])
map_last [] x = refl
map_last (y ∷ l) x = ap (λ r. word_of y ∷ r) (map_last l x)

map_length : (l : List Site) → length (map word_of l) ≡ length l
map_length [] = refl
map_length (y ∷ l) = ap suc (map_length l)

pub record Placing (t : Sites) (k s : ℕ) (c : Constraint) (tail tail' of : List ℕ) (j q : ℕ) : Type 0 where
  pub low : q ≤ child_count c
  pub placed : Placed t s c q of
  pub words : tail' ≡ sets tail k (map word_of (news t s c q))
  pub next : j ≡ k + length (news t s c q)

pub place_length : (t : Sites) (k s : ℕ) (c : Constraint) (tail tail' now : List ℕ) (j q : ℕ) → Placing t k s c tail tail' now j q → length tail' ≡ length tail
place_length t k s c tail tail' now j q P = ap length P.words ∙ length-sets tail k (map word_of (news t s c q))

pub place_end : (t : Sites) (k s : ℕ) (c : Constraint) (tail tail' now : List ℕ) (j q : ℕ) → Placing t k s c tail tail' now j q → child_count c ≤ q → Placed t s c (child_count c) now × (tail' ≡ sets tail k (map word_of (news t s c (child_count c))))
place_end t k s c tail tail' now j q P h = let l = P.low in let e : child_count c ≡ q = omega arith in (rw e P.placed, rw e P.words)

module _ (t : Sites) (n k s : ℕ) (c : Constraint) (of tail : List ℕ) (R : Ready t n k s c of tail) where
  pub place_start : (j : ℕ) → j ≡ k → Placing t k s c tail tail (replicate 8 0) j 0
  unfolding news
  place_start j e = record {
    low = omega arith;
    placed = record { eight = refl; each = λ f h. absurd (omega arith); past = λ f h l. get_or-replicate {A = ℕ} 8 f 0 0 l };
    words = refl;
    next = omega arith;
  }

  module _ (tail' now : List ℕ) (j q : ℕ) (P : Placing t k s c tail tail' now j q) (l : q < child_count c) where
    size : length now ≡ 8
    size = P.placed.eight

    small : length t < 65536
    small = let a = R.size in let b = R.small in omega arith

    pub place_room : get_or of q 0 ≡ 65535 → j < max_sites - n
    place_room e =
        let w = news_longer t s c q (is_none t (child s c q) (get_or of q 0) small (R.seen.each q l) e) in
        let d : suc q + (child_count c - suc q) ≡ child_count c = omega arith in
        let v : length (news t s c (suc q)) ≤ length (news t s c (child_count c)) = rw d at (news_most t s c (suc q) (child_count c - suc q)) in
        let r = R.room in
        let x = P.next in
        omega arith

    pub place_new : (w : ℕ) → get_or of q 0 ≡ 65535 → Spelt (child s c q) w → Placing t k s c tail (set tail' j w) (set now q (n + j)) (j + 1) (q + 1)
    place_new w e x = rw (add-one q)
        (record {
          low = omega arith;
          placed = record {
            eight = length-set now q (n + j) ∙ size;
            each = λ f h. each f h (eqb f q) refl;
            past = λ f h m. get_or-set_other now q f (n + j) 0 (λ z. omega arith) ∙ P.placed.past f (omega arith) m;
          };
          words = words;
          next = let a = P.next in let b = news_longer t s c q absent in omega arith;
        })
      where
        absent : number_of t (child s c q) ≡ none
        absent = is_none t (child s c q) (get_or of q 0) small (R.seen.each q l) e

        more : t ++ news t s c (suc q) ≡ (t ++ news t s c q) ++ (child s c q ∷ [])
        more = ap (λ r. t ++ r) (news_none t s c q absent) ∙ sym (append_assoc t (news t s c q) (child s c q ∷ []))

        each : (f : ℕ) → f < suc q → (b : Bool) → eqb f q ≡ b → some (get_or (set now q (n + j)) f 0) ≡ number_of (t ++ news t s c (suc q)) (child s c f)
        each f h true y =
            let z = eqb-true f q y in
            let few = R.few in
            let a : get_or (set now q (n + j)) f 0 ≡ n + j = rw z (get_or-set_same now q (n + j) 0 (omega (arith, size))) in
            let b = length-append t (news t s c q) in
            let g = R.size in
            let i = P.next in
            let d : n + j ≡ length (t ++ news t s c q) = omega arith in
            let u : number_of ((t ++ news t s c q) ++ (child s c q ∷ [])) (child s c q) ≡ some (length (t ++ news t s c q)) = number_new (t ++ news t s c q) (child s c q) (still_none t s c q l absent) in
            let v : number_of (t ++ news t s c (suc q)) (child s c f) ≡ some (length (t ++ news t s c q)) = rw (more, z) u in
            ap some (a ∙ d) ∙ sym v
        each f h false y =
            let z = eqb-false f q y in
            let a : get_or (set now q (n + j)) f 0 ≡ get_or now f 0 = get_or-set_other now q f (n + j) 0 z in
            let b = P.placed.each f (let i : f < q = below_it f h z in i) in
            let u = number_front (t ++ news t s c q) (child s c q ∷ []) (child s c f) (get_or now f 0) (sym b) in
            let v : number_of (t ++ news t s c (suc q)) (child s c f) ≡ some (get_or now f 0) = rw more u in
            ap some a ∙ sym v
          where
            below_it : (f : ℕ) → f < suc q → (f ≡ q → ⊥) → f < q
            below_it f h z = go (ltb f q) refl
              where
                go : (b : Bool) → ltb f q ≡ b → f < q
                go true e = ltb-true f q e
                go false e = let w = ltb-false f q e in absurd (z (let i : f ≡ q = omega arith in i))

        words : set tail' j w ≡ sets tail k (map word_of (news t s c (suc q)))
        words =
            let a = P.words in
            let b = P.next in
            let d = map_length (news t s c q) in
            let i : j ≡ k + length (map word_of (news t s c q)) = omega arith in
            let u = sets_last tail k (map word_of (news t s c q)) w in
            let v : map word_of (news t s c q) ++ (w ∷ []) ≡ map word_of (news t s c (suc q)) = ap (λ r. map word_of (news t s c q) ++ (r ∷ [])) x.is ∙ sym (map_last (news t s c q) (child s c q)) ∙ ap (map word_of) (sym (news_none t s c q absent)) in
            rw (a, i) (u ∙ ap (sets tail k) v)

    pub place_old : (get_or of q 0 ≡ 65535 → ⊥) → Placing t k s c tail tail' (set now q (get_or of q 0)) j (q + 1)
    place_old e = rw (add-one q)
        (record {
          low = omega arith;
          placed = record {
            eight = length-set now q (get_or of q 0) ∙ size;
            each = λ f h. each f h (eqb f q) refl;
            past = λ f h m. get_or-set_other now q f (get_or of q 0) 0 (λ z. omega arith) ∙ P.placed.past f (omega arith) m;
          };
          words = P.words ∙ ap (λ r. sets tail k (map word_of r)) (sym same);
          next = P.next ∙ ap (λ r. k + length r) (sym same);
        })
      where
        present : number_of t (child s c q) ≡ some (get_or of q 0)
        present = is_some t (child s c q) (get_or of q 0) small (R.seen.each q l) e

        same : news t s c (suc q) ≡ news t s c q
        same = news_some t s c q (get_or of q 0) present

        each : (f : ℕ) → f < suc q → (b : Bool) → eqb f q ≡ b → some (get_or (set now q (get_or of q 0)) f 0) ≡ number_of (t ++ news t s c (suc q)) (child s c f)
        each f h true y =
            let z = eqb-true f q y in
            let few = R.few in
            let a : get_or (set now q (get_or of q 0)) f 0 ≡ get_or of q 0 = rw z (get_or-set_same now q (get_or of q 0) 0 (omega (arith, size))) in
            let u : number_of (t ++ news t s c q) (child s c q) ≡ some (get_or of q 0) = number_front t (news t s c q) (child s c q) (get_or of q 0) present in
            let v : number_of (t ++ news t s c (suc q)) (child s c f) ≡ some (get_or of q 0) = rw (same, z) u in
            ap some a ∙ sym v
        each f h false y =
            let z = eqb-false f q y in
            let a : get_or (set now q (get_or of q 0)) f 0 ≡ get_or now f 0 = get_or-set_other now q f (get_or of q 0) 0 z in
            let b = P.placed.each f (let i : f < q = below_it f h z in i) in
            let v : number_of (t ++ news t s c (suc q)) (child s c f) ≡ some (get_or now f 0) = rw same (sym b) in
            ap some a ∙ sym v
          where
            below_it : (f : ℕ) → f < suc q → (f ≡ q → ⊥) → f < q
            below_it f h z = go (ltb f q) refl
              where
                go : (b : Bool) → ltb f q ≡ b → f < q
                go true e = ltb-true f q e
                go false e = let w = ltb-false f q e in absurd (z (let i : f ≡ q = omega arith in i))

    pub place_inside : get_or of q 0 ≡ 65535 → j < length tail'
    place_inside e =
        let a = place_room e in
        let b = R.long in
        let d = place_length t k s c tail tail' now j q P in
        let few = R.few in
        let x = P.next in
        let y = news_few t s c q in
        omega arith

    pub next_new : (w : ℕ) (tail'' now' : List ℕ) (j' : ℕ) → get_or of q 0 ≡ 65535 → Spelt (child s c q) w → tail'' ≡ set tail' j w → now' ≡ set now q (n + j) → j' ≡ j + 1 → Placing t k s c tail tail'' now' j' (q + 1)
    next_new w tail'' now' j' e x a b d = rw (a, b, d) (place_new w e x)

    pub next_old : (tail'' now' : List ℕ) (j' : ℕ) → (get_or of q 0 ≡ 65535 → ⊥) → tail'' ≡ tail' → now' ≡ set now q (get_or of q 0) → j' ≡ j → Placing t k s c tail tail'' now' j' (q + 1)
    next_old tail'' now' j' e a b d = rw (a, b, d) (place_old e)

-- the tail holds the table as it grows
abbrev pub Whole : List ℕ → ℕ → List ℕ → ℕ → ℕ → Constraint → List ℕ → ℕ → ℕ → Type 0
Whole m n tail k s c tail' j q = table m n tail' j ≡ table m n tail k ++ news (table m n tail k) s c q

module _ (m : List ℕ) (n : ℕ) (tail : List ℕ) (k s : ℕ) (c : Constraint) where
  abbrev now_there : Sites
  now_there = table m n tail k

  pub whole_start : (j : ℕ) → j ≡ k → Whole m n tail k s c tail j 0
  unfolding news
  whole_start j e = rw e (sym (append-nil now_there))

  module _ (of tail' : List ℕ) (j q : ℕ) (R : Ready now_there n k s c of tail) (H : Whole m n tail k s c tail' j q) (l : q < child_count c) where
    size_there : length now_there < 65536
    size_there = let a = R.size in let b = R.small in omega arith

    pub whole_new : (w : ℕ) (tail'' : List ℕ) (j' : ℕ) → get_or of q 0 ≡ 65535 → Spelt (child s c q) w → tail'' ≡ set tail' j w → j' ≡ j + 1 → j < length tail' → Whole m n tail k s c tail'' j' (q + 1)
    whole_new w tail'' j' e x a b h =
        let y = child_positive s c q in
        let i = x.is in
        let absent = is_none now_there (child s c q) (get_or of q 0) size_there (R.seen.each q l) e in
        let u : table m n (set tail' j w) (suc j) ≡ (now_there ++ news now_there s c q) ++ (child s c q ∷ []) = table_more m n tail' j w h ∙ ap (λ r. r ++ (site_of_word w ∷ [])) H ∙ ap (λ r. (now_there ++ news now_there s c q) ++ (r ∷ [])) (x.back (omega arith)) in
        let v : now_there ++ news now_there s c (suc q) ≡ (now_there ++ news now_there s c q) ++ (child s c q ∷ []) = ap (λ r. now_there ++ r) (news_none now_there s c q absent) ∙ sym (append_assoc now_there (news now_there s c q) (child s c q ∷ [])) in
        rw (a, b, add-one j, add-one q) (u ∙ sym v)

    pub whole_old : (tail'' : List ℕ) (j' : ℕ) → (get_or of q 0 ≡ 65535 → ⊥) → tail'' ≡ tail' → j' ≡ j → Whole m n tail k s c tail'' j' (q + 1)
    whole_old tail'' j' e a b =
        let present = is_some now_there (child s c q) (get_or of q 0) size_there (R.seen.each q l) e in
        let v : now_there ++ news now_there s c (suc q) ≡ now_there ++ news now_there s c q = ap (λ r. now_there ++ r) (news_some now_there s c q (get_or of q 0) present) in
        rw (a, b, add-one q) (H ∙ sym v)

  pub whole_end : (tail' now : List ℕ) (j q : ℕ) → Placing now_there k s c tail tail' now j q → Whole m n tail k s c tail' j q → child_count c ≤ q → table m n tail' (k + length (news now_there s c (child_count c))) ≡ now_there ++ news now_there s c (child_count c)
  whole_end tail' now j q P H h = let l = P.low in let e : child_count c ≡ q = omega arith in let i = P.next in rw (e, ← i) H
