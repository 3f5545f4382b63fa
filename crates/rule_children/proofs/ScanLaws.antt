-- The walk over the table that finds the children: after each site their numbers among those passed, and how many are missing.
use mathlib.Core.Path.{◌≡◌, refl, sym, ap, ◌∙◌}
use mathlib.Core.Bool.{Bool, true, false}
use mathlib.Core.Option.{Option, none, some}
use mathlib.Core.Logic.{⊎_elim}
use mathlib.Core.List.{List, [], ◌∷◌, ◌++◌, append_assoc, append-nil}
use Prim.Native.Nat.{ℕ, zero, suc, ◌+◌, ◌-◌, ◌<◌, ◌≤◌}
use native.Mathlib.Nat.{eq-or-lt_of_le}
use native.Mathlib.Numerals.{add-one}
use native.Mathlib.Omega.{arith}
use lib.ListN.{length, get_or, set, replicate, length-set, get_or-replicate}
use lib.Seq.{get_or-set_same, get_or-set_other}
use lib.Dec.{eqb, ltb}
use borrow.Author.Tests.{lt-ltb, le-ltb, ne_eqb, eqb-true, eqb-false, ltb-true, ltb-false}
use Rattle.paper.specs.declared.Constraint.{Constraint}
use Rattle.std.specs.Prelude.{if◌then◌else◌}
use Rattle.paper.specs.Words.{or_else, below}
use Rattle.paper.specs.Numbers.{max_fields}
use Rattle.paper.specs.Sites.{Site, Sites, child_count, child, number_of}
use Rattle.paper.proofs.Laws.{same_site_refl, number_here, number_there, number_front, number_on, number_some, at_inside, plus}
use Rattle.site_body.proofs.Back.{Bytes}
use Rattle.sites.specs.Slots.{site_in, sites_in, length_below}
use Rattle.sites.proofs.Places.{below_split, below_same, same_site_false}
use Rattle.rule_children.specs.Tail.{site_of_word, Spelt, site_there, table, Field, Wants, Onward, holes, Notes, Numbers}
use Rattle.rule_children.proofs.WordLaws.{child_apart, site_is, site_none}
use Rattle.rule_children.proofs.NextLaws.{no_child}
use Rattle.rule_children.specs.declared.Wanted.{Wanted}

-- ---- the table, site by site

module _ (m : List ℕ) (n : ℕ) (tail : List ℕ) where
  in_memory : (i : ℕ) → i < n → site_in m i ≡ site_there m n tail i
  unfolding site_there
  in_memory i h = rw (lt-ltb i n h)

  in_tail : (i : ℕ) → site_of_word (get_or tail i 0) ≡ site_there m n tail (n + i)
  unfolding site_there
  in_tail i = let e : n + i - n ≡ i = omega arith in rw (le-ltb (n + i) n (omega arith), e)

  pub table_is : (k : ℕ) → table m n tail k ≡ below (n + k) (site_there m n tail)
  unfolding table sites_in below
  table_is zero = let e : n + 0 ≡ n = omega arith in rw e (append-nil (below n (site_in m)) ∙ below_same n (site_in m) (site_there m n tail) in_memory)
  table_is (suc k) =
      let e : n + suc k ≡ suc (n + k) = omega arith in
      let a = append_assoc (sites_in m n) (below k (λ i. site_of_word (get_or tail i 0))) (site_of_word (get_or tail k 0) ∷ []) in
      let b : table m n tail k ++ (site_of_word (get_or tail k 0) ∷ []) ≡ below (suc (n + k)) (site_there m n tail) = rw (table_is k, in_tail k) in
      rw e (sym a ∙ b)

  pub table_length : (k : ℕ) → length (table m n tail k) ≡ n + k
  table_length k = ap length (table_is k) ∙ length_below (n + k) (site_there m n tail)

pub table_more : (m : List ℕ) (n : ℕ) (tail : List ℕ) (j w : ℕ) → j < length tail → table m n (set tail j w) (suc j) ≡ table m n tail j ++ (site_of_word w ∷ [])
unfolding table below
table_more m n tail j w h =
    let a : below j (λ i. site_of_word (get_or (set tail j w) i 0)) ≡ below j (λ i. site_of_word (get_or tail i 0)) = below_same j (λ i. site_of_word (get_or (set tail j w) i 0)) (λ i. site_of_word (get_or tail i 0)) (λ i l. ap site_of_word (get_or-set_other tail j i w 0 (λ z. omega arith))) in
    let b : get_or (set tail j w) j 0 ≡ w = get_or-set_same tail j w 0 h in
    rw (a, b) (sym (append_assoc (sites_in m n) (below j (λ i. site_of_word (get_or tail i 0))) (site_of_word w ∷ [])))

-- ---- the number of a site in a table with one more

pub number_other : (t : Sites) (x y : Site) → (x ≡ y → ⊥) → number_of (t ++ (x ∷ [])) y ≡ number_of t y
unfolding number_of
number_other t x y h = go (number_of t y) refl
  where
    go : (o : Option ℕ) → number_of t y ≡ o → number_of (t ++ (x ∷ [])) y ≡ number_of t y
    go (some j) e = number_front t (x ∷ []) y j e ∙ sym e
    go none e = number_on t (x ∷ []) y e ∙ ap (plus (length t)) (number_there x [] y (same_site_false x y h)) ∙ sym e

pub number_new : (t : Sites) (y : Site) → number_of t y ≡ none → number_of (t ++ (y ∷ [])) y ≡ some (length t)
number_new t y e =
    let z : length t + 0 ≡ length t = omega arith in
    number_on t (y ∷ []) y e ∙ ap (plus (length t)) (number_here y [] y (same_site_refl y)) ∙ ap some z

pub number_inside : (t : Sites) (y : Site) (j : ℕ) → number_of t y ≡ some j → j < length t
number_inside t y j e = at_inside t j y (number_some t y j e)

-- what an entry of the numbers says
module _ (t : Sites) (y : Site) (v : ℕ) (l : length t < 65536) (e : v ≡ or_else (number_of t y) 65535) where
  pub is_none : v ≡ 65535 → number_of t y ≡ none
  is_none h = go (number_of t y) refl
    where
      go : (o : Option ℕ) → number_of t y ≡ o → number_of t y ≡ none
      go none q = q
      go (some j) q =
          let i = number_inside t y j q in
          let z : v ≡ j = e ∙ ap (λ o. or_else o 65535) q in
          absurd (omega arith)

  pub is_some : (v ≡ 65535 → ⊥) → number_of t y ≡ some v
  is_some h = go (number_of t y) refl
    where
      go : (o : Option ℕ) → number_of t y ≡ o → number_of t y ≡ some v
      go none q = absurd (h (e ∙ ap (λ o. or_else o 65535) q))
      go (some j) q = let z : v ≡ j = e ∙ ap (λ o. or_else o 65535) q in q ∙ ap some (sym z)

-- ---- how many are missing

holes_same : (a b : List ℕ) (q : ℕ) → ((f : ℕ) → f < q → get_or a f 0 ≡ get_or b f 0) → holes a q ≡ holes b q
unfolding holes
holes_same a b zero h = refl
holes_same a b (suc q) h = rw (holes_same a b q (λ f l. h f (omega arith)), h q (omega arith))

holes_set : (of : List ℕ) (r i q : ℕ) → r < q → r < length of → i < 65535 → get_or of r 0 ≡ 65535 → holes of q ≡ suc (holes (set of r i) q)
unfolding holes
holes_set of r i zero h l p e = absurd (omega arith)
holes_set of r i (suc q) h l p e = go (ltb r q) refl (holes_set of r i q)
  where
    go : (b : Bool) → ltb r q ≡ b → (r < q → r < length of → i < 65535 → get_or of r 0 ≡ 65535 → holes of q ≡ suc (holes (set of r i) q)) →
        holes of q + (if eqb (get_or of q 0) 65535 then 1 else 0) ≡ suc (holes (set of r i) q + (if eqb (get_or (set of r i) q 0) 65535 then 1 else 0))
    go true x f =
        let y = ltb-true r q x in
        let d : get_or (set of r i) q 0 ≡ get_or of q 0 = get_or-set_other of r q i 0 (λ z. omega arith) in
        let g = f y l p e in
        rw (d, g) (omega arith)
    go false x f =
        let y = ltb-false r q x in
        let z : q ≡ r = omega arith in
        let d : get_or (set of r i) q 0 ≡ i = rw z (get_or-set_same of r i 0 l) in
        let g : get_or of q 0 ≡ 65535 = rw z e in
        let s : holes (set of r i) q ≡ holes of q = holes_same (set of r i) of q (λ f k. get_or-set_other of r f i 0 (λ u. omega arith)) in
        let u : eqb i 65535 ≡ false = ne_eqb i 65535 (λ w. omega arith) in
        rw (d, g, s, u) (omega arith)

holes_none : (of : List ℕ) (q : ℕ) → holes of q ≡ 0 → (f : ℕ) → f < q → get_or of f 0 ≡ 65535 → ⊥
unfolding holes
holes_none of zero h f l e = omega arith
holes_none of (suc q) h f l e = go (eqb (get_or of q 0) 65535) refl h (holes_none of q)
  where
    go : (b : Bool) → eqb (get_or of q 0) 65535 ≡ b → holes of q + (if b then 1 else 0) ≡ 0 → (holes of q ≡ 0 → (f : ℕ) → f < q → get_or of f 0 ≡ 65535 → ⊥) → ⊥
    go true x y g = omega arith
    go false x y g =
        ⊎_elim (λ (z : f ≡ q). eqb-false (get_or of q 0) 65535 x (rw (← z) e)) (λ (z : f < q). g (omega arith) f z e) (eq-or-lt_of_le (let w : f ≤ q = omega arith in w))

holes_all : (q : ℕ) → q ≤ 8 → holes (replicate 8 65535) q ≡ q
unfolding holes
holes_all zero h = refl
holes_all (suc q) h =
    let d = get_or-replicate {A = ℕ} 8 q 65535 0 (omega arith) in
    rw (d, holes_all q (omega arith)) (omega arith)

-- ---- one more site

module _ (t : Sites) (s : ℕ) (c : Constraint) (of : List ℕ) (N : Numbers t s c of) (l : length t < 65535) (few : child_count c ≤ max_fields) (x : Site) where
  one_past : ((f : ℕ) → f < child_count c → x ≡ child s c f → ⊥) → Numbers (t ++ (x ∷ [])) s c of
  one_past h = record { eight = N.eight; each = λ f p. N.each f p ∙ ap (λ o. or_else o 65535) (sym (number_other t x (child s c f) (h f p))) }

  module _ (r : ℕ) (h : r < child_count c) (e : x ≡ child s c r) where
    others : (f : ℕ) → f < child_count c → (f ≡ r → ⊥) → number_of (t ++ (x ∷ [])) (child s c f) ≡ number_of t (child s c f)
    others f p d = number_other t x (child s c f) (λ q. d (sym (child_apart s c r f h p (sym e ∙ q))))

    one_had : (get_or of r 0 ≡ 65535 → ⊥) → Numbers (t ++ (x ∷ [])) s c of
    one_had g = record { eight = N.eight; each = λ f p. go f p (eqb f r) refl }
      where
        go : (f : ℕ) → f < child_count c → (b : Bool) → eqb f r ≡ b → get_or of f 0 ≡ or_else (number_of (t ++ (x ∷ [])) (child s c f)) 65535
        go f p true q =
            let z = eqb-true f r q in
            let w = is_some t (child s c f) (get_or of f 0) (omega arith) (N.each f p) (λ u. g (rw (← z) u)) in
            sym (ap (λ o. or_else o 65535) (number_front t (x ∷ []) (child s c f) (get_or of f 0) w))
        go f p false q = N.each f p ∙ ap (λ o. or_else o 65535) (sym (others f p (eqb-false f r q)))

    one_new : get_or of r 0 ≡ 65535 → Numbers (t ++ (x ∷ [])) s c (set of r (length t))
    one_new g = record { eight = length-set of r (length t) ∙ N.eight; each = λ f p. go f p (eqb f r) refl }
      where
        size : length of ≡ 8
        size = N.eight

        go : (f : ℕ) → f < child_count c → (b : Bool) → eqb f r ≡ b → get_or (set of r (length t)) f 0 ≡ or_else (number_of (t ++ (x ∷ [])) (child s c f)) 65535
        go f p true q =
            let z = eqb-true f r q in
            let w : number_of t (child s c r) ≡ none = is_none t (child s c r) (get_or of r 0) (omega arith) (N.each r h) g in
            let a : get_or (set of r (length t)) r 0 ≡ length t = get_or-set_same of r (length t) 0 (omega (arith, size)) in
            let b : number_of (t ++ (x ∷ [])) (child s c r) ≡ some (length t) = rw e (number_new t (child s c r) w) in
            rw (z, a, b)
        go f p false q =
            get_or-set_other of r f (length t) 0 (eqb-false f r q) ∙ N.each f p ∙ ap (λ o. or_else o 65535) (sym (others f p (eqb-false f r q)))

-- ---- the walk

-- sites that are no children may be passed over
past_all : (g : ℕ → Site) (s : ℕ) (c : Constraint) (few : child_count c ≤ max_fields) (of : List ℕ) (i r : ℕ) → i ≤ r → r < 65536 → ((j : ℕ) → i ≤ j → j < r → (f : ℕ) → f < child_count c → g j ≡ child s c f → ⊥) → Numbers (below i g) s c of → Numbers (below r g) s c of
unfolding below
past_all g s c few of i zero l h away N = let z : i ≡ 0 = omega arith in rw z at N
past_all g s c few of i (suc r) l h away N =
    ⊎_elim (λ (e : i ≡ suc r). rw e at N)
    (λ (q : i < suc r).
    let n = length_below r g in
    one_past (below r g) s c of (past_all g s c few of i r (omega arith) (omega arith) (λ j p u. away j p (omega arith)) N) (omega arith) few (g r) (away r (omega arith) (omega arith)))
    (eq-or-lt_of_le l)

pub record Walked (m : List ℕ) (n : ℕ) (tail : List ℕ) (s : ℕ) (c : Constraint) (i missing : ℕ) (of : List ℕ) : Type 0 where
  pub numbers : Numbers (below i (site_there m n tail)) s c of
  pub left : missing ≡ holes of (child_count c)

module _ (m : List ℕ) (n : ℕ) (tail : List ℕ) (s : ℕ) (c : Constraint) (few : child_count c ≤ max_fields) where
  pub walk_start : (count : ℕ) → count ≡ child_count c → Walked m n tail s c 0 count (replicate 8 65535)
  unfolding below number_of
  walk_start count e = record {
    numbers = record { eight = refl; each = λ f p. get_or-replicate 8 f 65535 0 (omega arith) };
    left = e ∙ sym (holes_all (child_count c) few);
  }

  module _ (i missing : ℕ) (of : List ℕ) (W : Walked m n tail s c i missing of) where
    pub walk_early : (k : ℕ) → i ≤ n + k → missing ≡ 0 → n + k < 65536 → Numbers (table m n tail k) s c of
    walk_early k h e l = record { eight = W.numbers.eight; each = λ f p. each f p }
      where
        small : length (below i (site_there m n tail)) ≡ i
        small = length_below i (site_there m n tail)

        each : (f : ℕ) → f < child_count c → get_or of f 0 ≡ or_else (number_of (table m n tail k) (child s c f)) 65535
        each f p =
            let r = below_split i (n + k) (site_there m n tail) h in
            let z = W.left in
            let g = holes_none of (child_count c) (omega arith) f p in
            let y = is_some (below i (site_there m n tail)) (child s c f) (get_or of f 0) (omega (arith, small)) (W.numbers.each f p) g in
            let u : number_of (table m n tail k) (child s c f) ≡ some (get_or of f 0) = rw (table_is m n tail k, r.1) (number_front (below i (site_there m n tail)) r.0 (child s c f) (get_or of f 0) y) in
            sym (ap (λ o. or_else o 65535) u)

    pub walk_past : (r : ℕ) → i ≤ r → r < 65536 → ((j : ℕ) → i ≤ j → j < r → (f : ℕ) → f < child_count c → site_there m n tail j ≡ child s c f → ⊥) → Walked m n tail s c r missing of
    walk_past r l h away = record { numbers = past_all (site_there m n tail) s c few of i r l h away W.numbers; left = W.left }

    pub walk_end : (k : ℕ) → i ≡ n + k → Numbers (table m n tail k) s c of
    walk_end k e = rw (table_is m n tail k, ← e) W.numbers

    module _ (first count w f r : ℕ) (of' : List ℕ) (h : Spelt (child s c 0) first) (k : count ≡ child_count c) (g : Field w first count f) (x : Spelt (site_there m n tail i) w) (o : Notes of of' f count i r) (l : i < 65535) where
      small : length (below i (site_there m n tail)) ≡ i
      small = length_below i (site_there m n tail)

      pub walk_less : r ≤ missing
      walk_less = go (ltb f count) refl (eqb (get_or of f 0) 65535) refl
        where
          size : length of ≡ 8
          size = W.numbers.eight

          go : (a : Bool) → ltb f count ≡ a → (b : Bool) → eqb (get_or of f 0) 65535 ≡ b → r ≤ missing
          go false p b q = let z = (o.past (ltb-false f count p)).1 in omega arith
          go true p false q = let z = (o.had (ltb-true f count p) (eqb-false (get_or of f 0) 65535 q)).1 in omega arith
          go true p true q =
              let y = ltb-true f count p in
              let z = (o.new y (eqb-true (get_or of f 0) 65535 q)).1 in
              let u = holes_set of f i (child_count c) (omega arith) (omega (arith, size)) l (eqb-true (get_or of f 0) 65535 q) in
              let v = W.left in
              omega arith

      pub walk_turn : Walked m n tail s c (i + 1) (missing - r) of'
      unfolding below
      walk_turn = rw (add-one i) (go (ltb f count) refl (eqb (get_or of f 0) 65535) refl)
        where
          size : length of ≡ 8
          size = W.numbers.eight

          go : (a : Bool) → ltb f count ≡ a → (b : Bool) → eqb (get_or of f 0) 65535 ≡ b → Walked m n tail s c (suc i) (missing - r) of'
          go false p b q =
              let y = ltb-false f count p in
              let z = o.past y in
              let d : missing - r ≡ missing = let u = z.1 in omega arith in
              rw (z.0, d)
              (record {
                numbers = one_past (below i (site_there m n tail)) s c of W.numbers (omega (arith, small)) few (site_there m n tail i) (site_none s c first count w f h k (omega arith) g (site_there m n tail i) x y);
                left = W.left;
              })
          go true p false q =
              let y = ltb-true f count p in
              let z = o.had y (eqb-false (get_or of f 0) 65535 q) in
              let d : missing - r ≡ missing = let u = z.1 in omega arith in
              rw (z.0, d)
              (record {
                numbers = one_had (below i (site_there m n tail)) s c of W.numbers (omega (arith, small)) few (site_there m n tail i) f (omega arith) (site_is s c first count w f h k (omega arith) g (site_there m n tail i) x y) (eqb-false (get_or of f 0) 65535 q);
                left = W.left;
              })
          go true p true q =
              let y = ltb-true f count p in
              let z = o.new y (eqb-true (get_or of f 0) 65535 q) in
              let u = holes_set of f i (child_count c) (omega arith) (omega (arith, size)) l (eqb-true (get_or of f 0) 65535 q) in
              let v = W.left in
              let t = z.1 in
              let a = one_new (below i (site_there m n tail)) s c of W.numbers (omega (arith, small)) few (site_there m n tail i) f (omega arith) (site_is s c first count w f h k (omega arith) g (site_there m n tail i) x y) (eqb-true (get_or of f 0) 65535 q) in
              rw z.0 (record { numbers = rw small at a; left = omega arith })

-- ---- the walk as the code has it: what is looked for, and over which sites it goes on

module _ (m : List ℕ) (n : ℕ) (tail : List ℕ) (s : ℕ) (w : Wanted) where
  abbrev pub Walking : ℕ → ℕ → List ℕ → Type 0
  Walking i missing of = (c : Constraint) → Wants s c w → child_count c ≤ max_fields → Walked m n tail s c i missing of

  pub walking_start : Walking 0 w.count (replicate 8 65535)
  walking_start c W few = walk_start m n tail s c few w.count W.count

  module _ (fm : Bytes m) (k : ℕ) (small : n + k < 65536) (i missing : ℕ) (of : List ℕ) (G : Walking i missing of) (x : ℕ) (O : Onward m n tail k i w x) where
    pub walking_on : Walking x missing of
    walking_on c W few = walk_past m n tail s c few i missing of (G c W few) x O.low (let h = O.high in omega arith) (no_child m n tail s c fm w W k i x O)

    module _ (v f r : ℕ) (of' : List ℕ) (h : x < n + k) (g : Field v w.first w.count f) (p : Spelt (site_there m n tail x) v) (o : Notes of of' f w.count x r) where
      pub walking_less : (c : Constraint) → Wants s c w → child_count c ≤ max_fields → r ≤ missing
      walking_less c W few = walk_less m n tail s c few x missing of (walking_on c W few) w.first w.count v f r of' W.first W.count g p o (omega arith)

      pub walking_turn : Walking (x + 1) (missing - r) of'
      walking_turn c W few = walk_turn m n tail s c few x missing of (walking_on c W few) w.first w.count v f r of' W.first W.count g p o (omega arith)
