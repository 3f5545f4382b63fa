-- What the items leave is what the class check and the rounds take.
use mathlib.Core.Path.{◌≡◌, refl, sym, ap, ◌∙◌}
use mathlib.Core.Bool.{Bool, true}
use mathlib.Core.Option.{none}
use mathlib.Core.List.{List, [], ◌∷◌, ◌++◌, map, Memᴰ}
use Prim.Native.Nat.{ℕ, zero, suc, ◌+◌, ◌*◌, ◌≤◌, ◌<◌, min}
use native.Mathlib.Omega.{arith}
use native.Mathlib.Decide.{dec_lt}
use lib.ListN.{length, get_or, take, replicate, length-take, get_or-eq_default}
use lib.Seq.{length-take-le, get_or-take}
use lib.Dec.{leb}
use borrow.Author.Tests.{lt-leb, le-leb}
use Rattle.std.specs.declared.result.Result.TheVariants.{Err, Ok}
use Rattle.paper.specs.declared.Constraint.{Constraint}
use Rattle.paper.specs.declared.Refusal.{Refusal}
use Rattle.paper.specs.declared.Item.{Item}
use Rattle.paper.specs.Words.{below, first}
use Rattle.paper.specs.Numbers.{max_sites, max_fields, max_items, max_equal, most_rounds, Outcome, done, refused, ◌>>=◌}
use Rattle.paper.specs.Sites.{child_count, child_number}
use Rattle.paper.specs.Loading.{Loading, Solving, Holder, holder, holders, closure, conflict, check_4, steps, endless, no_endless, rounds, started}
use Rattle.paper.proofs.Closure.{of_below}
use Rattle.paper.proofs.Tables.{Rising}
use Rattle.sites.specs.Slots.{sites_in}
use Rattle.sites.proofs.Places.{sites_length}
use Rattle.paper.specs.Answered.{Verdict}
use Rattle.rule_rows.specs.Holding.{Held, held, shape_in, kid_count, kid_in, holder_in, holders_to, holders_in, stray, checked, verdict_of, Inside}
use Rattle.rule_rows.proofs.Agreeing.{class_lines}
use Rattle.item_words.specs.Items.{items_in as held_items}
use Rattle.item_words.proofs.Laws.{items_length}
use Rattle.rule_items.specs.declared.Progress.{Progress}
use Rattle.rule_hanging.specs.Seen.{shown}
use Rattle.rule_items.specs.Shown.{Shown, roomy, items_in, Told}
use Rattle.rule_rounds.specs.declared.Solved.{Solved}
use Rattle.rule_rounds.specs.Rounding.{Proper, Rounds, solved}
use Rattle.rule_load.specs.Parts.{worked, Lent, Left}
use Rattle.rule_load.proofs.Widening.{Passed}
use Rattle.rule_load.proofs.Parting.{after_items, items_done}
use Rattle.rule_load.proofs.Laying.{below_same, map_below, table_long, shown_long}

-- ---- numbers that are sites
no_strays : (xs ys : List ℕ) → Inside xs → first (leb max_sites) ys ≡ none → first (leb max_sites) (xs ++ ys) ≡ none
unfolding first
no_strays [] ys h e = e
no_strays (x ∷ xs) ys h e = let a = h 0 in rw (lt-leb max_sites x a, first) (no_strays xs ys (λ k. h (suc k)) e)

none_stray : (xs : List ℕ) → Inside xs → first (leb max_sites) xs ≡ none
unfolding first
none_stray [] h = refl
none_stray (x ∷ xs) h = let a = h 0 in rw (lt-leb max_sites x a, first) (none_stray xs (λ k. h (suc k)))

holder_as : (s u : ℕ) (c d : Constraint) (x y : List ℕ) → s ≡ u → c ≡ d → x ≡ y → ◌≡◌ {A = Holder} (record { site = s; shape = c; kids = x }) (record { site = u; shape = d; kids = y })
holder_as s u c d x y p q r = rw (p, q, r)

taken_inside : (k : ℕ) (xs : List ℕ) (b : ℕ) → ((i : ℕ) → i < k → get_or xs i 0 < b) → 0 < b → (i : ℕ) → get_or (take k xs) i 0 < b
taken_inside k xs b h p i = go (dec_lt i k)
  where
    go : Dec (i < k) → get_or (take k xs) i 0 < b
    go (yes l) = let e = get_or-take k xs i 0 l in let q = h i l in omega arith
    go (no l) = let d = length-take k xs in let e = get_or-eq_default (take k xs) 0 {n = i} (omega arith) in omega arith

module _ (m : List ℕ) (n : ℕ) (tail : List ℕ) (t : ℕ) (sites rows words kids : List ℕ) (h : ℕ) (eqs : List ℕ) (e : ℕ) (l : Loading) (S : Shown m n tail t sites rows words kids h eqs e l) where
  pub sites_count : length l.sites ≡ n + t
  sites_count = ap length (sym S.sites_are) ∙ table_long m n tail t

  few_sites : length l.sites ≤ max_sites
  few_sites = let a = sites_count in let b = S.fits in omega arith

  pub held_count : h ≡ length l.constraints
  held_count = sym (shown_long sites rows words h) ∙ ap length S.constraints_are

  pub numbers_in : (i : ℕ) → get_or (take e eqs) i 0 < max_sites
  numbers_in = taken_inside e eqs max_sites (λ i q. let a = S.equal_known i q in let b = few_sites in omega arith) (omega arith)

  numbers_known : (i : ℕ) → i < length (take e eqs) → get_or (take e eqs) i 0 < n + t
  numbers_known i q =
      let d = length-take-le e eqs S.equal_fits in
      let x = get_or-take e eqs i 0 (omega arith) in
      let a = S.equal_known i (omega arith) in
      let b = sites_count in
      omega arith

  -- ---- the holders
  abbrev H : Held
  H = held (take h sites) (take h rows) words kids

  pub holders_are : h ≤ length sites → h ≤ max_sites → holders_in H ≡ holders l
  unfolding holders holders_to shown holder kid_count
  holders_are p q =
      let a : min (length (take h sites)) max_sites ≡ h = let d = length-take-le h sites p in omega arith in
      ap (λ k. below k (holder_in H)) a
      ∙ (below_same h (holder_in H) (λ i. holder l.sites (get_or sites i 0, shape_in words (get_or rows i 0))) same
      ∙ (sym (map_below (holder l.sites) h (λ i. (get_or sites i 0, shape_in words (get_or rows i 0)))) ∙ ap (map (holder l.sites)) S.constraints_are))
    where
      same : (i : ℕ) → i < h → holder_in H i ≡ holder l.sites (get_or sites i 0, shape_in words (get_or rows i 0))
      same i o =
          let R = S.row i o in
          let a : get_or (take h sites) i 0 ≡ get_or sites i 0 = get_or-take h sites i 0 o in
          let b : get_or (take h rows) i 0 ≡ get_or rows i 0 = get_or-take h rows i 0 o in
          let f = R.few in
          let c : kid_count words (get_or (take h rows) i 0) ≡ child_count (shape_in words (get_or rows i 0)) = ap (kid_count words) b ∙ (let z : min (child_count (shape_in words (get_or rows i 0))) max_fields ≡ child_count (shape_in words (get_or rows i 0)) = omega arith in z) in
          holder_as _ _ _ _ _ _ a (ap (shape_in words) b)
          (ap (λ j. below j (kid_in kids (get_or (take h rows) i 0))) c
          ∙ below_same (child_count (shape_in words (get_or rows i 0))) (kid_in kids (get_or (take h rows) i 0)) (child_number l.sites (get_or sites i 0) (shape_in words (get_or rows i 0)))
          (λ f g. ap (λ r. kid_in kids r f) b ∙ R.child f g))

  kids_inside : (g : Holder) → Memᴰ g (holders l) → (x : ℕ) → Memᴰ x g.kids → x < length l.sites
  unfolding holders holder shown
  kids_inside g j x w =
      let b : holders l ≡ below h (λ i. holder l.sites (get_or sites i 0, shape_in words (get_or rows i 0))) =
      ap (map (holder l.sites)) (sym S.constraints_are) ∙ map_below (holder l.sites) h (λ i. (get_or sites i 0, shape_in words (get_or rows i 0))) in
      let y = of_below h (λ i. holder l.sites (get_or sites i 0, shape_in words (get_or rows i 0))) g (rw b at j) in
      let R = S.row y.0 y.1 in
      let z : Memᴰ x (below (child_count (shape_in words (get_or rows y.0 0))) (child_number l.sites (get_or sites y.0 0) (shape_in words (get_or rows y.0 0)))) = rw y.2 at w in
      let u = of_below _ _ x z in
      let c = R.child u.0 u.1 in
      let d = R.below u.0 u.1 in
      rw (u.2, ← c) d

  -- the class check is paper's two lines
  pub check_is : h ≤ length sites → h ≤ max_sites → Inside kids → checked (take e eqs) H ≡ (check_4 (closure l) (holders l) (conflict (closure l) (holders l)) >>= λ _. no_endless (endless (steps (closure l) (holders l))))
  unfolding checked stray
  check_is p q k =
      let a : first (leb max_sites) (take e eqs ++ (take h sites ++ kids)) ≡ none =
      no_strays (take e eqs) (take h sites ++ kids) numbers_in
      (no_strays (take h sites) kids (taken_inside h sites max_sites (λ i o. let r = (S.row i o).known in let b = few_sites in omega arith) (omega arith)) (none_stray kids k)) in
      rw (a, S.equalities_are, holders_are p q) (class_lines l kids_inside few_sites)

  -- ---- the rounds
  pub proper : t ≤ length tail → h ≤ length sites → length sites ≤ length rows → Rising 0 l.constraints → Proper m n tail t sites rows words h (take e eqs)
  proper a b c r = record {
    long = a;
    fits = S.fits;
    long_sites = b;
    long_rows = c;
    rising = rw S.constraints_are r;
    inside = λ i o. let x = (S.row i o).known in let y = sites_count in omega arith;
    good = λ i o. let R = S.row i o in record { item = R.item; range = R.range; few = R.few };
    equal = numbers_in;
    known = numbers_known;
  }

  pub solved_is : (at : ℕ) → solved m n tail t at sites rows words h (take e eqs) ≡ rounds most_rounds at (started l)
  unfolding solved
  solved_is at = rw (S.sites_are, S.constraints_are, S.equalities_are)

-- ---- the answers
never_both : (a : Verdict) (e : Refusal) → a ≡ Ok tt → a ≡ Err e → ⊥
never_both a e p q = let z : ◌≡◌ {A = ℕ} 0 1 = cc in omega arith

pub rounds_by : (m : List ℕ) (n : ℕ) (tail sites rows words equal low : List ℕ) (x : Solved) (o p : Outcome Solving) → p ≡ o → Rounds m n tail sites rows words equal low x o → Rounds m n tail sites rows words equal low x p
rounds_by m n tail sites rows words equal low x o p e h = rw e h

module _ (m : List ℕ) (n : ℕ) (tail sites rows words kids eqs : List ℕ) (x : Progress) where
  told_done : (o : Outcome Loading) → Told m n tail sites rows words kids eqs x o → x.answer ≡ Ok tt → (l : Loading) × (o ≡ done l) × Shown m n tail x.tail sites rows words kids x.held eqs x.equal l
  told_done (done l) T f = (l, refl, T.1)
  told_done (refused e) T f = absurd (never_both x.answer e f T)

  told_refused : (o : Outcome Loading) (e : Refusal) → Told m n tail sites rows words kids eqs x o → x.answer ≡ Err e → o ≡ refused e
  told_refused (done l) e T f = absurd (never_both x.answer e T.0 f)
  told_refused (refused d) e T f = let z : d ≡ e = cc in ap refused z

  -- the items refuse the rule
  pub items_refuse : (count : ℕ) (is : List Item) (room : Bool) (e : Refusal) (a : Verdict) → room ≡ true → Told m n tail sites rows words kids eqs x (items_in room m n count is) → x.answer ≡ a → a ≡ Err e → worked m n count is ≡ refused e
  unfolding worked
  items_refuse count is room e a q T f g =
      let t : items_in true m n count is ≡ refused e = ap (λ b. items_in b m n count is) (sym q) ∙ told_refused (items_in room m n count is) e T (f ∙ g) in
      rw t

  module _ (equal low : List ℕ) (count : ℕ) (is : List Item) (L : Left m n tail sites rows words kids eqs equal low x count is) where
    found : (l : Loading) × (items_in true m n count is ≡ done l) × Shown m n tail x.tail sites rows words kids x.held eqs x.equal l
    found = told_done (items_in true m n count is) L.told L.fine

    passed : Passed (sites_in m n) (length is) found.0
    passed = after_items m n count is found.0 found.1

    pub left_held : x.held ≤ max_items
    left_held =
        let a = held_count m n tail x.tail sites rows words kids x.held eqs x.equal found.0 found.2 in
        let b = passed.few in
        let c = (items_done m n count is found.0 found.1).2 in
        let d = L.few in
        omega arith

    pub left_tail : x.tail ≤ length tail
    left_tail =
        let a = sites_count m n tail x.tail sites rows words kids x.held eqs x.equal found.0 found.2 in
        let b = passed.grown in
        let c = (items_done m n count is found.0 found.1).2 in
        let d = L.few in
        let e = L.long_tail in
        let h = sites_length m n in
        omega arith

    pub left_equal : x.equal ≤ length eqs
    left_equal = found.2.equal_fits

    pub left_proper : Proper m n tail x.tail sites rows words x.held (take x.equal eqs)
    left_proper = proper m n tail x.tail sites rows words kids x.held eqs x.equal found.0 found.2 left_tail (let a = left_held in let b = L.long_sites in omega arith) L.long_rows passed.rising

    checked_so : checked (take x.equal eqs) (held (take x.held sites) (take x.held rows) words kids) ≡ (check_4 (closure found.0) (holders found.0) (conflict (closure found.0) (holders found.0)) >>= λ _. no_endless (endless (steps (closure found.0) (holders found.0))))
    checked_so =
        let a = left_held in
        let b = L.long_sites in
        check_is m n tail x.tail sites rows words kids x.held eqs x.equal found.0 found.2 (omega arith) (omega arith) L.inside

    -- the class check refuses it
    pub left_refuse : (v : Verdict) (e : Refusal) → verdict_of v ≡ checked (take x.equal eqs) (held (take x.held sites) (take x.held rows) words kids) → v ≡ Err e → worked m n count is ≡ refused e
    unfolding worked
    left_refuse v e p q =
        rw found.1 (go (check_4 (closure found.0) (holders found.0) (conflict (closure found.0) (holders found.0))) (no_endless (endless (steps (closure found.0) (holders found.0)))) (sym checked_so ∙ sym p ∙ ap verdict_of q))
      where
        go : (a b : Outcome (Unit {0})) → (a >>= λ _. b) ≡ refused e → (a >>= λ _. (b >>= λ _. rounds most_rounds count (started found.0))) ≡ refused e
        go (refused d) b h = let z : d ≡ e = cc in ap refused z
        go (done u) (refused d) h = let z : d ≡ e = cc in ap refused z
        go (done u) (done w) h = let z : ◌≡◌ {A = ℕ} 0 1 = cc in absurd (omega arith)

    -- or passes it on to the rounds
    pub left_solved : (v : Verdict) → verdict_of v ≡ checked (take x.equal eqs) (held (take x.held sites) (take x.held rows) words kids) → v ≡ Ok tt → worked m n count is ≡ solved m n tail x.tail count sites rows words x.held (take x.equal eqs)
    unfolding worked
    left_solved v p q =
        rw found.1 (go (check_4 (closure found.0) (holders found.0) (conflict (closure found.0) (holders found.0))) (no_endless (endless (steps (closure found.0) (holders found.0)))) (sym checked_so ∙ sym p ∙ ap verdict_of q))
        ∙ sym (solved_is m n tail x.tail sites rows words kids x.held eqs x.equal found.0 found.2 count)
      where
        go : (a b : Outcome (Unit {0})) → (a >>= λ _. b) ≡ done tt → (a >>= λ _. (b >>= λ _. rounds most_rounds count (started found.0))) ≡ rounds most_rounds count (started found.0)
        go (refused d) b h = let z : ◌≡◌ {A = ℕ} 0 1 = cc in absurd (omega arith)
        go (done u) (refused d) h = let z : ◌≡◌ {A = ℕ} 0 1 = cc in absurd (omega arith)
        go (done u) (done w) h = refl

-- ---- the lists that are lent to the items
pub roomy_so : (tail sites rows shapes kids eqs : List ℕ) → Lent tail sites rows → 3 * max_items ≤ length shapes → length kids ≡ max_fields * max_items → length eqs ≡ 2 * max_items → roomy tail sites rows shapes kids eqs ≡ true
unfolding roomy
roomy_so tail sites rows shapes kids eqs L d p q =
    let a = L.long_tail in
    let b = L.long_sites in
    let c = L.long_rows in
    rw (le-leb (max_fields * max_items) (length tail) a, le-leb max_items (length sites) (omega arith), le-leb max_items (length rows) (omega arith), le-leb (3 * max_items) (length shapes) d, le-leb (max_fields * max_items) (length kids) (omega arith), le-leb (2 * max_items) (length eqs) (omega arith))

pub zeros_inside : (n : ℕ) → Inside (replicate n 0)
zeros_inside zero k = omega arith
zeros_inside (suc n) zero = omega arith
zeros_inside (suc n) (suc k) = zeros_inside n k

pub left_so : (m : List ℕ) (n : ℕ) (tail sites rows words kids eqs equal low : List ℕ) (x : Progress) (count : ℕ) (ws : List ℕ) (room : Bool) → room ≡ true → Told m n tail sites rows words kids eqs x (items_in room m n count (held_items ws (min count max_items))) → x.answer ≡ Ok tt → Inside kids
    → (tail₀ sites₀ rows₀ : List ℕ) → Lent tail₀ sites₀ rows₀ → length tail ≡ length tail₀ → length sites ≡ length sites₀ → length rows ≡ length rows₀
    → max_equal ≤ length equal → max_equal ≤ length low → Left m n tail sites rows words kids eqs equal low x count (held_items ws (min count max_items))
left_so m n tail sites rows words kids eqs equal low x count ws room q T f k tail₀ sites₀ rows₀ L et es er d e =
    let a = L.long_tail in
    let b = L.long_sites in
    let c = L.long_rows in
    let g = items_length ws (min count max_items) in
    record { told = rw q at T; few = omega arith; fine = f; inside = k; long_tail = omega arith; long_sites = omega arith; long_rows = omega arith; long_equal = d; long_low = e }
