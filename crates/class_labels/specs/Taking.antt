-- A class taken out: what class_removal::remove_set_of_in and remove_listed_in list is what paper calls the members, and they leave what paper's
-- `dissolve` leaves.
use Rattle.std.specs.declared.result.Result.TheVariants.{Ok}
use Rattle.std.specs.declared.option.Option.TheVariants.{None, Some}
use Rattle.std.proofs.Math.Path.{◌≡◌, refl, sym, ap, subst⁻¹}
use Rattle.std.proofs.Common.{◌∙◌, subst, arith, length-append, length-drop}
use Rattle.std.specs.Prelude.{Bool, true, false, length, get_or, take, drop}
use Rattle.std.proofs.Math.Option.{Option, none, some}
use mathlib.Core.List.{List, map, Memᴰ}
use Prim.Native.Nat.{ℕ, ◌≤◌, ◌<◌}
use Rattle.std.proofs.Math.Decide.{ℕ_discrete}
use Rattle.std.proofs.Math.ListN.{get_or-append}
use Rattle.std.proofs.Math.Seq.{take-append_seam}
use Rattle.std.proofs.Math.Dec.{eqb}
use borrow.Author.Tests.{lt-ltb, le-leb, eq-eqb, eqb-true, ne_eqb}
use Rattle.paper.specs.Answered.{Maybe}
use Rattle.paper.specs.Words.{keep, below, look}
use Rattle.paper.specs.Numbers.{max_sites, Outcome, done}
use Rattle.paper.specs.Classes.{Classes, classes, up, find_in, is_at, Removed, flattened, remove_at, remove_set_of}
use Rattle.paper.specs.Loading.{Labels, lowest, members, dissolve}
use Rattle.paper.proofs.Labels.{never}
use Rattle.paper.proofs.Tables.{Fine, of_keep, in_keep, keep_rising, look_in, in_look, lowest_is, dissolved, undissolved, dissolve_fine}
use Rattle.paper.proofs.Lists.{no_way}
use Rattle.classes.specs.Called.{Taken}
use Rattle.classes.specs.declared.Untaken.TheVariants as K
use Rattle.classes.specs.Answers.{or_self, rep, over, taken, taken_by, taken_if}
use Rattle.class_removal.specs.Listed.{remove_of, taken_of}
use Rattle.classes.specs.Well.{has_up, in_class, dropped}
use Rattle.classes.specs.Equal.{Holds, TakesOut, sites_below}
use Rattle.classes.proofs.Uniting.{is_joined, joined_has}
use Rattle.classes.proofs.Laws.{remove_takes}
use Rattle.class_removal.proofs.Listed.{Listed, remove_listed, remove_few}
use Rattle.classes.proofs.Tables.{remove_dissolves}
use Rattle.class_labels.specs.Tied.{has_label, Tied, tied_fine, label_some, label_none, some_label}
use Rattle.class_labels.specs.Rows.{rising_same, rising_once, keep_most, below_length, row, row_rising, in_row, of_row, row_firsts}

-- what a call is told of the room: every labelled site is below c
abbrev pub LabelsBelow : Labels → ℕ → Type 0
LabelsBelow k c = (z v : ℕ) → look k z ≡ some v → z < c

-- a joined site's root, by its representative
module _ {p r : List ℕ} {n : ℕ} {k : Labels} (T : Tied p r n k) where
  root : (z : ℕ) → z < max_sites → has_label k z ≡ true → (find_in p z).found ≡ Some (rep p z)
  unfolding rep
  root z h e = go (find_in p z).found refl
    where
      there : has_up p z ≡ is_joined (find_in p z).found
      there = joined_has (classes p r n) T.well z h

      go : (f : Maybe ℕ) → (find_in p z).found ≡ f → (find_in p z).found ≡ Some (or_self z (find_in p z).found)
      go (Some s) q = rw q
      go None q = no_way (sym e ∙ (sym (T.joined z h) ∙ (there ∙ ap is_joined q)))

  lone : (z : ℕ) → z < max_sites → has_label k z ≡ false → (find_in p z).found ≡ None
  lone z h e = go (find_in p z).found refl
    where
      there : has_up p z ≡ is_joined (find_in p z).found
      there = joined_has (classes p r n) T.well z h

      go : (f : Maybe ℕ) → (find_in p z).found ≡ f → (find_in p z).found ≡ None
      go (Some s) q = no_way (sym (sym e ∙ (sym (T.joined z h) ∙ (there ∙ ap is_joined q))))
      go None q = q

  found_rep : (z s : ℕ) → (find_in p z).found ≡ Some s → rep p z ≡ s
  unfolding rep
  found_rep z s e = ap (or_self z) e

  module _ (low : ℕ) (own : look k low ≡ some low) where
    -- z is of the class of `low`
    mine : (z : ℕ) → look k z ≡ some low → in_class p (rep p low) z ≡ true
    mine z e =
        let q = root z (T.inside z low e) (label_some k z low e) in
        let s = T.holds.from z low (lowest_is k z low e ∙ sym (lowest_is k low low own)) in
        ap (λ (f : Maybe ℕ). is_at f (Some (rep p low))) q ∙ eq-eqb (rep p z) (rep p low) s

    yours : (z : ℕ) → z < max_sites → in_class p (rep p low) z ≡ true → look k z ≡ some low
    yours z h e = go (look k z) refl
      where
        go : (o : Option ℕ) → look k z ≡ o → look k z ≡ some low
        go none q = no_way (sym (sym (ap (λ (f : Maybe ℕ). is_at f (Some (rep p low))) (lone z h (label_none k z q))) ∙ e))
        go (some v) q =
            let w = root z h (label_some k z v q) in
            let u = eqb-true (rep p z) (rep p low) (sym (ap (λ (f : Maybe ℕ). is_at f (Some (rep p low))) w) ∙ e) in
            q ∙ ap some (sym (lowest_is k z v q) ∙ (T.holds.to z low u ∙ lowest_is k low low own))

    -- the sites of the class, ascending, are paper's members
    pub members_are : (c : ℕ) → c ≤ max_sites → LabelsBelow k c → members k low ≡ keep (in_class p (rep p low)) (below c (λ z. z))
    unfolding members
    members_are c h B = ap (map (λ (q : ℕ × ℕ). q.0)) same ∙ row_firsts c (λ z. low) (in_class p (rep p low))
      where
        forth : (q : ℕ × ℕ) → Memᴰ q (keep (λ q. eqb q.1 low) k) → Memᴰ q (row c (λ z. low) (in_class p (rep p low)))
        forth q m =
            let x = of_keep (λ (q : ℕ × ℕ). eqb q.1 low) k q m in
            let e : q.1 ≡ low = eqb-true q.1 low x.1 in
            let l : look k q.0 ≡ some low = in_look 0 k q T.rising x.0 ∙ ap some e in
            let w : ◌≡◌ {A = ℕ × ℕ} q (q.0, low) = ap (λ (v : ℕ). (q.0, v)) e in
            subst⁻¹ (λ (y : ℕ × ℕ). Memᴰ y (row c (λ z. low) (in_class p (rep p low)))) w
            (in_row c (λ z. low) (in_class p (rep p low)) q.0 (B q.0 low l) (mine q.0 l))

        back : (q : ℕ × ℕ) → Memᴰ q (row c (λ z. low) (in_class p (rep p low))) → Memᴰ q (keep (λ q. eqb q.1 low) k)
        back q m =
            let x = of_row c (λ z. low) (in_class p (rep p low)) q m in
            let a = x.0 in
            let l = look_in k q.0 low (yours q.0 (omega arith) x.1) in
            let w : ◌≡◌ {A = ℕ × ℕ} q (q.0, low) = ap (λ (v : ℕ). (q.0, v)) x.2 in
            in_keep (λ q. eqb q.1 low) k q (subst⁻¹ (λ (y : ℕ × ℕ). Memᴰ y k) w l) (eq-eqb q.1 low x.2)

        same : keep (λ q. eqb q.1 low) k ≡ row c (λ z. low) (in_class p (rep p low))
        same =
            rising_same 0 (keep (λ q. eqb q.1 low) k) (row c (λ z. low) (in_class p (rep p low)))
            (keep_rising (λ q. eqb q.1 low) 0 k T.rising) (row_rising c (λ z. low) (in_class p (rep p low))) forth back

    pub members_few : (c : ℕ) → c ≤ max_sites → LabelsBelow k c → length (members k low) ≤ c
    members_few c h B =
        let e = ap length (members_are c h B) in
        let l = keep_most (in_class p (rep p low)) (below c (λ z. z)) in
        let b = below_length c (λ z. z) in
        omega arith

    -- ---- the removal itself

    module _ (q : Removed) (e : remove_set_of (classes p r n) low ≡ done q) where
      low_in : low < max_sites
      low_in = T.inside low low own

      out : TakesOut (classes p r n) (rep p low) q
      out = remove_takes (classes p r n) T.well low q e (rep p low) (root low low_in (label_some k low low own))

      F : Fine (λ z. z < max_sites) (dissolve k low)
      F = dissolve_fine {Q = λ z. z < max_sites} k low (tied_fine T) (λ z v l d. T.inside z v l)

      H : Holds q.after.parents (lowest (dissolve k low))
      H = subst (λ (v : ℕ). Holds q.after.parents (lowest (dissolve k v))) (lowest_is k low low own)
          (remove_dissolves (classes p r n) T.well low (rep p low) q e (root low low_in (label_some k low low own))
          k T.sound (rising_once 0 k T.rising) T.holds)

      left : (z : ℕ) → z < max_sites → is_joined (dropped (rep p low) (find_in p z).found) ≡ has_label (dissolve k low) z
      left z h = go (look k z) refl (look (dissolve k low) z) refl
        where
          at : (f : Maybe ℕ) → (find_in p z).found ≡ f → is_joined (dropped (rep p low) (find_in p z).found) ≡ is_joined (dropped (rep p low) f)
          at f w = ap (λ (g : Maybe ℕ). is_joined (dropped (rep p low) g)) w

          go : (o : Option ℕ) → look k z ≡ o → (d : Option ℕ) → look (dissolve k low) z ≡ d
              → is_joined (dropped (rep p low) (find_in p z).found) ≡ has_label (dissolve k low) z
          go none a none b = at None (lone z h (label_none k z a)) ∙ sym (label_none (dissolve k low) z b)
          go none a (some w) b = absurd (never (sym a ∙ (dissolved k low z w T.rising b).0))
          go (some v) a none b = at (Some (rep p z)) (root z h (label_some k z v a)) ∙ (gone (ℕ_discrete v low) ∙ sym (label_none (dissolve k low) z b))
            where
              gone : Dec (v ≡ low) → is_joined (dropped (rep p low) (Some (rep p z))) ≡ false
              gone (yes i) = simp (eq-eqb (rep p z) (rep p low) (T.holds.from z low (lowest_is k z v a ∙ (i ∙ sym (lowest_is k low low own)))))
              gone (no i) = absurd (never (sym b ∙ undissolved k low z v T.rising a i))
          go (some v) a (some w) b =
              let x = dissolved k low z w T.rising b in
              let i : rep p z ≡ rep p low → ⊥ = λ j. x.1 (sym (lowest_is k z w x.0) ∙ (T.holds.to z low j ∙ lowest_is k low low own)) in
              at (Some (rep p z)) (root z h (label_some k z v a)) ∙ ((simp (ne_eqb (rep p z) (rep p low) i)) ∙ sym (label_some (dissolve k low) z w b))

      removed_tied : Tied q.after.parents q.after.ranks q.after.count (dissolve k low)
      removed_tied = record {
        well = out.well;
        holds = H;
        joined = λ z h. joined_has q.after out.well z h ∙ (ap is_joined (out.found z) ∙ left z h);
        inside = F.within;
        sound = F.sound;
        rising = F.rising;
      }

      removed_members : q.members ≡ members k low
      unfolding sites_below
      removed_members = out.list ∙ sym (members_are max_sites (omega arith) T.inside)

    is_set : remove_set_of (classes p r n) low ≡ done (remove_at (flattened (classes p r n) low).after (flattened (classes p r n) low).found)
    unfolding remove_set_of
    is_set = simp (lt-ltb low max_sites (T.inside low low own))

-- What is left, and what is listed in the lent memory m.
pub record Takes (p r : List ℕ) (n : ℕ) (k : Labels) (low : ℕ) (m m' : List ℕ) (t : Taken) : Type 0 where
  pub tied : Tied p r n (dissolve k low)
  pub answer : t ≡ Ok (length (members k low))
  pub list : m' ≡ over m (members k low)
  pub room : length (members k low) ≤ length m
  pub same_length : length m' ≡ length m
  pub front : take (length (members k low)) m' ≡ members k low
  pub each : (i : ℕ) → i < length (members k low) → get_or m' i 0 ≡ get_or (members k low) i 0

-- at each removal, at the lowest member of a class, that is paper's and has room for the members
module _ {p r : List ℕ} {n : ℕ} {k : Labels} (T : Tied p r n k) (low : ℕ) (own : look k low ≡ some low) (m : List ℕ) where
  abbrev whole : Removed
  whole = remove_at (flattened (classes p r n) low).after (flattened (classes p r n) low).found

  same : whole.members ≡ members k low
  same = removed_members T low own whole (is_set T low own)

  takes : (o : Outcome Removed) → o ≡ remove_set_of (classes p r n) low → length (members k low) ≤ length m
      → (p' : List ℕ) (n' : ℕ) (m' : List ℕ) (t : Taken) → ◌≡◌ {A = Classes × List ℕ × Taken} (classes p' r n', m', t) (taken_by (classes p r n) m o)
      → Takes p' r n' k low m m' t
  takes o is room p' n' m' t e = record {
    tied = subst⁻¹ (λ (c : Classes). Tied c.parents c.ranks c.count (dissolve k low)) (ap (λ (w : Classes × List ℕ × Taken). w.0) all)
        (removed_tied T low own whole (is_set T low own));
    answer = ap (λ (w : Classes × List ℕ × Taken). w.2) all ∙ ap (λ (l : List ℕ). Ok (length l)) same;
    list = list;
    room = room;
    same_length = ap length list ∙ (simp (length-append, length-drop) (omega (arith, room)));
    front = ap (take (length (members k low))) list ∙ take-append_seam (members k low) (drop (length (members k low)) m);
    each = λ i h. ap (λ (l : List ℕ). get_or l i 0) list ∙ get_or-append (members k low) (drop (length (members k low)) m) 0 i h;
  }
    where
      all : ◌≡◌ {A = Classes × List ℕ × Taken} (classes p' r n', m', t) (whole.after, over m whole.members, Ok (length whole.members))
      all = e ∙ ap (taken_by (classes p r n) m) (is ∙ is_set T low own)

      list : m' ≡ over m (members k low)
      list = ap (λ (w : Classes × List ℕ × Taken). w.1) all ∙ ap (over m) same

-- at each call of class_removal::remove_set_of_in: m has room for every site
pub tied_take : {p r : List ℕ} {n : ℕ} {k : Labels} → Tied p r n k → (low : ℕ) → look k low ≡ some low → (m : List ℕ) → max_sites ≤ length m
    → (p' : List ℕ) (n' : ℕ) (m' : List ℕ) (t : Taken) → ◌≡◌ {A = Classes × List ℕ × Taken} (classes p' r n', m', t) (taken (classes p r n) m low)
    → Takes p' r n' k low m m' t
tied_take {p} {r} {n} {k} T low own m h p' n' m' t e =
    takes T low own m (remove_set_of (classes p r n) low) refl room p' n' m' t
    (e ∙ ap (λ (b : Bool). taken_if b (classes p r n) m (remove_set_of (classes p r n) low)) (le-leb max_sites (length m) h))
  where
    room : length (members k low) ≤ length m
    room = let w = members_few T low own max_sites (omega arith) T.inside in omega arith

-- at each call of class_removal::remove_listed_in: the list ascends and has every joined site, and m has room for it
pub tied_take_listed : {p r : List ℕ} {n : ℕ} {k : Labels} → Tied p r n k → (low : ℕ) → look k low ≡ some low → (xs m : List ℕ) → length xs ≤ length m
    → ((i j : ℕ) → i < j → j < length xs → get_or xs i 0 < get_or xs j 0) → ((i : ℕ) → i < length xs → get_or xs i 0 < max_sites)
    → ((z v : ℕ) → look k z ≡ some v → (i : ℕ) × (i < length xs) × (get_or xs i 0 ≡ z))
    → (p' : List ℕ) (n' : ℕ) (m' : List ℕ) (t : Taken) → ◌≡◌ {A = Classes × List ℕ × Taken} (classes p' r n', m', t) (taken_of (classes p r n) xs m low)
    → Takes p' r n' k low m m' t
tied_take_listed {p} {r} {n} {k} T low own xs m h a b has p' n' m' t e =
    takes T low own m (remove_of xs (classes p r n) low) is room p' n' m' t
    (e ∙ ap (λ (b : Bool). taken_if b (classes p r n) m (remove_of xs (classes p r n) low)) (le-leb (length xs) (length m) h))
  where
    all_listed : (z : ℕ) → z < max_sites → up p z < max_sites → Listed xs z
    all_listed z g u = has z (lowest k z) (some_label k z (sym (T.joined z g) ∙ lt-ltb (up p z) max_sites u))

    is : remove_of xs (classes p r n) low ≡ remove_set_of (classes p r n) low
    is = remove_listed (classes p r n) low xs a b all_listed

    room : length (members k low) ≤ length m
    room =
        let w = remove_few xs (classes p r n) low (whole T low own m) (is ∙ is_set T low own) in
        let l = ap length (same T low own m) in
        omega arith
