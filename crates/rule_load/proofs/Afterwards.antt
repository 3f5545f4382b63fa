-- For whoever loads rules: loading in lent memory is paper's `load`, and the memory afterwards holds the set that it answers.
use mathlib.Core.Path.{◌≡◌, refl, sym, ap, ◌∙◌}
use mathlib.Core.Bool.{Bool, true, false, ◌&&◌, not}
use mathlib.Core.List.{List, [], ◌∷◌, ◌++◌, map}
use Prim.Native.Nat.{ℕ, zero, suc, ◌+◌, ◌*◌, ◌≤◌, ◌<◌, min, ◌/◌}
use native.Mathlib.Omega.{arith}
use lib.ListN.{length, get_or, drop, length-map, length-append}
use lib.Seq.{get_or_at, drop_at}
use lib.Dec.{ltb, leb}
use borrow.Author.Tests.{le-leb, leb-true, ltb-true, ltb-false}
use Rattle.paper.specs.declared.Constraint.{Constraint}
use Rattle.paper.specs.declared.Rule.{Rule}
use Rattle.paper.specs.declared.Refusal.{Refusal}
use Rattle.paper.specs.declared.Refusal.TheVariants.{TooManySites, TooManyRules, TooManyItems, TooManyConstrained, TooManyEqual, PlaceUsed}
use Rattle.std.specs.Prelude.{if◌then◌else◌}
use Rattle.paper.specs.Words.{joined}
use Rattle.paper.specs.Numbers.{max_sites, max_rules, max_items, max_constrained, max_equal, most_rounds, Outcome, done, refused, ◌>>=◌, demand}
use Rattle.paper.specs.Sites.{Sites}
use Rattle.paper.specs.Loading.{Kept, Set, Written, written, Loading, Solving, load_items, normalise, started, with_rule, used, load, closure, holders, conflict, check_4, steps, endless, no_endless, no_items}
use Rattle.paper.specs.Rules.{no_rule}
use Rattle.paper.proofs.Outcomes.{done_once, bind_done, demand_done}
use Rattle.paper.proofs.Making.{load_done, normalise_rounds}
use Rattle.paper.proofs.Lists.{and_both}
use Rattle.rule_words.specs.Stored.{run, base, stride, kept_in, kept_first, fits_in, put_rule, handed}
use Rattle.rule_words.specs.Stored as stored
use Rattle.rule_words.proofs.StoreLaws.{run_same, rule_length, written_kept, others_kept}
use Rattle.sites.specs.Slots.{slot, slot_body, sites_in, store}
use Rattle.sites.proofs.Places.{sites_length}
use Rattle.sites.proofs.After.{Grows, Bodies, grown_in, grown_older, grown_bodies, store_long}
use Rattle.rule_items.specs.Shown.{items_in}
use Rattle.rule_load.specs.Parts.{admitted, worked, settled}
use Rattle.rule_load.specs.Whole.{set_in, load_in, sites_after, three, put_kept, words_after}
use Rattle.rule_load.proofs.Widening.{Widens, widens_grows, widens_none, items_passed, rounds_turned, started_turned}
use Rattle.rule_load.proofs.Parting.{first_length, ended, parts, items_done, after_rounds}
use Rattle.rule_load.proofs.Ranging.{InRanges, RuleFits, items_ranged, rounds_ranged, handed_is}

-- ---- paper's `load`
-- a set keeps to the limit on sites
pub load_widens : (g : Set) (w : Written) (h : Set) → length g.sites ≤ max_sites → load g w ≡ done h → Widens g.sites h.sites
unfolding with_rule
load_widens g w h l e =
    let L = load_done g w h e in
    let P = items_passed g.sites 0 (no_items g.sites) 0 w.items L.loading (record { widens = widens_none g.sites l; rising = tt; few = omega arith; grown = omega arith; equal = λ p j. elim j [ ] }) L.items in
    let T = rounds_turned most_rounds g.sites w.count (started L.loading) L.solved (started_turned g.sites _ L.loading P) (normalise_rounds L.loading w.count L.solved L.normalised) in
    rw L.after T.widens

abbrev pub headed : ℕ → ℕ → Set → Set
headed t f g = record { term = t; flags = f; sites = g.sites; kept = g.kept }

-- loading looks at neither the term nor the flags
pub load_heads : (t f : ℕ) (g : Set) (w : Written) → load (headed t f g) w ≡ (load g w >>= λ h. done (headed t f h))
unfolding load with_rule used
load_heads t f g w = go (ltb (length g.kept) max_rules) (leb w.count max_items) (used g w.place)
  where
    after : (l : Loading) (o : Outcome Solving) → (o >>= λ s. done (with_rule (headed t f g) w s)) ≡ ((o >>= λ s. done (with_rule g w s)) >>= λ h. done (headed t f h))
    after l (done s) = refl
    after l (refused e) = refl

    items : (o : Outcome Loading) → (o >>= λ l. (normalise l w.count >>= λ s. done (with_rule (headed t f g) w s))) ≡ ((o >>= λ l. (normalise l w.count >>= λ s. done (with_rule g w s))) >>= λ h. done (headed t f h))
    items (done l) = after l (normalise l w.count)
    items (refused e) = refl

    go : (a b c : Bool) →
        (demand a (TooManyRules (suc (length g.kept))) >>= λ _. (demand b (TooManyItems w.count) >>= λ _. (demand (not c) (PlaceUsed w.place) >>= λ _. (load_items (no_items g.sites) 0 w.items >>= λ l. (normalise l w.count >>= λ s. done (with_rule (headed t f g) w s))))))
        ≡ ((demand a (TooManyRules (suc (length g.kept))) >>= λ _. (demand b (TooManyItems w.count) >>= λ _. (demand (not c) (PlaceUsed w.place) >>= λ _. (load_items (no_items g.sites) 0 w.items >>= λ l. (normalise l w.count >>= λ s. done (with_rule g w s)))))) >>= λ h. done (headed t f h))
    go false b c = refl
    go true false c = refl
    go true true true = refl
    go true true false = items (load_items (no_items g.sites) 0 w.items)

few_after : (m : List ℕ) (n : ℕ) (ws : List ℕ) (k : ℕ) (r : Rule) → n ≤ max_sites → (g : Set) → load (set_in m n ws k) (written r) ≡ done g → length g.sites ≤ max_sites
unfolding set_in
few_after m n ws k r c g q = let e = sites_length m n in (load_widens (set_in m n ws k) (written r) g (omega arith) q).fits

-- a full set
full_same : (m : List ℕ) (n : ℕ) (ws : List ℕ) (k : ℕ) (r : Rule) → k ≤ max_rules → ltb k max_rules ≡ false → load_in m n ws k r ≡ load (set_in m n ws k) (written r)
unfolding load_in load set_in
full_same m n ws k r d q =
    let h = ltb-false k max_rules q in
    let f = first_length ws k in
    let x : ltb (length (kept_first ws k)) max_rules ≡ false = ap (λ j. ltb j max_rules) f ∙ q in
    let e : min k max_rules ≡ length (kept_first ws k) = omega arith in
    rw (q, x, e)

module _ (m : List ℕ) (n : ℕ) (ws : List ℕ) (k : ℕ) (r : Rule) where
  -- with room for the limits, loading in lent memory is paper's `load`
  pub load_is : max_sites * slot ≤ length m → base max_rules ≤ length ws → n ≤ max_sites → k ≤ max_rules → load_in m n ws k r ≡ load (set_in m n ws k) (written r)
  unfolding load_in base
  load_is a b c d = start (ltb k max_rules) refl
    where
      last : (o : Outcome Set) → load (set_in m n ws k) (written r) ≡ o → (o >>= λ g. (demand (leb (length g.sites * slot) (length m)) (TooManySites (length m / slot + 1) r.count) >>= λ _. done g)) ≡ o
      last (refused e) q = refl
      last (done g) q = let z = small g q in let y : length g.sites * slot ≤ length m = omega arith in rw (le-leb (length g.sites * slot) (length m) y)
        where
          small : (g : Set) → load (set_in m n ws k) (written r) ≡ done g → length g.sites ≤ max_sites
          small g q = few_after m n ws k r c g q

      start : (t : Bool) → ltb k max_rules ≡ t → load_in m n ws k r ≡ load (set_in m n ws k) (written r)
      start true q =
          let l = ltb-true k max_rules q in
          let y : stride * k + stride ≤ length ws = omega arith in
          rw (q, le-leb (stride * k + stride) (length ws) y, le-leb n max_sites c) (last (load (set_in m n ws k) (written r)) refl)
      start false q = full_same m n ws k r d q

-- ---- a kept rule: what it came from
pub record Comes (m : List ℕ) (n : ℕ) (ws : List ℕ) (k : ℕ) (r : Rule) (g : Set) : Type 0 where
  pub solving : Solving
  pub work : worked m n r.count (written r).items ≡ done solving
  pub after : g ≡ with_rule (set_in m n ws k) (written r) solving
  pub few : length solving.constraints ≤ max_constrained
  pub few_equal : length solving.classes ≤ max_equal
  pub room : length solving.sites * slot ≤ length m
  pub stride_there : base k + stride ≤ length ws

pub kept_comes : (m : List ℕ) (n : ℕ) (ws : List ℕ) (k : ℕ) (r : Rule) (g : Set) → load_in m n ws k r ≡ done g → Comes m n ws k r g
unfolding admitted settled
kept_comes m n ws k r g e =
    let x = bind_done (admitted n ws k r.place r.count) (λ _. (worked m n r.count (written r).items >>= ended m n ws k (written r))) g (sym (parts m n ws k r) ∙ e) in
    let a = demand_done (ltb k max_rules && leb (base k + stride) (length ws)) (TooManyRules (suc (min k max_rules))) _ x.0 x.1 in
    let y = bind_done (worked m n r.count (written r).items) (ended m n ws k (written r)) g x.2 in
    let z = bind_done (settled (length y.0.sites) (length y.0.constraints) (length y.0.classes) (length m) r.count) (λ _. done (with_rule (set_in m n ws k) (written r) y.0)) g y.2 in
    let u = demand_done (leb (length y.0.constraints) max_constrained) (TooManyConstrained (length y.0.constraints)) _ z.0 z.1 in
    let v = demand_done (leb (length y.0.classes) max_equal) (TooManyEqual (length y.0.classes)) _ z.0 u.1 in
    let w = demand_done {B = Unit {0}} (leb (length y.0.sites * slot) (length m)) (TooManySites (length m / slot + 1) r.count) done z.0 (again _ z.0 v.1) in
    record {
      solving = y.0;
      work = y.1;
      after = sym (done_once z.2);
      few = leb-true _ _ u.0;
      few_equal = leb-true _ _ v.0;
      room = leb-true _ _ w.0;
      stride_there = leb-true _ _ (and_both (ltb k max_rules) _ a.0).1;
    }
  where
    again : (o : Outcome (Unit {0})) (t : Unit {0}) → o ≡ done t → (o >>= done) ≡ done t
    again (done a) t q = q
    again (refused d) t q = q

long_after : (m : List ℕ) (n : ℕ) (u : Sites) → Grows (sites_in m n) u → length u * slot ≤ length m → length (store m n (drop n u)) ≡ length m
long_after m n u G h =
    let e = sites_length m n in
    let a : drop n u ≡ G.more = ap (drop n) G.is ∙ drop_at (sites_in m n) G.more n e in
    let b = ap length G.is ∙ length-append (sites_in m n) G.more in
    rw a (store_long m n G.more G.kept (omega arith))

run_last : {A : Type 0} (f : ℕ → A) (i k : ℕ) → run f i (suc k) ≡ run f i k ++ (f (i + k) ∷ [])
unfolding run
run_last f i zero = let z : i + 0 ≡ i = omega arith in rw z
run_last f i (suc k) = let z : i + suc k ≡ suc i + k = omega arith in rw z (ap (λ l. f i ∷ l) (run_last f (suc i) k))

written_long : (ws : List ℕ) (i p q : ℕ) (ss sh es lo : List ℕ) → length (stored.written ws i p q ss sh es lo) ≡ length ws
unfolding stored.written
written_long ws i p q ss sh es lo = go (fits_in ws i ss es)
  where
    go : (t : Bool) → length {A = ℕ} (if t then put_rule ws (base i) p q ss sh es lo else ws) ≡ length ws
    go true = rule_length ws (base i) p q ss sh es lo
    go false = refl

-- a rule in range that is put into its stride is read back after the older ones
pub rule_back : (ws : List ℕ) (k : ℕ) (q : Kept) → q.place < 4294967296 → q.priority < 18446744073709551616 → InRanges q.constraints → length q.constraints ≤ max_constrained → length q.equals ≤ max_equal → base k + stride ≤ length ws
    → kept_first (put_kept ws k q) (suc k) ≡ kept_first ws k ++ (q ∷ [])
unfolding kept_first put_kept fits_in
rule_back ws k q hp hq h fc fe l =
    let ss : List ℕ = map (λ p. p.0) q.constraints in
    let sh : List ℕ = joined (map three q.constraints) in
    let es : List ℕ = map (λ p. p.0) q.equals in
    let lo : List ℕ = map (λ p. p.1) q.equals in
    let lc : length (map (λ (p : ℕ × Constraint). p.0) q.constraints) ≡ length q.constraints = length-map q.constraints (λ (p : ℕ × Constraint). p.0) in
    let le : length (map (λ (p : ℕ × ℕ). p.0) q.equals) ≡ length q.equals = length-map q.equals (λ (p : ℕ × ℕ). p.0) in
    let f : fits_in ws k ss es ≡ true = rw (lc, le, le-leb (length q.constraints) max_constrained fc, le-leb (length q.equals) max_equal fe, le-leb (base k + stride) (length ws) l) in
    let a = run_same (kept_in (stored.written ws k q.place q.priority ss sh es lo)) (kept_in ws) 0 k (λ j x y. others_kept ws k q.place q.priority ss sh es lo j (λ z. omega arith)) in
    let z : 0 + k ≡ k = omega arith in
    let b : kept_in (stored.written ws k q.place q.priority ss sh es lo) (0 + k) ≡ q = ap (kept_in (stored.written ws k q.place q.priority ss sh es lo)) z ∙ (written_kept ws k q.place q.priority ss sh es lo hp hq f ∙ handed_is q.constraints h q.equals q.place q.priority) in
    run_last (kept_in (stored.written ws k q.place q.priority ss sh es lo)) 0 k ∙ rw (a, b)

solving_ranged : (m : List ℕ) (n : ℕ) (r : Rule) → RuleFits r → (s : Solving) → worked m n r.count (written r).items ≡ done s → InRanges s.constraints
unfolding worked
solving_ranged m n r F s e =
    let x = bind_done (items_in true m n r.count (written r).items) _ s e in
    let y = bind_done (check_4 (closure x.0) (holders x.0) (conflict (closure x.0) (holders x.0))) _ s x.2 in
    let z = bind_done (no_endless (endless (steps (closure x.0) (holders x.0)))) _ s y.2 in
    let i = items_ranged (no_items (sites_in m n)) 0 (written r).items x.0 F.items (λ p j. elim j [ ]) (items_done m n r.count (written r).items x.0 x.1).0 in
    rounds_ranged most_rounds r.count (started x.0) s i z.2

module _ (m : List ℕ) (n : ℕ) (ws : List ℕ) (k : ℕ) (r : Rule) where
  -- a refused rule changes nothing
  pub refused_same : (e : Refusal) → load_in m n ws k r ≡ refused e → (sites_after m n (load_in m n ws k r) ≡ m) × (words_after ws k (load_in m n ws k r) ≡ ws)
  refused_same e q = rw q (refl, refl)

  module _ (g : Set) (e : load_in m n ws k r ≡ done g) where
    abbrev C : Comes m n ws k r g
    C = kept_comes m n ws k r g e

    -- the table is longer, by new sites at its end, and within the limit
    pub after_widens : Widens (sites_in m n) g.sites
    unfolding with_rule
    after_widens = rw C.after (after_rounds m n r.count (written r).items C.solving C.work).widens

    room_there : length g.sites * slot ≤ length m
    unfolding with_rule
    room_there = rw C.after C.room

    -- the slots hold the new table; the older slots are as they were; every slot has a body if each had one
    pub after_sites : sites_in (sites_after m n (done g)) (length g.sites) ≡ g.sites
    after_sites = grown_in m n g.sites (widens_grows (sites_in m n) g.sites after_widens) room_there

    pub after_older : (i : ℕ) → i < n → slot_body (sites_after m n (done g)) i ≡ slot_body m i
    after_older = grown_older m n g.sites (widens_grows (sites_in m n) g.sites after_widens) room_there

    pub after_bodies : Bodies m n → Bodies (sites_after m n (done g)) (length g.sites)
    after_bodies = grown_bodies m n g.sites (widens_grows (sites_in m n) g.sites after_widens) room_there

    -- and_both memories are as long as they were
    pub after_long : length (sites_after m n (done g)) ≡ length m
    after_long = long_after m n g.sites (widens_grows (sites_in m n) g.sites after_widens) room_there

    pub after_words_long : length (words_after ws k (done g)) ≡ length ws
    unfolding put_kept
    after_words_long = written_long ws k _ _ _ _ _ _

    new_rule : get_or g.kept k no_rule ≡ record { place = r.place; priority = r.priority; constraints = C.solving.constraints; equals = C.solving.classes }
    unfolding with_rule set_in
    new_rule = ap (λ (x : Set). get_or x.kept k no_rule) C.after ∙ get_or_at (kept_first ws k) _ [] no_rule k (first_length ws k)

    -- the words hold the new rule after the older ones, as they were
    pub after_kept : RuleFits r → kept_first (words_after ws k (done g)) (suc k) ≡ g.kept
    unfolding with_rule set_in
    after_kept F =
        ap (λ q. kept_first (put_kept ws k q) (suc k)) new_rule
        ∙ (rule_back ws k _ F.place F.priority (solving_ranged m n r F C.solving C.work) C.few C.few_equal C.stride_there ∙ sym (ap (λ (x : Set). x.kept) C.after))
