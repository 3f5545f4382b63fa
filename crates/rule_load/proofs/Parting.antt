-- Loading in lent memory is its parts one after the other; and what the parts leave.
use mathlib.Core.Path.{◌≡◌, refl, sym, ap, ◌∙◌}
use mathlib.Core.Bool.{Bool, true, false, ◌&&◌}
use mathlib.Core.List.{List}
use Prim.Native.Nat.{ℕ, zero, suc, ◌+◌, ◌*◌, ◌≤◌, ◌/◌}
use native.Mathlib.Omega.{arith}
use lib.ListN.{length}
use lib.Dec.{ltb, leb}
use borrow.Author.Tests.{leb-true}
use Rattle.paper.specs.declared.Item.{Item}
use Rattle.paper.specs.declared.Rule.{Rule}
use Rattle.paper.specs.declared.Refusal.{Refusal}
use Rattle.paper.specs.declared.Refusal.TheVariants.{TooManySites, TooManyItems, TooManyConstrained, TooManyEqual}
use Rattle.paper.specs.Numbers.{max_sites, max_rules, max_items, max_constrained, max_equal, most_rounds, Outcome, done, refused, ◌>>=◌, demand}
use Rattle.paper.specs.Loading.{Set, Written, written, Loading, Solving, load_items, hanging, no_hanging, closure, holders, conflict, check_4, steps, endless, no_endless, rounds, started, normalise, with_rule, used, load, no_items}
use Rattle.paper.proofs.Outcomes.{done_once, bind_done, demand_done}
use Rattle.paper.proofs.Lists.{and_both}
use Rattle.rule_words.specs.Stored.{run, base, stride, kept_in, kept_first}
use Rattle.sites.specs.Slots.{slot, sites_in}
use Rattle.sites.proofs.Places.{sites_length}
use Rattle.rule_items.specs.Shown.{items_in}
use Rattle.rule_load.specs.Parts.{has_place, admitted, worked, settled}
use Rattle.rule_load.specs.Whole.{set_in, load_in}
use Rattle.rule_load.proofs.Widening.{widens_none, Passed, items_passed, Turned, rounds_turned, started_turned}

run_length : {A : Type 0} (f : ℕ → A) (i n : ℕ) → length (run f i n) ≡ n
unfolding run
run_length f i zero = refl
run_length f i (suc n) = ap suc (run_length f (suc i) n)

pub first_length : (ws : List ℕ) (k : ℕ) → length (kept_first ws k) ≡ k
unfolding kept_first
first_length ws k = run_length (kept_in ws) 0 k

-- a kept rule is in the set, the last
abbrev pub ended : List ℕ → ℕ → List ℕ → ℕ → Written → Solving → Outcome Set
ended m n ws k w s = settled (length s.sites) (length s.constraints) (length s.classes) (length m) w.count >>= λ _. done (with_rule (set_in m n ws k) w s)

abbrev pub by_parts : List ℕ → ℕ → List ℕ → ℕ → Written → Outcome Set
by_parts m n ws k w = admitted n ws k w.place w.count >>= λ _. (worked m n w.count w.items >>= ended m n ws k w)

-- the lines of 01 after the items
module _ {L S G : Type 0} (h four six : L → Outcome (Unit {0})) (turn : L → Outcome S) (A B : S → Bool) (x y : S → Refusal) (W : S → G) (C : S → Bool) (z : S → Refusal) where
  abbrev lines : Outcome L → Outcome G
  lines o = (o >>= λ l. ((h l >>= λ _. (four l >>= λ _. (six l >>= λ _. (turn l >>= λ s. (demand (A s) (x s) >>= λ _. (demand (B s) (y s) >>= λ _. done s)))))) >>= λ s. done (W s)))

  abbrev grouped : Outcome L → Outcome G
  grouped o = ((o >>= λ l. (h l >>= λ _. done l)) >>= λ l. (four l >>= λ _. (six l >>= λ _. turn l))) >>= λ s. ((demand (A s) (x s) >>= λ _. (demand (B s) (y s) >>= λ _. demand (C s) (z s))) >>= λ _. done (W s))

  module _ (D : G → Bool) (u : G → Refusal) (same : (s : S) → D (W s) ≡ C s) (alike : (s : S) → u (W s) ≡ z s) where
    last_line : (s : S) (a b : Bool) → ((demand a (x s) >>= λ _. (demand b (y s) >>= λ _. done s)) >>= λ s. done (W s)) >>= (λ g. (demand (D g) (u g) >>= λ _. done g))
        ≡ (demand a (x s) >>= λ _. (demand b (y s) >>= λ _. demand (C s) (z s))) >>= λ _. done (W s)
    last_line s false b = refl
    last_line s true false = refl
    last_line s true true = rw (same s, alike s)

    then_on : (p q : Outcome (Unit {0})) (t : Outcome S) → ((p >>= λ _. (q >>= λ _. (t >>= λ s. (demand (A s) (x s) >>= λ _. (demand (B s) (y s) >>= λ _. done s))))) >>= λ s. done (W s)) >>= (λ g. (demand (D g) (u g) >>= λ _. done g))
        ≡ (p >>= λ _. (q >>= λ _. t)) >>= λ s. ((demand (A s) (x s) >>= λ _. (demand (B s) (y s) >>= λ _. demand (C s) (z s))) >>= λ _. done (W s))
    then_on (refused e) q t = refl
    then_on (done b) (refused e) t = refl
    then_on (done b) (done c) (refused e) = refl
    then_on (done b) (done c) (done s) = last_line s (A s) (B s)

    first_on : (l : L) (o : Outcome (Unit {0})) → ((o >>= λ _. (four l >>= λ _. (six l >>= λ _. (turn l >>= λ s. (demand (A s) (x s) >>= λ _. (demand (B s) (y s) >>= λ _. done s)))))) >>= λ s. done (W s)) >>= (λ g. (demand (D g) (u g) >>= λ _. done g))
        ≡ ((o >>= λ _. done l) >>= λ l. (four l >>= λ _. (six l >>= λ _. turn l))) >>= λ s. ((demand (A s) (x s) >>= λ _. (demand (B s) (y s) >>= λ _. demand (C s) (z s))) >>= λ _. done (W s))
    first_on l (refused e) = refl
    first_on l (done a) = then_on (four l) (six l) (turn l)

    regrouped : (o : Outcome L) → (lines o >>= λ g. (demand (D g) (u g) >>= λ _. done g)) ≡ grouped o
    regrouped (refused e) = refl
    regrouped (done l) = first_on l (h l)

module _ (m : List ℕ) (n : ℕ) (ws : List ℕ) (k : ℕ) (r : Rule) where
  -- the checks before the items, and the two that the items repeat
  pub parts : load_in m n ws k r ≡ by_parts m n ws k (written r)
  unfolding load_in load admitted worked settled items_in normalise with_rule used has_place set_in
  parts = go (ltb k max_rules && leb (base k + stride) (length ws)) (leb n max_sites) (leb r.count max_items) (has_place ws k r.place) refl refl refl refl
    where
      few : (ltb k max_rules && leb (base k + stride) (length ws)) ≡ true → ltb (length (kept_first ws k)) max_rules ≡ true
      few e = ap (λ j. ltb j max_rules) (first_length ws k) ∙ (and_both (ltb k max_rules) _ e).0

      go : (a b c d : Bool) → (ltb k max_rules && leb (base k + stride) (length ws)) ≡ a → leb n max_sites ≡ b → leb r.count max_items ≡ c → has_place ws k r.place ≡ d → load_in m n ws k r ≡ by_parts m n ws k (written r)
      go false b c d ea eb ec ed = rw ea
      go true false c d ea eb ec ed = rw (ea, eb)
      go true true false d ea eb ec ed = rw (ea, eb, few ea, ec)
      go true true true true ea eb ec ed = rw (ea, eb, few ea, ec, ed)
      go true true true false ea eb ec ed =
          rw (ea, eb, few ea, ec, ed)
          (regrouped {G = Set} (λ l. no_hanging (hanging l)) (λ l. check_4 (closure l) (holders l) (conflict (closure l) (holders l))) (λ l. no_endless (endless (steps (closure l) (holders l))))
          (λ l. rounds most_rounds r.count (started l))
          (λ s. leb (length s.constraints) max_constrained) (λ s. leb (length s.classes) max_equal)
          (λ s. TooManyConstrained (length s.constraints)) (λ s. TooManyEqual (length s.classes))
          (with_rule (set_in m n ws k) (written r)) (λ s. leb (length s.sites * slot) (length m)) (λ s. TooManySites (length m / slot + 1) r.count)
          (λ g. leb (length g.sites * slot) (length m)) (λ g. TooManySites (length m / slot + 1) r.count) (λ s. refl) (λ s. refl)
          (load_items (no_items (sites_in m n)) 0 (written r).items))

-- loading looks at what is written alone
pub same_loading : (m : List ℕ) (n : ℕ) (ws : List ℕ) (k : ℕ) (r q : Rule) → written r ≡ written q → load_in m n ws k r ≡ load_in m n ws k q
same_loading m n ws k r q e = parts m n ws k r ∙ (ap (by_parts m n ws k) e ∙ sym (parts m n ws k q))

-- ---- what the items and the rounds leave
module _ (m : List ℕ) (n count : ℕ) (is : List Item) where
  pub items_done : (l : Loading) → items_in true m n count is ≡ done l → (load_items (no_items (sites_in m n)) 0 is ≡ done l) × (n ≤ max_sites) × (count ≤ max_items)
  unfolding items_in
  items_done l e =
      let x = demand_done (leb n max_sites) (TooManySites n count) _ l e in
      let y = demand_done (leb count max_items) (TooManyItems count) _ l x.1 in
      let z = bind_done (load_items (no_items (sites_in m n)) 0 is) _ l y.1 in
      let w = bind_done (no_hanging (hanging z.0)) _ l z.2 in
      let q = done_once w.2 in
      (z.1 ∙ ap done q, leb-true _ _ x.0, leb-true _ _ y.0)

  pub after_items : (l : Loading) → items_in true m n count is ≡ done l → Passed (sites_in m n) (length is) l
  after_items l e =
      let d = items_done l e in
      let h = sites_length m n in
      let g = d.1 in
      let w = widens_none (sites_in m n) (omega arith) in
      let z : 0 + length is ≡ length is = omega arith in
      rw z at (items_passed (sites_in m n) 0 (no_items (sites_in m n)) 0 is l (record { widens = w; rising = tt; few = omega arith; grown = omega arith; equal = λ p j. elim j [ ] }) d.0)

  pub after_rounds : (s : Solving) → worked m n count is ≡ done s → Turned (sites_in m n) s
  unfolding worked
  after_rounds s e =
      let x = bind_done (items_in true m n count is) _ s e in
      let y = bind_done (check_4 (closure x.0) (holders x.0) (conflict (closure x.0) (holders x.0))) _ s x.2 in
      let z = bind_done (no_endless (endless (steps (closure x.0) (holders x.0)))) _ s y.2 in
      rounds_turned most_rounds (sites_in m n) count (started x.0) s (started_turned (sites_in m n) (length is) x.0 (after_items x.0 x.1)) z.2
