-- The answers of `load`, and the lent memory after each.
use mathlib.Core.Path.{◌≡◌, refl, sym, ap, ◌∙◌, subst}
use mathlib.Core.Logic.{⊎_elim}
use mathlib.Core.List.{List, [], ◌∷◌, ◌++◌, map, Memᴰ}
use Prim.Native.Nat.{ℕ, ◌+◌, ◌*◌, ◌≤◌, ◌<◌, ◌/◌}
use native.Mathlib.Omega.{arith}
use lib.ListN.{length, get_or, take, drop, replicate, length-replicate}
use lib.Seq.{drop_at, get_or_at}
use lib.Dec.{leb}
use borrow.Author.Tests.{leb-true}
use Rattle.std.specs.Prelude.{IsSome}
use Rattle.std.specs.declared.result.Result.TheVariants.{Err, Ok}
use Rattle.std.specs.declared.option.Option.TheVariants.{None, Some}
use Rattle.paper.specs.declared.Rule.{Rule}
use Rattle.paper.specs.declared.Refusal.{Refusal}
use Rattle.paper.specs.declared.Refusal.TheVariants.{TooManySites, TooManyConstrained, TooManyEqual}
use Rattle.paper.specs.Words.{or_else, joined}
use Rattle.paper.specs.Numbers.{max_sites, max_fields, max_items, max_constrained, max_equal, Outcome, done, refused, ◌>>=◌}
use Rattle.paper.specs.Sites.{Site, Sites, const_bool, const_int, const_prim, argument, extractor, constructor, iterator, make_variant, match_variant, make_struct, extract_struct, make_some, match_some, match_tuple, sources, parent}
use Rattle.paper.specs.Loading.{Set, Written, written, Solving, with_rule}
use Rattle.paper.specs.Rules.{no_rule}
use Rattle.paper.proofs.Outcomes.{demand_done}
use Rattle.paper.proofs.Closure.{in_below}
use Rattle.rule_words.specs.Stored.{base, stride, kept_first}
use Rattle.rule_words.specs.Stored as stored
use Rattle.sites.specs.Slots.{slot, sites_in, store}
use Rattle.sites.proofs.Places.{sites_length}
use Rattle.rule_children.specs.Tail.{site_of_word, table}
use Rattle.paper.specs.Answered.{Verdict}
use Rattle.rule_hanging.specs.Seen.{shown}
use Rattle.rule_rounds.specs.declared.Solved.{Solved}
use Rattle.rule_rounds.specs.Halted.{Halted}
use Rattle.rule_rounds.specs.declared.Halt.TheVariants as halt
use Rattle.paper.specs.Answered.{Maybe}
use Rattle.paper.specs.Answered.{Answer}
use Rattle.rule_rounds.specs.Rounding.{Solves, Rounds, Scant, Unless}
use Rattle.rule_load.specs.Parts.{answer_as, admitted, worked, settled, Lent, ChildWord, new_sites, gathered, Keepable, Finishable, Finishes, Answers, Tries}
use Rattle.rule_load.specs.Whole.{set_in, load_in, three, put_kept}
use Rattle.rule_load.proofs.Widening.{NewSite, Widens, Turned, classes_few}
use Rattle.rule_load.proofs.Parting.{first_length, ended, by_parts, parts, after_rounds}
use Rattle.rule_load.proofs.Laying.{table_long, table_new, shown_long, laid_sites, laid_words, laid_equal, laid_low}

fine_done : {A : Type 0} (o : Outcome A) → answer_as o ≡ Ok tt → (a : A) × (o ≡ done a)
fine_done (done a) e = (a, refl)
fine_done (refused r) e = let z : ◌≡◌ {A = ℕ} 0 1 = cc in absurd (omega arith)

refused_so : {A : Type 0} (o : Outcome A) (r : Refusal) → answer_as o ≡ Err r → o ≡ refused r
refused_so (done a) r e = let z : ◌≡◌ {A = ℕ} 0 1 = cc in absurd (omega arith)
refused_so (refused d) r e = let z : d ≡ r = cc in ap refused z

-- ---- a new site is told by a word that can be written
parent_low : (b : ℕ) (s : Site) → 0 < b → ((m : ℕ) → Memᴰ m (sources s) → m < b) → or_else (parent s) 0 < b
unfolding sources parent
parent_low b (const_bool t v) p h = p
parent_low b (const_int t x y) p h = p
parent_low b (const_prim v) p h = p
parent_low b (argument i) p h = p
parent_low b (extractor t s) p h = p
parent_low b (constructor t n l) p h = p
parent_low b (iterator s) p h = p
parent_low b (make_variant t v l) p h = p
parent_low b (match_variant s v f) p h = h s (mathlib.Core.List.Memᴰ.head refl)
parent_low b (make_struct t l) p h = p
parent_low b (extract_struct s f) p h = h s (mathlib.Core.List.Memᴰ.head refl)
parent_low b (make_some s) p h = p
parent_low b (match_some s) p h = h s (mathlib.Core.List.Memᴰ.head refl)
parent_low b (match_tuple s f) p h = p

new_word : (w : ℕ) → NewSite (site_of_word w) → ChildWord w
new_word w n = record { real = n.storable.real; low = parent_low 65536 (site_of_word w) (omega arith) (λ m j. let z = n.low m j in omega arith) }

new_words : (m : List ℕ) (n : ℕ) (tail : List ℕ) (t : ℕ) (u : Sites) → table m n tail t ≡ u → Widens (sites_in m n) u → (i : ℕ) → i < t → ChildWord (get_or tail i 0)
unfolding new_sites
new_words m n tail t u e W i l =
    let a : new_sites tail t ≡ W.more = sym (table_new m n tail t) ∙ (ap (drop n) (e ∙ W.is) ∙ drop_at (sites_in m n) W.more n (sites_length m n)) in
    let b : Memᴰ (site_of_word (get_or tail i 0)) (new_sites tail t) = in_below t (λ j. site_of_word (get_or tail j 0)) i l in
    new_word (get_or tail i 0) (W.new (site_of_word (get_or tail i 0)) (rw a at b))

-- ---- the checks of the result, and what is written

module _ (m : List ℕ) (n : ℕ) (ws : List ℕ) (k place priority count : ℕ) (tail sites rows words equal low : List ℕ) (x : Solved) (F : Finishable n tail sites rows words equal low x) (total : ℕ) (e : total ≡ n + x.tail)
    (b : Verdict) (g : b ≡ answer_as (settled total x.held x.equal (length m) count)) where
  abbrev EndsAs : Answer ℕ → List ℕ → List ℕ → Type 0
  EndsAs out m' ws' = Finishes m n ws k place priority tail sites rows words equal low x out m' ws' (settled (n + x.tail) x.held x.equal (length m) count)

  pub finish_refuses : (d : Refusal) → b ≡ Err d → EndsAs (Err d) m ws
  finish_refuses d h =
      let z : settled (n + x.tail) x.held x.equal (length m) count ≡ refused d = ap (λ i. settled i x.held x.equal (length m) count) (sym e) ∙ refused_so (settled total x.held x.equal (length m) count) d (sym g ∙ h) in
      rw z (refl, (refl, refl))

  module _ (h : b ≡ Ok tt) where
    settles : settled total x.held x.equal (length m) count ≡ done tt
    settles = (fine_done (settled total x.held x.equal (length m) count) (sym g ∙ h)).1

    limits : (x.held ≤ max_constrained) × (x.equal ≤ max_equal) × (total * slot ≤ length m)
    unfolding settled
    limits =
        let u = demand_done (leb x.held max_constrained) (TooManyConstrained x.held) _ tt settles in
        let v = demand_done (leb x.equal max_equal) (TooManyEqual x.equal) _ tt u.1 in
        let w = demand_done {B = Unit {0}} (leb (total * slot) (length m)) (TooManySites (length m / slot + 1) count) done tt (bind_unit _ v.1) in
        (leb-true _ _ u.0, leb-true _ _ v.0, leb-true _ _ w.0)
      where
        bind_unit : (o : Outcome (Unit {0})) → o ≡ done tt → (o >>= done) ≡ done tt
        bind_unit (done a) q = q
        bind_unit (refused d) q = q

    pub keepable : Keepable (length m) n tail sites rows words equal low x
    keepable =
        let d = limits.2 in
        let u = limits.0 in
        let v = limits.1 in
        let p = F.long_equal in
        let q = F.long_low in
        record {
          fits = F.fits;
          room = omega arith;
          long_tail = F.long_tail;
          children = F.children;
          few = u;
          long_sites = F.long_sites;
          long_rows = F.long_rows;
          long_shapes = F.long_shapes;
          items = F.items;
          few_equal = v;
          long_equal = omega arith;
          long_low = omega arith;
        }

    pub finish_keeps : (m' ws' : List ℕ) → m' ≡ store m n (new_sites tail x.tail)
        → ws' ≡ stored.written ws k place priority (take x.held sites) (gathered rows words (3 * x.held)) (take x.equal equal) (take x.equal low)
        → EndsAs (Ok total) m' ws'
    finish_keeps m' ws' p q =
        let z : settled (n + x.tail) x.held x.equal (length m) count ≡ done tt = ap (λ i. settled i x.held x.equal (length m) count) (sym e) ∙ settles in
        rw z (ap Ok e, (p, q))

-- ---- a rule, by what is written of it

module _ (m : List ℕ) (n : ℕ) (ws : List ℕ) (k : ℕ) (r : Rule) (w : Written) (ew : written r ≡ w) where
  goes : load_in m n ws k r ≡ by_parts m n ws k w
  goes = parts m n ws k r ∙ ap (by_parts m n ws k) ew

  refuses : (e : Refusal) → load_in m n ws k r ≡ refused e → Answers m n ws k r (Err e) m ws
  refuses e q = rw q (refl, (refl, refl))

  -- ---- before the items
  pub first_refuses : (a : Verdict) (e : Refusal) → a ≡ answer_as (admitted n ws k w.place w.count) → a ≡ Err e → Answers m n ws k r (Err e) m ws
  first_refuses a e p q =
      let z = refused_so (admitted n ws k w.place w.count) e (sym p ∙ q) in
      refuses e (goes ∙ ap (λ o. o >>= λ _. (worked m n w.count w.items >>= ended m n ws k w)) z)

  module _ (admits : admitted n ws k w.place w.count ≡ done tt) where
    goes_on : load_in m n ws k r ≡ (worked m n w.count w.items >>= ended m n ws k w)
    goes_on = goes ∙ ap (λ o. o >>= λ _. (worked m n w.count w.items >>= ended m n ws k w)) admits

    -- ---- the rounds
    module _ (tail sites rows words equal low : List ℕ) (x : Solved) (R : Rounds m n tail sites rows words equal low x (worked m n w.count w.items)) where
      rounds_refused : (o : Outcome Solving) (e : Refusal) → Rounds m n tail sites rows words equal low x o → x.answer ≡ Err (halt.Refused e) → o ≡ refused e
      rounds_refused (done s) e Q f = let g = Q.0 in let z : ◌≡◌ {A = ℕ} 0 1 = cc in absurd (omega arith)
      rounds_refused (refused d) e Q f = let z : d ≡ e = cc in ap refused z

      rounds_done : (o : Outcome Solving) → Rounds m n tail sites rows words equal low x o → x.answer ≡ Ok tt → (s : Solving) × (o ≡ done s) × Solves m n tail sites rows words equal low x s
      rounds_done (done s) Q f = (s, refl, Q.1)
      rounds_done (refused e) Q f = let z : ◌≡◌ {A = ℕ} 0 1 = cc in absurd (omega arith)

      pub rounds_refuse : (e : Refusal) → x.answer ≡ Err (halt.Refused e) → Answers m n ws k r (Err e) m ws
      rounds_refuse e f = let z = rounds_refused (worked m n w.count w.items) e R f in refuses e (goes_on ∙ ap (λ o. o >>= ended m n ws k w) z)

      module _ (f : x.answer ≡ Ok tt) where
        found : (s : Solving) × (worked m n w.count w.items ≡ done s) × Solves m n tail sites rows words equal low x s
        found = rounds_done (worked m n w.count w.items) R f

        turned : Turned (sites_in m n) found.0
        turned = after_rounds m n w.count w.items found.0 found.1

        sites_many : length found.0.sites ≡ n + x.tail
        sites_many = ap length (sym found.2.sites_are) ∙ table_long m n tail x.tail

        held_many : length found.0.constraints ≡ x.held
        held_many = ap length (sym found.2.constraints_are) ∙ shown_long sites rows words x.held

        pub finishable : 3 * max_items ≤ length words → max_equal ≤ length equal → max_equal ≤ length low → Finishable n tail sites rows words equal low x
        finishable lw le ll = record {
          fits = found.2.fits;
          long_tail = found.2.long_tail;
          children = new_words m n tail x.tail found.0.sites found.2.sites_are turned.widens;
          few = let a = found.2.few in let b = found.2.fits in omega arith;
          long_sites = found.2.long_sites;
          long_rows = found.2.long_rows;
          long_shapes = lw;
          items = λ i l. (found.2.good i l).item;
          few_equal = let a = classes_few found.0.classes turned.classes in let b = found.2.number in omega arith;
          long_equal = le;
          long_low = ll;
        }

        abbrev set_then : Set
        set_then = with_rule (set_in m n ws k) w found.0

        last_is : load_in m n ws k r ≡ (settled (n + x.tail) x.held x.equal (length m) w.count >>= λ _. done set_then)
        last_is =
            goes_on
            ∙ (ap (λ o. o >>= ended m n ws k w) found.1
            ∙ rw (sites_many, held_many, ← found.2.number))

        last_rule : get_or set_then.kept k no_rule ≡ record { place = w.place; priority = w.priority; constraints = found.0.constraints; equals = found.0.classes }
        unfolding with_rule set_in
        last_rule = get_or_at (kept_first ws k) _ [] no_rule k (first_length ws k)

        limit : settled (n + x.tail) x.held x.equal (length m) w.count ≡ done tt → x.equal ≤ max_equal
        unfolding settled
        limit e =
            let u = demand_done (leb x.held max_constrained) (TooManyConstrained x.held) _ tt e in
            let v = demand_done (leb x.equal max_equal) (TooManyEqual x.equal) _ tt u.1 in
            leb-true _ _ v.0

        pub finished : max_equal ≤ length equal → max_equal ≤ length low → (out : Answer ℕ) (m' ws' : List ℕ)
            → Finishes m n ws k w.place w.priority tail sites rows words equal low x out m' ws' (settled (n + x.tail) x.held x.equal (length m) w.count) → Answers m n ws k r out m' ws'
        unfolding with_rule put_kept
        finished le ll out m' ws' E = go (settled (n + x.tail) x.held x.equal (length m) w.count) refl E
          where
            go : (o : Outcome (Unit {0})) → settled (n + x.tail) x.held x.equal (length m) w.count ≡ o → Finishes m n ws k w.place w.priority tail sites rows words equal low x out m' ws' o → Answers m n ws k r out m' ws'
            go (refused d) e Q =
                let z : load_in m n ws k r ≡ refused d = last_is ∙ ap (λ o. o >>= λ _. done set_then) e in
                rw z Q
            go (done u) e Q =
                let z : load_in m n ws k r ≡ done set_then = last_is ∙ ap (λ o. o >>= λ _. done set_then) e in
                let v = limit e in
                let y = found.2.number in
                let cs : found.0.constraints ≡ shown sites rows words x.held = sym found.2.constraints_are in
                let a : take x.held sites ≡ map (λ p. p.0) found.0.constraints = laid_sites sites rows words x.held found.2.long_sites ∙ ap (map (λ p. p.0)) (sym cs) in
                let b : gathered rows words (3 * x.held) ≡ joined (map three found.0.constraints) = laid_words sites rows words x.held ∙ ap (λ t. joined (map three t)) (sym cs) in
                let c : take x.equal equal ≡ map (λ p. p.0) found.0.classes = laid_equal equal low found.0.classes found.2.classes_are (omega arith) x.equal y (omega arith) in
                let d : take x.equal low ≡ map (λ p. p.1) found.0.classes = laid_low equal low found.0.classes found.2.classes_are (omega arith) x.equal y (omega arith) in
                let s : drop n found.0.sites ≡ new_sites tail x.tail = ap (drop n) (sym found.2.sites_are) ∙ table_new m n tail x.tail in
                let q : ws' ≡ stored.written ws k w.place w.priority (map (λ p. p.0) found.0.constraints) (joined (map three found.0.constraints)) (map (λ p. p.0) found.0.classes) (map (λ p. p.1) found.0.classes) = rw (← a, ← b, ← c, ← d) Q.1.1 in
                rw z (Q.0 ∙ ap Ok (sym sites_many), (Q.1.0 ∙ ap (store m n) (sym s), q ∙ ap (put_kept ws k) (sym last_rule)))

-- ---- with lent lists

-- what was tried with lists that were too short left all as it was
module _ (m : List ℕ) (n : ℕ) (ws : List ℕ) (k : ℕ) (r : Rule) (tail sites m' ws' : List ℕ) (a : Maybe (Answer ℕ)) (T : Tries m n ws k r tail sites m' ws' a) where
  pub tried_done : (out : Answer ℕ) → a ≡ Some out → Answers m n ws k r out m' ws'
  unfolding Tries
  tried_done out e = subst (λ (x : Maybe (Answer ℕ)). Tries m n ws k r tail sites m' ws' x) e T

  pub tried_short : a ≡ None → Scant tail sites × ((m' ≡ m) × (ws' ≡ ws))
  unfolding Tries
  tried_short e = subst (λ (x : Maybe (Answer ℕ)). Tries m n ws k r tail sites m' ws' x) e T

  pub still_admitted : (place count : ℕ) → a ≡ None → admitted n ws k place count ≡ done tt → admitted n ws' k place count ≡ done tt
  still_admitted place count e h = rw (tried_short e).1.1 h

  pub then_large : a ≡ None → (out : Answer ℕ) (m'' ws'' : List ℕ) → Answers m' n ws' k r out m'' ws'' → Answers m n ws k r out m'' ws''
  then_large e out m'' ws'' h = let s = (tried_short e).1 in rw (s.0, s.1) at h

pub answers_same : (m : List ℕ) (n : ℕ) (ws : List ℕ) (k : ℕ) (r q : Rule) (out : Answer ℕ) (m' ws' : List ℕ) → load_in m n ws k r ≡ load_in m n ws k q → Answers m n ws k q out m' ws' → Answers m n ws k r out m' ws'
answers_same m n ws k r q out m' ws' e h = rw e h

pub lent_few : Lent (replicate (max_fields * max_items) 0) (replicate (2 * max_constrained) 0) (replicate (2 * max_constrained) 0)
lent_few = let a = length-replicate {A = ℕ} (max_fields * max_items) 0 in let b = length-replicate {A = ℕ} (2 * max_constrained) 0 in record { long_tail = omega arith; long_sites = omega arith; long_rows = omega arith }

pub lent_all : Lent (replicate max_sites 0) (replicate max_sites 0) (replicate max_sites 0)
lent_all = let a = length-replicate {A = ℕ} max_sites 0 in record { long_tail = omega arith; long_sites = omega arith; long_rows = omega arith }

pub never_scant : Scant (replicate max_sites 0) (replicate max_sites 0) → ⊥
never_scant s = let a = length-replicate {A = ℕ} max_sites 0 in ⊎_elim (λ (h : length {A = ℕ} (replicate max_sites 0) < max_sites). omega arith) (λ (h : length {A = ℕ} (replicate max_sites 0) < max_sites). omega arith) s

pub admits_so : (n : ℕ) (ws : List ℕ) (k place count : ℕ) (a : Verdict) → a ≡ answer_as (admitted n ws k place count) → a ≡ Ok tt → admitted n ws k place count ≡ done tt
admits_so n ws k place count a p q = (fine_done (admitted n ws k place count) (sym p ∙ q)).1

-- ---- for the proofs of the code
pub wrote_as : (ws : List ℕ) (k p q : ℕ) (ss sh sh' es lo w : List ℕ) → w ≡ stored.written ws k p q ss sh es lo → sh ≡ sh' → w ≡ stored.written ws k p q ss sh' es lo
wrote_as ws k p q ss sh sh' es lo w e f = e ∙ ap (λ x. stored.written ws k p q ss x es lo) f

pub refused_told : {a : Halted} {e : Refusal} {tail sites : List ℕ} {P : Type 0} → a ≡ Err (halt.Refused e) → Unless a tail sites P → P
refused_told f u = u.told (λ e. let z : ◌≡◌ {A = ℕ} 0 1 = cc in omega arith)

pub array_long : (xs : List ℕ) (n : ℕ) → length xs ≡ length {A = ℕ} (replicate n 0) → length xs ≡ n
array_long xs n e = e ∙ length-replicate n 0

-- what is not missing is there
pub surely : (z : Maybe (Answer ℕ)) → (z ≡ None → ⊥) → IsSome z
surely (Some x) n = refl
surely None n = absurd (n refl)
