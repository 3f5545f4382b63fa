-- The rounds of paper keep the matching inputs: each is a `Round`, all over the last table (`rounds_ran`).
use Rattle.std.specs.Prelude.{◌≡◌, ◌⊎◌, ℕ, zero, suc, ◌<◌, length}
use Rattle.std.proofs.Math.Path.{refl, ap}
use Rattle.std.proofs.Common.{sym, ◌∙◌, inl, inr}
use Rattle.std.proofs.Math.Option.{Option, none, some}
use mathlib.Core.List.{List, [], ◌∷◌, ◌++◌, Memᴰ}
use Rattle.std.proofs.Math.Decide.{ℕ_discrete}
use Rattle.paper.specs.declared.Constraint.{Constraint}
use Rattle.paper.specs.Words.{look, put}
use Rattle.paper.specs.Numbers.{Outcome, done, ◌>>=◌}
use Rattle.paper.specs.Sites.{Sites, child, child_count, child_number, Sound, Extends}
use Rattle.paper.specs.Inputs.{Value, Given, shape}
use Rattle.paper.specs.Loading.{Constraints, Labels, Solving, lowest, join_all, members, dissolve, others, like_children, take_class, give_all, grow_all, join_children, round, rounds}
use Rattle.paper.proofs.Joins.{joined_by}
use Rattle.paper.proofs.Labels.{never, put_here, put_there}
use Rattle.paper.proofs.Closure.{of_below, in_below}
use Rattle.paper.proofs.Outcomes.{done_once, bind_done}
use Rattle.paper.proofs.Adding.{Has}
use Rattle.paper.proofs.Tables.{lowest_is, lowest_own, of_members, in_members}
use Rattle.paper.proofs.Fair.{Fair, grow_all_sound, grow_all_extends, grow_all_has, round_fair}
use Rattle.paper.proofs.Taking.{Taken, taken}
use Rattle.meaning.specs.Kinds.{kind_in, Reads, Fulfils, Held, class_same}
use Rattle.meaning.specs.Model.{Rooted}
use Rattle.meaning.specs.Round.{State, Left, old, kids, self, back, via, Round, round_same}
use Rattle.meaning.specs.Whole.{Rounds, no_more, one_more, state_after}
use Rattle.meaning.specs.Eval.{value_of, value_of_input, value_of_grow, Lower}
use Rattle.meaning.specs.Places.{kind_stays, child_stays, child_kind, places_of}
use Rattle.meaning.specs.Grow.{rooted_inside, Full, full_state, full_grows}
use Rattle.meaning.specs.Joining.{Well, all_well, all_lowest, all_append, of_others, in_others, apart, dissolve_is, dissolve_well}
use Rattle.meaning.specs.Exec.{Pairs, round_is}

-- ---- what a round does

give_in : (ns : List ℕ) (c : Constraint) (cs : Constraints) (n : ℕ) → (look cs n ≡ some c) ⊎ Memᴰ n ns → look (give_all ns c cs) n ≡ some c
unfolding give_all
give_in [] c cs n (inl e) = e
give_in [] c cs n (inr m) = elim m [ ]
give_in (m ∷ ns) c cs n h = give_in ns c (put m c cs) n (go (ℕ_discrete m n) h)
  where
    go : Dec (m ≡ n) → (look cs n ≡ some c) ⊎ Memᴰ n (m ∷ ns) → (look (put m c cs) n ≡ some c) ⊎ Memᴰ n ns
    go (yes e) x = inl (rw e (put_here n c cs))
    go (no e) (inl q) = inl (put_there m n c cs e ∙ q)
    go (no e) (inr (mathlib.Core.List.Memᴰ.head q)) = absurd (e (sym q))
    go (no e) (inr (mathlib.Core.List.Memᴰ.tail q)) = inr q

give_out : (ns : List ℕ) (c : Constraint) (cs : Constraints) (n : ℕ) → (Memᴰ n ns → ⊥) → look (give_all ns c cs) n ≡ look cs n
unfolding give_all
give_out [] c cs n h = refl
give_out (m ∷ ns) c cs n h = give_out ns c (put m c cs) n (λ q. h (mathlib.Core.List.Memᴰ.tail q)) ∙ put_there m n c cs (λ e. h (mathlib.Core.List.Memᴰ.head (sym e)))

all_pairs : Sites → ℕ → Constraint → List ℕ → List (ℕ × ℕ)
all_pairs t low c [] = []
all_pairs t low c (n ∷ ns) = like_children t low n c ++ all_pairs t low c ns

children_joined : (t : Sites) (low : ℕ) (c : Constraint) (ns : List ℕ) (k : Labels) → join_children t low c ns k ≡ join_all k (all_pairs t low c ns)
unfolding join_children all_pairs
children_joined t low c [] k = unfold join_all in refl
children_joined t low c (n ∷ ns) k =
    children_joined t low c ns (join_all k (like_children t low n c)) ∙ sym (all_append (like_children t low n c) (all_pairs t low c ns) k)

in_all : (t : Sites) (low : ℕ) (c : Constraint) (ns : List ℕ) (n i : ℕ) → Memᴰ n ns → i < child_count c →
    Memᴰ (child_number t low c i, child_number t n c i) (all_pairs t low c ns)
unfolding all_pairs like_children
in_all t low c [] n i x'' h = elim x'' [ ]
in_all t low c (m ∷ ns) n i (mathlib.Core.List.Memᴰ.head e) h =
    let q : Memᴰ (child_number t low c i, child_number t n c i) (like_children t low m c) =
    rw e (in_below (child_count c) (λ j. (child_number t low c j, child_number t m c j)) i h) in
    mathlib.Core.List.Memᴰ.append_left (all_pairs t low c ns) q
in_all t low c (m ∷ ns) n i (mathlib.Core.List.Memᴰ.tail q) h = mathlib.Core.List.Memᴰ.append_right (like_children t low m c) (in_all t low c ns n i q h)

-- the pair p is of like children of low and one of ns
abbrev LikePair : (t : Sites) (low : ℕ) (c : Constraint) (ns : List ℕ) (p : ℕ × ℕ) → Type 0
LikePair t low c ns p = (n : ℕ) × (i : ℕ) × Memᴰ n ns × (i < child_count c) × (p ≡ (child_number t low c i, child_number t n c i))

of_all : (t : Sites) (low : ℕ) (c : Constraint) (ns : List ℕ) (p : ℕ × ℕ) → Memᴰ p (all_pairs t low c ns) → LikePair t low c ns p
unfolding all_pairs like_children
of_all t low c [] p m = elim m [ ]
of_all t low c (k ∷ ns) p m = go (λ q. of_all t low c ns p q) (mathlib.Core.List.Memᴰ.append_cases (like_children t low k c) m)
  where
    go : (Memᴰ p (all_pairs t low c ns) → LikePair t low c ns p) →
        Memᴰ p (like_children t low k c) ⊎ Memᴰ p (all_pairs t low c ns) → LikePair t low c (k ∷ ns) p
    go f (inl q) = let r = of_below (child_count c) (λ j. (child_number t low c j, child_number t k c j)) p q in (k, r.0, mathlib.Core.List.Memᴰ.head refl, r.1, r.2)
    go f (inr q) = let r = f q in (r.0, r.1, mathlib.Core.List.Memᴰ.tail r.2, r.3, r.4)

-- ---- what holds from round to round, u being the values of the free sites in a matching input

pub record Good (u : ℕ → Value) (s : Solving) : Type 0 where
  pub fair : Fair s
  pub well : Well s.classes
  pub full : Full s.sites (look s.constraints) (lowest s.classes)
  pub matched : Fulfils (value_of (kind_in s.sites) u) (look s.constraints) (Held (lowest s.classes))

-- the values in a larger table match what is named in the smaller
matched_grows : (u : ℕ → Value) (t t' : Sites) (con : ℕ → Option Constraint) (rep : ℕ → ℕ) → Lower (kind_in t) → Extends t t' → Full t con rep →
    Fulfils (value_of (kind_in t) u) con (Held rep) → Fulfils (value_of (kind_in t') u) con (Held rep)
matched_grows u t t' con rep low x F M = record {
  meets = λ n c e.
      let m = M.meets n c e in
      record { value = m.value; there = sym (same n (F.rooted n c e)) ∙ m.there; shaped = m.shaped };
  agrees = λ a b h.
      let m = M.agrees a b h in
      record {
        value = m.value;
        one = sym (same a (F.joined_rooted a b h.same h.two)) ∙ m.one;
        other = sym (same b (F.joined_rooted b a (sym h.same) (λ e. h.two (sym e)))) ∙ m.other;
      };
}
  where
    same : (n : ℕ) → Rooted (kind_in t) con n → value_of (kind_in t) u n ≡ value_of (kind_in t') u n
    same n r = value_of_grow (kind_in t) (kind_in t') u low (length t) (kind_stays t t' x) n (rooted_inside t con n r)

-- two constrained sites of one class of a matched rule have one constraint
pub matched_uniform : (con : ℕ → Option Constraint) (rep : ℕ → ℕ) (at : Given) → Fulfils at con (Held rep) → (n m : ℕ) (d c : Constraint) → rep n ≡ rep m →
    con n ≡ some d → con m ≡ some c → d ≡ c
matched_uniform con rep at M n m d c e f g =
    let x = M.meets n d f in
    let y = M.meets m c g in
    let q = class_same con rep at M n m e in
    let xt = x.there in
    let yt = y.there in
    let v : x.value ≡ y.value = cc in
    let s : some d ≡ some c = sym x.shaped ∙ (ap shape v ∙ y.shaped) in
    cc

after : Solving → Sites → ℕ → Constraint → Solving
after s t low c = record {
  sites = t;
  constraints = give_all (members s.classes low) c s.constraints;
  classes = join_children t low c (others s.classes low) (dissolve s.classes low);
}

module _ (u : ℕ → Value) (s : Solving) (G : Good u s) (low : ℕ) (c : Constraint) (T : Taken s low c) (t' : Sites) (at_item : ℕ)
    (grew : grow_all s.sites at_item (members s.classes low) c ≡ done t') where
  abbrev k : Labels
  k = s.classes

  abbrev con : ℕ → Option Constraint
  con = look s.constraints

  abbrev rep : ℕ → ℕ
  rep = lowest s.classes

  abbrev s' : Solving
  s' = after s t' low c

  is_low : rep low ≡ low
  is_low = lowest_is k low low T.own

  seen_in : rep T.member ≡ low
  seen_in = lowest_is k T.member low T.labelled

  in_class : (n : ℕ) → rep n ≡ low → look k n ≡ some low
  in_class n e = go (look k n) refl
    where
      go : (o : Option ℕ) → look k n ≡ o → look k n ≡ some low
      go (some v) q = q ∙ ap some (sym (lowest_is k n v q) ∙ e)
      go none q = let z : n ≡ low = sym (lowest_own k n q) ∙ e in absurd (never (sym q ∙ (ap (look k) z ∙ T.own)))

  extends : Extends s.sites t'
  extends = grow_all_extends s.sites at_item (members k low) c t' grew

  members_have : (n i : ℕ) → rep n ≡ low → i < child_count c → Has t' (child n c i)
  members_have n i e h = grow_all_has s.sites at_item (members k low) c t' grew n (in_members k low n (in_class n e)) i h

  con' : ℕ → Option Constraint
  con' = look (give_all (members k low) c s.constraints)

  con_in : (n : ℕ) → rep n ≡ low → con' n ≡ some c
  unfolding con'
  con_in n e = give_in (members k low) c s.constraints n (inr (in_members k low n (in_class n e)))

  con_out : (n : ℕ) → (rep n ≡ low → ⊥) → con' n ≡ con n
  unfolding con'
  con_out n e = give_out (members k low) c s.constraints n (λ m. e (lowest_is k n low (of_members k low n G.well.rising m)))

  full₀ : Full t' con rep
  full₀ = full_grows s.sites t' con rep extends G.full

  abbrev at : Given
  at = value_of (kind_in t') u

  sound' : Sound t'
  sound' = grow_all_sound s.sites at_item (members k low) c t' G.fair.sites grew

  reads : Reads (kind_in t') at
  reads = value_of_input (kind_in t') u (places_of t' sound').lower

  matched₀ : Fulfils at con (Held rep)
  matched₀ = matched_grows u s.sites t' con rep (places_of s.sites G.fair.sites).lower extends G.full G.matched

  uniform : (n : ℕ) (d : Constraint) → rep n ≡ low → con n ≡ some d → d ≡ c
  uniform n d e f = matched_uniform con rep at matched₀ n T.member d c (e ∙ sym seen_in) f T.constrained

  ps : List (ℕ × ℕ)
  ps = all_pairs t' low c (others k low)

  pairs : Pairs (child_number t') rep low c ps
  unfolding ps
  pairs = record {
    each = λ n i e d h. in_all t' low c (others k low) n i (in_others k low n (in_class n e) d) h;
    none_else = λ p m.
        let r = of_all t' low c (others k low) p m in
        (r.0, r.1, lowest_is k r.0 low (of_others k low r.0 G.well.rising r.2), r.3, r.4);
  }

  rep' : ℕ → ℕ
  rep' = joined_by ps (apart rep low)

  classes_are : lowest s'.classes ≡ rep'
  unfolding after rep' ps
  classes_are =
      ap lowest (children_joined t' low c (others k low) (dissolve k low))
      ∙ (all_lowest (all_pairs t' low c (others k low)) (dissolve k low) (dissolve_well k low G.well).sound
      ∙ ap (joined_by (all_pairs t' low c (others k low))) (dissolve_is k low G.well))

  is_round : Round (child_number t') con rep con' rep' low c
  unfolding rep'
  is_round =
      round_is (child_number t') con con' rep low c ps G.well.sound.function is_low pairs T.member seen_in T.constrained uniform con_in con_out

  has' : (n : ℕ) (d : Constraint) (i : ℕ) → con' n ≡ some d → i < child_count d → Has t' (child n d i)
  has' n d i e h = go (ℕ_discrete (rep n) low)
    where
      go : Dec (rep n ≡ low) → Has t' (child n d i)
      go (yes q) =
          let z : some c ≡ some d = sym (con_in n q) ∙ e in
          let y : c ≡ d = cc in
          rw (← y) (members_have n i q (rw y h))
      go (no q) = full₀.has n d i (sym (con_out n q) ∙ e) h

  state' : State (kind_in t') con' (child_number t') rep'
  state' = state_after (kind_in t') (child_number t') con rep con' rep' low c is_round (full_state t' con rep full₀)
      (record { kids = λ n d i e h. child_kind t' n d i (has' n d i e h) })

  full' : Full t' con' rep'
  full' = record { has = has'; rooted = state'.rooted; joined_rooted = state'.joined_rooted }

  well' : Well s'.classes
  unfolding after
  well' = rw (children_joined t' low c (others k low) (dissolve k low))
      (all_well (all_pairs t' low c (others k low)) (dissolve k low) (dissolve_well k low G.well))

  is_done : round s at_item low c ≡ done s'
  unfolding round after
  is_done = rw grew

  good_next : Good u s'
  unfolding after con'
  good_next = record {
    fair = round_fair s G.fair at_item low c s' T.own is_done;
    well = well';
    full = rw classes_are full';
    matched = rw classes_are ((round_same (kind_in t') (child_number t') con rep con' rep' low c is_round at reads state').0 matched₀);
  }

  round_next : Round (child_number t') con rep (look s'.constraints) (lowest s'.classes) low c
  unfolding after con'
  round_next = rw classes_are is_round

  round_has : (n i : ℕ) → rep n ≡ rep low → i < child_count c → Has t' (child n c i)
  round_has n i e h = members_have n i (e ∙ is_low) h

-- ---- a round over a larger table

left_kid : (kid kid' : ℕ → Constraint → ℕ → ℕ) (rep : ℕ → ℕ) (low : ℕ) (c : Constraint) →
    ((n i : ℕ) → rep n ≡ rep low → i < child_count c → kid' n c i ≡ kid n c i) → {a b : ℕ} → Left kid rep low c a b → Left kid' rep low c a b
left_kid kid kid' rep low c h (old e q) = old e q
left_kid kid kid' rep low c h (kids {n = n} i e l) = rw (← h low i refl l, ← h n i e l) (kids i e l)
left_kid kid kid' rep low c h self = self
left_kid kid kid' rep low c h (back x) = back (left_kid kid kid' rep low c h x)
left_kid kid kid' rep low c h (via x y) = via (left_kid kid kid' rep low c h x) (left_kid kid kid' rep low c h y)

round_kid : (kid kid' : ℕ → Constraint → ℕ → ℕ) (con : ℕ → Option Constraint) (rep : ℕ → ℕ)
    (con' : ℕ → Option Constraint) (rep' : ℕ → ℕ) (low : ℕ) (c : Constraint) →
    ((n i : ℕ) → rep n ≡ rep low → i < child_count c → kid' n c i ≡ kid n c i) → Round kid con rep con' rep' low c → Round kid' con rep con' rep' low c
round_kid kid kid' con rep con' rep' low c h R = record {
  seen = R.seen;
  seen_in = R.seen_in;
  seen_con = R.seen_con;
  uniform = R.uniform;
  con_in = R.con_in;
  con_out = R.con_out;
  joined = λ a b l. R.joined a b (left_kid kid' kid rep low c (λ n i e k. sym (h n i e k)) l);
  only = λ a b e. left_kid kid kid' rep low c h (R.only a b e);
}

-- ---- all rounds

pub record Ran (s f : Solving) : Type 0 where
  pub extends : Extends s.sites f.sites
  pub fair : Fair f
  pub well : Well f.classes
  pub rounds : Rounds (kind_in f.sites) (child_number f.sites) (look s.constraints) (lowest s.classes) (look f.constraints) (lowest f.classes)

-- no more rounds; one more round in front
rests : (u : ℕ → Value) (s : Solving) → Good u s → Ran s s
rests u s G = record { extends = λ i x h. h; fair = G.fair; well = G.well; rounds = no_more }

before : (u : ℕ → Value) (s f : Solving) (G : Good u s) (low : ℕ) (c : Constraint) (T : Taken s low c) (t' : Sites) (at : ℕ)
    (grew : grow_all s.sites at (members s.classes low) c ≡ done t') → Ran (after s t' low c) f → Ran s f
unfolding after
before u s f G low c T t' at g N =
    let x = N.extends in
    let s' = after s t' low c in
    record {
      extends = λ i q h. x i q (extends u s G low c T t' at g i q h);
      fair = N.fair;
      well = N.well;
      rounds = one_more low c
          (round_kid (child_number t') (child_number f.sites) (look s.constraints) (lowest s.classes)
          (look s'.constraints) (lowest s'.classes) low c
          (λ n i q h. child_stays t' f.sites x N.fair.sites n c i (round_has u s G low c T t' at g n i q h)) (round_next u s G low c T t' at g))
          (full_state f.sites (look s'.constraints) (lowest s'.classes)
          (full_grows t' f.sites (look s'.constraints) (lowest s'.classes) x (good_next u s G low c T t' at g).full)).grown
          N.rounds;
    }

pub rounds_ran : (u : ℕ → Value) (j at : ℕ) (s f : Solving) → Good u s → rounds j at s ≡ done f → Ran s f
unfolding rounds
rounds_ran u zero at s f G e = let q = done_once e in rw (← q) (rests u s G)
rounds_ran u (suc j) at s f G e = go (take_class s.classes s.constraints s.classes) refl e (λ s' G' q. rounds_ran u j at s' f G' q)
  where
    go : (o : Option (ℕ × Constraint)) → take_class s.classes s.constraints s.classes ≡ o →
        elim o as (λ _. Outcome Solving) [ none ↦ done s | some p ↦ round s at p.0 p.1 >>= rounds j at ] ≡ done f →
        ((s' : Solving) → Good u s' → rounds j at s' ≡ done f → Ran s' f) → Ran s f
    go none q h r = let z = done_once h in rw (← z) (rests u s G)
    go (some (low, c)) q h r = next (bind_done (round s at low c) (rounds j at) f h)
      where
        T : Taken s low c
        T = taken s G.fair low c q

        next : (s' : Solving) × (round s at low c ≡ done s') × (rounds j at s' ≡ done f) → Ran s f
        next (s', w, v) =
            let x = bind_done (grow_all s.sites at (members s.classes low) c) (λ t. done (after s t low c)) s' (unfold round in unfold after in w) in
            let z = done_once x.2 in
            before u s f G low c T x.0 at x.1 (r (after s x.0 low c) (good_next u s G low c T x.0 at x.1) (rw z v))
