-- From the items of a rule over the checks and the rounds to the kept rule: what paper's `normalise` answers means.
use Rattle.std.specs.Prelude.{◌≡◌, true, ◌⊎◌, ℕ, length, leb}
use Rattle.std.proofs.Math.Path.{refl}
use Rattle.std.proofs.Common.{sym, ap, ◌∙◌, arith}
use Rattle.std.proofs.Math.Option.{Option, none, some}
use Rattle.std.proofs.Math.Logic.{inl, inr}
use mathlib.Core.List.{List, [], Memᴰ}
use Rattle.paper.specs.declared.Constraint.{Constraint}
use Rattle.paper.specs.declared.Item.{Item}
use Rattle.paper.specs.declared.Item.TheVariants.{Is, Equal}
use Rattle.paper.specs.declared.Refusal.TheVariants.{Hanging, TooManyConstrained, TooManyEqual}
use Rattle.paper.specs.Words.{look}
use Rattle.paper.specs.Numbers.{most_rounds, max_constrained, max_equal, number, done}
use Rattle.paper.specs.Sites.{child_number}
use Rattle.paper.specs.Inputs.{Value, Given, Input, Matches}
use Rattle.paper.specs.Loading.{Loading, Solving, Labels, Holder, started, lowest, join_all, hanging, holders, closure, first_holder, differs, conflict, told_4, check_4, steps, endless, no_hanging, no_endless, rounds, normalise}
use Rattle.paper.proofs.Joins as J
use Rattle.paper.proofs.Labels.{none_sound}
use Rattle.paper.proofs.Fair.{Fair}
use Rattle.paper.proofs.Outcomes.{bind_done, demand_done}
use Rattle.paper.proofs.Ends.{unconstrained}
use Rattle.meaning.specs.Kinds.{kind_in, Reads, Fulfils, input_is}
use Rattle.meaning.specs.Model.{Rooted}
use Rattle.meaning.specs.Whole.{Wrote, given, self_w, back_w, via_w, Loaded, Kept, written_same}
use Rattle.meaning.specs.Eval.{value_of, value_of_input}
use Rattle.meaning.specs.Places.{places_of}
use Rattle.meaning.specs.Grow.{rooted_grows, Full, full_state, full_grows}
use Rattle.meaning.specs.Lists.{first_some}
use Rattle.meaning.specs.Joining.{none_well, all_well, all_lowest, label_of}
use Rattle.meaning.specs.Items.{Part}
use Rattle.meaning.specs.Clear.{Clear, clear_done, clear_refused, clear_demand, clear_then, rounds_clear}
use Rattle.meaning.specs.Hangs.{named_rooted}
use Rattle.meaning.specs.Checks as C
use Rattle.meaning.specs.Rounds.{Good, Ran, rounds_ran}

-- ---- the checks taken apart

no_hanging_done : (o : Option ℕ) (u : Unit {0}) → no_hanging o ≡ done u → o ≡ none
no_hanging_done none u e = refl
no_hanging_done (some n) u e = let z : ◌≡◌ {A = ℕ} 0 1 = cc in absurd (omega arith)

no_endless_done : (o : Option ℕ) (u : Unit {0}) → no_endless o ≡ done u → o ≡ none
no_endless_done none u e = refl
no_endless_done (some n) u e = let z : ◌≡◌ {A = ℕ} 0 1 = cc in absurd (omega arith)

-- a site that differs has someone to differ from
conflict_told : (k : Labels) (hs : List Holder) (h : Holder) (u : Unit {0}) → conflict k hs ≡ some h →
    told_4 h.site (first_holder k hs (lowest k h.site)) ≡ done u → ⊥
unfolding conflict
conflict_told k hs h u e f = go (first_holder k hs (lowest k h.site)) (first_some (λ h. differs h (first_holder k hs (lowest k h.site))) hs h e).1 f
  where
    go : (o : Option Holder) → differs h o ≡ true → told_4 h.site o ≡ done u → ⊥
    go none d q = let z : ◌≡◌ {A = ℕ} 0 1 = cc in omega arith
    go (some g) d q = let z : ◌≡◌ {A = ℕ} 0 1 = cc in omega arith

check_4_done : (k : Labels) (hs : List Holder) (u : Unit {0}) → check_4 k hs (conflict k hs) ≡ done u → conflict k hs ≡ none
check_4_done k hs u e = go (conflict k hs) refl e
  where
    go : (o : Option Holder) → conflict k hs ≡ o → check_4 k hs o ≡ done u → conflict k hs ≡ none
    go none q f = q
    go (some h) q f = absurd (conflict_told k hs h u q f)

pub record Passes (l : Loading) (count : ℕ) (f : Solving) : Type 0 where
  pub not_5 : hanging l ≡ none
  pub not_4 : conflict (closure l) (holders l) ≡ none
  pub not_6 : endless (steps (closure l) (holders l)) ≡ none
  pub ran : rounds most_rounds count (started l) ≡ done f

pub normalise_done : (l : Loading) (count : ℕ) (f : Solving) → normalise l count ≡ done f → Passes l count f
unfolding normalise
normalise_done l count f e =
    let a = bind_done (no_hanging (hanging l)) _ f e in
    let b = bind_done (check_4 (closure l) (holders l) (conflict (closure l) (holders l))) _ f a.2 in
    let c = bind_done (no_endless (endless (steps (closure l) (holders l)))) _ f b.2 in
    let d = bind_done (rounds most_rounds count (started l)) _ f c.2 in
    let s = d.0 in
    let x = demand_done (leb (length s.constraints) max_constrained) (TooManyConstrained (length s.constraints)) _ f d.2 in
    let y = demand_done (leb (length s.classes) max_equal) (TooManyEqual (length s.classes)) (λ _. done s) f x.1 in
    record {
      not_5 = no_hanging_done (hanging l) a.0 a.1;
      not_4 = check_4_done (closure l) (holders l) b.0 b.1;
      not_6 = no_endless_done (endless (steps (closure l) (holders l))) c.0 c.1;
      ran = d.1 ∙ y.1;
    }

-- ---- what 4 and 6 refuse

pub written_fulfils : (items : List Item) (l : Loading) → Part items l → (at : Given) → Matches at items →
    Fulfils at (look l.constraints) (λ a b. Memᴰ (a, b) l.equalities)
written_fulfils items l P at M = record { meets = λ n c e. M (Is n c) (P.of_con n c e); agrees = λ a b q. M (Equal a b) (P.of_eq a b q) }

pub normalise_clear : (items : List Item) (l : Loading) (count : ℕ) (at : Given) → Part items l → Input l.sites at → Matches at items →
    Clear (normalise l count)
unfolding normalise number
normalise_clear items l count at P I M =
    clear_then (no_hanging (hanging l)) _ (not_5 (hanging l)) (λ _ e.
    clear_then (check_4 (closure l) (holders l) (conflict (closure l) (holders l))) _ (not_4 (conflict (closure l) (holders l)) refl) (λ _ e.
    clear_then (no_endless (endless (steps (closure l) (holders l)))) _ (not_6 (endless (steps (closure l) (holders l))) refl) (λ _ e.
    clear_then (rounds most_rounds count (started l)) _ (rounds_clear most_rounds count (started l)) (λ s e.
    clear_demand (leb (length s.constraints) max_constrained) (TooManyConstrained (length s.constraints)) _ refl
    (clear_demand (leb (length s.classes) max_equal) (TooManyEqual (length s.classes)) _ refl (clear_done s))))))
  where
    R : Reads (kind_in l.sites) at
    R = (input_is l.sites at).0 I

    F : Fulfils at (look l.constraints) (λ a b. Memᴰ (a, b) l.equalities)
    F = written_fulfils items l P at M

    not_5 : (o : Option ℕ) → Clear (no_hanging o)
    not_5 none = clear_done tt
    not_5 (some n) = clear_refused (Hanging n) refl

    not_4 : (o : Option Holder) → conflict (closure l) (holders l) ≡ o → Clear (check_4 (closure l) (holders l) o)
    not_4 none e = clear_done tt
    not_4 (some h) e = absurd (C.no_conflict items l P at R F h e)

    not_6 : (o : Option ℕ) → endless (steps (closure l) (holders l)) ≡ o → Clear (no_endless o)
    not_6 none e = clear_done tt
    not_6 (some n) e = absurd (C.no_endless items l P at R F n e)

-- ---- what is kept

module _ (items : List Item) (l : Loading) (P : Part items l) (count : ℕ) (f : Solving) (fair : Fair (started l)) (done_so : normalise l count ≡ done f) where
  N : Passes l count f
  N = normalise_done l count f done_so

  abbrev con₀ : ℕ → Option Constraint
  con₀ = look l.constraints

  abbrev rep₀ : ℕ → ℕ
  rep₀ = lowest (join_all [] l.equalities)

  rooted₀ : (n : ℕ) → Memᴰ n l.named → Rooted (kind_in l.sites) con₀ n
  rooted₀ n m = named_rooted l N.not_5 n m (P.known n m)

  rep₀_is : rep₀ ≡ J.joined_by l.equalities (lowest [])
  rep₀_is = all_lowest l.equalities [] none_sound

  joined₀ : (a b : ℕ) → Memᴰ (a, b) l.equalities → rep₀ a ≡ rep₀ b
  joined₀ a b m = rw rep₀_is (J.joined_by_joins l.equalities (lowest []) (a, b) m)

  to_wrote : {a b : ℕ} → J.Gen (J.Base (lowest []) l.equalities) a b → Wrote items a b
  unfolding lowest look
  to_wrote (J.base {a = a} {b = b} (J.before e)) = let q : a ≡ b = e in rw q self_w
  to_wrote (J.base {a = a} {b = b} (J.listed p m f g)) = rw (f, g) (given (P.of_eq p.0 p.1 m))
  to_wrote J.self = self_w
  to_wrote (J.back g) = back_w (to_wrote g)
  to_wrote (J.via g h) = via_w (to_wrote g) (to_wrote h)

  only₀ : (a b : ℕ) → rep₀ a ≡ rep₀ b → Wrote items a b
  only₀ a b e = to_wrote (J.joined_by_only l.equalities (lowest []) none_sound.function a b (ap (λ r. r a) (sym rep₀_is) ∙ (e ∙ ap (λ r. r b) rep₀_is)))

  loaded₀ : Loaded (kind_in l.sites) items con₀ rep₀
  loaded₀ = record {
    con_of = P.con_of;
    of_con = P.of_con;
    joined = λ a b m. joined₀ a b (P.eq_of a b m);
    only = only₀;
    named = λ a b m. let r = P.named_eq a b (P.eq_of a b m) in (rooted₀ a r.0, rooted₀ b r.1);
  }

  Both : ℕ → ℕ → Type 0
  Both a b = (a ≡ b) ⊎ (Rooted (kind_in l.sites) con₀ a × Rooted (kind_in l.sites) con₀ b)

  wrote_rooted : {a b : ℕ} → Wrote items a b → Both a b
  unfolding Both
  wrote_rooted (given {a = a} {b = b} m) = inr (loaded₀.named a b m)
  wrote_rooted self_w = inl refl
  wrote_rooted (back_w w) = flip (wrote_rooted w)
    where
      flip : {a b : ℕ} → (a ≡ b) ⊎ (Rooted (kind_in l.sites) con₀ a × Rooted (kind_in l.sites) con₀ b) →
          (b ≡ a) ⊎ (Rooted (kind_in l.sites) con₀ b × Rooted (kind_in l.sites) con₀ a)
      flip (inl p) = inl (sym p)
      flip (inr p) = inr (p.1, p.0)
  wrote_rooted (via_w w v) = link (wrote_rooted w) (wrote_rooted v)
    where
      link : {a b d : ℕ} → (a ≡ b) ⊎ (Rooted (kind_in l.sites) con₀ a × Rooted (kind_in l.sites) con₀ b) →
          (b ≡ d) ⊎ (Rooted (kind_in l.sites) con₀ b × Rooted (kind_in l.sites) con₀ d) →
          (a ≡ d) ⊎ (Rooted (kind_in l.sites) con₀ a × Rooted (kind_in l.sites) con₀ d)
      link (inl p) (inl q) = inl (p ∙ q)
      link {a} {b} {d} (inl p) (inr q) = inr (rw p q.0, q.1)
      link {a} {b} {d} (inr p) (inl q) = inr (p.0, rw (sym q) p.1)
      link (inr p) (inr q) = inr (p.0, q.1)

  full₀ : Full l.sites con₀ rep₀
  unfolding Both
  full₀ = record { has = P.has; rooted = λ n c e. rooted₀ n (P.named_con n c e); joined_rooted = λ a b e d. joined a b d (wrote_rooted (only₀ a b e)) }
    where
      joined : (a b : ℕ) → (a ≡ b → ⊥) → Both a b → Rooted (kind_in l.sites) con₀ a
      joined a b d (inl p) = absurd (d p)
      joined a b d (inr p) = p.0

  u : ℕ → Value
  u = C.values items l P N.not_4 N.not_6 rooted₀

  abbrev at₀ : Given
  at₀ = value_of (kind_in l.sites) u

  reads₀ : Reads (kind_in l.sites) at₀
  reads₀ = value_of_input (kind_in l.sites) u (places_of l.sites P.sound).lower

  met₀ : Matches at₀ items
  unfolding u
  met₀ (Is n c) m = (C.passed_matched items l P N.not_4 N.not_6 rooted₀).meets n c (P.con_of n c m)
  met₀ (Equal a b) m = (C.passed_matched items l P N.not_4 N.not_6 rooted₀).agrees a b (P.eq_of a b m)

  good : Good u (started l)
  good = record {
    fair = fair;
    well = all_well l.equalities [] none_well;
    full = full₀;
    matched = (written_same (kind_in l.sites) (child_number l.sites) items con₀ rep₀ loaded₀ (full_state l.sites con₀ rep₀ full₀) at₀ reads₀).0 met₀;
  }

  pub ran : Ran (started l) f
  ran = rounds_ran u most_rounds count (started l) f good N.ran

  -- no class holds a constrained site
  ended : (a b : ℕ) → lowest f.classes a ≡ lowest f.classes b → (a ≡ b → ⊥) → look f.constraints a ≡ none
  ended a b e d = unconstrained (started l) fair count f N.ran a (lowest f.classes a) (label_of f.classes ran.well a b e d)

  pub kept : Kept (kind_in f.sites) (length f.sites) (child_number f.sites) items (look f.constraints) (lowest f.classes)
  kept =
      let x = ran.extends in
      let up : (n : ℕ) → Rooted (kind_in l.sites) con₀ n → Rooted (kind_in f.sites) con₀ n = rooted_grows l.sites f.sites con₀ x in
      record {
        con₀ = con₀;
        rep₀ = rep₀;
        table = places_of f.sites ran.fair.sites;
        loaded = record {
          con_of = loaded₀.con_of;
          of_con = loaded₀.of_con;
          joined = loaded₀.joined;
          only = loaded₀.only;
          named = λ a b m. let r = loaded₀.named a b m in (up a r.0, up b r.1);
        };
        start = full_state f.sites con₀ rep₀ (full_grows l.sites f.sites con₀ rep₀ x full₀);
        rounds = ran.rounds;
        ended = ended;
      }
