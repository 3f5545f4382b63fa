-- The classes that the parts hold, by lowest member, after each call: paper's `join` and the class taken apart.
use mathlib.Core.Path.{◌≡◌, refl, sym, ◌∙◌, ap, subst⁻¹}
use mathlib.Core.Bool.{Bool}
use mathlib.Core.List.{[]}
use Prim.Native.Nat.{ℕ}
use native.Mathlib.Decide.{ℕ_discrete}
use borrow.Author.Tests.{eq-eqb, ne_eqb}
use Rattle.std.specs.declared.option.Option.TheVariants.{None, Some}
use Rattle.paper.specs.Answered.{Maybe}
use Rattle.paper.specs.Words.{look}
use Rattle.paper.specs.Numbers.{done}
use Rattle.paper.specs.Classes.{Classes, no_classes, Flattened, find_mut, merge, Removed, remove_set_of}
use Rattle.paper.specs.Loading.{Labels, lowest, join}
use Rattle.paper.proofs.Joins.{Lowest, join_at, join_keeps, join_joins, Pair, was, new, join_only, gen-same}
use Rattle.paper.proofs.Labels.{Sound, lowest_joined}
use Rattle.classes.specs.Answers.{or_self, rep, two_classes}
use Rattle.classes.specs.Well.{WellMade, rep_of, dropped}
use Rattle.classes.specs.Equal.{Only, before, forth, back, Unites, TakesOut, Holds, dissolve_at}
use Rattle.classes.proofs.Uniting.{rep_rep}
use Rattle.classes.proofs.Laws.{merge_unites, find_mut_keeps, remove_takes, no_rep}

pub none_hold : Holds no_classes.parents (lowest [])
unfolding lowest look
none_hold = record { to = λ u v q. sym (no_rep u) ∙ (q ∙ no_rep v); from = λ u v q. no_rep u ∙ (q ∙ sym (no_rep v)) }

-- ---- a join

module _ (c d : Classes) (x y : ℕ) (two : Bool) (U : Unites c d x y two) (f : ℕ → ℕ) (L : Lowest f) (H : Holds c.parents f) where
  unite_holds : Holds d.parents (join_at f x y)
  unite_holds = record { to = λ u v q. one u v (U.only u v q); from = λ u v q. gen-same (rep d.parents) pair (join_only f x y L u v q) }
    where
      one : (u v : ℕ) → Only c.parents x y u v → join_at f x y u ≡ join_at f x y v
      one u v (before q) = join_keeps f x y u v (H.to u v q)
      one u v (forth q r) = join_keeps f x y u x (H.to u x q) ∙ (join_joins f x y ∙ join_keeps f x y y v (sym (H.to v y r)))
      one u v (back q r) = join_keeps f x y u y (H.to u y q) ∙ (sym (join_joins f x y) ∙ join_keeps f x y x v (sym (H.to v x r)))

      pair : (u v : ℕ) → Pair f x y u v → rep d.parents u ≡ rep d.parents v
      pair u v (was q) = U.grows u v (H.from u v q)
      pair u v new = U.joins

pub merge_holds : (c : Classes) → WellMade c → (x y : ℕ) (d : Classes) → merge c x y ≡ done d → (k : Labels) → Sound k
    → Holds c.parents (lowest k) → Holds d.parents (lowest (join k x y))
merge_holds c W x y d e k S H =
    subst⁻¹ (λ (g : ℕ → ℕ). Holds d.parents g) (lowest_joined k x y S)
    (unite_holds c d x y (two_classes c x y) (merge_unites c W x y d e) (lowest k) S.function H)

-- ---- an updating find

pub find_mut_holds : (c : Classes) → WellMade c → (x : ℕ) (h : Flattened) → find_mut c x ≡ done h → (f : ℕ → ℕ) → Holds c.parents f → Holds h.after.parents f
unfolding rep
find_mut_holds c W x h e f H =
    let s = (find_mut_keeps c W x h e).2 in
    record {
      to = λ u v q. H.to u v (sym (ap (or_self u) (s u)) ∙ (q ∙ ap (or_self v) (s v)));
      from = λ u v q. ap (or_self u) (s u) ∙ (H.from u v q ∙ sym (ap (or_self v) (s v)));
    }

-- ---- a removal

module _ (c : Classes) (W : WellMade c) (x r : ℕ) (q : Removed) (mine : rep_of c x ≡ Some r) (T : TakesOut c r q) (f : ℕ → ℕ) (L : Lowest f) (H : Holds c.parents f) where
  root : rep c.parents x ≡ r
  unfolding rep
  root = ap (or_self x) mine

  gone_by : (z : ℕ) (g : Maybe ℕ) → or_self z g ≡ r → or_self z (dropped r g) ≡ z
  gone_by z (Some s) e = simp (eq-eqb s r e)
  gone_by z None e = refl

  left_by : (z : ℕ) (g : Maybe ℕ) → (or_self z g ≡ r → ⊥) → or_self z (dropped r g) ≡ or_self z g
  left_by z (Some s) d = simp (ne_eqb s r d)
  left_by z None d = refl

  gone : (z : ℕ) → f z ≡ f x → rep q.after.parents z ≡ z
  unfolding rep root
  gone z e = ap (or_self z) (T.found z) ∙ gone_by z (rep_of c z) (H.from z x e ∙ root)

  left : (z : ℕ) → (f z ≡ f x → ⊥) → rep q.after.parents z ≡ rep c.parents z
  unfolding rep root
  left z d = ap (or_self z) (T.found z) ∙ left_by z (rep_of c z) (λ o. d (H.to z x (o ∙ sym root)))

  in_it : (z : ℕ) → f z ≡ f x → dissolve_at f (f x) z ≡ z
  unfolding dissolve_at
  in_it z e = simp (eq-eqb (f z) (f x) e)

  out_of_it : (z : ℕ) → (f z ≡ f x → ⊥) → dissolve_at f (f x) z ≡ f z
  unfolding dissolve_at
  out_of_it z d = simp (ne_eqb (f z) (f x) d)

  -- a representative is of its site's class
  f_rep : (v : ℕ) → f (rep c.parents v) ≡ f v
  f_rep v = H.to (rep c.parents v) v (rep_rep c.parents c.ranks c.count W v)

  takes_holds : Holds q.after.parents (dissolve_at f (f x))
  takes_holds = record { to = λ u v o. forth_by u v o (ℕ_discrete (f u) (f x)) (ℕ_discrete (f v) (f x)); from = λ u v o. back_by u v o (ℕ_discrete (f u) (f x)) (ℕ_discrete (f v) (f x)) }
    where
      forth_by : (u v : ℕ) → rep q.after.parents u ≡ rep q.after.parents v → Dec (f u ≡ f x) → Dec (f v ≡ f x) → dissolve_at f (f x) u ≡ dissolve_at f (f x) v
      forth_by u v o (yes a) (yes b) = in_it u a ∙ (sym (gone u a) ∙ (o ∙ (gone v b ∙ sym (in_it v b))))
      forth_by u v o (yes a) (no b) = let e : u ≡ rep c.parents v = sym (gone u a) ∙ (o ∙ left v b) in absurd (b (sym (f_rep v) ∙ (ap f (sym e) ∙ a)))
      forth_by u v o (no a) (yes b) = let e : rep c.parents u ≡ v = sym (left u a) ∙ (o ∙ gone v b) in absurd (a (sym (f_rep u) ∙ (ap f e ∙ b)))
      forth_by u v o (no a) (no b) = out_of_it u a ∙ (H.to u v (sym (left u a) ∙ (o ∙ left v b)) ∙ sym (out_of_it v b))

      back_by : (u v : ℕ) → dissolve_at f (f x) u ≡ dissolve_at f (f x) v → Dec (f u ≡ f x) → Dec (f v ≡ f x) → rep q.after.parents u ≡ rep q.after.parents v
      back_by u v o (yes a) (yes b) = ap (rep q.after.parents) (sym (in_it u a) ∙ (o ∙ in_it v b))
      back_by u v o (yes a) (no b) = let e : u ≡ f v = sym (in_it u a) ∙ (o ∙ out_of_it v b) in absurd (b (sym (L.idem v) ∙ (ap f (sym e) ∙ a)))
      back_by u v o (no a) (yes b) = let e : f u ≡ v = sym (out_of_it u a) ∙ (o ∙ in_it v b) in absurd (a (sym (L.idem u) ∙ (ap f e ∙ b)))
      back_by u v o (no a) (no b) = left u a ∙ (H.from u v (sym (out_of_it u a) ∙ (o ∙ out_of_it v b)) ∙ sym (left v b))

-- the class taken out is the one whose lowest member is x's
pub remove_holds : (c : Classes) → WellMade c → (x r : ℕ) (q : Removed) → remove_set_of c x ≡ done q → rep_of c x ≡ Some r
    → (f : ℕ → ℕ) → Lowest f → Holds c.parents f → Holds q.after.parents (dissolve_at f (f x))
remove_holds c W x r q e mine f L H = takes_holds c W x r q mine (remove_takes c W x q e r mine) f L H
