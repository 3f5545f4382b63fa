-- What the bodies of the calls compute is what paper says. w, i, j are indices that were widened from a site.
use mathlib.Core.Path.{◌≡◌, refl, sym, ◌∙◌, ap, subst⁻¹}
use mathlib.Core.List.{List}
use mathlib.Core.Bool.{false, not}
use Prim.Native.Nat.{ℕ, ◌≤◌, ◌<◌}
use lib.ListN.{get_or, set}
use lib.Dec.{eqb}
use native.Mathlib.Decide.{ℕ_discrete}
use borrow.Author.Tests.{lt-ltb, le-ltb, eq-eqb, ne_eqb}
use Rattle.std.specs.declared.result.Result.TheVariants.{Err, Ok}
use Rattle.std.specs.declared.option.Option.TheVariants.{None, Some}
use Rattle.std.specs.Prelude.{Bool}
use Rattle.std.specs.Option.{unwrap_or, option_eq}
use Rattle.paper.specs.declared.Refusal.{Refusal}
use Rattle.paper.specs.Answered.{Maybe}
use Rattle.paper.specs.declared.Refusal.TheVariants.{Unknown, Itself}
use Rattle.paper.specs.Numbers.{max_sites}
use Rattle.paper.specs.Classes.{Classes, classes, Trail, trail, find_in, passed, hung, flat_to, flat, flatten_in, flattened, find, find_mut, one_more, most_rank, most_count, Rooted, rooted, enter, link, unite, merge, is_at, in_same_set}
use Rattle.classes.specs.declared.Trail as T
use Rattle.paper.specs.Answered.{Answer}
use Rattle.classes.specs.Answers.{root_in, or_self, rep, trail_of, looked, sought, two_classes, joined, same}
use Rattle.classes.specs.Well.{Leads}
use Rattle.classes.proofs.Updating.{find_led, update_lt}

-- ---- finds

pub rep_at : (p : List ℕ) (x : ℕ) (t : T.Trail) → trail t.found t.links ≡ find_in p x → unwrap_or t.found x ≡ rep p x
unfolding rep
rep_at p x t q = go t.found ∙ ap (λ (u : Trail). or_self x u.found) q
  where
    go : (f : Maybe ℕ) → unwrap_or f x ≡ or_self x f
    go (Some r) = refl
    go None = refl

-- the updating find: t is the way to the root
module _ (p : List ℕ) (x : ℕ) (t : T.Trail) (q : trail t.found t.links ≡ find_in p x) where
  by_way : (f : Maybe ℕ) → t.found ≡ f → ◌≡◌ {A = List ℕ × Maybe ℕ} (flat_to p x t.links f, f) (flatten_in p x)
  unfolding flatten_in flat
  by_way f e =
      sym (ap (λ (f : Maybe ℕ). (flat_to p x t.links f, f)) e)
      ∙ ap (λ (u : Trail). (flat_to p x u.links u.found, u.found)) q

  pub flatten_none : t.found ≡ None → ◌≡◌ {A = List ℕ × Maybe ℕ} (p, None) (flatten_in p x)
  flatten_none e = by_way None e

  pub flatten_led : (r : ℕ) → t.found ≡ Some r → Leads t.links p x r
  flatten_led r e =
      subst⁻¹ (λ (k : ℕ). Leads k p x r) (ap (λ (u : Trail). u.links) q) (find_led p x r (sym (ap (λ (u : Trail). u.found) q) ∙ e))

  pub flatten_at : (r : ℕ) (p' : List ℕ) → t.found ≡ Some r → p' ≡ hung p (passed t.links p x) r → ◌≡◌ {A = List ℕ × Maybe ℕ} (p', Some r) (flatten_in p x)
  flatten_at r p' e h = ap (λ (l : List ℕ). (l, Some r)) h ∙ by_way (Some r) e

-- what `known` tells of a number that is no site
abbrev pub Outside : ℕ → Refusal → Type 0
Outside x e = (e ≡ Unknown x) × (max_sites ≤ x)

module _ (c : Classes) (x : ℕ) where
  pub looked_out : {e : Refusal} → Outside x e → Err e ≡ looked (find c x)
  unfolding find
  looked_out h = rw (h.0, le-ltb x max_sites h.1)

  pub looked_in : x < max_sites → {t : T.Trail} → trail t.found t.links ≡ find_in c.parents x → Ok t ≡ looked (find c x)
  unfolding find
  looked_in h e = simp (lt-ltb x max_sites h) (ap (λ (u : Trail). Ok (trail_of u)) e)

  pub sought_out : {e : Refusal} → Outside x e → ◌≡◌ {A = Classes × Answer (Maybe ℕ)} (c, Err e) (sought c x)
  unfolding find_mut
  sought_out h = rw (h.0, le-ltb x max_sites h.1)

  pub sought_in : x < max_sites → {q : List ℕ} {f : Maybe ℕ} → ◌≡◌ {A = List ℕ × Maybe ℕ} (q, f) (flatten_in c.parents x)
      → ◌≡◌ {A = Classes × Answer (Maybe ℕ)} (classes q c.ranks c.count, Ok f) (sought c x)
  unfolding find_mut flattened
  sought_in h e = simp (lt-ltb x max_sites h) (ap (λ (g : List ℕ × Maybe ℕ). (classes g.0 c.ranks c.count, Ok g.1)) e)

-- ---- joins

module _ (c : Classes) (x : ℕ) {q : List ℕ} {f : Maybe ℕ} (e : ◌≡◌ {A = List ℕ × Maybe ℕ} (q, f) (flatten_in c.parents x)) where
  d : Classes
  d = classes q c.ranks c.count

  by : ◌≡◌ {A = Rooted} (rooted d x f) (enter c x)
  unfolding enter flattened d
  by = ap (λ (g : List ℕ × Maybe ℕ). rooted (classes g.0 c.ranks c.count) x g.1) e

  pub entered : (r : ℕ) → f ≡ Some r → root_in (classes q c.ranks c.count) r ≡ enter c x
  unfolding d
  entered r g = sym (ap (rooted d x) g) ∙ by

  pub entered_new : (w n : ℕ) → w ≡ x → n ≡ one_more most_count c.count → f ≡ None
      → root_in (classes (set q w x) (set c.ranks w 0) n) x ≡ enter c x
  unfolding d
  entered_new w n o m g = rw (o, m) (sym (ap (rooted d x) g) ∙ by)

module _ (c : Classes) (a b i j : ℕ) (e : i ≡ a) (f : j ≡ b) where
  pub link_same : a ≡ b → c ≡ link c a b
  unfolding link
  link_same h = simp (eq-eqb a b h)

  module _ (n : a ≡ b → ⊥) where
    pub link_low : get_or c.ranks i 0 < get_or c.ranks j 0 → classes (set c.parents i b) c.ranks c.count ≡ link c a b
    unfolding link
    link_low h = rw e (simp (ne_eqb a b n, lt-ltb _ _ (rw (e, f) at h)))

    pub link_high : get_or c.ranks j 0 ≤ get_or c.ranks i 0 → (get_or c.ranks i 0 ≡ get_or c.ranks j 0 → ⊥)
        → classes (set c.parents j a) c.ranks c.count ≡ link c a b
    unfolding link
    link_high h k = rw f (simp (ne_eqb a b n, le-ltb _ _ (rw (e, f) at h), ne_eqb _ _ (rw (e, f) at k)))

    pub link_tie : get_or c.ranks j 0 ≤ get_or c.ranks i 0 → get_or c.ranks i 0 ≡ get_or c.ranks j 0 → (v : ℕ) → v ≡ one_more most_rank (get_or c.ranks i 0)
        → classes (set c.parents j a) (set c.ranks i v) c.count ≡ link c a b
    unfolding link
    link_tie h k v o = rw (o, e, f) (simp (ne_eqb a b n, le-ltb _ _ (rw (e, f) at h), eq-eqb _ _ (rw (e, f) at k)))

-- a root that is entered is a site
pub root_lt : (c : Classes) (x : ℕ) → x < max_sites → (enter c x).root < max_sites
unfolding enter flattened
root_lt c x h = go (flattened c x).after (flatten_in c.parents x).1 refl
  where
    go : (d : Classes) (f : Maybe ℕ) → (flatten_in c.parents x).1 ≡ f → (rooted d x f).root < max_sites
    go d (Some r) e = update_lt c.parents x e
    go d None e = h

pub rooted_lt : (c : Classes) (x : ℕ) → x < max_sites → (s : Rooted) → s ≡ enter c x → s.root < max_sites
rooted_lt c x h s e = subst⁻¹ (λ (s : Rooted). s.root < max_sites) e (root_lt c x h)

module _ (c : Classes) (x y : ℕ) where
  pub merge_x : {e : Refusal} → Outside x e → ◌≡◌ {A = Classes × Answer Bool} (c, Err e) (joined c x y)
  unfolding merge
  merge_x h = rw (h.0, le-ltb x max_sites h.1)

  module _ (hx : x < max_sites) where
    pub merge_y : {e : Refusal} → Outside y e → ◌≡◌ {A = Classes × Answer Bool} (c, Err e) (joined c x y)
    unfolding merge
    merge_y h = rw h.0 (simp (lt-ltb x max_sites hx, le-ltb y max_sites h.1))

    module _ (hy : y < max_sites) where
      pub merge_same : x ≡ y → ◌≡◌ {A = Classes × Answer Bool} (c, Err (Itself x)) (joined c x y)
      unfolding merge
      merge_same e = simp (lt-ltb x max_sites hx, lt-ltb y max_sites hy, eq-eqb x y e)

      pub merge_done : (x ≡ y → ⊥) → (s t : Rooted) (d : Classes) → s ≡ enter c x → t ≡ enter s.after y → d ≡ link t.after s.root t.root
          → ◌≡◌ {A = Classes × Answer Bool} (d, Ok (not (eqb s.root t.root))) (joined c x y)
      unfolding merge unite two_classes
      merge_done n s t d es et ed = simp (lt-ltb x max_sites hx, lt-ltb y max_sites hy, ne_eqb x y n) (rw (ed, et, es))

-- ---- sameness

module _ (c : Classes) (x y : ℕ) where
  pub same_x : {e : Refusal} → Outside x e → Err e ≡ same (in_same_set c x y)
  unfolding in_same_set
  same_x h = rw (h.0, le-ltb x max_sites h.1)

  module _ (hx : x < max_sites) where
    pub same_y : {e : Refusal} → Outside y e → Err e ≡ same (in_same_set c x y)
    unfolding in_same_set
    same_y h = rw h.0 (simp (lt-ltb x max_sites hx, le-ltb y max_sites h.1))

    module _ (hy : y < max_sites) where
      of_two : (f g : Maybe ℕ) → (find_in c.parents x).found ≡ f → (find_in c.parents y).found ≡ g → Ok (is_at f g) ≡ same (in_same_set c x y)
      unfolding in_same_set
      of_two f g e o = simp (lt-ltb x max_sites hx, lt-ltb y max_sites hy, e, o)

      found : (p : List ℕ) (z : ℕ) (t : T.Trail) (f : Maybe ℕ) → trail t.found t.links ≡ find_in p z → t.found ≡ f → (find_in p z).found ≡ f
      found p z t f q e = sym (ap (λ (t : Trail). t.found) q) ∙ e

      pub same_no : (t : T.Trail) → trail t.found t.links ≡ find_in c.parents x → t.found ≡ None → Ok false ≡ same (in_same_set c x y)
      same_no t q e = of_two None (find_in c.parents y).found (found c.parents x t None q e) refl

      pub same_two : (t u : T.Trail) (a : ℕ) → trail t.found t.links ≡ find_in c.parents x → t.found ≡ Some a
          → trail u.found u.links ≡ find_in c.parents y → Ok (option_eq eqb u.found (Some a)) ≡ same (in_same_set c x y)
      same_two t u a q e r = ap Ok (go u.found) ∙ of_two (Some a) u.found (found c.parents x t (Some a) q e) (found c.parents y u u.found r refl)
        where
          go : (g : Maybe ℕ) → option_eq eqb g (Some a) ≡ is_at (Some a) g
          go (Some b) = by (ℕ_discrete a b)
            where
              by : Dec (a ≡ b) → eqb b a ≡ eqb a b
              by (yes h) = rw h refl
              by (no d) = ne_eqb b a (λ h. d (sym h)) ∙ sym (ne_eqb a b d)
          go None = refl
