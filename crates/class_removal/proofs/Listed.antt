-- Where the listed sites ascend and every joined site is one of them, looking at these is looking at all: on any contents.
use mathlib.Core.Path.{◌≡◌, refl, sym, ◌∙◌, ap, subst}
use mathlib.Core.Bool.{Bool, true, false}
use mathlib.Core.List.{List}
use Prim.Native.Nat.{ℕ, zero, suc, ◌≤◌, ◌<◌}
use native.Mathlib.Omega.{arith}
use native.Mathlib.Decide.{ℕ_discrete, dec_lt}
use lib.ListN.{length, get_or}
use lib.Dec.{ltb}
use Rattle.std.specs.declared.option.Option.TheVariants.{None, Some}
use Rattle.paper.specs.Answered.{Maybe}
use Rattle.paper.specs.declared.Refusal.TheVariants.{Unknown}
use Rattle.paper.specs.Numbers.{max_sites, done, ◌>>=◌, demand}
use Rattle.paper.specs.Classes.{Classes, up, flattened, Swept, sweep, Removed, removed, remove_set_of}
use Rattle.class_removal.specs.Listed.{swept_on, sweep_of, remove_by, remove_with, remove_of}
use Rattle.class_removal.proofs.Taking.{listed_within, remove_is_with}
use Rattle.class_removal.proofs.Room.{sweep_idle, kept}
use Rattle.classes.proofs.Laws.{never, same_done}

-- z is one of the list
abbrev pub Listed : List ℕ → ℕ → Type 0
Listed xs z = (i : ℕ) × (i < length xs) × (get_or xs i 0 ≡ z)

abbrev pub Ascends : List ℕ → Type 0
Ascends xs = (i j : ℕ) → i < j → j < length xs → get_or xs i 0 < get_or xs j 0

module _ (xs : List ℕ) (up-xs : Ascends xs) (p : List ℕ) (r : ℕ) (has : (z : ℕ) → z < max_sites → up p z < max_sites → Listed xs z) where
  idle : (b : ℕ) → b < max_sites → (Listed xs b → ⊥) → sweep (suc b) p r ≡ sweep b p r
  idle b h d = go (dec_lt (up p b) max_sites)
    where
      go : Dec (up p b < max_sites) → sweep (suc b) p r ≡ sweep b p r
      go (yes u) = absurd (d (has b h u))
      go (no u) = sweep_idle b p r h (omega arith)

  -- the first i of the list are those below b
  sweep_same : (b i : ℕ) → b ≤ max_sites → i ≤ length xs → ((j : ℕ) → j < i → get_or xs j 0 < b) → ((j : ℕ) → i ≤ j → j < length xs → b ≤ get_or xs j 0)
      → sweep b p r ≡ sweep_of xs i p r
  unfolding sweep sweep_of
  sweep_same zero zero h l f g = refl
  sweep_same zero (suc i) h l f g = let z = f i (omega arith) in absurd (omega arith)
  sweep_same (suc b) zero h l f g =
      idle b h (λ x. let z = g x.0 (omega arith) x.1 in let e = x.2 in omega arith)
      ∙ sweep_same b zero (omega arith) l (λ j o. absurd (omega arith)) (λ j o k. let z = g j o k in omega arith)
  sweep_same (suc b) (suc i) h l f g = go (ℕ_discrete (get_or xs i 0) b) (sweep_same b i (omega arith) (omega arith)) (sweep_same b (suc i) (omega arith) l)
    where
      last : (j : ℕ) → j < i → get_or xs j 0 < get_or xs i 0
      last j o = up-xs j i o l

      go : Dec (get_or xs i 0 ≡ b)
          → (((j : ℕ) → j < i → get_or xs j 0 < b) → ((j : ℕ) → i ≤ j → j < length xs → b ≤ get_or xs j 0) → sweep b p r ≡ sweep_of xs i p r)
          → (((j : ℕ) → j < suc i → get_or xs j 0 < b) → ((j : ℕ) → suc i ≤ j → j < length xs → b ≤ get_or xs j 0) → sweep b p r ≡ sweep_of xs (suc i) p r)
          → swept_on b r (sweep b p r) ≡ swept_on (get_or xs i 0) r (sweep_of xs i p r)
      go (yes e) ih ij = rw (e, ih before after)
        where
          before : (j : ℕ) → j < i → get_or xs j 0 < b
          before j o = let z = last j o in omega arith

          after : (j : ℕ) → i ≤ j → j < length xs → b ≤ get_or xs j 0
          after j o k = at (dec_lt i j)
            where
              at : Dec (i < j) → b ≤ get_or xs j 0
              at (yes q) = let z = g j q k in omega arith
              at (no q) = let z : i ≡ j = omega arith in let y = ap (λ (a : ℕ). get_or xs a 0) z in omega arith
      go (no d) ih ij = idle b h out ∙ ij before (λ j o k. let z = g j o k in omega arith)
        where
          top : get_or xs i 0 < b
          top = let z = f i (omega arith) in omega (arith, d)

          before : (j : ℕ) → j < suc i → get_or xs j 0 < b
          before j o = at (dec_lt j i)
            where
              at : Dec (j < i) → get_or xs j 0 < b
              at (yes q) = let z = last j q in omega (arith, top)
              at (no q) = let z : j ≡ i = omega arith in let y = ap (λ (a : ℕ). get_or xs a 0) z in omega (arith, top)

          out : Listed xs b → ⊥
          out x = at (dec_lt x.0 (suc i))
            where
              at : Dec (x.0 < suc i) → ⊥
              at (yes q) = let z = before x.0 q in let e = x.2 in omega arith
              at (no q) = let z = g x.0 (omega arith) x.1 in let e = x.2 in omega arith

-- two sweeps that agree take the same class apart
remove_same : (w v : List ℕ → ℕ → Swept) (c : Classes) (x : ℕ) → ((r : ℕ) → w (flattened c x).after.parents r ≡ v (flattened c x).after.parents r) → remove_with w c x ≡ remove_with v c x
unfolding remove_with
remove_same w v c x e = ap (λ (q : Removed). demand (ltb x max_sites) (Unknown x) >>= λ _. done q) (go (flattened c x).found)
  where
    go : (f : Maybe ℕ) → remove_by w (flattened c x).after f ≡ remove_by v (flattened c x).after f
    go (Some r) = ap (removed (flattened c x).after) (e r)
    go None = refl

pub remove_listed : (c : Classes) (x : ℕ) (xs : List ℕ) → Ascends xs → ((i : ℕ) → i < length xs → get_or xs i 0 < max_sites)
    → ((z : ℕ) → z < max_sites → up c.parents z < max_sites → Listed xs z)
    → remove_of xs c x ≡ remove_set_of c x
remove_listed c x xs a b has = remove_same (sweep_of xs (length xs)) (sweep max_sites) c x same ∙ remove_is_with c x
  where
    still : (z : ℕ) → z < max_sites → up (flattened c x).after.parents z < max_sites → Listed xs z
    still z h u = go (dec_lt (up c.parents z) max_sites)
      where
        go : Dec (up c.parents z < max_sites) → Listed xs z
        go (yes o) = has z h o
        go (no o) = let k = kept c x z (omega arith) in absurd (omega arith)

    same : (r : ℕ) → sweep_of xs (length xs) (flattened c x).after.parents r ≡ sweep max_sites (flattened c x).after.parents r
    same r = sym (sweep_same xs a (flattened c x).after.parents r still max_sites (length xs) (omega arith) (omega arith) b (λ j o k. absurd (omega arith)))

-- no more are taken than are looked at
pub remove_few : (xs : List ℕ) (c : Classes) (x : ℕ) (q : Removed) → remove_of xs c x ≡ done q → length q.members ≤ length xs
unfolding remove_with
remove_few xs c x q e = go (ltb x max_sites) refl
  where
    by : (f : Maybe ℕ) → length (remove_by (sweep_of xs (length xs)) (flattened c x).after f).members ≤ length xs
    by (Some r) = (listed_within xs (length xs) (flattened c x).after.parents r).few
    by None = omega arith

    go : (b : Bool) → ltb x max_sites ≡ b → length q.members ≤ length xs
    go true p = subst (λ (o : Removed). length o.members ≤ length xs) (same_done (simp p at e)) (by (flattened c x).found)
    go false p = never (simp p at e)
