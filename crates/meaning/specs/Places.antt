-- What stands where in a table of sites: its kinds, the numbers of children, and that both stay in a table that extends it.
use Rattle.std.specs.Prelude.{◌≡◌, refl, ℕ, ◌<◌, length}
use Rattle.std.proofs.Common.{sym, ap, ◌∙◌, arith}
use Rattle.std.proofs.Math.Option.{Option, none, some}
use mathlib.Core.List.{Memᴰ}
use Rattle.std.proofs.Math.ListN.{get_elem?}
use Rattle.paper.specs.declared.Constraint.{Constraint}
use Rattle.paper.specs.declared.Constraint.TheVariants.{Variant, Struct, ConstBool, ConstInt, ConstPrim, Some}
use Rattle.paper.specs.Sites.{Site, Sites, const_bool, const_int, const_prim, argument, extractor, constructor, iterator, make_variant, match_variant, make_struct, extract_struct, make_some, match_some, match_tuple, sources, child, child_count, children, site_at, child_number, Sound, Extends}
use Rattle.paper.proofs.Closure.{of_below, in_below}
use Rattle.paper.proofs.Adding.{Has, get_inside, inside_has, child_there}
use Rattle.meaning.specs.Values.{Proj, variant_at, struct_at, inner_at, proj_at}
use Rattle.meaning.specs.Kinds.{outside, free, child_of, kind_of, or_outside, kind_in, Places}

-- ---- kinds

pub site_of : ℕ → Proj → Site
site_of m (variant_at v f) = match_variant m v f
site_of m (struct_at f) = extract_struct m f
site_of m inner_at = match_some m

no_child : {m : ℕ} {p : Proj} {A : Type 0} → free ≡ child_of m p → A
no_child e = let z : ◌≡◌ {A = ℕ} 0 1 = cc in absurd (omega arith)

-- a child's site is the one that its kind names
kind_site : (s : Site) (m : ℕ) (p : Proj) → kind_of s ≡ child_of m p → s ≡ site_of m p
unfolding site_of
kind_site (const_bool t b) m p e = no_child e
kind_site (const_int t h l) m p e = no_child e
kind_site (const_prim s) m p e = no_child e
kind_site (argument i) m p e = no_child e
kind_site (extractor t s) m p e = no_child e
kind_site (constructor t n l) m p e = no_child e
kind_site (iterator s) m p e = no_child e
kind_site (make_variant t v l) m p e = no_child e
kind_site (match_variant s v f) m p e = let q : variant_at v f ≡ p = cc in let r : s ≡ m = cc in rw (← q, ← r)
kind_site (make_struct t l) m p e = no_child e
kind_site (extract_struct s f) m p e = let q : struct_at f ≡ p = cc in let r : s ≡ m = cc in rw (← q, ← r)
kind_site (make_some s) m p e = no_child e
kind_site (match_some s) m p e = let q : inner_at ≡ p = cc in let r : s ≡ m = cc in rw (← q, ← r)
kind_site (match_tuple s f) m p e = no_child e

pub kind_of_site : (m : ℕ) (p : Proj) → kind_of (site_of m p) ≡ child_of m p
unfolding site_of
kind_of_site m (variant_at v f) = refl
kind_of_site m (struct_at f) = refl
kind_of_site m inner_at = refl

source_of : (m : ℕ) (p : Proj) → Memᴰ m (sources (site_of m p))
unfolding site_of sources
source_of m (variant_at v f) = Memᴰ.head refl
source_of m (struct_at f) = Memᴰ.head refl
source_of m inner_at = Memᴰ.head refl

pub child_site : (n : ℕ) (c : Constraint) (i : ℕ) → child n c i ≡ site_of n (proj_at c i)
unfolding child site_of
child_site n (Variant t v k) i = refl
child_site n (Struct t k) i = refl
child_site n (ConstBool t b) i = refl
child_site n (ConstInt t h l) i = refl
child_site n (ConstPrim v) i = refl
child_site n Some i = refl

pub or_child : (o : Option Site) (m : ℕ) (p : Proj) → or_outside o ≡ child_of m p → o ≡ some (site_of m p)
or_child none m p e = let z : ◌≡◌ {A = ℕ} 0 1 = cc in absurd (omega arith)
or_child (some s) m p e = ap some (kind_site s m p e)

or_inside : (t : Sites) (n : ℕ) (o : Option Site) → get_elem? t n ≡ o → (or_outside o ≡ outside → ⊥) → n < length t
or_inside t n none e h = absurd (h refl)
or_inside t n (some s) e h = get_inside t n s e

pub places_of : (t : Sites) → Sound t → Places (kind_in t) (length t)
places_of t S = record {
  inside = λ n h. or_inside t n (get_elem? t n) refl h;
  lower = λ n m p e. S.lower n (site_of m p) (or_child (get_elem? t n) m p e) m (source_of m p);
  once = λ n k m p e f. S.once n k (site_of m p) (or_child (get_elem? t n) m p e) (or_child (get_elem? t k) m p f);
}

pub kind_stays : (t u : Sites) → Extends t u → (n : ℕ) → n < length t → kind_in u n ≡ kind_in t n
kind_stays t u x n h = let e = inside_has t n h in ap or_outside (x n (site_at t n) e ∙ sym e)

-- ---- the numbers of children

pub child_stays : (t u : Sites) → Extends t u → Sound u → (n : ℕ) (c : Constraint) (i : ℕ) → Has t (child n c i) → child_number u n c i ≡ child_number t n c i
child_stays t u x S n c i h =
    let s = child n c i in
    S.once (child_number u n c i) (child_number t n c i) s (child_there u n c i (h.0, x h.0 s h.1)) (x (child_number t n c i) s (child_there t n c i h))

pub child_kind : (t : Sites) (n : ℕ) (c : Constraint) (i : ℕ) → Has t (child n c i) → kind_in t (child_number t n c i) ≡ child_of n (proj_at c i)
child_kind t n c i h = ap or_outside (child_there t n c i h) ∙ (ap kind_of (child_site n c i) ∙ kind_of_site n (proj_at c i))

pub in_children : (n : ℕ) (c : Constraint) (i : ℕ) → i < child_count c → Memᴰ (child n c i) (children n c)
unfolding children
in_children n c i h = in_below (child_count c) (child n c) i h

pub of_children : (n : ℕ) (c : Constraint) (s : Site) → Memᴰ s (children n c) → (i : ℕ) × (i < child_count c) × (s ≡ child n c i)
unfolding children
of_children n c s m = of_below (child_count c) (child n c) s m
