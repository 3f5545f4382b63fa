-- What a state promises over a table, and over a table that extends it.
use Rattle.std.specs.Prelude.{◌≡◌, refl, ℕ, ◌<◌, length}
use Rattle.std.proofs.Common.{sym, ap, ◌∙◌, arith}
use Rattle.std.proofs.Math.Option.{Option, none, some}
use Rattle.std.proofs.Math.ListN.{get_elem?}
use Rattle.paper.specs.declared.Constraint.{Constraint}
use Rattle.paper.specs.Sites.{Site, Sites, site_at, const_bool, const_int, const_prim, argument, extractor, constructor, iterator, make_variant, match_variant, make_struct, extract_struct, make_some, match_some, match_tuple, child, child_count, child_number, Sound, Extends}
use Rattle.paper.specs.Inputs.{Given, Input}
use Rattle.meaning.specs.Values.{Proj, proj_at}
use Rattle.meaning.specs.Kinds.{outside, free, child_of, kind_of, or_outside, kind_in, input_is}
use Rattle.meaning.specs.Model.{Rooted, top, under}
use Rattle.meaning.specs.RuleSites.{SameOn}
use Rattle.meaning.specs.Round.{State}
use Rattle.meaning.specs.Eval.{input_grow}
use Rattle.paper.proofs.Adding.{Has, get_inside, inside_has}
use Rattle.meaning.specs.Places.{kind_stays, child_kind, child_site, or_child, places_of}

kind_inside : (t : Sites) (n m : ℕ) (p : Proj) → kind_in t n ≡ child_of m p → n < length t
kind_inside t n m p e = go (get_elem? t n) refl
  where
    go : (o : Option Site) → get_elem? t n ≡ o → n < length t
    go none f = let z : child_of m p ≡ outside = sym e ∙ ap or_outside f in let y : ◌≡◌ {A = ℕ} 0 1 = cc in absurd (omega arith)
    go (some s) f = get_inside t n s f

free_inside : (t : Sites) (n : ℕ) → kind_in t n ≡ free → n < length t
free_inside t n e = go (get_elem? t n) refl
  where
    go : (o : Option Site) → get_elem? t n ≡ o → n < length t
    go none f = let z : free ≡ outside = sym e ∙ ap or_outside f in let y : ◌≡◌ {A = ℕ} 0 1 = cc in absurd (omega arith)
    go (some s) f = get_inside t n s f

pub rooted_grows : (t u : Sites) (con : ℕ → Option Constraint) → Extends t u → (n : ℕ) → Rooted (kind_in t) con n → Rooted (kind_in u) con n
rooted_grows t u con x n (top e) = top (kind_stays t u x n (free_inside t n e) ∙ e)
rooted_grows t u con x n (under m p c i e f g) = under m p c i (kind_stays t u x n (kind_inside t n m p e) ∙ e) f g

pub rooted_inside : (t : Sites) (con : ℕ → Option Constraint) (n : ℕ) → Rooted (kind_in t) con n → n < length t
rooted_inside t con n (top e) = free_inside t n e
rooted_inside t con n (under m p c i e f g) = kind_inside t n m p e

-- the children of the constrained sites are there, and what is named is rooted
pub record Full (t : Sites) (con : ℕ → Option Constraint) (rep : ℕ → ℕ) : Type 0 where
  pub has : (n : ℕ) (c : Constraint) (i : ℕ) → con n ≡ some c → i < child_count c → Has t (child n c i)
  pub rooted : (n : ℕ) (c : Constraint) → con n ≡ some c → Rooted (kind_in t) con n
  pub joined_rooted : (a b : ℕ) → rep a ≡ rep b → (a ≡ b → ⊥) → Rooted (kind_in t) con a

pub full_state : (t : Sites) (con : ℕ → Option Constraint) (rep : ℕ → ℕ) → Full t con rep → State (kind_in t) con (child_number t) rep
full_state t con rep F = record {
  grown = record { kids = λ n c i e h. child_kind t n c i (F.has n c i e h) };
  rooted = F.rooted;
  joined_rooted = F.joined_rooted;
}

-- and back: a child whose number has its kind is there
pub full_of : (t : Sites) (con : ℕ → Option Constraint) (rep : ℕ → ℕ) →
    ((n : ℕ) (c : Constraint) (i : ℕ) → con n ≡ some c → i < child_count c → kind_in t (child_number t n c i) ≡ child_of n (proj_at c i)) →
    ((n : ℕ) (c : Constraint) → con n ≡ some c → Rooted (kind_in t) con n) →
    ((a b : ℕ) → rep a ≡ rep b → (a ≡ b → ⊥) → Rooted (kind_in t) con a) → Full t con rep
full_of t con rep kids rooted joined = record {
  has = λ n c i e h. (child_number t n c i, or_child (get_elem? t (child_number t n c i)) n (proj_at c i) (kids n c i e h) ∙ ap some (sym (child_site n c i)));
  rooted = rooted;
  joined_rooted = joined;
}

pub full_grows : (t u : Sites) (con : ℕ → Option Constraint) (rep : ℕ → ℕ) → Extends t u → Full t con rep → Full u con rep
full_grows t u con rep x F = record {
  has = λ n c i e h. let r = F.has n c i e h in (r.0, x r.0 (child n c i) r.1);
  rooted = λ n c e. rooted_grows t u con x n (F.rooted n c e);
  joined_rooted = λ a b e d. rooted_grows t u con x a (F.joined_rooted a b e d);
}

-- ---- inputs

-- a site of the table is not outside
is_inside : (s : Site) → kind_of s ≡ outside → ⊥
is_inside (const_bool t v) e = let z : ◌≡◌ {A = ℕ} 0 1 = cc in omega arith
is_inside (const_int t h l) e = let z : ◌≡◌ {A = ℕ} 0 1 = cc in omega arith
is_inside (const_prim v) e = let z : ◌≡◌ {A = ℕ} 0 1 = cc in omega arith
is_inside (argument i) e = let z : ◌≡◌ {A = ℕ} 0 1 = cc in omega arith
is_inside (extractor t s) e = let z : ◌≡◌ {A = ℕ} 0 1 = cc in omega arith
is_inside (constructor t n l) e = let z : ◌≡◌ {A = ℕ} 0 1 = cc in omega arith
is_inside (iterator s) e = let z : ◌≡◌ {A = ℕ} 0 1 = cc in omega arith
is_inside (make_variant t v l) e = let z : ◌≡◌ {A = ℕ} 0 1 = cc in omega arith
is_inside (match_variant s v f) e = let z : ◌≡◌ {A = ℕ} 0 1 = cc in omega arith
is_inside (make_struct t l) e = let z : ◌≡◌ {A = ℕ} 0 1 = cc in omega arith
is_inside (extract_struct s f) e = let z : ◌≡◌ {A = ℕ} 0 1 = cc in omega arith
is_inside (make_some s) e = let z : ◌≡◌ {A = ℕ} 0 1 = cc in omega arith
is_inside (match_some s) e = let z : ◌≡◌ {A = ℕ} 0 1 = cc in omega arith
is_inside (match_tuple s f) e = let z : ◌≡◌ {A = ℕ} 0 1 = cc in omega arith

-- an input of a table is one of each that it extends
pub input_part : (t u : Sites) (at : Given) → Extends t u → Input u at → Input t at
input_part t u at x I n s e = I n s (x n s e)

-- and an input of a table is the old part of one of a table that extends it
pub input_more : (t u : Sites) (at : Given) → Sound t → Sound u → Extends t u → Input t at →
    (at' : Given) × Input u at' × SameOn t at at'
input_more t u at S S' x I =
    let r = input_grow (kind_in t) (kind_in u) (places_of t S).lower (places_of u S').lower (length t) (kind_stays t u x) inside at ((input_is t at).0 I) in
    (r.0, (input_is u r.0).1 r.1, r.2)
  where
    inside : (n : ℕ) → n < length t → kind_in t n ≡ outside → ⊥
    inside n h e = is_inside (site_at t n) (sym (ap or_outside (inside_has t n h)) ∙ e)
