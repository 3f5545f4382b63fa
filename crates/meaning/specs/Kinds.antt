-- What matters of a site to an input, and inputs over that: paper's `Input` of a table is `Reads` of its kinds (`input_is`).
use Rattle.std.specs.Prelude.{◌≡◌, refl, ◌↔◌, ℕ, ◌<◌}
use Rattle.std.proofs.Common.{sym, ap, ◌∙◌, arith}
use Rattle.std.proofs.Math.Option.{Option, none, some}
use Rattle.std.proofs.Math.Decide.{ℕ_discrete}
use Rattle.std.proofs.Math.ListN.{get_elem?}
use Rattle.paper.specs.declared.Constraint.{Constraint}
use Rattle.paper.specs.Sites.{Site, Sites, const_bool, const_int, const_prim, argument, extractor, constructor, iterator, make_variant, match_variant, make_struct, extract_struct, make_some, match_some, match_tuple}
use Rattle.paper.specs.Inputs.{Value, Given, HasOne, Fits, Input, Meets, Agree, and_then}
use Rattle.meaning.specs.Values.{Proj, variant_at, struct_at, inner_at, taken, field, field_is}

-- it is not in the table; its value is any; or it is a field of its source's
pub data Kind : Type 0 where
  outside : Kind
  free : Kind
  child_of : (source : ℕ) → Proj → Kind

abbrev pub kind_of : Site → Kind
kind_of (const_bool t b) = free
kind_of (const_int t h l) = free
kind_of (const_prim s) = free
kind_of (argument i) = free
kind_of (extractor t s) = free
kind_of (constructor t n l) = free
kind_of (iterator s) = free
kind_of (make_variant t v l) = free
kind_of (match_variant s v f) = child_of s (variant_at v f)
kind_of (make_struct t l) = free
kind_of (extract_struct s f) = child_of s (struct_at f)
kind_of (make_some s) = free
kind_of (match_some s) = child_of s inner_at
kind_of (match_tuple s f) = free

abbrev pub or_outside : Option Site → Kind
or_outside none = outside
or_outside (some s) = kind_of s

abbrev pub kind_in : Sites → ℕ → Kind
kind_in t n = or_outside (get_elem? t n)

-- What is known of a table, as its kinds: `kind_in t` of a sound table has it (Tables.antt, `places_of`).
pub record Places (kind : ℕ → Kind) (room : ℕ) : Type 0 where
  pub inside : (n : ℕ) → (kind n ≡ outside → ⊥) → n < room
  pub lower : (n m : ℕ) (p : Proj) → kind n ≡ child_of m p → m < n
  pub once : (n k m : ℕ) (p : Proj) → kind n ≡ child_of m p → kind k ≡ child_of m p → n ≡ k

-- A child has its source's field, if that has it; a free site has some value, and any.
pub record Reads (kind : ℕ → Kind) (at : Given) : Type 0 where
  pub free_has : (n : ℕ) → kind n ≡ free → HasOne (at n)
  pub child_has : (n m : ℕ) (p : Proj) → kind n ≡ child_of m p → at n ≡ and_then (at m) (field p)

-- the constraint of each site that has one, and which pairs of sites are held equal
pub record Fulfils (at : Given) (con : ℕ → Option Constraint) (Held : ℕ → ℕ → Type 0) : Type 0 where
  pub meets : (n : ℕ) (c : Constraint) → con n ≡ some c → Meets at n c
  pub agrees : (a b : ℕ) → Held a b → Agree at a b

-- Held equal: two different sites of one class
pub record Held (rep : ℕ → ℕ) (a b : ℕ) : Type 0 where
  pub same : rep a ≡ rep b
  pub two : a ≡ b → ⊥

-- the sites of one class agree, also a site with itself
pub class_same : (con : ℕ → Option Constraint) (rep : ℕ → ℕ) (at : Given) → Fulfils at con (Held rep) → (a b : ℕ) → rep a ≡ rep b → at a ≡ at b
class_same con rep at M a b e = go (ℕ_discrete a b)
  where
    go : Dec (a ≡ b) → at a ≡ at b
    go (yes q) = ap at q
    go (no q) = let h = M.agrees a b (record { same = e; two = q }) in h.one ∙ sym h.other

-- ---- an input of a table

taken_is : (o : Option Value) (p : Proj) → and_then o (taken p) ≡ and_then o (field p)
taken_is none p = refl
taken_is (some x) p = field_is p x

not_free : {m : ℕ} {p : Proj} {A : Type 0} → child_of m p ≡ free → A
not_free e = let z : ◌≡◌ {A = ℕ} 0 1 = cc in absurd (omega arith)

not_child : {m : ℕ} {p : Proj} {A : Type 0} → free ≡ child_of m p → A
not_child e = let z : ◌≡◌ {A = ℕ} 0 1 = cc in absurd (omega arith)

fits_free : (at : Given) (n : ℕ) (s : Site) → Fits at n s → kind_of s ≡ free → HasOne (at n)
fits_free at n (const_bool t b) f e = f
fits_free at n (const_int t h l) f e = f
fits_free at n (const_prim s) f e = f
fits_free at n (argument i) f e = f
fits_free at n (extractor t s) f e = f
fits_free at n (constructor t m l) f e = f
fits_free at n (iterator s) f e = f
fits_free at n (make_variant t v l) f e = f
fits_free at n (match_variant s v i) f e = not_free e
fits_free at n (make_struct t l) f e = f
fits_free at n (extract_struct s i) f e = not_free e
fits_free at n (make_some s) f e = f
fits_free at n (match_some s) f e = not_free e
fits_free at n (match_tuple s i) f e = f

same_child : (at : Given) (n : ℕ) {m k : ℕ} {p q : Proj} → child_of m p ≡ child_of k q → at n ≡ and_then (at m) (taken p) → at n ≡ and_then (at k) (field q)
same_child at n {m} {k} {p} {q} e f = let a : m ≡ k = cc in let b : p ≡ q = cc in rw (← a, ← b) (f ∙ taken_is (at m) p)

fits_child : (at : Given) (n : ℕ) (s : Site) (m : ℕ) (p : Proj) → Fits at n s → kind_of s ≡ child_of m p → at n ≡ and_then (at m) (field p)
fits_child at n (const_bool t b) m p f e = not_child e
fits_child at n (const_int t h l) m p f e = not_child e
fits_child at n (const_prim s) m p f e = not_child e
fits_child at n (argument i) m p f e = not_child e
fits_child at n (extractor t s) m p f e = not_child e
fits_child at n (constructor t k l) m p f e = not_child e
fits_child at n (iterator s) m p f e = not_child e
fits_child at n (make_variant t v l) m p f e = not_child e
fits_child at n (match_variant s v i) m p f e = same_child at n {m = s} {k = m} {p = variant_at v i} {q = p} e f
fits_child at n (make_struct t l) m p f e = not_child e
fits_child at n (extract_struct s i) m p f e = same_child at n {m = s} {k = m} {p = struct_at i} {q = p} e f
fits_child at n (make_some s) m p f e = not_child e
fits_child at n (match_some s) m p f e = same_child at n {m = s} {k = m} {p = inner_at} {q = p} e f
fits_child at n (match_tuple s i) m p f e = not_child e

fits_of : (at : Given) (n : ℕ) (s : Site) → (kind_of s ≡ free → HasOne (at n)) →
    ((m : ℕ) (p : Proj) → kind_of s ≡ child_of m p → at n ≡ and_then (at m) (field p)) → Fits at n s
fits_of at n (const_bool t b) f g = f refl
fits_of at n (const_int t h l) f g = f refl
fits_of at n (const_prim s) f g = f refl
fits_of at n (argument i) f g = f refl
fits_of at n (extractor t s) f g = f refl
fits_of at n (constructor t m l) f g = f refl
fits_of at n (iterator s) f g = f refl
fits_of at n (make_variant t v l) f g = f refl
fits_of at n (match_variant s v i) f g = g s (variant_at v i) refl ∙ sym (taken_is (at s) (variant_at v i))
fits_of at n (make_struct t l) f g = f refl
fits_of at n (extract_struct s i) f g = g s (struct_at i) refl ∙ sym (taken_is (at s) (struct_at i))
fits_of at n (make_some s) f g = f refl
fits_of at n (match_some s) f g = g s inner_at refl ∙ sym (taken_is (at s) inner_at)
fits_of at n (match_tuple s i) f g = f refl

not_outside : {m : ℕ} {p : Proj} {A : Type 0} → outside ≡ child_of m p → A
not_outside e = let z : ◌≡◌ {A = ℕ} 0 1 = cc in absurd (omega arith)

pub input_is : (t : Sites) (at : Given) → Input t at ↔ Reads (kind_in t) at
input_is t at = (λ I. record { free_has = λ n e. freely I n (get_elem? t n) refl e; child_has = λ n m p e. child I n m p (get_elem? t n) refl e }, back)
  where
    freely : Input t at → (n : ℕ) (o : Option Site) → get_elem? t n ≡ o → or_outside o ≡ free → HasOne (at n)
    freely I n none q e = let z : ◌≡◌ {A = ℕ} 0 1 = cc in absurd (omega arith)
    freely I n (some s) q e = fits_free at n s (I n s q) e

    child : Input t at → (n m : ℕ) (p : Proj) (o : Option Site) → get_elem? t n ≡ o → or_outside o ≡ child_of m p → at n ≡ and_then (at m) (field p)
    child I n m p none q e = not_outside e
    child I n m p (some s) q e = fits_child at n s m p (I n s q) e

    back : Reads (kind_in t) at → Input t at
    back R n s q = fits_of at n s (λ e. R.free_has n (ap or_outside q ∙ e)) (λ m p e. R.child_has n m p (ap or_outside q ∙ e))
