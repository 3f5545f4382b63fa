-- A body in bytes and the site that it is: what the readers cite.
use mathlib.Core.Path.{◌≡◌, refl, sym, ap, ◌∙◌}
use mathlib.Core.Bool.{true, false}
use mathlib.Core.Option.{Option, none, some}
use mathlib.Core.List.{List, [], ◌∷◌}
use Prim.Native.Nat.{ℕ, zero, suc, ◌+◌, ◌*◌, ◌/◌, ◌%◌, ◌≤◌, ◌<◌}
use native.Mathlib.Omega.{arith}
use lib.ListN.{length, get_or, get_elem?, drop}
use lib.Dec.{eqb}
use borrow.Author.Tests.{le-leb, lt-leb, ne_eqb}
use Rattle.std.specs.declared.result.Result.TheVariants.{Err, Ok}
use Rattle.std.specs.declared.option.Option.TheVariants.{None, Some}
use Rattle.std.specs.Prelude.{if◌then◌else◌}
use Rattle.paper.specs.Words.{or_else, two}
use Rattle.paper.specs.Numbers.{max_sources, max_term}
use Rattle.paper.specs.Layout.{whole, site_read}
use Rattle.paper.specs.Sites.{Site, const_bool, const_int, const_prim, argument, extractor, constructor, iterator, make_variant, match_variant, make_struct, extract_struct, make_some, match_some, match_tuple, body, body_by, sources, term_of, parent, term_fits}
use Rattle.paper.proofs.Laws.{read_body}
use Rattle.paper.specs.Answered.{Maybe}
use Rattle.paper.specs.declared.Refusal.TheVariants.{Layout, Unknown, TooManySources, TermTooHigh}
use Rattle.site_body.specs.declared.Link.{Link}
use Rattle.site_body.specs.declared.Link.TheVariants as link
use Rattle.site_body.specs.Body.{admits, admits_body, found_as, is_body, is_there, kind, link_of, many_of, missing, no_site, off_of, site_of, verdict_as, words}
use Rattle.site_body.proofs.Tables.{Laid, laid}
use Rattle.site_body.proofs.Back.{Bytes, back}
use Rattle.site_body.proofs.Turns.{words_cons}

-- ---- bytes that are no body, and bytes that are
none_read : (o : Option Site) → is_there o ≡ false → o ≡ none
unfolding is_there
none_read none e = refl
none_read (some s) e = let z : ◌≡◌ {A = ℕ} 0 1 = cc in absurd (omega arith)

some_read : (o : Option Site) → is_there o ≡ true → o ≡ some (or_else o no_site)
unfolding is_there
some_read none e = let z : ◌≡◌ {A = ℕ} 0 1 = cc in absurd (omega arith)
some_read (some s) e = refl

pub read_none : (b : List ℕ) → is_body b ≡ false → whole (site_read b) ≡ none
unfolding is_body
read_none b e = none_read (whole (site_read b)) e

pub site_none : (b : List ℕ) → is_body b ≡ false → site_of b ≡ no_site
unfolding site_of
site_none b e = rw (read_none b e)

pub read_some : (b : List ℕ) → is_body b ≡ true → whole (site_read b) ≡ some (site_of b)
unfolding is_body site_of
read_some b e = some_read (whole (site_read b)) e

pub laid_in : (b : List ℕ) → Bytes b → is_body b ≡ true → Laid (site_of b) b
laid_in b f e = let q = back b f (site_of b) (read_some b e) in rw q at (laid (site_of b))

-- a site's body is read as that site
pub site_body : (s : Site) → site_of (body s) ≡ s
unfolding site_of
site_body s = rw (read_body s)

pub body_there : (s : Site) → is_body (body s) ≡ true
unfolding is_body is_there
body_there s = rw (read_body s)

-- ---- readers
module _ (b : List ℕ) (e : is_body b ≡ false) where
  pub kind_none : 6 ≡ kind (site_of b)
  unfolding kind
  kind_none = rw (site_none b e)

  pub count_none : 1 ≡ length (sources (site_of b))
  unfolding sources
  count_none = rw (site_none b e)

  pub source_first : Some 65535 ≡ found_as (get_elem? (sources (site_of b)) 0)
  unfolding sources
  source_first = rw (site_none b e)

  pub source_past : (j : ℕ) → (j ≡ 0 → ⊥) → None ≡ found_as (get_elem? (sources (site_of b)) j)
  unfolding sources
  source_past zero h = absurd (h refl)
  source_past (suc j) h = rw (site_none b e)

  pub term_none : None ≡ found_as (term_of (site_of b))
  unfolding term_of
  term_none = rw (site_none b e)

  pub link_none : None ≡ link_of (site_of b)
  unfolding link_of
  link_none = rw (site_none b e)

-- the source j of k
words_at : (k : ℕ) (b : List ℕ) (at j : ℕ) → at + 2 * k ≤ length b → j < k → get_elem? (words k (drop at b)) j ≡ some (get_or b (at + 2 * j) 0 * 256 + get_or b (at + 2 * j + 1) 0)
words_at zero b at j h l = absurd (omega arith)
words_at (suc k) b at zero h l = let e : at + 2 * 0 ≡ at = omega arith in rw (words_cons k b at (omega arith), e)
words_at (suc k) b at (suc j) h l = let e : at + 2 * suc j ≡ at + 2 + 2 * j = omega arith in rw (words_cons k b at (omega arith), e) (words_at k b (at + 2) j (omega arith) (omega arith))

past_none : (l : List ℕ) (j : ℕ) → length l ≤ j → get_elem? l j ≡ none
past_none [] j h = refl
past_none (x ∷ l) zero h = absurd (omega arith)
past_none (x ∷ l) (suc j) h = past_none l j (omega arith)

module _ (b : List ℕ) (f : Bytes b) (e : is_body b ≡ true) where
  pub kind_some : get_or b 0 0 ≡ kind (site_of b)
  kind_some = (laid_in b f e).kind_is

  pub count_some : (n : ℕ) → n ≡ many_of b → n ≡ length (sources (site_of b))
  count_some n q = q ∙ (laid_in b f e).many

  pub source_over : (n j : ℕ) → n ≡ many_of b → n ≤ j → None ≡ found_as (get_elem? (sources (site_of b)) j)
  source_over n j q h = let l = laid_in b f e in let m = l.many in sym (ap found_as (past_none (sources (site_of b)) j (omega arith)))

  pub source_some : (n j o r : ℕ) → n ≡ many_of b → j < n → o ≡ off_of b → r ≡ get_or b (o + 2 * j) 0 * 256 + get_or b (o + 2 * j + 1) 0 → Some r ≡ found_as (get_elem? (sources (site_of b)) j)
  source_some n j o r q h p w =
      let l = laid_in b f e in
      let v : o + 2 * many_of b ≤ length b = omega (arith, l.size) in
      let k : get_elem? (sources (site_of b)) j ≡ some r = rw (← l.read, ← p, w) (words_at (many_of b) b o j v (omega arith)) in
      rw k

-- ---- the term
abbrev term_at : ℕ → List ℕ → Option ℕ
term_at k b = if eqb k 4 then some (get_or b 1 0 * 256 + get_or b 2 0) else (if eqb k 5 then some (get_or b 1 0 * 256 + get_or b 2 0) else none)

term_is : (s : Site) → term_of s ≡ term_at (kind s) (body s)
unfolding term_of kind body body_by two
term_is (const_bool t v) = refl
term_is (const_int t h l) = refl
term_is (const_prim v) = refl
term_is (argument i) = refl
term_is (extractor t s) = let e : t ≡ t / 256 * 256 + t % 256 = omega arith in ap some e
term_is (constructor t n l) = let e : t ≡ t / 256 * 256 + t % 256 = omega arith in ap some e
term_is (iterator s) = refl
term_is (make_variant t v l) = refl
term_is (match_variant s v f) = refl
term_is (make_struct t l) = refl
term_is (extract_struct s f) = refl
term_is (make_some s) = refl
term_is (match_some s) = refl
term_is (match_tuple s f) = refl

-- ---- the source, variant and field of a child
abbrev link_at : ℕ → List ℕ → Maybe Link
link_at k b = if eqb k 8 then (Some (link.Variant (get_or b 1 0 * 256 + get_or b 2 0) (get_or b 3 0 * 256 + get_or b 4 0) (get_or b 5 0))) else (if eqb k 10 then (Some (link.Struct (get_or b 1 0 * 256 + get_or b 2 0) (get_or b 3 0))) else (if eqb k 12 then (Some (link.Some (get_or b 1 0 * 256 + get_or b 2 0))) else None))

link_is : (s : Site) → link_of s ≡ link_at (kind s) (body s)
unfolding link_of kind body body_by two
link_is (const_bool t v) = refl
link_is (const_int t h l) = refl
link_is (const_prim v) = refl
link_is (argument i) = refl
link_is (extractor t s) = refl
link_is (constructor t n l) = refl
link_is (iterator s) = refl
link_is (make_variant t v l) = refl
link_is (match_variant s v f) = let e : s ≡ s / 256 * 256 + s % 256 = omega arith in let g : v ≡ v / 256 * 256 + v % 256 = omega arith in cc
link_is (make_struct t l) = refl
link_is (extract_struct s f) = let e : s ≡ s / 256 * 256 + s % 256 = omega arith in cc
link_is (make_some s) = refl
link_is (match_some s) = let e : s ≡ s / 256 * 256 + s % 256 = omega arith in cc
link_is (match_tuple s f) = refl

module _ (b : List ℕ) (f : Bytes b) (e : is_body b ≡ true) where
  term_here : (k : ℕ) → get_or b 0 0 ≡ k → term_of (site_of b) ≡ term_at k b
  term_here k q = let l = laid_in b f e in term_is (site_of b) ∙ rw (← l.kind_is, l.is, q)

  pub term_four : (r : ℕ) → get_or b 0 0 ≡ 4 → r ≡ get_or b 1 0 * 256 + get_or b 2 0 → Some r ≡ found_as (term_of (site_of b))
  term_four r q w = rw (term_here 4 q, w)

  pub term_five : (r : ℕ) → get_or b 0 0 ≡ 5 → r ≡ get_or b 1 0 * 256 + get_or b 2 0 → Some r ≡ found_as (term_of (site_of b))
  term_five r q w = rw (term_here 5 q, w)

  pub term_other : (get_or b 0 0 ≡ 4 → ⊥) → (get_or b 0 0 ≡ 5 → ⊥) → None ≡ found_as (term_of (site_of b))
  term_other x y = rw (term_here (get_or b 0 0) refl, ne_eqb (get_or b 0 0) 4 x, ne_eqb (get_or b 0 0) 5 y)

  link_here : (k : ℕ) → get_or b 0 0 ≡ k → link_of (site_of b) ≡ link_at k b
  link_here k q = let l = laid_in b f e in link_is (site_of b) ∙ rw (← l.kind_is, l.is, q)

  pub link_variant : (r v g : ℕ) → get_or b 0 0 ≡ 8 → r ≡ get_or b 1 0 * 256 + get_or b 2 0 → v ≡ get_or b 3 0 * 256 + get_or b 4 0 → g ≡ get_or b 5 0 → (Some (link.Variant r v g)) ≡ link_of (site_of b)
  link_variant r v g q w u h = rw (link_here 8 q, w, u, h)

  pub link_struct : (r g : ℕ) → get_or b 0 0 ≡ 10 → r ≡ get_or b 1 0 * 256 + get_or b 2 0 → g ≡ get_or b 3 0 → (Some (link.Struct r g)) ≡ link_of (site_of b)
  link_struct r g q w h = rw (link_here 10 q, w, h)

  pub link_some : (r : ℕ) → get_or b 0 0 ≡ 12 → r ≡ get_or b 1 0 * 256 + get_or b 2 0 → (Some (link.Some r)) ≡ link_of (site_of b)
  link_some r q w = rw (link_here 12 q, w)

  pub link_other : (get_or b 0 0 ≡ 8 → ⊥) → (get_or b 0 0 ≡ 10 → ⊥) → (get_or b 0 0 ≡ 12 → ⊥) → None ≡ link_of (site_of b)
  link_other x y z = rw (link_here (get_or b 0 0) refl, ne_eqb (get_or b 0 0) 8 x, ne_eqb (get_or b 0 0) 10 y, ne_eqb (get_or b 0 0) 12 z)

-- the parent is the link's source
abbrev source_of : Maybe Link → Option ℕ
source_of (Some (link.Variant s v f)) = some s
source_of (Some (link.Struct s f)) = some s
source_of (Some (link.Some s)) = some s
source_of None = none

pub parent_is : (s : Site) → parent s ≡ source_of (link_of s)
unfolding parent link_of
parent_is (const_bool t v) = refl
parent_is (const_int t h l) = refl
parent_is (const_prim v) = refl
parent_is (argument i) = refl
parent_is (extractor t s) = refl
parent_is (constructor t n l) = refl
parent_is (iterator s) = refl
parent_is (make_variant t v l) = refl
parent_is (match_variant s v f) = refl
parent_is (make_struct t l) = refl
parent_is (extract_struct s f) = refl
parent_is (make_some s) = refl
parent_is (match_some s) = refl
parent_is (match_tuple s f) = refl

pub parent_by : (s : Site) (l : Maybe Link) → l ≡ link_of s → found_as (source_of l) ≡ found_as (parent s)
parent_by s l e = rw (parent_is s, e)

-- ---- may it be added
pub found_some : (o : Option ℕ) (s : ℕ) → found_as o ≡ Some s → o ≡ some s
found_some none s e = let z : ◌≡◌ {A = ℕ} 0 1 = cc in absurd (omega arith)
found_some (some n) s e = let z : n ≡ s = cc in ap some z

pub found_none : (o : Option ℕ) → found_as o ≡ None → o ≡ none
found_none none e = refl
found_none (some n) e = let z : ◌≡◌ {A = ℕ} 0 1 = cc in absurd (omega arith)

pub judge_none : (b : List ℕ) (n at : ℕ) → is_body b ≡ false → Err (Layout at) ≡ verdict_as (admits_body n at (whole (site_read b)))
judge_none b n at e = rw (read_none b e)

module _ (b : List ℕ) (f : Bytes b) (e : is_body b ≡ true) (n at o k : ℕ) (p : o ≡ off_of b) (q : k ≡ many_of b) where
  s : Site
  s = site_of b

  sources_are : words k (drop o b) ≡ sources s
  unfolding s
  sources_are = rw (p, q) (laid_in b f e).read

  count_is : length (sources s) ≡ k
  unfolding s
  count_is = sym (q ∙ (laid_in b f e).many)

  admits_is : verdict_as (admits_body n at (whole (site_read b))) ≡ verdict_as (admits n at s)
  unfolding s
  admits_is = rw (read_some b e)

  pub judge_fits : o + 2 * k ≤ length b
  judge_fits = let l = laid_in b f e in omega (arith, l.size)

  pub judge_unknown : (r : Maybe ℕ) (x : ℕ) → r ≡ found_as (missing n (words k (drop o b))) → r ≡ Some x → Err (Unknown x) ≡ verdict_as (admits_body n at (whole (site_read b)))
  unfolding admits
  judge_unknown r x u v =
      let w : missing n (sources s) ≡ some x = ap (missing n) (sym sources_are) ∙ found_some _ x (sym u ∙ v) in
      sym (admits_is ∙ rw w)

  module _ (r : Maybe ℕ) (u : r ≡ found_as (missing n (words k (drop o b)))) (v : r ≡ None) where
    none_missing : missing n (sources s) ≡ none
    none_missing = ap (missing n) (sym sources_are) ∙ found_none _ (sym u ∙ v)

    pub judge_sources : max_sources < k → Err (TooManySources k at) ≡ verdict_as (admits_body n at (whole (site_read b)))
    unfolding admits
    judge_sources h = sym (admits_is ∙ rw (none_missing, count_is, lt-leb k max_sources h))

    module _ (h : k ≤ max_sources) (t : Maybe ℕ) (y : t ≡ found_as (term_of (site_of b))) where
      to_term : verdict_as (admits_body n at (whole (site_read b))) ≡ verdict_as (term_fits (term_of s))
      unfolding admits
      to_term = admits_is ∙ rw (none_missing, count_is, le-leb k max_sources h)

      pub judge_no_term : t ≡ None → (Ok tt) ≡ verdict_as (admits_body n at (whole (site_read b)))
      unfolding s
      judge_no_term z = sym (to_term ∙ rw (found_none (term_of s) (sym y ∙ z)))

      pub judge_high : (x : ℕ) → t ≡ Some x → max_term < x → Err (TermTooHigh x) ≡ verdict_as (admits_body n at (whole (site_read b)))
      unfolding s
      judge_high x z l = sym (to_term ∙ rw (found_some (term_of s) x (sym y ∙ z), lt-leb x max_term l))

      pub judge_term : (x : ℕ) → t ≡ Some x → x ≤ max_term → (Ok tt) ≡ verdict_as (admits_body n at (whole (site_read b)))
      unfolding s
      judge_term x z l = sym (to_term ∙ rw (found_some (term_of s) x (sym y ∙ z), le-leb x max_term l))
