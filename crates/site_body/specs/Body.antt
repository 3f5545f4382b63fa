-- One body of a site: its layout by tables, what bytes are read as, and whether it may be added. Definitions only.
use Rattle.std.specs.declared.result.Result.TheVariants.{Err, Ok}
use Rattle.std.specs.declared.option.Option.TheVariants.{None, Some}
use Rattle.std.specs.Prelude.{Bool, true, false, not, List, [], ◌∷◌, ℕ, zero, suc, ◌+◌, ◌-◌, ◌*◌, length, get_or, ltb, leb}
use Rattle.std.proofs.Math.Option.{Option, none, some}
use Rattle.paper.specs.Answered.{Maybe}
use Rattle.paper.specs.declared.Refusal.TheVariants.{Layout, TooManySources}
use Rattle.paper.specs.Answered.{Verdict}
use Rattle.paper.specs.Words.{or_else, first}
use Rattle.paper.specs.Numbers.{max_sources, Outcome, done, refused, ◌>>=◌, demand}
use Rattle.paper.specs.Layout.{whole, site_read}
use Rattle.paper.specs.Sites.{Site, const_bool, const_int, const_prim, argument, extractor, constructor, iterator, make_variant, match_variant, make_struct, extract_struct, make_some, match_some, match_tuple, sources, term_of, missing_source, term_fits}
use Rattle.site_body.specs.declared.Link.{Link}
use Rattle.site_body.specs.declared.Link.TheVariants as link

-- ---- the layout, by tables

-- by kind: where the sources begin, or where the body ends if it has none
abbrev pub offs : List ℕ
offs = 4 ∷ 19 ∷ 3 ∷ 2 ∷ 3 ∷ 8 ∷ 1 ∷ 6 ∷ 1 ∷ 4 ∷ 1 ∷ 1 ∷ 1 ∷ 1 ∷ []

-- by kind: 0 for no source, 1 for one, 2 where the byte before the sources counts them
abbrev pub ways : List ℕ
ways = 0 ∷ 0 ∷ 0 ∷ 0 ∷ 1 ∷ 2 ∷ 1 ∷ 2 ∷ 1 ∷ 2 ∷ 1 ∷ 1 ∷ 1 ∷ 1 ∷ []

-- by kind: how many bytes follow the sources
abbrev pub tails : List ℕ
tails = 0 ∷ 0 ∷ 0 ∷ 0 ∷ 0 ∷ 0 ∷ 0 ∷ 0 ∷ 3 ∷ 0 ∷ 1 ∷ 0 ∷ 0 ∷ 1 ∷ []

abbrev pub count_by : ℕ → ℕ → ℕ
count_by zero n = 0
count_by (suc zero) n = 1
count_by (suc (suc w)) n = n

-- of a body: where its sources begin, how many they are, how many bytes follow them
unfoldable pub off_of : List ℕ → ℕ
off_of b = get_or offs (get_or b 0 0) 0

unfoldable pub many_of : List ℕ → ℕ
many_of b = count_by (get_or ways (get_or b 0 0) 0) (get_or b (off_of b - 1) 0)

unfoldable pub tail_of : List ℕ → ℕ
tail_of b = get_or tails (get_or b 0 0) 0

-- the first k numbers of two bytes
unfoldable pub words : ℕ → List ℕ → List ℕ
words zero b = []
words (suc k) [] = []
words (suc k) (h ∷ []) = []
words (suc k) (h ∷ l ∷ b) = (h * 256 + l) ∷ words k b

unfoldable pub kind : Site → ℕ
kind (const_bool t v) = 0
kind (const_int t h l) = 1
kind (const_prim v) = 2
kind (argument i) = 3
kind (extractor t s) = 4
kind (constructor t n l) = 5
kind (iterator s) = 6
kind (make_variant t v l) = 7
kind (match_variant s v f) = 8
kind (make_struct t l) = 9
kind (extract_struct s f) = 10
kind (make_some s) = 11
kind (match_some s) = 12
kind (match_tuple s f) = 13

-- ---- what bytes are read as

unfoldable pub is_there : Option Site → Bool
is_there none = false
is_there (some s) = true

-- is it the body of a site?
unfoldable pub is_body : List ℕ → Bool
is_body b = is_there (whole (site_read b))

-- What bytes are read as that are no body: an Iterator of site 65,535, which no table has. So it is never a site that may be added.
abbrev pub no_site : Site
no_site = iterator 65535

unfoldable pub site_of : List ℕ → Site
site_of b = or_else (whole (site_read b)) no_site

-- an answer that may be missing
abbrev pub found_as : Option ℕ → Maybe ℕ
found_as none = None
found_as (some n) = Some n

-- the source of a site that can be a child, with its variant and its field
unfoldable pub link_of : Site → Maybe Link
link_of (const_bool t v) = None
link_of (const_int t h l) = None
link_of (const_prim v) = None
link_of (argument i) = None
link_of (extractor t s) = None
link_of (constructor t n l) = None
link_of (iterator s) = None
link_of (make_variant t v l) = None
link_of (match_variant s v f) = Some (link.Variant s v f)
link_of (make_struct t l) = None
link_of (extract_struct s f) = Some (link.Struct s f)
link_of (make_some s) = None
link_of (match_some s) = Some (link.Some s)
link_of (match_tuple s f) = None

-- ---- may it be added

-- the first source that n sites do not have
unfoldable pub missing : ℕ → List ℕ → Option ℕ
missing n l = first (λ k. not (ltb k n)) l

-- "2, then 21 for sources and 28 for the term", of a set of n sites
unfoldable pub admits : ℕ → ℕ → Site → Outcome (Unit {0})
admits n at s = do
  _ ← missing_source (missing n (sources s))
  _ ← demand (leb (length (sources s)) max_sources) (TooManySources (length (sources s)) at)
  term_fits (term_of s)

abbrev pub verdict_as : Outcome (Unit {0}) → Verdict
verdict_as (done a) = Ok tt
verdict_as (refused r) = Err r

-- the same of a body; "not as laid out" before all else
abbrev pub admits_body : ℕ → ℕ → Option Site → Outcome (Unit {0})
admits_body n at none = refused (Layout at)
admits_body n at (some s) = admits n at s
