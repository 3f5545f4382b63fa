-- The holders and the equalities that the lent lists tell, and the class check of them.
use Rattle.std.specs.declared.result.Result.TheVariants.{Err, Ok}
use Rattle.std.specs.Prelude.{ℕ, ◌+◌, ◌*◌, ◌/◌, ◌<◌, min, get_or, length, leb}
use Rattle.std.proofs.Math.Option.{Option, none, some}
use mathlib.Core.List.{List, [], ◌++◌, foldl}
use Rattle.paper.specs.declared.Constraint.{Constraint}
use Rattle.paper.specs.declared.Refusal.TheVariants.{Unknown}
use Rattle.paper.specs.Words.{first, below}
use Rattle.paper.specs.Numbers.{max_sites, max_fields, Outcome, done, refused, ◌>>=◌}
use Rattle.paper.specs.Sites.{child_count}
use Rattle.paper.specs.Classes.{Classes, merge}
use Rattle.paper.specs.Loading.{Holder, closure_of, conflict, check_4, steps, endless, no_endless}
use Rattle.rule_words.specs.Stored.{constraint_at}
use Rattle.paper.specs.Answered.{Verdict}

-- Holder h is the site sites[h] under row rows[h]. Row i has its constraint in the three words from 3 * i, and its children, as many as its
-- constraint has, from kids[8 * i]. What lies past the end of a list is 0.
pub record Held : Type 0 where
  pub sites : List ℕ
  pub rows : List ℕ
  pub words : List ℕ
  pub kids : List ℕ

abbrev pub held : List ℕ → List ℕ → List ℕ → List ℕ → Held
held s r w k = record { sites = s; rows = r; words = w; kids = k }

-- without children, and without sites
abbrev pub bare : List ℕ → List ℕ → List ℕ → Held
bare s r w = held s r w []

abbrev pub chart : List ℕ → List ℕ → List ℕ → Held
chart r w k = held [] r w k

unfoldable pub shape_in : List ℕ → ℕ → Constraint
shape_in words i = constraint_at words (3 * i)

-- a constraint of more than max-fields fields is read as one of max-fields
unfoldable pub kid_count : List ℕ → ℕ → ℕ
kid_count words i = min (child_count (shape_in words i)) max_fields

unfoldable pub kid_in : List ℕ → ℕ → ℕ → ℕ
kid_in kids i f = get_or kids (max_fields * i + f) 0

abbrev pub site_of : Held → ℕ → ℕ
site_of H h = get_or H.sites h 0

abbrev pub row_of : Held → ℕ → ℕ
row_of H h = get_or H.rows h 0

abbrev pub shape_of : Held → ℕ → Constraint
shape_of H h = shape_in H.words (row_of H h)

abbrev pub count_of : Held → ℕ → ℕ
count_of H h = kid_count H.words (row_of H h)

abbrev pub kid_of : Held → ℕ → ℕ → ℕ
kid_of H h f = kid_in H.kids (row_of H h) f

abbrev pub holder_in : Held → ℕ → Holder
holder_in H h = record { site = site_of H h; shape = shape_of H h; kids = below (count_of H h) (kid_of H h) }

-- the first m of them
unfoldable pub holders_to : Held → ℕ → List Holder
holders_to H m = below m (holder_in H)

-- Different sites are at most max-sites, so what stands past them in the list is not looked at.
abbrev pub how_many : Held → ℕ
how_many H = min (length H.sites) max_sites

abbrev pub holders_in : Held → List Holder
holders_in H = holders_to H (how_many H)

-- all numbers of a list are sites
abbrev pub Inside : List ℕ → Type 0
Inside xs = (k : ℕ) → get_or xs k 0 < max_sites

-- two numbers each
abbrev pub eq_at : List ℕ → ℕ → ℕ × ℕ
eq_at eqs k = (get_or eqs (2 * k) 0, get_or eqs (2 * k + 1) 0)

unfoldable pub eqs_in : List ℕ → List (ℕ × ℕ)
eqs_in eqs = below (length eqs / 2) (eq_at eqs)

-- "4 if a class holds differing constraints .. 6 if a walk from class to class .. returns to its start": the two lines of paper's `normalise`
unfoldable pub class_check : List (ℕ × ℕ) → List Holder → Outcome (Unit {0})
class_check eqs hs = do
  _ ← (let k = closure_of max_sites eqs hs in check_4 k hs (conflict k hs))
  (let k = closure_of max_sites eqs hs in no_endless (endless (steps k hs)))

-- "In a class call the first site number of 1,024 or more is 2, before all else."
unfoldable pub stray : List ℕ → Option ℕ
stray xs = first (leb max_sites) xs

abbrev pub no_stray : Option ℕ → Outcome (Unit {0})
no_stray none = done tt
no_stray (some n) = refused (Unknown n)

unfoldable pub checked : List ℕ → Held → Outcome (Unit {0})
checked eqs H = no_stray (stray (eqs ++ (H.sites ++ H.kids))) >>= λ _. class_check (eqs_in eqs) (holders_in H)

abbrev pub verdict_of : Verdict → Outcome (Unit {0})
verdict_of (Ok _) = done tt
verdict_of (Err e) = refused e

-- Equalities joined in order; one that a join refuses changes nothing.
abbrev pub kept_by : Classes → Outcome Classes → Classes
kept_by c (done d) = d
kept_by c (refused e) = c

unfoldable pub merged : Classes → ℕ × ℕ → Classes
merged c e = kept_by c (merge c e.0 e.1)

unfoldable pub merge_each : Classes → List (ℕ × ℕ) → Classes
merge_each c es = foldl merged c es
