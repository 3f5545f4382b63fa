-- The code's answers in paper's words: what each call leaves and answers, on any state. "Every refusal leaves .. all lent memory unchanged."
use Rattle.std.specs.declared.result.Result.TheVariants.{Err, Ok}
use Rattle.std.specs.declared.option.Option.TheVariants.{None, Some}
use Rattle.std.specs.Prelude.{◌≡◌, Bool, true, false, not, List, ◌++◌, ℕ, ◌+◌, length, set, drop, eqb, leb}
use Rattle.paper.specs.Answered.{Maybe}
use Rattle.std.specs.Prelude.{if◌then◌else◌}
use Rattle.paper.specs.Numbers.{max_sites, Outcome, done, refused}
use Rattle.paper.specs.Classes.{Classes, Trail, find_in, Flattened, find_mut, Rooted, enter, merge, Swept, Removed, remove_set_of}
use Rattle.classes.specs.declared.Trail as T
use Rattle.classes.specs.Called.{Looked}
use Rattle.paper.specs.Answered.{Answer}
use Rattle.classes.specs.Called.{Taken}
use Rattle.classes.specs.declared.Untaken.TheVariants as K

abbrev pub root_in : Classes → ℕ → Rooted
root_in c r = record { after = c; root = r }

-- the site that stands for x's class: x itself where it is in none
abbrev pub or_self : ℕ → Maybe ℕ → ℕ
or_self x (Some r) = r
or_self x None = x

unfoldable pub rep : List ℕ → ℕ → ℕ
rep p x = or_self x (find_in p x).found

abbrev pub trail_of : Trail → T.Trail
trail_of t = record { found = t.found; links = t.links }

abbrev pub looked : Outcome Trail → Looked
looked (done t) = Ok (trail_of t)
looked (refused e) = Err e

abbrev pub sought_by : Classes → Outcome Flattened → Classes × Answer (Maybe ℕ)
sought_by c (done h) = (h.after, Ok h.found)
sought_by c (refused e) = (c, Err e)

abbrev pub sought : Classes → ℕ → Classes × Answer (Maybe ℕ)
sought c x = sought_by c (find_mut c x)

-- whether x and y are in two classes before they are joined, a site of no class being one of its own
unfoldable pub two_classes : Classes → ℕ → ℕ → Bool
two_classes c x y = not (eqb (enter c x).root (enter (enter c x).after y).root)

abbrev pub joined_by : Classes → Bool → Outcome Classes → Classes × Answer Bool
joined_by c two (done d) = (d, Ok two)
joined_by c two (refused e) = (c, Err e)

abbrev pub joined : Classes → ℕ → ℕ → Classes × Answer Bool
joined c x y = joined_by c (two_classes c x y) (merge c x y)

abbrev pub same : Outcome Bool → Answer Bool
same (done b) = Ok b
same (refused e) = Err e

-- y is listed after n others, if it is to be
abbrev pub noted : List ℕ → ℕ → Bool → ℕ → List ℕ × ℕ
noted m n b y = if b then (set m n y, n + 1) else (m, n)

-- the members stand first in the lent memory, and the rest is as it was
abbrev pub over : List ℕ → List ℕ → List ℕ
over m xs = xs ++ drop (length xs) m

pub record Sweeps (s : Swept) (m p' m' : List ℕ) (n : ℕ) : Type 0 where
  pub parents : p' ≡ s.parents
  pub members : m' ≡ over m s.members
  pub number : n ≡ length s.members

abbrev pub taken_by : Classes → List ℕ → Outcome Removed → Classes × List ℕ × Taken
taken_by c m (done q) = (q.after, over m q.members, Ok (length q.members))
taken_by c m (refused e) = (c, m, (Err (K.Refused e)))

-- "Removing returns the members ascending, or none", all of them: where the list that is lent could not hold every site, nothing is done.
abbrev pub taken_if : Bool → Classes → List ℕ → Outcome Removed → Classes × List ℕ × Taken
taken_if true c m o = taken_by c m o
taken_if false c m o = (c, m, (Err K.Short))

abbrev pub taken : Classes → List ℕ → ℕ → Classes × List ℕ × Taken
taken c m x = taken_if (leb max_sites (length m)) c m (remove_set_of c x)
