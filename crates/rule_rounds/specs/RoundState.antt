-- What stands between two steps of the rounds: the lent lists and the lent classes tell a solving of paper.
use Rattle.std.specs.declared.result.Result.TheVariants.{Err, Ok}
use Rattle.std.specs.Prelude.{◌≡◌, List, ℕ, suc, ◌+◌, ◌<◌, ◌≤◌, min, length, get_or, set, replicate, eqb}
use Rattle.std.proofs.Math.Option.{none, some}
use Rattle.paper.specs.declared.Constraint.{Constraint}
use Rattle.paper.specs.declared.Refusal.{Refusal}
use Rattle.paper.specs.declared.Refusal.TheVariants.{TooManySites}
use Rattle.std.specs.Prelude.{if◌then◌else◌}
use Rattle.paper.specs.Words.{below, put, look}
use Rattle.paper.specs.Numbers.{max_sites, max_fields, max_equal, Outcome, done, refused, ◌>>=◌}
use Rattle.paper.specs.Sites.{Sites, child_count, child, children, number_of, add_all}
use Rattle.paper.proofs.Tables.{Rising}
use Rattle.paper.specs.Loading.{Constraints, Labels, Solving, lowest, join_all, like_children, take_class, grow_all, give_all, join_children}
use Rattle.classes.specs.Answers.{rep}
use Rattle.classes.specs.Well.{has_up}
use Rattle.rule_children.specs.Tail.{table}
use Rattle.rule_rows.specs.Holding.{shape_in}
use Rattle.rule_lists.specs.Entries.{entries}
use Rattle.rule_lists.specs.Among.{Among, Climbs}
use Rattle.rule_hanging.specs.Seen.{shown}
use Rattle.class_labels.specs.Tied.{Tied}
use Rattle.class_labels.specs.Rows.{row}
use Rattle.class_labels.specs.Taking.{LabelsBelow}
use Rattle.rule_laid.specs.Laid.{GoodRow}
use Rattle.rule_rounds.specs.Rounding.{Listed, Scant}
use Rattle.rule_rounds.specs.declared.Solved.{Solved}
use Rattle.rule_rounds.specs.Halted.{Halted}
use Rattle.rule_rounds.specs.declared.Halt.TheVariants as halt
use Rattle.rule_rounds.specs.declared.Space.{Space}
use Rattle.rule_rounds.specs.declared.Space.TheVariants as space
use Rattle.rule_rounds.specs.declared.Stage.{Stage}
use Rattle.rule_rounds.specs.declared.Grown.{Grown}
use Rattle.rule_rounds.specs.declared.Picked.{Picked}

-- ---- room

-- "7": one site more than a set has
abbrev pub full : ℕ → Refusal
full at = TooManySites (suc max_sites) at

-- what is told of it
abbrev pub halt_of : ℕ → Space → Halted
halt_of at space.Enough = Ok tt
halt_of at space.Short = Err halt.Short
halt_of at space.Full = Err (halt.Refused (full at))

abbrev pub solved_of : ℕ → Stage → Solved
solved_of at s = record { tail = s.tail; held = s.held; equal = s.equal; answer = halt_of at s.room }

-- what is known, unless the lent lists were too short
pub record IfRoom (a : Space) (tail sites : List ℕ) (P : Type 0) : Type 0 where
  pub short : a ≡ space.Short → Scant tail sites
  pub told : (a ≡ space.Short → ⊥) → P

-- ---- the lists

pub record Laid (n : ℕ) (tail : List ℕ) (t : ℕ) (sites rows words : List ℕ) (held : ℕ) : Type 0 where
  pub long : t ≤ length tail
  pub fits : n + t ≤ max_sites
  pub long_sites : held ≤ length sites
  pub long_rows : length sites ≤ length rows
  pub rising : Rising 0 (shown sites rows words held)
  pub inside : (i : ℕ) → i < held → get_or sites i 0 < n + t
  pub good : (i : ℕ) → i < held → GoodRow words (get_or rows i 0)

-- the first `many` of js are sites, ascending
pub record Lined (js : List ℕ) (many : ℕ) : Type 0 where
  pub long : many ≤ length js
  pub climbs : Climbs js many
  pub inside : (i : ℕ) → i < many → get_or js i 0 < max_sites

-- i of xs were listed with them
pub record Lining (js : List ℕ) (many : ℕ) (xs : List ℕ) (i : ℕ) (js' : List ℕ) (many' : ℕ) : Type 0 where
  pub lined : Lined js' many'
  pub same : length js' ≡ length js
  pub stay : (z : ℕ) → Among js many z → Among js' many' z
  pub here : (k : ℕ) → k < i → Among js' many' (get_or xs k 0)
  pub most : many' ≤ many + i

-- every joined site is listed; others may be
abbrev pub Covers : List ℕ → List ℕ → ℕ → Type 0
Covers p js many = (z : ℕ) → z < max_sites → get_or p z 0 < max_sites → Among js many z

-- the lists and the classes tell s
pub record Stood (m : List ℕ) (n : ℕ) (tail : List ℕ) (t : ℕ) (sites rows words : List ℕ) (held : ℕ) (p r : List ℕ) (c : ℕ) (js : List ℕ) (many : ℕ)
    (s : Solving) : Type 0 where
  pub laid : Laid n tail t sites rows words held
  pub sites_are : table m n tail t ≡ s.sites
  pub constraints_are : shown sites rows words held ≡ s.constraints
  pub tied : Tied p r c s.classes
  pub labelled : LabelsBelow s.classes (n + t)
  pub lined : Lined js many
  pub among : (z v : ℕ) → look s.classes z ≡ some v → Among js many z
  pub wide : length sites ≤ length js

-- how a step ends: as paper's does
abbrev pub Ends : ℕ → List ℕ → ℕ → List ℕ → List ℕ → List ℕ → List ℕ → List ℕ → List ℕ → ℕ → List ℕ → Stage → Outcome Solving → Type 0
Ends at m n tail sites rows words p r c js x (done s) = (x.room ≡ space.Enough) × Stood m n tail x.tail sites rows words x.held p r c js x.equal s
Ends at m n tail sites rows words p r c js x (refused e) = (x.room ≡ space.Full) × (e ≡ full at)

-- all that a round reads and writes
pub record State : Type 0 where
  pub m : List ℕ
  pub n : ℕ
  pub tail : List ℕ
  pub sites : List ℕ
  pub rows : List ℕ
  pub words : List ℕ
  pub p : List ℕ
  pub r : List ℕ
  pub c : ℕ
  pub joined : List ℕ

abbrev pub state : List ℕ → ℕ → List ℕ → List ℕ → List ℕ → List ℕ → List ℕ → List ℕ → ℕ → List ℕ → State
state m n tail sites rows words p r c js = record { m = m; n = n; tail = tail; sites = sites; rows = rows; words = words; p = p; r = r; c = c; joined = js }

-- it tells v, with the numbers of s
abbrev pub Stands : State → Stage → Solving → Type 0
Stands w s v = Stood w.m w.n w.tail s.tail w.sites w.rows w.words s.held w.p w.r w.c w.joined s.equal v

-- and is where paper's step ends
abbrev pub Comes : ℕ → State → Stage → Outcome Solving → Type 0
Comes at w s o = Ends at w.m w.n w.tail w.sites w.rows w.words w.p w.r w.c w.joined s o

-- ---- one constraint for one member

-- room for the children of one more site, and for that site
pub record Spare (tail : List ℕ) (t : ℕ) (sites : List ℕ) (held : ℕ) : Type 0 where
  pub words : min max_sites (t + max_fields) ≤ length tail
  pub site : held < max_sites → held < length sites

-- the lists have room to put s
pub record Roomy (sites rows : List ℕ) (held s : ℕ) : Type 0 where
  pub room : held < max_sites → held < length sites
  pub long_sites : held ≤ length sites
  pub long_rows : length sites ≤ length rows
  pub rising : Rising 0 (entries sites rows held)
  pub inside : (i : ℕ) → i < held → get_or sites i 0 < max_sites
  pub site : s < max_sites

-- the numbers of the children of s under c in t, by field
abbrev pub Kids : Sites → ℕ → Constraint → List ℕ → Type 0
Kids t s c of = (f : ℕ) → f < child_count c → number_of t (child s c f) ≡ some (get_or of f 0)

pub record Grew (m : List ℕ) (n t : ℕ) (sites rows words : List ℕ) (held row x : ℕ) (tail' sites' rows' : List ℕ) (g : Grown) (u : Sites) : Type 0 where
  pub laid : Laid n tail' g.state.tail sites' rows' words g.state.held
  pub more : t ≤ g.state.tail
  pub sites_are : table m n tail' g.state.tail ≡ u
  pub shown_are : shown sites' rows' words g.state.held ≡ put x (shape_in words row) (shown sites rows words held)
  pub kids : Kids u x (shape_in words row) g.kids
  pub eight : length g.kids ≡ max_fields

abbrev pub Grows : ℕ → List ℕ → ℕ → ℕ → List ℕ → List ℕ → List ℕ → ℕ → ℕ → ℕ → List ℕ → List ℕ → List ℕ → Grown → Outcome Sites → Type 0
Grows at m n t sites rows words held row x tail' sites' rows' g (done u) = (g.state.room ≡ space.Enough)
    × Grew m n t sites rows words held row x tail' sites' rows' g u
Grows at m n t sites rows words held row x tail' sites' rows' g (refused e) = (g.state.room ≡ space.Full) × (e ≡ full at)

-- ---- like-numbered children

abbrev pub pair_of : List ℕ → List ℕ → ℕ → ℕ × ℕ
pair_of a b f = (get_or a f 0, get_or b f 0)

abbrev pub InTable : List ℕ → ℕ → Type 0
InTable a count = (f : ℕ) → f < count → get_or a f 0 < max_sites

abbrev pub JoinsKids : List ℕ → List ℕ → ℕ → List ℕ → List ℕ → ℕ → List ℕ → List ℕ → ℕ → Type 0
JoinsKids p r c a b count p' r' c' = (k : Labels) → Tied p r c k → InTable a count → InTable b count → Tied p' r' c' (join_all k (below count (pair_of a b)))

-- ---- the members

-- one member more, x, after the lowest
unfoldable pub step_of : ℕ → ℕ → Constraint → ℕ → Solving → Outcome Solving
step_of at low c x s =
    add_all s.sites at (children x c) >>= λ u.
    done (record { sites = u; constraints = put x c s.constraints; classes = join_all s.classes (like_children u low x c) })

-- and all that are left: paper's `round` from there on
unfoldable pub left : ℕ → ℕ → Constraint → List ℕ → Solving → Outcome Solving
left at low c ns s =
    grow_all s.sites at ns c >>= λ u.
    done (record { sites = u; constraints = give_all ns c s.constraints; classes = join_children u low c ns s.classes })

-- the lowest member is low, with its children `of`
pub record Led (m : List ℕ) (n : ℕ) (tail : List ℕ) (t : ℕ) (sites rows words : List ℕ) (held : ℕ) (p r : List ℕ) (c : ℕ) (js : List ℕ) (many : ℕ)
    (of : List ℕ) (row low : ℕ) (s : Solving) : Type 0 where
  pub stood : Stood m n tail t sites rows words held p r c js many s
  pub good : GoodRow words row
  pub kids : Kids s.sites low (shape_in words row) of

abbrev pub Leads : State → Stage → List ℕ → ℕ → ℕ → Solving → Type 0
Leads w s of row low v =
    Led w.m w.n w.tail s.tail w.sites w.rows w.words s.held w.p w.r w.c w.joined s.equal of row low v

abbrev pub Within : List ℕ → ℕ → Type 0
Within ms b = (i : ℕ) → i < length ms → get_or ms i 0 < b

-- ---- the next class

-- no row: what is noted where nothing is
abbrev pub no_row : ℕ
no_row = 65535

-- nothing is noted
abbrev pub Unmarked : List ℕ → Type 0
Unmarked l = l ≡ replicate max_sites no_row

pub record Sights (p sites rows : List ℕ) (held : ℕ) : Type 0 where
  pub reps : (x : ℕ) → x < max_sites → rep p x < max_sites
  pub long_sites : held ≤ length sites
  pub long_rows : held ≤ length rows
  pub inside : (i : ℕ) → i < held → get_or sites i 0 < max_sites
  pub small : (i : ℕ) → i < held → get_or rows i 0 < no_row

-- noted has, by root, the row of the first of i constrained sites of its class
pub record Noted (p sites rows : List ℕ) (i : ℕ) (noted : List ℕ) : Type 0 where
  pub long : length noted ≡ max_sites
  pub none : (z : ℕ) → z < max_sites → get_or noted z 0 ≡ no_row → (j : ℕ) → j < i → rep p (get_or sites j 0) ≡ z → ⊥
  pub some : (z : ℕ) → z < max_sites → (get_or noted z 0 ≡ no_row → ⊥) → (j : ℕ) × (j < i) × (rep p (get_or sites j 0) ≡ z)
      × (get_or noted z 0 ≡ get_or rows j 0) × ((h : ℕ) → h < j → rep p (get_or sites h 0) ≡ z → ⊥)

-- only roots of the constrained sites from i on are noted at
pub record Stained (p sites : List ℕ) (i held : ℕ) (noted : List ℕ) : Type 0 where
  pub long : length noted ≡ max_sites
  pub stain : (z : ℕ) → z < max_sites → (get_or noted z 0 ≡ no_row → ⊥) → (j : ℕ) × (i ≤ j) × (j < held) × (rep p (get_or sites j 0) ≡ z)

abbrev pub marked : List ℕ → ℕ → ℕ → List ℕ
marked l z row = if eqb (get_or l z 0) no_row then set l z row else l

-- the first site that is joined and whose class has a row
pub record Picks (p noted : List ℕ) (x : Picked) : Type 0 where
  pub before : (z : ℕ) → z < max_sites → z < x.low → get_or p z 0 < max_sites → get_or noted (rep p z) 0 ≡ no_row
  pub here : x.low < max_sites → (get_or p x.low 0 < max_sites) × (get_or noted (rep p x.low) 0 ≡ x.row) × (x.row ≡ no_row → ⊥)

pub record Chosen (k : Labels) (cs : Constraints) (rows words : List ℕ) (held : ℕ) (x : Picked) : Type 0 where
  pub none : max_sites ≤ x.low → take_class k cs k ≡ none
  pub some : x.low < max_sites → (take_class k cs k ≡ some (x.low, shape_in words x.row)) × (look k x.low ≡ some x.low)
      × ((i : ℕ) × (i < held) × (x.row ≡ get_or rows i 0))

abbrev pub Chooses : List ℕ → List ℕ → List ℕ → ℕ → Picked → Type 0
Chooses p sites rows held x = (words r : List ℕ) (c : ℕ) (k : Labels) → Tied p r c k → Chosen k (shown sites rows words held) rows words held x

-- ---- the equal sites

-- the lowest member of a class by its root: the one that is known, or x
pub record Lows (l : List ℕ) (root x : ℕ) (l' : List ℕ) (r : ℕ) : Type 0 where
  pub known : get_or l root 0 < max_sites → (r ≡ get_or l root 0) × (l' ≡ l)
  pub new : max_sites ≤ get_or l root 0 → (r ≡ x) × (l' ≡ set l root x)

-- x was listed as number k, if there is room
pub record Lists (equal low : List ℕ) (k x l : ℕ) (equal' low' : List ℕ) : Type 0 where
  pub room : k < max_equal → (equal' ≡ set equal k x) × (low' ≡ set low k l)
  pub full : max_equal ≤ k → (equal' ≡ equal) × (low' ≡ low)

-- of the sites below x the joined ones are listed, k of them
pub record Upto (p lows equal low : List ℕ) (k x : ℕ) (ls : Labels) : Type 0 where
  pub long_lows : length lows ≡ max_sites
  pub long_equal : length equal ≡ max_equal
  pub long_low : length low ≡ max_equal
  pub number : k ≡ length (row x (lowest ls) (has_up p))
  pub listed : Listed equal low (row x (lowest ls) (has_up p))
  pub met : (y : ℕ) → y < x → get_or p y 0 < max_sites → get_or lows (rep p y) 0 ≡ lowest ls y
  pub only : (z : ℕ) → z < max_sites → get_or lows z 0 < max_sites → (y : ℕ) × (y < x) × (get_or p y 0 < max_sites) × (rep p y ≡ z)

abbrev pub Enlists : List ℕ → List ℕ → List ℕ → List ℕ → ℕ → ℕ → List ℕ → List ℕ → List ℕ → ℕ → Type 0
Enlists p lows equal low k x lows' equal' low' k' = (r : List ℕ) (c : ℕ) (ls : Labels) → Tied p r c ls → Upto p lows equal low k x ls
    → Upto p lows' equal' low' k' (x + 1) ls
