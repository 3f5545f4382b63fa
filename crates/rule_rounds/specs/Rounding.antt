-- What the rounds need of the lent lists, and what they leave.
use Rattle.std.specs.declared.result.Result.TheVariants.{Err, Ok}
use Rattle.std.specs.declared.option.Option.TheVariants.{None, Some}
use Rattle.std.specs.Prelude.{◌≡◌, ◌⊎◌, List, [], ℕ, ◌+◌, ◌<◌, ◌≤◌, length, get_or}
use Rattle.paper.specs.Numbers.{max_sites, max_equal, most_rounds, Outcome, done, refused}
use Rattle.paper.proofs.Tables.{Rising}
use Rattle.paper.specs.Loading.{Solving, Labels, join_all, rounds}
use Rattle.rule_children.specs.Tail.{table}
use Rattle.rule_rows.specs.Holding.{eqs_in}
use Rattle.rule_laid.specs.Laid.{GoodRow}
use Rattle.rule_hanging.specs.Seen.{shown}
use Rattle.rule_rounds.specs.declared.Solved.{Solved}
use Rattle.rule_rounds.specs.declared.Start.{Start}
use Rattle.paper.specs.Answered.{Maybe}
use Rattle.rule_rounds.specs.Halted.{Halted}
use Rattle.rule_rounds.specs.declared.Halt.TheVariants as halt

-- what the rounds start with
pub record Proper (m : List ℕ) (n : ℕ) (tail : List ℕ) (t : ℕ) (sites rows words : List ℕ) (held : ℕ) (eqs : List ℕ) : Type 0 where
  pub long : t ≤ length tail
  pub fits : n + t ≤ max_sites
  pub long_sites : held ≤ length sites
  pub long_rows : length sites ≤ length rows
  pub rising : Rising 0 (shown sites rows words held)
  pub inside : (i : ℕ) → i < held → get_or sites i 0 < n + t
  pub good : (i : ℕ) → i < held → GoodRow words (get_or rows i 0)
  pub equal : (i : ℕ) → get_or eqs i 0 < max_sites
  pub known : (i : ℕ) → i < length eqs → get_or eqs i 0 < n + t

-- ---- what the public function asks of its lists, and tells of them

-- "over the written equalities joined in item order"
abbrev pub solving : List ℕ → ℕ → List ℕ → ℕ → List ℕ → List ℕ → List ℕ → ℕ → Labels → Solving
solving m n tail t sites rows words held k = record { sites = table m n tail t; constraints = shown sites rows words held; classes = k }

unfoldable pub solved : List ℕ → ℕ → List ℕ → ℕ → ℕ → List ℕ → List ℕ → List ℕ → ℕ → List ℕ → Outcome Solving
solved m n tail t at sites rows words held eqs = rounds most_rounds at (solving m n tail t sites rows words held (join_all [] (eqs_in eqs)))

-- the equal sites with their lowest members; past what the lists can hold they are only counted
pub record Listed (equal low : List ℕ) (k : Labels) : Type 0 where
  pub each : (i : ℕ) → i < length k → i < max_equal → (get_or equal i 0, get_or low i 0) ≡ get_or k i (0, 0)

pub record Solves (m : List ℕ) (n : ℕ) (tail sites rows words equal low : List ℕ) (x : Solved) (s : Solving) : Type 0 where
  pub sites_are : table m n tail x.tail ≡ s.sites
  pub fits : n + x.tail ≤ max_sites
  pub few : x.held ≤ n + x.tail
  pub constraints_are : shown sites rows words x.held ≡ s.constraints
  pub good : (i : ℕ) → i < x.held → GoodRow words (get_or rows i 0)
  pub number : x.equal ≡ length s.classes
  pub classes_are : Listed equal low s.classes
  pub long_tail : x.tail ≤ length tail
  pub long_sites : x.held ≤ length sites
  pub long_rows : x.held ≤ length rows

abbrev pub Rounds : List ℕ → ℕ → List ℕ → List ℕ → List ℕ → List ℕ → List ℕ → List ℕ → Solved → Outcome Solving → Type 0
Rounds m n tail sites rows words equal low x (done s) = (x.answer ≡ Ok tt) × Solves m n tail sites rows words equal low x s
Rounds m n tail sites rows words equal low x (refused e) = x.answer ≡ Err (halt.Refused e)

-- a lent list is shorter than a table may be
abbrev pub Scant : List ℕ → List ℕ → Type 0
Scant tail sites = (length tail < max_sites) ⊎ (length sites < max_sites)

-- what is told, unless the lent lists were too short for the rule: then nothing is known of it
pub record Unless (a : Halted) (tail sites : List ℕ) (P : Type 0) : Type 0 where
  pub short : a ≡ Err halt.Short → Scant tail sites
  pub told : (a ≡ Err halt.Short → ⊥) → P

-- ---- the whole

-- the memory that is lent to the rounds
pub record Memory : Type 0 where
  pub tail : List ℕ
  pub sites : List ℕ
  pub rows : List ℕ
  pub joined : List ℕ
  pub list : List ℕ
  pub equal : List ℕ
  pub low : List ℕ

abbrev pub memory : List ℕ → List ℕ → List ℕ → List ℕ → List ℕ → List ℕ → List ℕ → Memory
memory tail sites rows joined list equal low = record { tail = tail; sites = sites; rows = rows; joined = joined; list = list; equal = equal; low = low }

pub record LaidOut (m : List ℕ) (a : Start) (words eqs : List ℕ) (l : Memory) : Type 0 where
  pub proper : Proper m a.known l.tail a.tail l.sites l.rows words a.held eqs
  pub long_joined : length l.sites ≤ length l.joined
  pub long_list : length l.joined ≤ length l.list

-- what the rounds leave of the lists `l`: `l'`, and what they answer
abbrev pub Leaves : List ℕ → Start → List ℕ → List ℕ → Memory → Memory → Solved → Type 0
Leaves m a words eqs l l' x =
    Unless x.answer l.tail l.sites
    (Rounds m a.known l'.tail l'.sites l'.rows words l'.equal l'.low x
    (solved m a.known l.tail a.tail a.at l.sites l.rows words a.held eqs))

-- Without equalities there is nothing to do. Lists that are not laid out are told, and left as they are.
pub record Turned (m : List ℕ) (a : Start) (words eqs : List ℕ) (l l' : Memory) (z : Maybe Solved) : Type 0 where
  pub laid : LaidOut m a words eqs l → (x : Solved) × (z ≡ Some x) × Leaves m a words eqs l l' x
  pub unlaid : (LaidOut m a words eqs l → ⊥) → 0 < length eqs → (z ≡ None) × (l' ≡ l)
  pub none : length eqs ≡ 0 → (z ≡ Some (record { tail = a.tail; held = a.held; equal = 0; answer = (Ok tt) })) × (l' ≡ l)
