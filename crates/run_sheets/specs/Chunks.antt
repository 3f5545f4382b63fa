-- A file of sheets, in chunks: its lines, one after the other, each taken as `run_lines` says.
use Rattle.std.specs.Prelude.{◌≡◌, ◌⊎◌, Bool, true, List, [], ◌∷◌, ℕ}
use Rattle.paper.specs.Layout.{Lines, nothing, unended, line, lines}
use Rattle.sheet_lines.specs.declared.Held.{Held}
use Rattle.sheet_lines.specs.Held.{no_line, held_more}
use Rattle.sheet_lines.specs.Cut.{line_with}
use Rattle.sheet_reader.specs.State.{Lent}
use Rattle.run_answers.specs.declared.How.{How}
use Rattle.run_lines.specs.declared.Flow.{Flow}
use Rattle.run_lines.specs.Taken.{Overfull, Closed, fresh_flow, is_told, Taken, Unchanged}

-- ---- a chunk
-- where reading and writing stand, with the memory
pub record Standing : Type 0 where
  pub flow : Flow
  pub memory : Lent
  pub room : List ℕ
  pub out : List ℕ

abbrev pub stand : Flow → Lent → List ℕ → List ℕ → Standing
stand f k room out = record { flow = f; memory = k; room = room; out = out }

abbrev pub Takes : How → Bool → List ℕ → Standing → Standing → Type 0
Takes how many l s t = Taken how many s.flow.reader s.flow.marks l s.memory t.memory s.room t.room s.out t.out t.flow

-- its lines one after the other, the first going on from g, which is held; what comes after the last LF is held then
unfoldable pub TookLines : How → Bool → Lines → Held → Standing → Standing → Held → Type 0
TookLines how many nothing g s u h = (u ≡ s) × (h ≡ g)
TookLines how many (unended l) g s u h = (u ≡ s) × (h ≡ held_more g l)
TookLines how many (line l rest) g s u h = (t : Standing) × Takes how many (line_with g l) s t × TookLines how many rest no_line t u h

-- a line whose answer had no room, where the buffer could not be written out: all is as it was
pub record Unwritten (many : Bool) (l : List ℕ) (s : Standing) (k : Lent) (room out : List ℕ) : Type 0 where
  pub same : Unchanged s.memory k s.room room s.out out
  pub overfull : Overfull s.out s.flow.marks.filled
  pub told : is_told many l s.flow.marks ≡ true

-- up to a write that failed: the lines before it are taken, and the memory (k, room, out) is as they left it
unfoldable pub StoppedIn : How → Bool → Lines → Held → Standing → Lent → List ℕ → List ℕ → Type 0
StoppedIn how many nothing g s k room out = ⊥
StoppedIn how many (unended l) g s k room out = ⊥
StoppedIn how many (line l rest) g s k room out = Unwritten many (line_with g l) s k room out ⊎ ((t : Standing) × Takes how many (line_with g l) s t × StoppedIn how many rest no_line t k room out)

-- ---- a file: chunks one after the other, from where g is held
unfoldable pub TookAll : How → Bool → List (List ℕ) → Held → Standing → Standing → Held → Type 0
TookAll how many [] g s u h = (u ≡ s) × (h ≡ g)
TookAll how many (p ∷ ps) g s u h = (t : Standing) × (e : Held) × TookLines how many (lines p) g s t e × TookAll how many ps e t u h

pub record Read (how : How) (many : Bool) (g : Held) (s u : Standing) (h : Held) : Type 0 where
  pub chunks : List (List ℕ)
  pub took : TookAll how many chunks g s u h

-- up to a read or a write that failed: whole chunks, and where it was a write the lines of the next one before it
pub record Stopped (how : How) (many : Bool) (g : Held) (s : Standing) (k : Lent) (room out : List ℕ) : Type 0 where
  pub last : Standing
  pub held : Held
  pub read : Read how many g s last held
  pub stopped : Unchanged last.memory k last.room room last.out out ⊎ ((chunk : List ℕ) × StoppedIn how many (lines chunk) held last k room out)

-- from the first byte to the last answer: the memory is that after the last line, and the buffer's first `filled` bytes are still to be written out
pub record Ran (how : How) (many : Bool) (k k' : Lent) (room out room' out' : List ℕ) : Type 0 where
  pub last : Standing
  pub held : Held
  pub filled : ℕ
  pub read : Read how many no_line (stand (fresh_flow 0) k room out) last held
  pub closed : Closed how last.flow.reader last.flow.marks held last.memory.table last.room room' last.out out' filled
  pub memory : k' ≡ last.memory
