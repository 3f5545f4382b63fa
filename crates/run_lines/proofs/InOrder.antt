-- What the contracts come to: a line's answer is the paper's; and what is written out, with what the buffer then has, is what it had, with the answer
-- behind it.
use mathlib.Core.Path.{◌≡◌, refl, sym, ap, ◌∙◌}
use mathlib.Core.Bool.{Bool, true, false}
use mathlib.Core.List.{List, [], ◌++◌}
use Prim.Native.Nat.{ℕ, ◌+◌, ◌-◌, ◌≤◌, ◌<◌}
use native.Mathlib.Omega.{arith}
use lib.ListN.{length, take, drop, length-append}
use lib.Seq.{take_all, take_at}
use lib.Dec.{ltb}
use borrow.Author.Tests.{ltb-true}
use Rattle.std.specs.Prelude.{if◌then◌else◌}
use Rattle.paper.specs.Layout.{frame_of}
use Rattle.paper.specs.Numbers.{Outcome}
use Rattle.paper.specs.Sheets as paper
use Rattle.sheet_findings.specs.Written.{written_at}
use Rattle.sheet_lines.specs.Cut.{part_of, first_there}
use Rattle.sheet_reader.specs.State.{Lent, Tells, stands_in, reader_of, step_room}
use Rattle.sheet_reader.specs.Answers.{Steps, line_event, told, text_of}
use Rattle.sheet_reader.specs.declared.Reader.{Reader}
use Rattle.sheet_reader.specs.declared.Event.{Event}
use Rattle.tell_text.specs.Written.{Room, wrote}
use Rattle.run_answers.specs.declared.How.{How}
use Rattle.run_answers.specs.declared.How.TheVariants as how
use Rattle.run_answers.specs.Told.{answer}
use Rattle.run_answers.proofs.Laws.{holds_first}
use Rattle.run_lines.specs.declared.Marks.{Marks}
use Rattle.run_lines.specs.declared.Flow.{Flow}
use Rattle.run_lines.specs.Taken.{goes_on, need, spared, written_out, free_in, Took}

-- ---- a line's answer is the paper's
pub written_there : (room t : List ℕ) (to : ℕ) → to ≡ 0 + length t → part_of (written_at room 0 t) 0 to ≡ t
unfolding written_at
written_there room t to e =
    let rest = drop (0 + length t) room in
    let n = length-append t rest in
    let k : to ≡ length t = omega arith in
    ap (part_of (t ++ rest) 0) k ∙ (sym (first_there (t ++ rest) (length t) (omega arith)) ∙ take_at t rest (length t) refl)

module _ (how : How) (r : Reader) (k : Marks) (l : List ℕ) (before after : Lent) (room room' out out' : List ℕ) (f : Flow) (x : Took how r k l before after room room' out out' f) (enough : step_room ≤ length room) (p : paper.Ended) (tells : Tells r before p) where
  -- the paper's step, and what the line was
  abbrev pub stepped : Outcome paper.Stepped
  stepped = paper.step (reader_of r before p) r.line l

  abbrev pub was : Event
  was = told stepped (line_event (stands_in before r.stands) (frame_of l))

  steps : Steps r before after room room' 0 p l x.step
  steps = x.steps.0 enough p tells

  found_is : part_of room' 0 x.step.to ≡ text_of r.line stepped
  found_is = ap (λ z. part_of z 0 x.step.to) steps.into ∙ written_there room (text_of r.line stepped) x.step.to steps.to

  pub line_answer : (out', f.marks.filled) ≡ wrote (free_in out k) (answer how was r.stands f.reader.stands after.sites after.words (text_of r.line stepped))
  line_answer =
      let a : x.step.event ≡ was = steps.event in
      x.answers
      ∙ (ap (λ z. wrote (free_in out k) (answer how z r.stands x.step.reader.stands after.sites after.words (part_of room' 0 x.step.to))) a
      ∙ (ap (λ (z : Reader). wrote (free_in out k) (answer how was r.stands z.stands after.sites after.words (part_of room' 0 x.step.to))) (sym x.reader)
      ∙ ap (λ z. wrote (free_in out k) (answer how was r.stands f.reader.stands after.sites after.words z)) found_is))

  pub line_goes : f.marks.goes ≡ goes_on was
  line_goes = x.goes ∙ ap goes_on steps.event

  pub line_short : length (text_of r.line stepped) ≤ step_room
  line_short = steps.fits

-- ---- nothing is lost, and nothing changes places
pub spared_room : (len n : ℕ) → need < len → spared len n + need ≤ len
unfolding spared
spared_room len n h = go (ltb (n + need) len) refl
  where
    go : (t : Bool) → ltb (n + need) len ≡ t → (if t then n else 0) + need ≤ len
    go true e = let l = ltb-true (n + need) len e in omega arith
    go false e = omega arith

stays_there : (len n : ℕ) → ltb (n + need) len ≡ true → spared len n ≡ n
unfolding spared
stays_there len n e = rw e

from_start : (len n : ℕ) → ltb (n + need) len ≡ false → spared len n ≡ 0
unfolding spared
from_start len n e = rw e

pub in_order : (out out' s : List ℕ) (k : Marks) (n : ℕ) → need < length out → k.filled ≤ length out → length s ≤ need → (out', n) ≡ wrote (free_in out k) s → written_out out k.filled ++ take n out' ≡ take k.filled out ++ s
unfolding written_out
in_order out out' s k n h i j e = go (ltb (k.filled + need) (length out)) refl
  where
    at : ℕ
    at = spared (length out) k.filled

    room_for : at + need ≤ length out
    room_for = spared_room (length out) k.filled h

    now : take n out' ≡ take at out ++ s
    now =
        let q = room_for in
        ap (λ (p : Room). take p.1 p.0) e ∙ (holds_first s out at (omega arith) ∙ ap (λ z. take at out ++ z) (take_all (length out - at) s (omega arith)))

    go : (t : Bool) → ltb (k.filled + need) (length out) ≡ t → (if t then [] else part_of out 0 k.filled) ++ take n out' ≡ take k.filled out ++ s
    go true q = now ∙ ap (λ (z : ℕ). take z out ++ s) (stays_there (length out) k.filled q)
    go false q = ap (λ z. z ++ take n out') (sym (first_there out k.filled i)) ∙ ap (λ z. take k.filled out ++ z) (now ∙ ap (λ (z : ℕ). take z out ++ s) (from_start (length out) k.filled q))

-- `check`: what a line finds, whole
pub check_line : (r : Reader) (k : Marks) (l : List ℕ) (before after : Lent) (room room' out out' : List ℕ) (f : Flow) → Took how.Check r k l before after room room' out out' f → step_room ≤ length room → (p : paper.Ended) → Tells r before p → need < length out → k.filled ≤ length out → written_out out k.filled ++ take f.marks.filled out' ≡ take k.filled out ++ text_of r.line (paper.step (reader_of r before p) r.line l)
unfolding answer
check_line r k l before after room room' out out' f x enough p tells h i =
    let n = line_short how.Check r k l before after room room' out out' f x enough p tells in
    let o = paper.step (reader_of r before p) r.line l in
    let j : length (text_of r.line o) ≤ need = omega arith in
    in_order out out' (text_of r.line o) k f.marks.filled h i j (line_answer how.Check r k l before after room room' out out' f x enough p tells)
