-- The two ways to answer a line: the sheet stops, or it goes on.
use mathlib.Core.Path.{◌≡◌, refl, sym, ap, ◌∙◌}
use mathlib.Core.List.{List, [], ◌∷◌, append-nil}
use Prim.Native.Nat.{ℕ, ◌+◌, ◌≤◌, ◌<◌}
use native.Mathlib.Omega.{arith}
use lib.ListN.{length}
use borrow.Author.Tests.{le-ltb, ltb-true, ltb-false}
use mathlib.Core.Bool.{Bool, true, false}
use Rattle.std.specs.Prelude.{if◌then◌else◌, min}
use lib.Dec.{ltb}
use Rattle.paper.specs.declared.Refusal.{Refusal}
use Rattle.paper.specs.Words.{joined, four}
use Rattle.paper.specs.Numbers.{last_line, Outcome, done, refused}
use Rattle.paper.specs.Layout.{hex}
use Rattle.paper.specs.Sheets as paper
use Rattle.paper.specs.Sheets.{stepped, Open, refusal_found, stop_found}
use Rattle.sheet_findings.specs.Written.{written_at, room_said, room_after}
use Rattle.paper.specs.Answered.{Maybe}
use Rattle.sheet_lines.specs.Fed.{after_line}
use Rattle.sheet_ended.specs.Sets.{to_or}
use Rattle.sheet_ended.proofs.Laws.{length_hex, written_none, said_to, after_is}
use Rattle.sheet_ended.specs.Holds.{Holds}
use Rattle.sheet_reader.specs.State.{Lent, lent, Roomy, stands_in, Fine, step_room}
use Rattle.sheet_reader.specs.Leaves.{after, next_line, gone_on, stop_answer, stop_in}
use Rattle.sheet_reader.specs.Answers.{Answers, Stops, went, text_of}
use Rattle.sheet_reader.specs.declared.Stands.{Stands}
use Rattle.sheet_reader.specs.declared.Reader.{Reader}
use Rattle.sheet_reader.specs.declared.Event.{Event}
use Rattle.sheet_reader.specs.declared.Event.TheVariants as event
use Rattle.sheet_reader.specs.declared.Stepped.{Stepped}

-- ---- what is written
stop_text : (at : ℕ) (x : Refusal) → text_of at (refused x) ≡ hex (stop_found at x)
unfolding after_line joined
stop_text at x = append-nil (hex (stop_found at x))

no_text : (at : ℕ) (e : paper.Ended) (o : Open) → text_of at (done (stepped e o [])) ≡ []
unfolding after_line joined
no_text at e o = refl

one_text : (at : ℕ) (e : paper.Ended) (o : Open) (x : List ℕ) → text_of at (done (stepped e o (x ∷ []))) ≡ hex x
unfolding after_line joined
one_text at e o x = append-nil (hex x)

stop_long : (at : ℕ) (x : Refusal) → length (hex (stop_found at x)) ≡ 13
unfolding stop_found four
stop_long at x = length_hex _

pub refusal_long : (place : ℕ) (x : Refusal) → length (hex (refusal_found place x)) ≡ 13
unfolding refusal_found four
refusal_long place x = length_hex _

-- ---- the sheet stops
pub stops : (r : Reader) (why : Refusal) (room room' : List ℕ) (at to : ℕ) (w : Maybe ℕ) → at + step_room ≤ length room → w ≡ room_said room at (hex (stop_found r.line why)) → room' ≡ room_after room at (hex (stop_found r.line why)) → to ≡ to_or w at → Stops r why room room' at (record { reader = r; event = event.Stopped why; to = to })
stops r why room room' at to w h s o t =
    let l = stop_long r.line why in
    let x = hex (stop_found r.line why) in
    let e : to ≡ at + length x = t ∙ ap (λ v. to_or v at) (said_to room at x w s (omega arith)) in
    record { is = rw e; into = after_is room room' at x o (omega arith) }

pub stopped : {r : Reader} {k : Lent} {room room' : List ℕ} {at : ℕ} {o : Outcome paper.Stepped} {e : Event} {a : Stepped} (why : Refusal) → o ≡ refused why → Stops r why room room' at a → Answers r k k room room' at o e a
stopped {r} {k} {room} {room'} {at} {o} {e} {a} why q S =
    let l = stop_long r.line why in
    let t = stop_text r.line why in
    rw q (record {
      event = ap (λ s. s.event) S.is;
      to = ap (λ s. s.to) S.is ∙ rw t;
      into = S.into ∙ rw t;
      goes = (refl, ap (λ s. s.reader) S.is);
      fits = rw t (omega arith);
    })

-- ---- the sheet goes on
pub onward : (r : Reader) (st : Stands) (ev : Event) (to l : ℕ) → l ≡ r.line + 1 → ◌≡◌ {A = Stepped} (record { reader = record { line = l; stands = st; ended = r.ended }; event = ev; to = to }) (went r st ev to)
onward r st ev to l e = rw e

module _ (r : Reader) (k k' : Lent) (room : List ℕ) (at : ℕ) (st : Stands) (ev : Event) (a : Stepped) where
  -- with nothing found
  pub goes_on : {o : Outcome paper.Stepped} {e : Event} (p : paper.Ended) (s : Open) → o ≡ done (stepped p s []) → ev ≡ e → a ≡ went r st ev at → s ≡ stands_in k' st → Holds r.ended k'.table p → Fine k' p st → Roomy k' → Answers r k k' room room at o e a
  goes_on {o} {e} p s q v i u H F R =
      let t = no_text r.line p s in
      rw (q, i) (record {
        event = v;
        to = rw t (omega arith);
        into = rw t (sym (written_none room at));
        goes = (u, record { holds = H; fine = F; roomy = R }, refl);
        fits = rw t (omega arith);
      })

  -- with one finding
  pub goes_with : {o : Outcome paper.Stepped} {e : Event} (room' : List ℕ) (to : ℕ) (p : paper.Ended) (s : Open) (x : List ℕ) → o ≡ done (stepped p s (x ∷ [])) → ev ≡ e → a ≡ went r st ev to → to ≡ at + length (hex x) → room' ≡ written_at room at (hex x) → length (hex x) ≤ step_room → s ≡ stands_in k' st → Holds r.ended k'.table p → Fine k' p st → Roomy k' → Answers r k k' room room' at o e a
  goes_with {o} {e} room' to p s x q v i z w l u H F R =
      let t = one_text r.line p s x in
      rw (q, i) (record {
        event = v;
        to = rw t z;
        into = rw t w;
        goes = (u, record { holds = H; fine = F; roomy = R }, refl);
        fits = rw t l;
      })

-- ---- what `stop` and `on` leave, where there is room and the line has a number
no_memory : Lent
no_memory = lent [] [] [] []

pub stop_stops : (r : Reader) (why : Refusal) (room room' : List ℕ) (at : ℕ) (a : Stepped) → at + step_room ≤ length room → ((k : Lent) → after a k room' ≡ stop_in r k room at why) → Stops r why room room' at a
unfolding stop_in stop_answer
stop_stops r why room room' at a h E =
    let x = hex (stop_found r.line why) in
    let e : a ≡ record { reader = r; event = event.Stopped why; to = to_or (room_said room at x) at } = ap (λ o. o.answer) (E no_memory) in
    let o : room' ≡ room_after room at x = ap (λ o. o.room) (E no_memory) in
    rw e (stops r why room room' at (to_or (room_said room at x) at) (room_said room at x) h refl o refl)

pub on_went : (r : Reader) (st : Stands) (ev : Event) (to : ℕ) (a : Stepped) → r.line ≤ last_line → a ≡ gone_on r st ev to → a ≡ went r st ev to
unfolding gone_on
on_went r st ev to a h e = e ∙ onward r st ev to (next_line r.line) (rw (le-ltb last_line r.line h))

-- the last line has no number past it, so the next one is a sum that stops there
pub next_is : (n l : ℕ) → n < 4294967296 → l ≡ min (n + 1) 4294967295 → l ≡ next_line n
next_is n l h e = go (ltb last_line n) refl
  where
    go : (t : Bool) → ltb last_line n ≡ t → l ≡ (if t then n else n + 1)
    go true q = let g = ltb-true last_line n q in omega arith
    go false q = let g = ltb-false last_line n q in omega arith

pub goes_as : (r : Reader) (st : Stands) (ev : Event) (to l : ℕ) → l ≡ next_line r.line → ◌≡◌ {A = Stepped} (record { reader = record { line = l; stands = st; ended = r.ended }; event = ev; to = to }) (gone_on r st ev to)
unfolding gone_on
goes_as r st ev to l e = rw e

pub stops_as : (r : Reader) (why : Refusal) (room room' : List ℕ) (at to : ℕ) (w : Maybe ℕ) → w ≡ room_said room at (hex (stop_found r.line why)) → room' ≡ room_after room at (hex (stop_found r.line why)) → to ≡ to_or w at → (k : Lent) → after (record { reader = r; event = event.Stopped why; to = to }) k room' ≡ stop_in r k room at why
unfolding stop_in stop_answer
stops_as r why room room' at to w s o t k =
    let x = hex (stop_found r.line why) in
    let e : to ≡ to_or (room_said room at x) at = t ∙ ap (λ v. to_or v at) s in
    rw (e, o)
