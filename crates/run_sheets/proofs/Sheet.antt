-- A sheet whole: what `check` writes out, one piece of the buffer after the other, is the paper's findings.
use mathlib.Core.Path.{◌≡◌, refl, sym, ap, subst, ◌∙◌}
use mathlib.Core.Bool.{Bool, true, false, not}
use mathlib.Core.Option.{Option, none, some}
use mathlib.Core.List.{List, [], ◌∷◌, ◌++◌, append_assoc, append-nil}
use Prim.Native.Nat.{ℕ, zero, suc, ◌+◌, ◌≤◌, ◌<◌}
use native.Mathlib.Omega.{arith}
use native.Mathlib.Numerals.{add-one}
use lib.ListN.{length, take, drop, set, length-append, length-drop, length-take, length-set}
use lib.Seq.{take_all}
use lib.Dec.{eqb, ltb, leb}
use borrow.Author.Tests.{not-false, ltb-true, ltb-false, eqb-true}
use Rattle.std.specs.declared.option.Option.TheVariants.{Some}
use Rattle.std.specs.Prelude.{if◌then◌else◌}
use Rattle.paper.specs.Words.{joined}
use Rattle.paper.specs.declared.Refusal.TheVariants.{Layout}
use Rattle.paper.specs.Numbers.{Outcome, done, refused, demand, ◌>>=◌, last_line}
use Rattle.paper.specs.Loading.{Set, Written, load}
use Rattle.paper.specs.Layout as layout
use Rattle.paper.specs.Layout.{Lines, nothing, unended, line, lines, push, begin_set, a_site, a_rule, an_item, end_set, frame_of}
use Rattle.paper.specs.Sheets as paper
use Rattle.paper.specs.Sheets.{Open, outside, at_sites, at_rules, at_items, step, with_item, act_on, findings}
use Rattle.paper.proofs.Lists.{not_true}
use Rattle.sheet_findings.specs.Written.{written_at}
use Rattle.sheet_lines.specs.declared.Held.{Held}
use Rattle.sheet_lines.specs.Held.{Holds, held_in, no_line, held_more, more_holds, nothing_holds}
use Rattle.sheet_lines.specs.Fed.{Reading, going, stopped, Fed, max_held, line_feed, held_of, after_line, fed_all, begun, ended, findings_fed, stays}
use Rattle.sheet_lines.specs.Pieces.{as_lines, lines_append, fed_append}
use Rattle.sheet_lines.specs.Ends.{Free, fed_part, fed_line}
use Rattle.sheet_lines.specs.Cut.{part_of, line_with, step_with}
use Rattle.sheet_reader.specs.State.{Lent, Roomy, Tells, stands_in, reader_of, step_room}
use Rattle.sheet_reader.specs.Answers.{Answers, rule_event, items_event, item_event, frame_event, act_event, line_event, text_of}
use Rattle.sheet_reader.specs.declared.Reader.{Reader}
use Rattle.sheet_reader.specs.declared.Event.{Event}
use Rattle.sheet_reader.specs.declared.Event.TheVariants as event
use Rattle.sheet_read.specs.declared.State.{State}
use Rattle.sheet_read.specs.Whole.{first_state, Going, Shows}
use Rattle.sheet_read.proofs.Feeding.{shows_first}
use Rattle.term_table.specs.Table.{no_edges}
use Rattle.paper.specs.Answered.{Maybe}
use Rattle.sheet_ended.specs.Sets.{to_or}
use Rattle.tell_text.specs.Written as texts
use Rattle.tell_text.specs.Written.{Room, wrote, with_byte, one_fits, one_past, past}
use Rattle.run_answers.specs.declared.How.TheVariants as how
use Rattle.run_answers.specs.Told.{last_answer}
use Rattle.run_answers.proofs.Laws.{stays_inside}
use Rattle.run_lines.specs.declared.Flow.{Flow}
use Rattle.run_lines.specs.Taken.{goes_on, need, written_out, free_in, Took, state_of, Closed, fresh_flow}
use Rattle.run_lines.proofs.InOrder.{spared_room, in_order, check_line, written_there}
use Rattle.run_sheets.specs.Chunks.{Standing, stand, Takes, TookLines, TookAll, Ran}

-- ---- after a line that is read the sheet goes on
rule_on : (g : Set) (r : Written) → goes_on (rule_event g r) ≡ true
unfolding rule_event
rule_on g r = go (load g r)
  where
    go : (o : Outcome Set) → goes_on (elim o as (λ _. Event) [ done h ↦ event.Kept r.place r.priority | refused x ↦ event.Refused r.place r.priority x ]) ≡ true
    go (done h) = refl
    go (refused x) = refl

items_on : (g : Set) (r : Written) (n : ℕ) → goes_on (items_event g r n) ≡ true
unfolding items_event
items_on g r zero = rule_on g r
items_on g r (suc n) = refl

frame_on : (g : Set) (f : layout.Frame) → goes_on (frame_event g f) ≡ true
frame_on g (begin_set t f) = refl
frame_on g (a_site s) = refl
frame_on g (a_rule p q n) = items_on g _ n
frame_on g (an_item i) = refl
frame_on g end_set = refl

item_on : (g : Set) (r : Written) (n : ℕ) (i : _) → goes_on (item_event g r n i) ≡ true
unfolding item_event
item_on g r zero i = items_on g r zero
item_on g r (suc n) i = items_on g (with_item r i) n

act_goes : (o : Open) (f : layout.Frame) → goes_on (act_event o f) ≡ true
act_goes outside f = refl
act_goes (at_sites g) f = frame_on g f
act_goes (at_rules g) f = frame_on g f
act_goes (at_items g r n) (begin_set t f) = refl
act_goes (at_items g r n) (a_site s) = refl
act_goes (at_items g r n) (a_rule p q m) = refl
act_goes (at_items g r n) (an_item i) = item_on g r n i
act_goes (at_items g r n) end_set = refl

step_on : (d : paper.Reader) (at : ℕ) (l : List ℕ) (y : paper.Stepped) (o : Open) → step d at l ≡ done y → goes_on (line_event o (frame_of l)) ≡ true
unfolding step
step_on d at l y o e = go (leb at last_line) (frame_of l) e
  where
    go : (b : Bool) (f : Option layout.Frame) → (demand b (Layout at) >>= λ _. act_on d at f) ≡ done y → goes_on (line_event o f) ≡ true
    go b (some f) e = act_goes o f
    go true none e = absurd (let z : ◌≡◌ {A = ℕ} 0 1 = cc in omega arith)
    go false none e = absurd (let z : ◌≡◌ {A = ℕ} 0 1 = cc in omega arith)

-- ---- where reading and writing stand, and the paper's reading
abbrev pub state_in : Standing → Held → State
state_in s g = record { reader = s.flow.reader; held = g; stopped = not s.flow.marks.goes }

abbrev pub On : Standing → Held → Reading → Type 0
On s g M = Shows (state_in s g) s.memory M

-- the buffers are as long as `run` makes them
pub record Fine (s : Standing) : Type 0 where
  pub room : step_room ≤ length s.room
  pub small : length s.room ≤ need
  pub out : need < length s.out
  pub filled : s.flow.marks.filled ≤ length s.out

-- what a line writes out, and what the buffer has
unfoldable pub sent : Standing → List ℕ
sent s = if s.flow.marks.goes then written_out s.out s.flow.marks.filled else []

abbrev pub in_buffer : Standing → List ℕ
in_buffer s = take s.flow.marks.filled s.out

sent_on : (s : Standing) → s.flow.marks.goes ≡ true → sent s ≡ written_out s.out s.flow.marks.filled
unfolding sent
sent_on s e = rw e

sent_none : (s : Standing) → s.flow.marks.goes ≡ false → sent s ≡ []
unfolding sent
sent_none s e = rw e

-- ---- lengths
wrote_long : (s m : List ℕ) (at : ℕ) → length (wrote (m, at) s).0 ≡ length m
unfolding wrote
wrote_long [] m at = refl
wrote_long (b ∷ s) m at = go (ltb at (length m)) refl (wrote_long s (set m at b) (suc at))
  where
    go : (t : Bool) → ltb at (length m) ≡ t → length (wrote (set m at b, suc at) s).0 ≡ length (set m at b) → length (wrote (with_byte (m, at) b) s).0 ≡ length m
    go true e f =
        let k : at + 1 ≡ suc at = omega arith in
        rw (one_fits m at b (ltb-true at (length m) e), k) (f ∙ length-set m at b)
    go false e f = rw (one_past m at b (ltb-false at (length m) e), past m at s (ltb-false at (length m) e))

written_long : (room t : List ℕ) → length t ≤ length room → length (written_at room 0 t) ≡ length room
unfolding written_at
written_long room t h =
    let a = length-append t (drop (0 + length t) room) in
    let b = length-drop (0 + length t) room in
    omega arith

-- ---- a line
module _ (l : List ℕ) (s t : Standing) (x : Takes how.Check false l s t) (fine : Fine s) where
  -- a sheet that stopped
  module _ (e : s.flow.marks.goes ≡ false) where
    pub passed_is : t ≡ s
    passed_is =
        let p = x.passed refl e in
        ap (λ (f : Flow). stand f t.memory t.room t.out) p.flow
        ∙ (ap (λ (m : Lent). stand s.flow m t.room t.out) p.memory
        ∙ (ap (λ (r : List ℕ). stand s.flow s.memory r t.out) p.room_same
        ∙ ap (λ (o : List ℕ). stand s.flow s.memory s.room o) p.out_same))

  -- one that goes on
  module _ (g : Held) (d : paper.Reader) (at : ℕ) (h : List ℕ) (on : Going (state_in s g) s.memory d at h) where
    goes_here : s.flow.marks.goes ≡ true
    goes_here = not-false s.flow.marks.goes on.goes

    took : Took how.Check s.flow.reader s.flow.marks l s.memory t.memory s.room t.room s.out t.out t.flow
    took = x.line refl goes_here

    reader_is : reader_of s.flow.reader s.memory d.ended ≡ d
    reader_is = ap (λ (z : Open). record { ended = d.ended; stands = z }) (sym on.stands)

    paper_step : step (reader_of s.flow.reader s.memory d.ended) s.flow.reader.line l ≡ step d at l
    paper_step = ap (λ (z : paper.Reader). step z s.flow.reader.line l) reader_is ∙ ap (λ (n : ℕ). step d n l) on.line

    pub line_sent : sent s ++ in_buffer t ≡ in_buffer s ++ as_lines (after_line at (step d at l)).found
    line_sent =
        ap (λ z. z ++ in_buffer t) (sent_on s goes_here)
        ∙ (check_line s.flow.reader s.flow.marks l s.memory t.memory s.room t.room s.out t.out t.flow took fine.room d.ended on.tells fine.out fine.filled
        ∙ (ap (λ z. in_buffer s ++ text_of s.flow.reader.line z) paper_step
        ∙ ap (λ (n : ℕ). in_buffer s ++ text_of n (step d at l)) on.line))

    answers : Answers s.flow.reader s.memory t.memory s.room t.room 0 (step d at l) (line_event (stands_in s.memory s.flow.reader.stands) (frame_of l)) took.step
    answers = subst (λ (z : Outcome paper.Stepped). Answers s.flow.reader s.memory t.memory s.room t.room 0 z (line_event (stands_in s.memory s.flow.reader.stands) (frame_of l)) took.step) paper_step (took.steps.0 fine.room d.ended on.tells)

    pub line_fine : Fine t
    line_fine =
        let a = fine.room in
        let b = fine.small in
        let c = fine.out in
        let f = fine.filled in
        let n = answers.fits in
        let r : length t.room ≡ length s.room = ap length answers.into ∙ written_long s.room (text_of s.flow.reader.line (step d at l)) (omega arith) in
        let w = took.answers in
        let k = (free_in s.out s.flow.marks).1 in
        let q = spared_room (length s.out) s.flow.marks.filled fine.out in
        let o : length t.out ≡ length s.out = ap (λ (p : Room). length p.0) w ∙ wrote_long _ s.out k in
        let i : t.flow.marks.filled ≤ length t.out = subst (λ (p : Room). p.1 ≤ length p.0) (sym w) (stays_inside _ s.out k (omega arith)) in
        record { room = omega arith; small = omega arith; out = omega arith; filled = i }

    pub line_on : (g' : Held) → Holds g' [] → On t g' (after_line at (step d at l)).reading
    unfolding after_line
    line_on g' held = go (step d at l) refl answers
      where
        go : (o : Outcome paper.Stepped) → step d at l ≡ o → Answers s.flow.reader s.memory t.memory s.room t.room 0 o (line_event (stands_in s.memory s.flow.reader.stands) (frame_of l)) took.step → On t g' (after_line at o).reading
        go (done y) e a =
            let w = a.goes in
            let r = took.reader in
            let m : t.flow.marks.goes ≡ true = took.goes ∙ (ap goes_on a.event ∙ step_on d at l y (stands_in s.memory s.flow.reader.stands) e) in
            record {
              tells = subst (λ (z : Reader). Tells z t.memory y.after.ended) (sym r) w.1;
              stands = w.0 ∙ ap (λ (z : Reader). stands_in t.memory z.stands) (sym r);
              line = ap (λ (z : Reader). z.line) r ∙ (w.2 ∙ (add-one s.flow.reader.line ∙ ap suc on.line));
              held = held.holds;
              short = held.short;
              whole = held.whole;
              goes = ap not m;
            }
        go (refused z) e a = ap not (took.goes ∙ ap goes_on a.event)

-- ---- the lines of a chunk
abbrev pub unlines : Lines → List ℕ
unlines nothing = []
unlines (unended l) = l
unlines (line l r) = l ++ (line_feed ∷ unlines r)

abbrev FreeLines : Lines → Type 0
FreeLines nothing = Unit {0}
FreeLines (unended l) = Free l
FreeLines (line l r) = Free l × FreeLines r

push_free : (b : ℕ) (x : Lines) → eqb b line_feed ≡ false → FreeLines x → FreeLines (push b x)
push_free b nothing e f = (e, tt)
push_free b (unended l) e f = (e, f)
push_free b (line l r) e f = ((e, f.0), f.1)

lines_free : (s : List ℕ) → FreeLines (lines s)
unfolding lines
lines_free [] = tt
lines_free (b ∷ s) = go (eqb b line_feed) refl (lines_free s)
  where
    go : (t : Bool) → eqb b line_feed ≡ t → FreeLines (lines s) → FreeLines (if t then line [] (lines s) else push b (lines s))
    go true e f = (tt, f)
    go false e f = push_free b (lines s) e f

push_back : (b : ℕ) (x : Lines) → unlines (push b x) ≡ b ∷ unlines x
push_back b nothing = refl
push_back b (unended l) = refl
push_back b (line l r) = refl

lines_back : (s : List ℕ) → unlines (lines s) ≡ s
unfolding lines
lines_back [] = refl
lines_back (b ∷ s) = go (eqb b line_feed) refl (lines_back s)
  where
    go : (t : Bool) → eqb b line_feed ≡ t → unlines (lines s) ≡ s → unlines (if t then line [] (lines s) else push b (lines s)) ≡ b ∷ s
    go true e f = let n : line_feed ≡ b = sym (eqb-true b line_feed e) in ap (λ z. line_feed ∷ z) f ∙ ap (λ (z : ℕ). z ∷ s) n
    go false e f = push_back b (lines s) ∙ ap (λ z. b ∷ z) f

-- what is held says where in its line the reading stands
rehold : (s : Standing) (g h : Held) (d : paper.Reader) (at : ℕ) (k l : List ℕ) → Going (state_in s g) s.memory d at k → Holds h l → Going (state_in s h) s.memory d at (held_of l)
rehold s g h d at k l on w = record { tells = on.tells; stands = on.stands; line = on.line; held = w.holds; short = w.short; whole = w.whole; goes = on.goes }

pub record Reads (u : Standing) (h : Held) (written before : List ℕ) (M : Reading) (b : List ℕ) : Type 0 where
  pub text : written ++ in_buffer u ≡ before ++ as_lines (fed_all M b).found
  pub fine : Fine u
  pub on : On u h (fed_all M b).reading

-- one text after the other
joins_on : (a b c e f x y : List ℕ) → a ++ b ≡ c ++ x → e ++ f ≡ b ++ y → (a ++ e) ++ f ≡ c ++ (x ++ y)
joins_on a b c e f x y p q = append_assoc a e f ∙ (ap (λ z. a ++ z) q ∙ (sym (append_assoc a b y) ∙ (ap (λ z. z ++ y) p ∙ append_assoc c x y)))

-- a line, and then the rest
line_then : (s t u : Standing) (g h : Held) (y l rest w : List ℕ) (d : paper.Reader) (at : ℕ) (k : List ℕ) → Takes how.Check false y s t → Fine s → Going (state_in s g) s.memory d at (held_of k) → Free l → step d at y ≡ step d at (k ++ l) → (Fine t → On t no_line (after_line at (step d at (k ++ l))).reading → Reads u h w (in_buffer t) (after_line at (step d at (k ++ l))).reading rest) → Reads u h (sent s ++ w) (in_buffer s) (going d at (held_of k)) (l ++ (line_feed ∷ rest))
line_then s t u g h y l rest w d at k x fine on f e next =
    let o = step d at (k ++ l) in
    let r = fed_line d at k l rest f in
    let a : sent s ++ in_buffer t ≡ in_buffer s ++ as_lines (after_line at o).found = line_sent y s t x fine g d at (held_of k) on ∙ ap (λ z. in_buffer s ++ as_lines (after_line at z).found) e in
    let n : On t no_line (after_line at o).reading = subst (λ (z : Outcome paper.Stepped). On t no_line (after_line at z).reading) e (line_on y s t x fine g d at (held_of k) on no_line nothing_holds) in
    let v = next (line_fine y s t x fine g d at (held_of k) on) n in
    let m = fed_all (after_line at o).reading rest in
    record {
      text = joins_on (sent s) (in_buffer t) (in_buffer s) w (in_buffer u) (as_lines (after_line at o).found) (as_lines m.found) a v.text ∙ (ap (λ z. in_buffer s ++ z) (sym (lines_append (after_line at o).found m.found)) ∙ ap (λ (z : Fed). in_buffer s ++ as_lines z.found) (sym r));
      fine = v.fine;
      on = subst (λ (z : Fed). On u h z.reading) (sym r) v.on;
    }

-- ---- a chunk: its first line goes on from what is held
-- what the lines write out
unfoldable pub sent_lines : (x : Lines) (g : Held) (s u : Standing) (h : Held) → TookLines how.Check false x g s u h → List ℕ
unfolding TookLines
sent_lines nothing g s u h w = []
sent_lines (unended l) g s u h w = []
sent_lines (line l r) g s u h w = sent s ++ sent_lines r no_line w.0 u h w.2

none_here : (s u : Standing) (g h : Held) (M : Reading) → Fine s → On s g M → u ≡ s → h ≡ g → Reads u h [] (in_buffer s) M []
unfolding fed_all joined
none_here s u g h M fine on e q =
    subst (λ (v : Standing). Reads v h [] (in_buffer s) M []) (sym e)
    (subst (λ (v : Held). Reads s v [] (in_buffer s) M []) (sym q) (record { text = sym (append-nil (in_buffer s)); fine = fine; on = on }))

held_short : (h : Held) → h.length ≤ max_held → held_of (held_in h) ≡ held_in h
held_short h l = take_all max_held (held_in h) (let e = length-take h.length h.bytes in omega arith)

chunk_held : (s u : Standing) (g h : Held) (l : List ℕ) (M : Reading) → Free l → Fine s → On s g M → u ≡ s → h ≡ held_more g l → Reads u h [] (in_buffer s) M l
unfolding joined fed_all
chunk_held s u g h l (going d at k) f fine on e q =
    let a : held_of (held_in g) ≡ k = held_short g on.short ∙ on.held in
    let r : fed_all (going d at (held_of (held_in g))) l ≡ record { reading = going d at (held_of (held_in g ++ l)); found = [] } = ap (fed_all (going d at (held_of (held_in g)))) (sym (append-nil l)) ∙ fed_part d at (held_in g) l [] f in
    subst (λ (k : List ℕ). Reads u h [] (in_buffer s) (going d at k) l) a
    (subst (λ (v : Standing). Reads v h [] (in_buffer s) (going d at (held_of (held_in g))) l) (sym e)
    (subst (λ (v : Held). Reads s v [] (in_buffer s) (going d at (held_of (held_in g))) l) (sym q)
    (record {
      text = sym (append-nil (in_buffer s)) ∙ ap (λ (v : Fed). in_buffer s ++ as_lines v.found) (sym r);
      fine = fine;
      on = subst (λ (v : Fed). On s (held_more g l) v.reading) (sym r) (rehold s g (held_more g l) d at k (held_in g ++ l) on (more_holds g l on.whole));
    })))
chunk_held s u g h l stopped f fine on e q =
    let r = stays l in
    subst (λ (v : Standing). Reads v h [] (in_buffer s) stopped l) (sym e)
    (record {
      text = sym (append-nil (in_buffer s)) ∙ ap (λ (v : Fed). in_buffer s ++ as_lines v.found) (sym r);
      fine = fine;
      on = subst (λ (v : Fed). On s h v.reading) (sym r) on;
    })

chunk_lines : (x : Lines) (s u : Standing) (g h : Held) (M : Reading) → FreeLines x → Fine s → On s g M → (w : TookLines how.Check false x g s u h) → Reads u h (sent_lines x g s u h w) (in_buffer s) M (unlines x)
unfolding TookLines sent_lines
chunk_lines nothing s u g h M f fine on w = none_here s u g h M fine on w.0 w.1
chunk_lines (unended l) s u g h M f fine on w = chunk_held s u g h l M f fine on w.0 w.1
chunk_lines (line l r) s u g h (going d at k) f fine on w =
    let a : held_of (held_in g) ≡ k = held_short g on.short ∙ on.held in
    let o = step d at (held_in g ++ l) in
    subst (λ (k : List ℕ). Reads u h (sent s ++ sent_lines r no_line w.0 u h w.2) (in_buffer s) (going d at k) (l ++ (line_feed ∷ unlines r))) a
    (line_then s w.0 u g h (line_with g l) l (unlines r) (sent_lines r no_line w.0 u h w.2) d at (held_in g) w.1 fine (subst (λ (k : List ℕ). Going (state_in s g) s.memory d at k) (sym a) on) f.0 (step_with d at g l on.whole)
    (λ p q. chunk_lines r w.0 u no_line h (after_line at o).reading f.1 p q w.2))
chunk_lines (line l r) s u g h stopped f fine on w =
    let off = not_true s.flow.marks.goes on in
    let e : w.0 ≡ s = passed_is (line_with g l) s w.0 w.1 fine off in
    let v = chunk_lines r w.0 u no_line h stopped f.1 (subst Fine (sym e) fine) (subst (λ (z : Standing). On z no_line stopped) (sym e) on) w.2 in
    let n : fed_all stopped (l ++ (line_feed ∷ unlines r)) ≡ fed_all stopped (unlines r) = stays (l ++ (line_feed ∷ unlines r)) ∙ sym (stays (unlines r)) in
    let more = sent_lines r no_line w.0 u h w.2 in
    record {
      text = ap (λ z. (z ++ more) ++ in_buffer u) (sent_none s off) ∙ (v.text ∙ (ap (λ (z : Standing). in_buffer z ++ as_lines (fed_all stopped (unlines r)).found) e ∙ ap (λ (z : Fed). in_buffer s ++ as_lines z.found) (sym n)));
      fine = v.fine;
      on = subst (λ (z : Fed). On u h z.reading) (sym n) v.on;
    }

pub chunk_check : (b : List ℕ) (s u : Standing) (g h : Held) (M : Reading) → Fine s → On s g M → (w : TookLines how.Check false (lines b) g s u h) → Reads u h (sent_lines (lines b) g s u h w) (in_buffer s) M b
chunk_check b s u g h M fine on w = subst (λ (z : List ℕ). Reads u h (sent_lines (lines b) g s u h w) (in_buffer s) M z) (lines_back b) (chunk_lines (lines b) s u g h M (lines_free b) fine on w)

-- ---- a sheet, in chunks of any size
unfoldable pub sent_all : (ps : List (List ℕ)) (g : Held) (s u : Standing) (h : Held) → TookAll how.Check false ps g s u h → List ℕ
unfolding TookAll
sent_all [] g s u h w = []
sent_all (p ∷ ps) g s u h w = sent_lines (lines p) g s w.0 w.1 w.2 ++ sent_all ps w.1 w.0 u h w.3

pub all_check : (ps : List (List ℕ)) (s u : Standing) (g h : Held) (M : Reading) → Fine s → On s g M → (w : TookAll how.Check false ps g s u h) → Reads u h (sent_all ps g s u h w) (in_buffer s) M (joined ps)
unfolding TookAll sent_all joined fed_all
all_check [] s u g h M fine on w = none_here s u g h M fine on w.0 w.1
all_check (p ∷ ps) s u g h M fine on w =
    let t = w.0 in
    let a = chunk_check p s t g w.1 M fine on w.2 in
    let b = all_check ps t u w.1 h (fed_all M p).reading a.fine a.on w.3 in
    let r = fed_append M p (joined ps) in
    let x = (fed_all M p).found in
    let y = (fed_all (fed_all M p).reading (joined ps)).found in
    let c = sent_lines (lines p) g s t w.1 w.2 in
    let e = sent_all ps w.1 t u h w.3 in
    record {
      text = joins_on c (in_buffer t) (in_buffer s) e (in_buffer u) (as_lines x) (as_lines y) a.text b.text ∙ (ap (λ z. in_buffer s ++ z) (sym (lines_append x y)) ∙ ap (λ (z : Fed). in_buffer s ++ as_lines z.found) (sym r));
      fine = b.fine;
      on = subst (λ (z : Fed). On u h z.reading) (sym r) b.on;
    }

-- ---- the end of the sheet
part_at_end : (room room' t : List ℕ) (w : Maybe ℕ) → room' ≡ written_at room 0 t → w ≡ Some (0 + length t) → part_of room' 0 (to_or w 0) ≡ t
part_at_end room room' t w e f = ap (λ z. part_of z 0 (to_or w 0)) e ∙ (ap (λ (z : Maybe ℕ). part_of (written_at room 0 t) 0 (to_or z 0)) f ∙ written_there room t (0 + length t) refl)

fits_room : (room room' t : List ℕ) → room' ≡ written_at room 0 t → length room' ≡ length room → length t ≤ length room
unfolding written_at
fits_room room room' t e f =
    let a = length-append t (drop (0 + length t) room) in
    let b = length-drop (0 + length t) room in
    let c = ap length e in
    omega arith

module _ (u : Standing) (h : Held) (room' out' : List ℕ) (n : ℕ) (x : Closed how.Check u.flow.reader u.flow.marks h u.memory.table u.room room' u.out out' n) (fine : Fine u) where
  pub end_check : (M : Reading) → On u h M → written_out u.out u.flow.marks.filled ++ take n out' ≡ in_buffer u ++ as_lines (ended M)
  unfolding last_answer ended joined
  end_check (going d at k) on =
      let goes = not-false u.flow.marks.goes on.goes in
      let y = x.last goes in
      let m = u.memory in
      let r = fine.room in
      let here : Going (state_of u.flow.reader h) m d at k = record { tells = on.tells; stands = on.stands; line = on.line; held = on.held; short = on.short; whole = on.whole; goes = refl } in
      let e = (y.ends m.sites m.words m.items).0 (omega arith) (going d at k) here in
      let t : List ℕ = as_lines (ended (going d at k)) in
      let l = fits_room u.room room' t e.into y.same in
      let s = fine.small in
      let p : part_of room' 0 (to_or y.said 0) ≡ t = part_at_end u.room room' t y.said e.into e.is in
      in_order u.out out' t u.flow.marks n fine.out fine.filled (omega arith) (y.answers ∙ ap (λ z. wrote (free_in u.out u.flow.marks) z) p)
  end_check stopped on =
      let off = not_true u.flow.marks.goes on in
      in_order u.out out' [] u.flow.marks n fine.out fine.filled (omega arith) ((x.stopped off).0 ∙ texts.nothing (free_in u.out u.flow.marks))

-- all that `check` writes out of one sheet, in pieces of any size: with its lines, before its end, and what the buffer then has
pub sheet_check : (ps : List (List ℕ)) (k : Lent) (room out : List ℕ) (u : Standing) (h : Held) (room' out' : List ℕ) (n : ℕ) → Roomy k → k.table ≡ no_edges → step_room ≤ length room → length room ≤ need → need < length out → (w : TookAll how.Check false ps no_line (stand (fresh_flow 0) k room out) u h) → Closed how.Check u.flow.reader u.flow.marks h u.memory.table u.room room' u.out out' n → sent_all ps no_line (stand (fresh_flow 0) k room out) u h w ++ (written_out u.out u.flow.marks.filled ++ take n out') ≡ findings (joined ps)
unfolding fresh_flow first_state
sheet_check ps k room out u h room' out' n roomy t a b c w x =
    let s = stand (fresh_flow 0) k room out in
    let r = all_check ps s u no_line h begun (record { room = a; small = b; out = c; filled = omega arith }) (shows_first k roomy t) w in
    let f = fed_all begun (joined ps) in
    let e = end_check u h room' out' n x r.fine f.reading r.on in
    let all = sent_all ps no_line s u h w in
    ap (λ z. all ++ z) e
    ∙ (sym (append_assoc all (in_buffer u) (as_lines (ended f.reading)))
    ∙ (ap (λ z. z ++ as_lines (ended f.reading)) r.text
    ∙ (sym (lines_append f.found (ended f.reading)) ∙ sym (findings_fed (joined ps)))))

-- of a run: its chunks are a sheet, and this is all that it writes out
pub run_check : (k k' : Lent) (room out room' out' : List ℕ) (x : Ran how.Check false k k' room out room' out') → Roomy k → k.table ≡ no_edges → step_room ≤ length room → length room ≤ need → need < length out → sent_all x.read.chunks no_line (stand (fresh_flow 0) k room out) x.last x.held x.read.took ++ (written_out x.last.out x.last.flow.marks.filled ++ take x.filled out') ≡ findings (joined x.read.chunks)
run_check k k' room out room' out' x roomy t a b c = sheet_check x.read.chunks k room out x.last x.held room' out' x.filled roomy t a b c x.read.took x.closed
