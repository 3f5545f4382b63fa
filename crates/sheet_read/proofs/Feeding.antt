-- A line of a piece, or its rest: what `feed_line` asks.
use mathlib.Core.Path.{◌≡◌, refl, sym, ap, ◌∙◌}
use mathlib.Core.Bool.{Bool, true, false}
use mathlib.Core.Option.{Option, none, some}
use mathlib.Core.List.{List, [], ◌∷◌, ◌++◌, append-nil}
use Prim.Native.Nat.{ℕ, zero, suc, ◌+◌, ◌-◌, ◌≤◌, ◌<◌}
use native.Mathlib.Omega.{arith}
use lib.ListN.{length, take, drop, length-take, length-append}
use lib.Seq.{take_all}
use Rattle.std.specs.declared.option.Option.TheVariants.{Some}
use Rattle.paper.specs.Words.{joined}
use Rattle.paper.specs.Numbers.{Outcome, done, refused}
use Rattle.paper.specs.Layout as layout
use Rattle.paper.specs.Layout.{begin_set, a_site, a_rule, an_item, end_set, frame_of}
use Rattle.paper.specs.Loading.{Set, Written, load}
use Rattle.paper.specs.Sheets as paper
use Rattle.paper.specs.Sheets.{Open, outside, at_sites, at_rules, at_items, step, with_item}
use Rattle.paper.proofs.Lists.{no_way, rest_of}
use Rattle.sheet_findings.specs.Written.{written_at}
use Rattle.sheet_ended.proofs.Laws.{written_none, written_then}
use Rattle.sheet_ended.proofs.Holds.{holds_none}
use Rattle.sheet_ended.specs.Sets.{no_sets}
use Rattle.term_table.specs.Table.{no_edges}
use native.Mathlib.Numerals.{add-one}
use Rattle.sheet_lines.specs.Fed.{Reading, going, stopped, Fed, begun, max_held, line_feed, held_of, after_line, behind, fed_all}
use Rattle.sheet_lines.specs.Pieces.{as_lines, lines_append, fed_append}
use Rattle.sheet_lines.specs.Ends.{line_end, ends_at, fed_line, rest_of_piece}
use Rattle.sheet_lines.specs.Held.{held_in, no_line, Holds, nothing_holds, more_holds}
use Rattle.sheet_lines.specs.Cut.{part_of, Fits, line_from, line_with, cut_at, part_there, line_inside, cut_open, cut_ended, line_cut, step_with}
use Rattle.sheet_lines.specs.declared.Cut.{Cut}
use Rattle.sheet_lines.specs.declared.Held.{Held}
use Rattle.sheet_reader.specs.State.{Lent, Roomy, reader_of, stands_in, step_room}
use Rattle.sheet_reader.specs.Answers.{Answers, Stepping, line_event, act_event, frame_event, items_event, item_event, rule_event}
use Rattle.sheet_reader.specs.declared.Reader.{Reader}
use Rattle.sheet_reader.specs.declared.Event.{Event}
use Rattle.sheet_reader.specs.declared.Event.TheVariants as event
use Rattle.sheet_reader.specs.declared.Stepped.{Stepped}
use Rattle.sheet_reader.specs.declared.Stands.TheVariants.{Outside}
use Rattle.sheet_read.specs.declared.State.{State}
use Rattle.sheet_read.specs.Whole.{first_state, is_stopped, Going, Shows, Fedding, Feeds}

-- ---- an event that goes on is no stop
rule_goes : (g : Set) (r : Written) → is_stopped (rule_event g r) ≡ false
unfolding rule_event
rule_goes g r = go (load g r)
  where
    go : (o : Outcome Set) → is_stopped (elim o as (λ _. Event) [ done h ↦ event.Kept r.place r.priority | refused x ↦ event.Refused r.place r.priority x ]) ≡ false
    go (done h) = refl
    go (refused x) = refl

items_goes : (g : Set) (r : Written) (n : ℕ) → is_stopped (items_event g r n) ≡ false
unfolding items_event
items_goes g r zero = rule_goes g r
items_goes g r (suc n) = refl

frame_goes : (g : Set) (f : layout.Frame) → is_stopped (frame_event g f) ≡ false
frame_goes g (begin_set t f) = refl
frame_goes g (a_site s) = refl
frame_goes g (a_rule p q n) = items_goes g _ n
frame_goes g (an_item i) = refl
frame_goes g end_set = refl

item_goes : (g : Set) (r : Written) (n : ℕ) (i : _) → is_stopped (item_event g r n i) ≡ false
unfolding item_event
item_goes g r zero i = items_goes g r zero
item_goes g r (suc n) i = items_goes g (with_item r i) n

act_goes : (o : Open) (f : layout.Frame) → is_stopped (act_event o f) ≡ false
act_goes outside f = refl
act_goes (at_sites g) f = frame_goes g f
act_goes (at_rules g) f = frame_goes g f
act_goes (at_items g r n) (begin_set t f) = refl
act_goes (at_items g r n) (a_site s) = refl
act_goes (at_items g r n) (a_rule p q m) = refl
act_goes (at_items g r n) (an_item i) = item_goes g r n i
act_goes (at_items g r n) end_set = refl

line_goes : (o : Open) (f : Option layout.Frame) → is_stopped (line_event o f) ≡ false
line_goes o none = refl
line_goes o (some f) = act_goes o f

-- ---- lists
take_line : (l s : List ℕ) (c n : ℕ) → length l ≡ n → take (suc n) (l ++ (c ∷ s)) ≡ l ++ (c ∷ [])
take_line [] s c zero e = refl
take_line [] s c (suc n) e = absurd (omega arith)
take_line (x ∷ l) s c zero e = absurd (omega arith)
take_line (x ∷ l) s c (suc n) e = ap (λ r. x ∷ r) (take_line l s c n (omega arith))

held_short : (h : Held) → h.length ≤ max_held → held_of (held_in h) ≡ held_in h
held_short h l = take_all max_held (held_in h) (let e = length-take h.length h.bytes in omega arith)

same_fed : (r : Reading) (f g : List (List ℕ)) → f ≡ g → ◌≡◌ {A = Fed} (record { reading = r; found = f }) (record { reading = r; found = g })
same_fed r f g e = rw e

-- the line from `from` to its LF
module _ (piece : List ℕ) (from e : ℕ) (E : line_end from (drop from piece) ≡ Some e) where
  abbrev part : List ℕ
  part = take (e - from) (drop from piece)

  line_there : take (e + 1 - from) (drop from piece) ≡ part ++ (line_feed ∷ [])
  line_there =
      let w = ends_at from e (drop from piece) E in
      let a = w.behind_start in
      let b = w.in_piece in
      let n : e + 1 - from ≡ suc (e - from) = omega arith in
      let l : length part ≡ e - from = length-take (e - from) (drop from piece) ∙ omega arith in
      rw n (ap (take (suc (e - from))) w.split ∙ take_line part (drop (suc (e - from)) (drop from piece)) line_feed (e - from) l)

  line_fed : (d : paper.Reader) (at : ℕ) (h : List ℕ) → fed_all (going d at (held_of h)) (take (e + 1 - from) (drop from piece)) ≡ after_line at (step d at (h ++ part))
  unfolding fed_all
  line_fed d at h =
      ap (fed_all (going d at (held_of h))) line_there
      ∙ (fed_line d at h part [] (ends_at from e (drop from piece) E).free
      ∙ same_fed (after_line at (step d at (h ++ part))).reading _ _ (append-nil (after_line at (step d at (h ++ part))).found))

-- where a line that was cut lies
pub cut_inside : (k : Held) (b : List ℕ) (from : ℕ) (c : Cut) → (c ≡ cut_at k b from) × Fits c.held → c.unended ≡ false → (from ≤ c.to) × (c.to < length b)
cut_inside k b from c e o = line_inside b from c.to (cut_ended k b from c e.0 o).0

-- ---- the state after a line
module _ (r : Reader) (k k' : Lent) (room room' : List ℕ) (at : ℕ) (a : Stepped) (b : Bool) (eb : b ≡ is_stopped a.event) (n : Held) (en : Holds n []) where
  abbrev next : State
  next = record { reader = a.reader; held = n; stopped = b }

  shows_after : (o : Outcome paper.Stepped) (ev : Event) → is_stopped ev ≡ false → Answers r k k' room room' at o ev a → Shows next k' (after_line r.line o).reading
  unfolding after_line
  shows_after (done x) ev q A =
      let g = A.goes in
      record { tells = g.1; stands = g.0; line = g.2 ∙ add-one r.line; held = en.holds; short = en.short; whole = en.whole; goes = eb ∙ (ap is_stopped A.event ∙ q) }
  shows_after (refused x) ev q A = eb ∙ ap is_stopped A.event

module _ (s : State) (k k' : Lent) (room room' : List ℕ) (at : ℕ) (piece : List ℕ) (from : ℕ) (c : Cut) (ec : (c ≡ cut_at s.held piece from) × Fits c.held) (oc : c.unended ≡ false)
    (y z t : List ℕ) (ey : y ≡ part_of piece from c.to) (ez : z ≡ part_of c.held.bytes 0 c.held.length) (et : t ≡ line_from z y)
    (a : Stepped) (st : Stepping s.reader k k' room room' at t a) (hr : at + step_room ≤ length room) (b : Bool) (eb : b ≡ is_stopped a.event) (n : Held) (en : Holds n []) (sf : s.stopped ≡ false) where
  abbrev e : ℕ
  e = c.to

  E : line_end from (drop from piece) ≡ Some e
  E = (cut_ended s.held piece from c ec.0 oc).0

  -- a line where it lies, or put together, says the same
  same_step : (d : paper.Reader) (l : ℕ) → length s.held.bytes ≡ max_held → step d l t ≡ step d l (held_in s.held ++ take (e - from) (drop from piece))
  same_step d l w =
      let p = part_of piece from e in
      let i = (line_inside piece from e E).1 in
      let is : t ≡ line_with s.held p = line_cut s.held c.held p z t (cut_ended s.held piece from c ec.0 oc).1 ec.1 ez (et ∙ ap (line_from z) ey) in
      ap (step d l) is ∙ (step_with d l s.held p w ∙ ap (λ q. step d l (held_in s.held ++ q)) (sym (part_there piece from e (omega arith))))

  abbrev x : List ℕ
  x = take (e + 1 - from) (drop from piece)

  core : (d : paper.Reader) → Going s k d s.reader.line (held_in s.held) → Fedding (going d s.reader.line (held_in s.held)) k' room room' at x (record { reader = a.reader; held = n; stopped = b }) a.to
  core d G =
      let L = s.reader.line in
      let hh = held_in s.held in
      let p = part piece from e E in
      let o = step d L (hh ++ p) in
      let A0 = st.0 hr d.ended G.tells in
      let rd : reader_of s.reader k d.ended ≡ d = rw (← G.stands) refl in
      let oe : step (reader_of s.reader k d.ended) L t ≡ o = ap (λ z. step z L t) rd ∙ same_step d L G.whole in
      let ev = line_event (stands_in k s.reader.stands) (frame_of t) in
      let A : Answers s.reader k k' room room' at o ev a = rw oe at A0 in
      let fe : fed_all (going d L hh) x ≡ after_line L o = ap (λ z. fed_all (going d L z) x) (sym (held_short s.held G.short)) ∙ line_fed piece from e E d L hh in
      let w = A.fits in
      record {
        shows = rw fe (shows_after s.reader k k' room room' at a b eb n en o ev (line_goes (stands_in k s.reader.stands) (frame_of t)) A);
        ends = rw fe A.to;
        into = rw fe A.into;
        inside = rw fe (omega arith);
      }

  pub feeds_line : (from < e + 1) × (e + 1 ≤ length piece) × Feeds s k k' room room' at x (record { reader = a.reader; held = n; stopped = b }) a.to
  feeds_line = let i = line_inside piece from e E in (omega arith, omega arith, λ M S. go M S)
    where
      go : (M : Reading) → Shows s k M → Fedding M k' room room' at x (record { reader = a.reader; held = n; stopped = b }) a.to
      go stopped S = no_way (sym S ∙ sf)
      go (going d l h₀) G = rw (← G.line, ← G.held) (core d (record { tells = G.tells; stands = G.stands; line = refl; held = refl; short = G.short; whole = G.whole; goes = G.goes }))

-- the rest of a piece is held
module _ (s : State) (k : Lent) (room : List ℕ) (at : ℕ) (piece : List ℕ) (from : ℕ) (c : Cut) (ec : (c ≡ cut_at s.held piece from) × Fits c.held) (oc : c.unended ≡ true) (hf : from < length piece) (hr : at ≤ length room) (sf : s.stopped ≡ false) where
  abbrev rest : List ℕ
  rest = take (length piece - from) (drop from piece)

  abbrev after : State
  after = record { reader = s.reader; held = c.held; stopped = false }

  core_rest : (d : paper.Reader) → Going s k d s.reader.line (held_in s.held) → Fedding (going d s.reader.line (held_in s.held)) k room room at rest after at
  unfolding joined
  core_rest d G =
      let L = s.reader.line in
      let hh = held_in s.held in
      let r : rest ≡ drop from piece = rest_of piece from in
      let u = cut_open s.held piece from c ec.0 oc in
      let eh : Holds c.held (hh ++ rest) = rw (u.1, r) (more_holds s.held (drop from piece) G.whole) in
      let fe : fed_all (going d L hh) rest ≡ record { reading = going d L (held_of (hh ++ rest)); found = [] } = ap (λ z. fed_all (going d L z) rest) (sym (held_short s.held G.short)) ∙ (ap (fed_all (going d L (held_of hh))) r ∙ (rest_of_piece d L hh piece from u.0 ∙ rw r)) in
      record {
        shows = rw fe (record { tells = G.tells; stands = G.stands; line = refl; held = eh.holds; short = eh.short; whole = eh.whole; goes = refl });
        ends = rw fe (omega arith);
        into = rw fe (sym (written_none room at));
        inside = rw fe (omega arith);
      }

  pub feeds_rest : (from < length piece) × (length piece ≤ length piece) × Feeds s k k room room at rest after at
  feeds_rest = (hf, omega arith, λ M S. go M S)
    where
      go : (M : Reading) → Shows s k M → Fedding M k room room at rest after at
      go stopped S = no_way (sym S ∙ sf)
      go (going d l h₀) G = rw (← G.line, ← G.held) (core_rest d (record { tells = G.tells; stands = G.stands; line = refl; held = refl; short = G.short; whole = G.whole; goes = G.goes }))

pub nested : {A B C : Type 0} → A × B × C → (A × B) × C
nested t = ((t.0, t.1), t.2)

-- ---- a piece
pub feeds_none : (s : State) (k : Lent) (room : List ℕ) (at : ℕ) (piece : List ℕ) → at ≤ length room → Feeds s k k room room at (take 0 piece) s at
unfolding fed_all joined
feeds_none s k room at piece h M S = record { shows = S; ends = omega arith; into = sym (written_none room at); inside = omega arith }

take_more : (l : List ℕ) (i j : ℕ) → i ≤ j → take j l ≡ take i l ++ take (j - i) (drop i l)
take_more l zero j h = let e : j - 0 ≡ j = omega arith in rw e
take_more l (suc i) zero h = absurd (omega arith)
take_more [] (suc i) (suc j) h = go (suc j - suc i)
  where
    go : (n : ℕ) → ◌≡◌ {A = List ℕ} [] ([] ++ take n (drop (suc i) []))
    go zero = refl
    go (suc n) = refl
take_more (x ∷ l) (suc i) (suc j) h = let e : suc j - suc i ≡ j - i = omega arith in rw e (ap (λ r. x ∷ r) (take_more l i j (omega arith)))

pub feeds_turn : (s s' s'' : State) (k k' k'' : Lent) (room room' room'' : List ℕ) (at to to' : ℕ) (piece : List ℕ) (i j : ℕ) → i ≤ j → length room' ≡ length room → Feeds s k k' room room' at (take i piece) s' to → Feeds s' k' k'' room' room'' to (take (j - i) (drop i piece)) s'' to' → Feeds s k k'' room room'' at (take j piece) s'' to'
feeds_turn s s' s'' k k' k'' room room' room'' at to to' piece i j h l F F' M S =
    let a = F M S in
    let M' = (fed_all M (take i piece)).reading in
    let y = take (j - i) (drop i piece) in
    let b = F' M' a.shows in
    let f = (fed_all M (take i piece)).found in
    let g = (fed_all M' y).found in
    let e : fed_all M (take j piece) ≡ behind f (fed_all M' y) = ap (fed_all M) (take_more piece i j h) ∙ fed_append M (take i piece) y in
    let t : as_lines (f ++ g) ≡ as_lines f ++ as_lines g = lines_append f g in
    let n = length-append (as_lines f) (as_lines g) in
    let ta = a.ends in
    let tb = b.ends in
    let ia = a.inside in
    let ib = b.inside in
    let z : to' ≡ at + length (as_lines f ++ as_lines g) = omega arith in
    let w : room'' ≡ written_at room at (as_lines f ++ as_lines g) = b.into ∙ (rw (a.into, ta) (written_then room at (as_lines f) (as_lines g) (omega arith))) in
    record {
      shows = rw e b.shows;
      ends = rw (e, t) z;
      into = rw (e, t) w;
      inside = rw (e, t) (omega arith);
    }

-- ---- before the first piece
pub shows_first : (k : Lent) → Roomy k → k.table ≡ no_edges → Shows first_state k begun
unfolding first_state
shows_first k R e = record {
  tells = record { holds = rw e holds_none; fine = tt; roomy = R };
  stands = refl;
  line = refl;
  held = nothing_holds.holds;
  short = nothing_holds.short;
  whole = nothing_holds.whole;
  goes = refl;
}

pub first_is : (e : _) (h : Held) → e ≡ no_sets → h ≡ no_line → ◌≡◌ {A = State} (record { reader = record { line = 1; stands = Outside; ended = e }; held = h; stopped = false }) first_state
unfolding first_state
first_is e h q r = rw (q, r)

-- ---- the loop over the lines of a piece
pub record Fedto (s₀ : State) (k₀ k : Lent) (room₀ room : List ℕ) (at : ℕ) (piece : List ℕ) (s : State) (i to : ℕ) : Type 0 where
  pub within : i ≤ length piece
  pub feeds : at ≤ length room₀ → Feeds s₀ k₀ k room₀ room at (take i piece) s to

pub fedto_none : (s : State) (k : Lent) (room : List ℕ) (at : ℕ) (piece : List ℕ) → Fedto s k k room room at piece s 0 at
fedto_none s k room at piece = record { within = omega arith; feeds = λ h. feeds_none s k room at piece h }

pub fedto_turn : (s₀ : State) (k₀ k k' : Lent) (room₀ room room' : List ℕ) (at : ℕ) (piece : List ℕ) (s s' : State) (i j to to' : ℕ) → length room ≡ length room₀ → Fedto s₀ k₀ k room₀ room at piece s i to → (i < j) × (j ≤ length piece) → Feeds s k k' room room' to (take (j - i) (drop i piece)) s' to' → Fedto s₀ k₀ k' room₀ room' at piece s' j to'
fedto_turn s₀ k₀ k k' room₀ room room' at piece s s' i j to to' l F h G = record { within = h.1; feeds = λ g. feeds_turn s₀ s s' k₀ k k' room₀ room room' at to to' piece i j (omega (arith, h.0)) l (F.feeds g) G }
