-- The sheet calls: what is fed, ended and checked, over the words and bytes that are lent.
use mathlib.Core.Path.{◌≡◌, refl, ap, sym, ◌∙◌}
use mathlib.Core.Bool.{Bool, true, false}
use mathlib.Core.List.{List, [], ◌∷◌, append-nil}
use mathlib.Core.Logic.{◌⊎◌, inl, inr, ⊎_elim}
use Prim.Native.Nat.{ℕ, zero, suc, ◌+◌, ◌≤◌, ◌<◌}
use native.Mathlib.Nat.{zero-add}
use native.Mathlib.Omega.{arith}
use lib.ListN.{length, get_or, set, take, drop, take-append-drop, length-replicate}
use lib.Seq.{take_all}
use borrow.Author.Tests.{leb-true}
use Rattle.std.specs.declared.result.Result.TheVariants.{Err, Ok}
use Rattle.std.specs.declared.option.Option.TheVariants.{None, Some}
use Rattle.std.specs.Prelude.{if◌then◌else◌}
use Rattle.paper.specs.Words.{joined}
use Rattle.paper.proofs.Lists.{no_way}
use Rattle.paper.specs.Answered.{Maybe}
use Rattle.term_table.specs.Table.{Square, no_edges, no_marks}
use Rattle.sheet_ended.specs.Sets.{end_room, no_sets}
use Rattle.sheet_lines.specs.Fed.{Reading, going, stopped, begun, fed, behind, fed_all, ended, max_held}
use Rattle.sheet_lines.specs.Pieces.{as_lines, fed_append}
use Rattle.sheet_lines.specs.Held.{no_line}
use Rattle.sheet_reader.specs.State.{Lent, lent, step_room, sites_room, kept_room, items_room}
use Rattle.sheet_read.specs.declared.State.{State}
use Rattle.sheet_read.specs.Checked.{Checked}
use Rattle.sheet_read.specs.declared.Unchecked.TheVariants as checked
use Rattle.sheet_read.specs.Whole.{first_state, Shows, Feeds, Ends, Pauses, Checks, Enough}
use Rattle.sheet_read.proofs.Feeding.{shows_first}
use Rattle.sheet_state.specs.State.{state_words, state_in, state_put, held_put}
use Rattle.sheet_state.proofs.Reading.{SmallStands, SmallState, kept_state}
use Rattle.box_answers.specs.declared.Said.{Said}
use Rattle.box_answers.specs.Border.{short, answer_words, said, has_room, both, answered, after}
use Rattle.box_sheet.specs.Sheet.{lends, writes, begun_number, Fed, FeedSays, ended_said, Closed, EndSays, checked_said, CheckSays}
use Rattle.box_answers.proofs.Crossing.{stayed, went, enough}

-- ---- a sheet that stopped: what comes behind is read, and nothing is found

stays : (s : List ℕ) → fed_all stopped s ≡ record { reading = stopped; found = [] }
unfolding fed_all fed
stays [] = refl
stays (b ∷ s) = rw (stays s)

halts : (s : State) (k : Lent) (M : Reading) → Shows s k M → s.stopped ≡ true → M ≡ stopped
halts s k stopped S e = refl
halts s k (going d l h) G e = no_way (sym e ∙ G.goes)

module _ (s : State) (k k' : Lent) (room room' piece : List ℕ) (i : ℕ) (s' : State) (to : ℕ) (F : Feeds s k k' room room' 0 (take i piece) s' to) where
  all_fed : s'.stopped ≡ true → Feeds s k k' room room' 0 (take (length piece) piece) s' to
  all_fed e M S =
      let a = F M S in
      let M' = (fed_all M (take i piece)).reading in
      let f = (fed_all M (take i piece)).found in
      let h : M' ≡ stopped = halts s' k' M' a.shows e in
      let q : fed_all M (take (length piece) piece) ≡ fed_all M (take i piece) =
      ap (fed_all M) (take_all (length piece) piece (omega arith) ∙ sym (take-append-drop i piece)) ∙ (fed_append M (take i piece) (drop i piece)
      ∙ (ap (λ (x : Reading). behind f (fed_all x (drop i piece))) h ∙ (ap (behind f) (stays (drop i piece)) ∙ rw (append-nil f, h))))
      in
      record { shows = rw q a.shows; ends = rw q a.ends; into = rw q a.into; inside = rw q a.inside }

  counted_fed : (n : ℕ) → n ≡ (if s'.stopped then length piece else i) → Feeds s k k' room room' 0 (take n piece) s' to
  counted_fed n e = go s'.stopped refl
    where
      go : (b : Bool) → s'.stopped ≡ b → Feeds s k k' room room' 0 (take n piece) s' to
      go true h = let m : n ≡ length piece = rw h at e in rw m (all_fed h)
      go false h = let m : n ≡ i = rw h at e in rw m F

-- ---- what is lent is long enough

both_are : (a b : Bool) → both a b ≡ true → (a ≡ true) × (b ≡ true)
unfolding both
both_are true true e = (refl, refl)
both_are true false e = no_way (sym e)
both_are false b e = no_way (sym e)

roomy : (m : List ℕ) (n : ℕ) → has_room m n ≡ true → n ≤ length m
unfolding has_room
roomy m n e = leb-true n (length m) e

pub lends_long : (m ws i : List ℕ) → lends m ws i ≡ true → Enough m ws i
unfolding lends
lends_long m ws i e =
    let t = both_are (has_room m sites_room) (both (has_room ws kept_room) (has_room i items_room)) e in
    let u = both_are (has_room ws kept_room) (has_room i items_room) t.1 in
    record { sites = roomy m sites_room t.0; words = roomy ws kept_room u.0; items = roomy i items_room u.1 }

pub writes_long : (room : List ℕ) (n : ℕ) (a : List ℕ) → writes room n a ≡ true → (n ≤ length room) × (answer_words ≤ length a)
unfolding writes
writes_long room n a e = let t = both_are (has_room room n) (has_room a answer_words) e in (roomy room n t.0, roomy a answer_words t.1)

-- ---- begin

pub begin_short : (b : Bool) (w x h y : List ℕ) (t u : Square) → b ≡ false → (short ≡ begun_number b) × ((w ≡ after b w x) × ((h ≡ after b h y) × (t ≡ after b t u)))
begin_short b w x h y t u e = (rw e, (stayed b w x e, (stayed b h y e, stayed b t u e)))

pub begin_done : (b : Bool) (w h w' h' : List ℕ) (t t' : Square) (s : State) → b ≡ true → (s ≡ first_state) × (t' ≡ no_edges) → (w' ≡ state_put w s) × ((h' ≡ held_put h s) × (state_in w' h' ≡ s)) → (0 ≡ begun_number b) × ((w' ≡ after b w (state_put w first_state)) × ((h' ≡ after b h (held_put h first_state)) × (t' ≡ after b t no_edges)))
begin_done b w h w' h' t t' s e f p = (
  rw e,
  (went b w (state_put w first_state) w' e (p.0 ∙ ap (state_put w) f.0), (went b h (held_put h first_state) h' e (p.1.0 ∙ ap (held_put h) f.0), went b t no_edges t' e f.1)),
)

-- ---- the answer's words

pub said_there : (x : List ℕ × ℕ) (a : List ℕ) (s t : Said) → answer_words ≤ length a → x ≡ answered (has_room a answer_words) a s → s ≡ t → x ≡ answered true a t
said_there x a s t h e p = let r : has_room a answer_words ≡ true = enough a answer_words h in e ∙ (ap (λ (b : Bool). answered b a s) r ∙ ap (answered true a) p)

answer_is : (a a' : List ℕ) (r x y : ℕ) → answer_words ≤ length a → (a', r) ≡ answered true a (said 0 (x ∷ y ∷ [])) → (x ≡ get_or a' 0 0) × (y ≡ get_or a' 1 0)
unfolding answered
answer_is a a' r x y h e =
    let p : a' ≡ set (set a 0 x) 1 y = ap (λ (t : List ℕ × ℕ). t.0) e in
    (sym (ap (λ (l : List ℕ). get_or l 0 0) p ∙ first a h), sym (ap (λ (l : List ℕ). get_or l 1 0) p ∙ second a h))
  where
    first : (l : List ℕ) → answer_words ≤ length l → get_or (set (set l 0 x) 1 y) 0 0 ≡ x
    first [] g = absurd (omega arith)
    first (b ∷ []) g = absurd (omega arith)
    first (b ∷ c ∷ l) g = refl

    second : (l : List ℕ) → answer_words ≤ length l → get_or (set (set l 0 x) 1 y) 1 0 ≡ y
    second [] g = absurd (omega arith)
    second (b ∷ []) g = absurd (omega arith)
    second (b ∷ c ∷ l) g = refl

-- ---- feed

none_found : (M : Reading) (piece : List ℕ) → length (as_lines (fed_all M (take 0 piece)).found) ≡ 0
unfolding fed_all joined
none_found M piece = refl

module _ (w h : List ℕ) (k : Lent) (piece room w' h' : List ℕ) (k' : Lent) (room' : List ℕ) (i to : ℕ) (s s' : State) (es : s ≡ state_in w h)
    (F : (i ≤ length piece) × ((0 ≤ length room → Feeds s k k' room room' 0 (take i piece) s' to) × Pauses s' room to piece i)) (hr : step_room ≤ length room)
    (P : (w' ≡ state_put w s') × ((h' ≡ held_put h s') × (state_in w' h' ≡ s'))) (n : ℕ) (en : n ≡ (if s'.stopped then length piece else i)) where
  feeds : Feeds s k k' room room' 0 (take i piece) s' to
  feeds = F.1.0 (omega arith)

  within : (b : Bool) → s'.stopped ≡ b → n ≤ length piece
  within true e = let m : n ≡ length piece = rw e at en in omega arith
  within false e = let m : n ≡ i = rw e at en in let l = F.0 in omega arith

  pauses : (b : Bool) → s'.stopped ≡ b → n < length piece → length room < to + step_room
  pauses true e l = let m : n ≡ length piece = rw e at en in absurd (omega arith)
  pauses false e l = let m : n ≡ i = rw e at en in ⊎_elim (λ x. no_way (sym x ∙ e)) (λ x. x) (F.1.1 (omega arith))

  moves : (b : Bool) → s'.stopped ≡ b → (M : Reading) → Shows s k M → 0 < length piece → 0 < n
  moves true e M S l = let m : n ≡ length piece = rw e at en in omega arith
  moves false e M S l = let m : n ≡ i = rw e at en in rw m (go i feeds (λ x. ⊎_elim (λ y. no_way (sym y ∙ e)) (λ y. y) (F.1.1 x)))
    where
      go : (j : ℕ) → Feeds s k k' room room' 0 (take j piece) s' to → (j < length piece → length room < to + step_room) → 0 < j
      go zero f p = let a = (f M S).ends in let b = none_found M piece in let c = p l in absurd (omega arith)
      go (suc j) f p = omega arith

  pub fed_there : Fed w h k piece room w' h' k' room' n to
  fed_there = record {
    within = within s'.stopped refl;
    feeds = rw (P.1.1, ← es) (counted_fed s k k' room room' piece i s' to feeds n en);
    pauses = pauses s'.stopped refl;
    moves = rw (← es) (moves s'.stopped refl);
    words = rw P.1.1 P.0;
    bytes = rw P.1.1 P.1.0;
  }

pub feed_short : (b : Bool) (w h : List ℕ) (k : Lent) (piece room a : List ℕ) → b ≡ false → FeedSays b w h k piece room a w h k room a short
unfolding FeedSays
feed_short b w h k piece room a e = rw e (record { words = refl; bytes = refl; memory = refl; found = refl; answer = refl; number = refl })

pub feed_says : (b : Bool) (w h : List ℕ) (k : Lent) (piece room a w' h' : List ℕ) (k' : Lent) (room' a' : List ℕ) (r n to : ℕ) → b ≡ true → answer_words ≤ length a → Fed w h k piece room w' h' k' room' n to → (a', r) ≡ answered true a (said 0 (n ∷ to ∷ [])) → FeedSays b w h k piece room a w' h' k' room' a' r
unfolding FeedSays
feed_says b w h k piece room a w' h' k' room' a' r n to e l f p =
    let t = answer_is a a' r n to l p in
    let q : n ≡ get_or a' 0 0 = t.0 in
    let u : to ≡ get_or a' 1 0 = t.1 in
    rw (e, ← q, ← u) (f, p)

-- ---- end

pub end_short : (b : Bool) (w h : List ℕ) (t : Square) (room a : List ℕ) → b ≡ false → EndSays b w h t room a room a short
unfolding EndSays
end_short b w h t room a e = rw e (refl, refl, refl)

module _ (w h : List ℕ) (t : Square) (room a room' a' : List ℕ) (r : ℕ) (s : State) (x : Maybe ℕ) (y : Said) (es : s ≡ state_in w h) (hr : end_room ≤ length room)
    (E : (m ws i : List ℕ) → Ends s (lent m ws i t) room room' 0 x) (ey : y ≡ ended_said x) (p : (a', r) ≡ answered true a y) where
  closed_there : (m ws i : List ℕ) (M : Reading) → Shows s (lent m ws i t) M → Closed M room a room' a' r
  unfolding ended_said
  closed_there m ws i M S =
      let N = (E m ws i).0 (omega arith) M S in
      let z = zero-add (length (as_lines (ended M))) in
      record {
        answer = p ∙ ap (answered true a) (ey ∙ (ap ended_said N.is ∙ ap (λ (n : ℕ). said 0 (n ∷ [])) z));
        into = N.into;
      }

  numbered : (v : Maybe ℕ) → x ≡ v → (r ≡ 0) ⊎ (r ≡ short)
  unfolding ended_said answered
  numbered (Some n) e = inl (ap (λ (q : List ℕ × ℕ). q.1) p ∙ ap (λ (u : Said). u.number) (ey ∙ ap ended_said e))
  numbered None e = inr (ap (λ (q : List ℕ × ℕ). q.1) p ∙ ap (λ (u : Said). u.number) (ey ∙ ap ended_said e))

  pub end_says : (b : Bool) → b ≡ true → EndSays b w h t room a room' a' r
  unfolding EndSays
  end_says b e = rw (e, ← es) (closed_there, numbered x refl)

-- ---- check

pub check_short : (b : Bool) (sheet : List ℕ) (k : Lent) (room a : List ℕ) → b ≡ false → CheckSays b sheet k room a k room a short
unfolding CheckSays
check_short b sheet k room a e = rw e (record { memory = refl; found = refl; answer = refl; number = refl })

pub check_says : (b : Bool) (sheet m ws i : List ℕ) (t : Square) (room a : List ℕ) (k' : Lent) (room' a' : List ℕ) (r : ℕ) (c : Checked) (y : Said) → b ≡ true → Enough m ws i → Checks sheet m ws i room room' c → y ≡ checked_said c → (a', r) ≡ answered true a y → CheckSays b sheet (lent m ws i t) room a k' room' a' r
unfolding CheckSays checked_said
check_says b sheet m ws i t room a k' room' a' r (Ok n) y e l C ey p =
    rw e (inl (record { answer = p ∙ ap (answered true a) (ey ∙ ap (λ (x : ℕ). said 0 (x ∷ [])) C.0); into = C.1 }))
check_says b sheet m ws i t room a k' room' a' r (Err checked.NoRoom) y e l C ey p = rw e (inr (record { answer = p ∙ ap (answered true a) ey; short = C }))
check_says b sheet m ws i t room a k' room' a' r (Err checked.NoMemory) y e l C ey p = absurd (C.0 l)

-- ---- what `lintel_sheet_begin` leaves is the start of every sheet: the pieces go on from there

first_small : SmallState first_state
unfolding first_state no_sets no_line no_marks SmallStands
first_small = record {
  reader = record { line = omega arith; stands = tt; ended = record { sets = omega arith; kept = omega arith; used = refl; recs = refl } };
  bytes = length-replicate {A = ℕ} max_held 0;
}

pub begun_shows : (w h m ws i : List ℕ) → state_words ≤ length w → max_held ≤ length h → Enough m ws i → Shows (state_in (state_put w first_state) (held_put h first_state)) (lent m ws i no_edges) begun
begun_shows w h m ws i l k E = rw (kept_state w h first_state l k first_small) (shows_first (lent m ws i no_edges) (record { sites = E.sites; words = E.words; items = E.items }) refl)
