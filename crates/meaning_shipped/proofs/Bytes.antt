-- The shipped reader's own bytes and words, fed any bytes in any pieces: each line leaves them as calls do. The proofs.
use Rattle.std.specs.declared.result.Result.TheVariants.{Err, Ok}
use Rattle.std.specs.declared.option.Option.TheVariants.{None, Some}
use Rattle.std.specs.Prelude.{◌≡◌, Bool, ◌&&◌, List, [], ◌∷◌, ℕ, zero, suc, ◌+◌, ◌-◌, ◌*◌, ◌≤◌, ◌<◌, min, length, get_or, take, drop, eqb, ltb, leb}
use Rattle.std.proofs.Math.Path.{refl}
use Rattle.std.proofs.Common.{sym, ap, ◌∙◌, ⊎_elim, arith, length-append, ltb-true, ltb-false}
use Rattle.std.proofs.Math.Bool.{true, false}
use Rattle.std.proofs.Math.Option.{Option, none, some}
use Rattle.paper.specs.declared.Constraint.{Constraint}
use Rattle.paper.specs.declared.Item.{Item}
use Rattle.paper.specs.declared.Item.TheVariants.{Is, Equal}
use Rattle.paper.specs.declared.Refusal.{Refusal}
use Rattle.paper.specs.declared.Refusal.TheVariants.{Layout, Repeated, TooManyRules}
use Rattle.paper.specs.declared.Rule.{Rule}
use Rattle.paper.specs.Answered.{Verdict}
use Rattle.std.specs.Prelude.{if◌then◌else◌}
use Rattle.paper.specs.Numbers.{max_digits, max_rules, last_line, Outcome, done, refused}
use Rattle.paper.specs.Sites.{Added}
use Rattle.paper.specs.Layout as layout
use Rattle.paper.specs.Layout.{digit, with_byte, bytes, line_bytes, then_read, give, refuse, byte, number_from, two_bytes, four_bytes, eight_bytes, flags_byte, site_read, constraint_read, frame_readers, frame_read, whole, framed, frame_of, begin_set, a_site, a_rule, an_item}
use Rattle.paper.specs.Loading.{Set}
use Rattle.paper.proofs.Laws.{at_inside, number_some, taken, next_is, There, Fresh}
use Rattle.paper.proofs.Lists.{and_both}
use Rattle.paper.proofs.Outcomes.{demand_done}
use Rattle.rule_words.specs.Stored.{base, stride}
use Rattle.sites.specs.Slots.{sites_in, added_in, numbered_as, after_add}
use Rattle.sites.specs.declared.Numbered.TheVariants as numbered
use Rattle.sites.proofs.Places.{sites_length}
use Rattle.item_words.specs.Items as handed
use Rattle.rule_load.specs.Whole.{load_in, loaded_as, sites_after, words_after}
use Rattle.sheet_frames.specs.Said.{code, reading_of}
use Rattle.sheet_frames.specs.declared.Frame.{Frame}
use Rattle.sheet_frames.specs.declared.Frame.TheVariants as said
use Rattle.sheet_lines.specs.Cut.{cut_at}
use Rattle.sheet_lines.specs.declared.Cut.{Cut}
use Rattle.sheet_ended.specs.Sets.{verdict_as, may_begin}
use Rattle.sheet_reader.specs.State.{Lent, lent, step_room}
use Rattle.sheet_reader.specs.Answers.{is_outside, site_set, Awaits, rule_set, open_rule, unread}
use Rattle.sheet_reader.specs.Leaves.{After, after, gone_on, stop_answer, stop_in}
use Rattle.sheet_reader.specs.declared.Awaited.{Awaited}
use Rattle.sheet_reader.specs.declared.Event.{Event}
use Rattle.sheet_reader.specs.declared.Event.TheVariants as event
use Rattle.sheet_reader.specs.declared.OpenSet.{OpenSet}
use Rattle.sheet_reader.specs.declared.Reader.{Reader}
use Rattle.sheet_reader.specs.declared.Stands.{Stands}
use Rattle.sheet_reader.specs.declared.Stands.TheVariants.{Outside, Sites, Rules, Items}
use Rattle.paper.specs.Answered.{Maybe}
use Rattle.sheet_reader.proofs.Standing.{where_not}
use Rattle.sheet_sites.specs.Numbers.{next_of}
use Rattle.sheet_sites.specs.Leaves.{new_set, begin_judged, begin_in, one_site_more, site_numbered, site_where, site_in, site_line_in}
use Rattle.sheet_sites.proofs.Small.{next_more}
use Rattle.sheet_rule.specs.Rules.{next_rule_of}
use Rattle.sheet_rule.specs.Leaves.{one_rule_more, rule_loaded, loaded_memory, load_of, read_in, rule_where, rule_in, with_kept, item_awaited, item_in}
use Rattle.sheet_rule.proofs.Small.{rule_more}
use Rattle.sheet_step.specs.Leaves.{end_where, end_in, frame_in, line_in, numbered_in, step_in}
use Rattle.sheet_read.specs.Whole.{first_state}
use Rattle.sheet_read.specs.Leaves.{Leaves, leaves, fed_to, line_text, line_stepped, line_cut, feed_line_in, goes_on, feed_from, feed_in}
use Rattle.sheet_read.specs.declared.Fed.{Fed}
use Rattle.sheet_read.specs.declared.State.{State}
use Rattle.meaning_shipped.specs.Words.{MadeIn, started, site_in as site-more, loaded_in, MadeAt, FedTo, from_begin, then_fed}
use Rattle.meaning_shipped.proofs.Made.{the_site}
use Rattle.meaning_shipped.proofs.Handed.{handed_fits}

-- ---- the numbers of a rule's line: its place has four bytes and its priority eight
abbrev Small : List ℕ → Type 0
Small [] = Unit {0}
Small (b ∷ s) = (b < 256) × Small s

abbrev SmallBytes : Option (List ℕ) → Type 0
SmallBytes none = Unit {0}
SmallBytes (some s) = Small s

with_small : (h l : ℕ) (o : Option (List ℕ)) → SmallBytes o → SmallBytes (with_byte h l o)
with_small h l none S = tt
with_small h l (some s) S = go (ltb h 16) refl (ltb l 16) refl
  where
    go : (t : Bool) → ltb h 16 ≡ t → (u : Bool) → ltb l 16 ≡ u → SmallBytes (if t && u then some ((h * 16 + l) ∷ s) else none)
    go true e true f = let a = ltb-true h 16 e in let b = ltb-true l 16 f in (omega arith, S)
    go true e false f = tt
    go false e u f = tt

bytes_small : (l : List ℕ) → SmallBytes (bytes l)
unfolding bytes
bytes_small [] = tt
bytes_small (h ∷ []) = tt
bytes_small (h ∷ l ∷ s) = with_small (digit h) (digit l) (bytes s) (bytes_small s)

line_small : (l : List ℕ) → SmallBytes (line_bytes l)
unfolding line_bytes
line_small l = go (leb (length l) max_digits)
  where
    go : (t : Bool) → SmallBytes (if t then bytes l else none)
    go true = bytes_small l
    go false = tt

-- k bytes more
abbrev times : ℕ → ℕ → ℕ
times b zero = b
times b (suc k) = times (b * 256) k

abbrev Below : ℕ → Option (ℕ × List ℕ) → Type 0
Below b none = Unit {0}
Below b (some p) = (p.0 < b) × Small p.1

number_small : (n k b : ℕ) (s : List ℕ) → Small s → n < b → Below (times b k) (number_from n k s)
unfolding number_from
number_small n zero b s S h = (h, S)
number_small n (suc k) b [] S h = tt
number_small n (suc k) b (x ∷ s) S h = let y = S.0 in number_small (n * 256 + x) k (b * 256) s S.1 (omega arith)

abbrev SmallFrame : Frame → Type 0
SmallFrame (said.Begin t f) = Unit {0}
SmallFrame said.Site = Unit {0}
SmallFrame (said.Rule p q n) = (p < 4294967296) × (q < 18446744073709551616)
SmallFrame (said.Item i) = Unit {0}
SmallFrame said.End = Unit {0}
SmallFrame said.Wrong = Unit {0}

last_small : {A : Type 0} (f : A → layout.Frame) → ((a : A) → SmallFrame (code (some (f a)))) → (o : Option (A × List ℕ)) →
    SmallFrame (code (whole (then_read (λ a. give (f a)) o)))
unfolding code
last_small f h none = tt
last_small f h (some (a, [])) = h a
last_small f h (some (a, b ∷ s)) = tt

begin_small : (s : List ℕ) → SmallFrame (code (whole (get_or frame_readers 1 refuse s)))
unfolding frame_readers code
begin_small s = go (two_bytes s)
  where
    go : (o : Option (ℕ × List ℕ)) → SmallFrame (code (whole (then_read (λ f r. then_read (λ a. give (f a)) (flags_byte r))
        (then_read (λ a. give (begin_set a)) o))))
    go none = tt
    go (some p) = last_small (begin_set p.0) (λ a. tt) (flags_byte p.1)

site_small : (s : List ℕ) → SmallFrame (code (whole (get_or frame_readers 2 refuse s)))
unfolding frame_readers code
site_small s = last_small a_site (λ a. tt) (site_read s)

rule_small : (s : List ℕ) → Small s → SmallFrame (code (whole (get_or frame_readers 3 refuse s)))
unfolding frame_readers code
rule_small s S = go (four_bytes s) (number_small 0 4 1 s S (omega arith))
  where
    next : (n : ℕ) → n < 4294967296 → (o : Option (ℕ × List ℕ)) → Below 18446744073709551616 o →
        SmallFrame (code (whole (then_read (λ f r. then_read (λ a. give (f a)) (byte r)) (then_read (λ a. give (a_rule n a)) o))))
    next n l none B = tt
    next n l (some p) B = last_small (a_rule n p.0) (λ a. (l, B.0)) (byte p.1)

    go : (o : Option (ℕ × List ℕ)) → Below 4294967296 o → SmallFrame (code (whole (then_read (λ f r. then_read (λ a. give (f a)) (byte r))
        (then_read (λ f r. then_read (λ a. give (f a)) (eight_bytes r)) (then_read (λ a. give (a_rule a)) o)))))
    go none B = tt
    go (some p) B = next p.0 B.0 (eight_bytes p.1) (number_small 0 8 1 p.1 B.1 (omega arith))

is_small : (s : List ℕ) → SmallFrame (code (whole (get_or frame_readers 4 refuse s)))
unfolding frame_readers code
is_small s = go (two_bytes s)
  where
    go : (o : Option (ℕ × List ℕ)) → SmallFrame (code (whole (then_read (λ (f : Constraint → layout.Frame) (r : List ℕ).
        then_read (λ a. give (f a)) (constraint_read r)) (then_read (λ a. give (λ c. an_item (Is a c))) o))))
    go none = tt
    go (some p) = last_small (λ c. an_item (Is p.0 c)) (λ a. tt) (constraint_read p.1)

equal_small : (s : List ℕ) → SmallFrame (code (whole (get_or frame_readers 5 refuse s)))
unfolding frame_readers code
equal_small s = go (two_bytes s)
  where
    go : (o : Option (ℕ × List ℕ)) → SmallFrame (code (whole (then_read (λ (f : ℕ → layout.Frame) (r : List ℕ).
        then_read (λ a. give (f a)) (two_bytes r)) (then_read (λ a. give (λ b. an_item (Equal a b))) o))))
    go none = tt
    go (some p) = last_small (λ b. an_item (Equal p.0 b)) (λ a. tt) (two_bytes p.1)

end_small : (s : List ℕ) → SmallFrame (code (whole (get_or frame_readers 6 refuse s)))
unfolding frame_readers code
end_small [] = tt
end_small (b ∷ s) = tt

bytes_frame : (s : List ℕ) → Small s → SmallFrame (code (framed (some s)))
unfolding frame_read frame_readers code
bytes_frame [] S = tt
bytes_frame (zero ∷ s) S = tt
bytes_frame (suc zero ∷ s) S = begin_small s
bytes_frame (suc (suc zero) ∷ s) S = site_small s
bytes_frame (suc (suc (suc zero)) ∷ s) S = rule_small s S.1
bytes_frame (suc (suc (suc (suc zero))) ∷ s) S = is_small s
bytes_frame (suc (suc (suc (suc (suc zero)))) ∷ s) S = equal_small s
bytes_frame (suc (suc (suc (suc (suc (suc zero))))) ∷ s) S = end_small s
bytes_frame (suc (suc (suc (suc (suc (suc (suc k)))))) ∷ s) S = tt

reading_small : (l : List ℕ) → SmallFrame (reading_of l).frame
unfolding reading_of frame_of code
reading_small l = go (line_bytes l) (line_small l)
  where
    go : (o : Option (List ℕ)) → SmallBytes o → SmallFrame (code (framed o))
    go none S = tt
    go (some s) S = bytes_frame s S

-- ---- the counts of a call that answers `done` are those that the reader then holds
record Counted (n : ℕ) (a : Added) : Type 0 where
  was : a.number < n → length a.sites ≡ n
  new : n ≤ a.number → length a.sites ≡ next_of n

counted : (m : List ℕ) (n at : ℕ) (b : List ℕ) (a : Added) → added_in m n at b ≡ done a → Counted n a
unfolding added_in
counted m n at b a e =
    let s = the_site m n at (whole (site_read b)) a e in
    let t = sites_length m n in
    ⊎_elim (λ (h : There (sites_in m n) s.0 a).
    let l = ap length h.sites in
    let i = at_inside (sites_in m n) a.number s.0 (number_some (sites_in m n) s.0 a.number h.found) in
    record { was = λ _. l ∙ t; new = λ o. absurd (omega arith) })
    (λ (f : Fresh (sites_in m n) s.0 a).
    let l = ap length f.sites ∙ length-append (sites_in m n) (s.0 ∷ []) in
    let i = f.number in
    let r = f.room in
    let k : length a.sites ≡ n + 1 = omega arith in
    record { was = λ o. absurd (omega arith); new = λ _. k ∙ next_more n (omega arith) })
    (next_is (sites_in m n) at s.0 a (taken (sites_in m n) at s.0 a s.1).next)

rule_counted : (m : List ℕ) (n : ℕ) (ws : List ℕ) (k : ℕ) (r : Rule) (g : Set) → load_in m n ws k r ≡ done g → suc k ≡ next_rule_of k
unfolding load_in
rule_counted m n ws k r g e =
    let x = demand_done (ltb k max_rules && leb (base k + stride) (length ws)) (TooManyRules (suc (min k max_rules))) _ g e in
    let h = ltb-true k max_rules (and_both (ltb k max_rules) _ x.0).0 in
    let z : suc k ≡ k + 1 = omega arith in
    z ∙ rule_more k h

-- ---- a line. Of a rule whose items are still to come, its numbers fit as well.
abbrev InSet : List ℕ → List ℕ → OpenSet → Type 0
InSet m ws s = MadeIn m s.sites ws s.rules

abbrev RuleSmall : Awaited → Type 0
RuleSmall w = (w.place < 4294967296) × (w.priority < 18446744073709551616)

abbrev Stays : List ℕ → List ℕ → Stands → Type 0
Stays m ws Outside = Unit {0}
Stays m ws (Sites s) = InSet m ws s
Stays m ws (Rules s) = InSet m ws s
Stays m ws (Items s w left) = InSet m ws s × RuleSmall w

abbrev StaysAt : Lent → Stands → Type 0
StaysAt k s = Stays k.sites k.words s

abbrev StaysIn : After → Type 0
StaysIn o = StaysAt o.memory o.answer.reader.stands

-- where a frame may stand, the set that it is for is made
site_open : (t : Stands) (s : OpenSet) → site_set t ≡ Some s → t ≡ Sites s
site_open Outside s e = where_not (sym e)
site_open (Sites g) s e = let z : g ≡ s = cc in ap Sites z
site_open (Rules g) s e = where_not (sym e)
site_open (Items g w n) s e = where_not (sym e)

rule_open : (k : Lent) (t : Stands) (s : OpenSet) → rule_set t ≡ Some s → StaysAt k t → InSet k.sites k.words s
rule_open k Outside s e M = where_not (sym e)
rule_open k (Sites g) s e M = let z : g ≡ s = cc in rw z at M
rule_open k (Rules g) s e M = let z : g ≡ s = cc in rw z at M
rule_open k (Items g w n) s e M = where_not (sym e)

awaits_not : {A : Type 0} {s : OpenSet} {w : Awaited} {n : ℕ} → ◌≡◌ {A = Awaits} None (Some (s, w, n)) → A
awaits_not e = let z : ◌≡◌ {A = ℕ} 0 1 = cc in absurd (omega arith)

item_open : (k : Lent) (t : Stands) (s : OpenSet) (w : Awaited) (n : ℕ) → open_rule t ≡ Some (s, w, n) → StaysAt k t →
    InSet k.sites k.words s × RuleSmall w
item_open k Outside s w n e M = awaits_not e
item_open k (Sites g) s w n e M = awaits_not e
item_open k (Rules g) s w n e M = awaits_not e
item_open k (Items g v i) s w n e M =
    let same : ◌≡◌ {A = OpenSet × Awaited × ℕ} (g, v, i) (s, w, n) = cc in
    let z : g ≡ s = ap (λ o. o.0) same in
    let y : v ≡ w = ap (λ o. o.1) same in
    (rw z at M.0, rw y at M.1)

abbrev with_added : Lent → OpenSet → Outcome Added → Lent
with_added k s o = lent (after_add k.sites s.sites o) k.words k.items k.table

module _ (r : Reader) (room : List ℕ) (at : ℕ) where
  stop_stays : (k : Lent) (why : Refusal) → StaysAt k r.stands → StaysIn (stop_in r k room at why)
  unfolding stop_in stop_answer
  stop_stays k why M = M

  gone_stays : (k : Lent) (s : Stands) (e : Event) (to : ℕ) → StaysAt k s → StaysAt k (gone_on r s e to).reader.stands
  unfolding gone_on
  gone_stays k s e to M = M

  -- 01
  begin_stays : (k : Lent) (t f : ℕ) → StaysAt k r.stands → StaysIn (begin_in r k room at t f)
  unfolding begin_in
  begin_stays k t f M = go (is_outside r.stands) (verdict_as (may_begin r.ended t r.line))
    where
      go : (b : Bool) (v : Verdict) → StaysIn (if b then begin_judged r k room at (new_set t f) v else stop_in r k room at (Layout r.line))
      go true (Ok _) = gone_stays k (Sites (new_set t f)) event.Begun at (started k.sites k.words)
      go true (Err why) = stop_stays k why M
      go false v = stop_stays k (Layout r.line) M

  -- 02
  added_stays : (k : Lent) (b : List ℕ) (s : OpenSet) → r.stands ≡ Sites s → InSet k.sites k.words s → StaysIn (site_where r k room at b (Some s))
  added_stays k b s q M = go (added_in k.sites s.sites r.line b) refl
    where
      numbers : (a : Added) → added_in k.sites s.sites r.line b ≡ done a → (t : Bool) → ltb a.number s.sites ≡ t →
          StaysIn (site_numbered r (with_added k s (done a)) room at s (if t then (Ok (numbered.Known a.number)) else (Ok (numbered.Fresh a.number))))
      numbers a e true f =
          let c = (counted k.sites s.sites r.line b a e).was (ltb-true _ _ f) in
          let N : InSet (after_add k.sites s.sites (done a)) k.words s = rw c at (site-more r.line b a M e) in
          stop_stays (with_added k s (done a)) (Repeated r.line) (rw q N)
      numbers a e false f =
          let c = (counted k.sites s.sites r.line b a e).new (ltb-false _ _ f) in
          let N : InSet (after_add k.sites s.sites (done a)) k.words (one_site_more s) = rw c at (site-more r.line b a M e) in
          gone_stays (with_added k s (done a)) (Sites (one_site_more s)) event.Site at N

      go : (o : Outcome Added) → added_in k.sites s.sites r.line b ≡ o →
          StaysIn (site_numbered r (with_added k s o) room at s (numbered_as s.sites o))
      go (done a) e = numbers a e (ltb a.number s.sites) refl
      go (refused x) e = stop_stays (with_added k s (refused x)) x (rw q M)

  site_stays : (k : Lent) (b : List ℕ) → StaysAt k r.stands → StaysIn (site_in r k room at b)
  unfolding site_in
  site_stays k b M = go (site_set r.stands) refl
    where
      go : (v : Maybe OpenSet) → site_set r.stands ≡ v → StaysIn (site_where r k room at b v)
      go None e = stop_stays k (Layout r.line) M
      go (Some s) e = let q = site_open r.stands s e in added_stays k b s q (rw q at M)

  site_line_stays : (k : Lent) (l : List ℕ) → StaysAt k r.stands → StaysIn (site_line_in r k room at l)
  unfolding site_line_in
  site_line_stays k l M = go (eqb (length l) 0)
    where
      go : (t : Bool) → StaysIn (if t then stop_in r k room at (Layout r.line) else site_in r k room at (drop 1 l))
      go true = stop_stays k (Layout r.line) M
      go false = site_stays k (drop 1 l) M

  -- a rule with all its items
  read_stays : (k : Lent) (s : OpenSet) (w : Awaited) → InSet k.sites k.words s → RuleSmall w → StaysIn (read_in r k room at s w)
  unfolding read_in
  read_stays k s w M S = go (load_of k s w) refl
    where
      go : (o : Outcome Set) → load_of k s w ≡ o → StaysIn (rule_loaded r (loaded_memory k s o) room at s w (loaded_as o))
      go (done g) e =
          let rule = handed.rule_in k.items w.place w.priority w.count in
          let c = rule_counted k.sites s.sites k.words s.rules rule g e in
          let F = handed_fits k.items w.place w.priority w.count S.0 S.1 in
          let N : InSet (sites_after k.sites s.sites (done g)) (words_after k.words s.rules (done g)) (one_rule_more s (length g.sites)) =
          rw c at (loaded_in rule g M F e) in
          gone_stays (loaded_memory k s (done g)) (Rules (one_rule_more s (length g.sites))) (event.Kept w.place w.priority) at N
      go (refused x) e = gone_stays (loaded_memory k s (refused x)) (Rules s) _ _ M

  -- 03
  rule_stays : (k : Lent) (w : Awaited) → RuleSmall w → StaysAt k r.stands → StaysIn (rule_in r k room at w)
  unfolding rule_in
  rule_stays k w S M = go (rule_set r.stands) refl
    where
      counts : (s : OpenSet) → InSet k.sites k.words s → (t : Bool) →
          StaysIn (if t then read_in r k room at s w else after (gone_on r (Items s w w.count) event.Item at) k room)
      counts s N true = read_stays k s w N S
      counts s N false = gone_stays k (Items s w w.count) event.Item at (N, S)

      go : (v : Maybe OpenSet) → rule_set r.stands ≡ v → StaysIn (rule_where r k room at w v)
      go None e = stop_stays k (Layout r.line) M
      go (Some s) e = counts s (rule_open k r.stands s e M) (eqb w.count 0)

  -- 04 and 05
  item_stays : (k : Lent) (i : Item) → StaysAt k r.stands → StaysIn (item_in r k room at i)
  unfolding item_in
  item_stays k i M = go (open_rule r.stands) refl
    where
      counts : (s : OpenSet) (w : Awaited) (n : ℕ) → InSet k.sites k.words s × RuleSmall w → (t : Bool) →
          StaysIn (if t then read_in r (with_kept k w n i) room at s w
          else after (gone_on r (Items s w (n - 1)) event.Item at) (with_kept k w n i) room)
      counts s w n N true = read_stays (with_kept k w n i) s w N.0 N.1
      counts s w n N false = gone_stays (with_kept k w n i) (Items s w (n - 1)) event.Item at N

      go : (v : Awaits) → open_rule r.stands ≡ v → StaysIn (item_awaited r k room at i v)
      go None e = stop_stays k (Layout r.line) M
      go (Some (s, w, n)) e = counts s w n (item_open k r.stands s w n e M) (ltb n 2)

  -- 06
  end_stays : (k : Lent) → StaysAt k r.stands → StaysIn (end_in r k room at)
  unfolding end_in
  end_stays k M = go (rule_set r.stands)
    where
      go : (v : Maybe OpenSet) → StaysIn (end_where r k room at v)
      go None = stop_stays k (Layout r.line) M
      go (Some s) = tt

  frame_stays : (k : Lent) (l : List ℕ) (f : Frame) → SmallFrame f → StaysAt k r.stands → StaysIn (frame_in r k room at l f)
  frame_stays k l (said.Begin t f) S M = begin_stays k t f M
  frame_stays k l said.Site S M = site_line_stays k l M
  frame_stays k l (said.Rule p q n) S M = rule_stays k (record { place = p; priority = q; count = n }) S M
  frame_stays k l (said.Item i) S M = item_stays k i M
  frame_stays k l said.End S M = end_stays k M
  frame_stays k l said.Wrong S M = stop_stays k (Layout r.line) M

  numbered_stays : (k : Lent) (l : List ℕ) → StaysAt k r.stands → StaysIn (numbered_in r k room at l)
  unfolding numbered_in
  numbered_stays k l M = go (leb r.line last_line)
    where
      go : (t : Bool) → StaysIn (if t then line_in r k room at (reading_of l) else stop_in r k room at (Layout r.line))
      go true = frame_stays k (take (reading_of l).length (reading_of l).bytes) (reading_of l).frame (reading_small l) M
      go false = stop_stays k (Layout r.line) M

  -- any line, with any memory and room
  pub step_stays : (k : Lent) (l : List ℕ) → StaysAt k r.stands → StaysIn (step_in r k room at l)
  unfolding step_in
  step_stays k l M = go (leb (at + step_room) (length room))
    where
      go : (t : Bool) → StaysIn (if t then numbered_in r k room at l else after (unread r at) k room)
      go true = numbered_stays k l M
      go false = M

-- ---- pieces
abbrev StaysFed : Leaves Fed → Type 0
StaysFed x = StaysAt x.memory x.answer.state.reader.stands

cut_stays : (s : State) (k : Lent) (room : List ℕ) (at : ℕ) (piece : List ℕ) (from : ℕ) (c : Cut) → StaysAt k s.reader.stands →
    StaysFed (line_cut s k room at piece from c)
cut_stays s k room at piece from c M = go c.unended
  where
    go : (t : Bool) → StaysFed (if t then leaves (fed_to (record { reader = s.reader; held = c.held; stopped = false }) (length piece) at) k room
        else line_stepped c.to (step_in s.reader k room at (line_text c piece from)))
    go true = M
    go false = step_stays s.reader room at k (line_text c piece from) M

feed_line_stays : (s : State) (k : Lent) (room : List ℕ) (at : ℕ) (piece : List ℕ) (from : ℕ) → StaysAt k s.reader.stands →
    StaysFed (feed_line_in s k room at piece from)
unfolding feed_line_in
feed_line_stays s k room at piece from M = cut_stays s k room at piece from (cut_at s.held piece from) M

either_stays : (t : Bool) (x y : Leaves Fed) → StaysFed x → StaysFed y → StaysFed (if t then y else x)
either_stays true x y M N = N
either_stays false x y M N = M

from_stays : (n : ℕ) (piece : List ℕ) (x : Leaves Fed) → StaysFed x → StaysFed (feed_from n piece x)
unfolding feed_from
from_stays zero piece x M = M
from_stays (suc n) piece x M =
    let y = feed_line_in x.answer.state x.memory x.room x.answer.to piece x.answer.read in
    let N = feed_line_stays x.answer.state x.memory x.room x.answer.to piece x.answer.read M in
    either_stays (goes_on piece x) x (feed_from n piece y) M (from_stays n piece y N)

pub feed_stays : (s : State) (k : Lent) (room : List ℕ) (at : ℕ) (piece : List ℕ) → StaysAt k s.reader.stands → StaysFed (feed_in s k room at piece)
unfolding feed_in
feed_stays s k room at piece M = from_stays (length piece) piece (leaves (fed_to s 0 at) k room) M

first_stays : (k : Lent) → StaysAt k first_state.reader.stands
unfolding first_state
first_stays k = tt

fed_stays : {s : State} {k : Lent} → FedTo s k → StaysAt k s.reader.stands
fed_stays (from_begin k) = first_stays k
fed_stays (then_fed {s = s} {k = k} room at piece F) = feed_stays s k room at piece (fed_stays F)

pub fed_made : (s : State) (k : Lent) → FedTo s k → MadeAt k.sites k.words s.reader.stands
fed_made s k F = go s.reader.stands (fed_stays F)
  where
    go : (t : Stands) → StaysAt k t → MadeAt k.sites k.words t
    go Outside M = tt
    go (Sites g) M = M
    go (Rules g) M = M
    go (Items g w n) M = M.0
