-- Where the reading of a sheet stands, as words and bytes: what the code reads and writes, and that what was written is read again.
use mathlib.Core.Path.{◌≡◌, refl, ap, ◌∙◌}
use mathlib.Core.Bool.{Bool, true, false, not}
use mathlib.Core.List.{List, [], ◌∷◌, ◌++◌, append_assoc}
use Prim.Native.Nat.{ℕ, ◌+◌, ◌%◌, ◌<◌, ◌≤◌}
use Rattle.std.specs.Prelude.{if◌then◌else◌}
use Rattle.paper.proofs.Lists.{and_both}
use native.Mathlib.Nat.{mod-eq_of_lt}
use native.Mathlib.Omega.{arith}
use lib.ListN.{length, get_or, set, take, drop, length-append}
use lib.Dec.{eqb, leb}
use lib.Seq.{sets, sets-eq, length-sets, take_at}
use mir.Val.{bool_byte}
use borrow.Author.Tests.{le-leb, leb-true}
use Rattle.sheet_ended.specs.declared.EndedSets.{EndedSets}
use Rattle.sheet_reader.specs.declared.OpenSet.{OpenSet}
use Rattle.sheet_reader.specs.declared.Awaited.{Awaited}
use Rattle.sheet_reader.specs.declared.Reader.{Reader}
use Rattle.sheet_reader.specs.declared.Stands.{Stands}
use Rattle.sheet_reader.specs.declared.Stands.TheVariants.{Outside, Sites, Rules, Items}
use Rattle.sheet_lines.specs.Fed.{max_held}
use Rattle.sheet_read.specs.declared.State.{State}
use Rattle.sheet_state.specs.State.{state_words, set_in, rule_in, stands_in, row_in, ended_in, reader_in, stopped_in, bytes_in, state_in, keeps, bit, set_words, rule_words, both_words, stands_words, ended_words, reader_words, state_put, held_put}

-- ---- two runs of stores are one

stands_then : (m : List ℕ) (s : Stands) (e : EndedSets) → sets (sets m 1 (stands_words s)) 10 (ended_words e) ≡ sets m 1 (stands_words s ++ ended_words e)
unfolding stands_words both_words set_words rule_words ended_words
stands_then m Outside e = refl
stands_then m (Sites g) e = refl
stands_then m (Rules g) e = refl
stands_then m (Items g a left) e = refl

pub reader_put : (m n o : List ℕ) (l : ℕ) (r : Reader) → l ≡ r.line → n ≡ sets (set m 0 l) 1 (stands_words r.stands) → o ≡ sets n 10 (ended_words r.ended) → o ≡ sets m 0 (reader_words r)
unfolding reader_words
reader_put m n o l r e p q =
    q ∙ ap (λ (x : List ℕ). sets x 10 (ended_words r.ended)) (p ∙ ap (λ (x : ℕ). sets (set m 0 x) 1 (stands_words r.stands)) e)
    ∙ stands_then (set m 0 r.line) r.stands r.ended

-- ---- reading, field by field

abbrev open_set : ℕ → ℕ → ℕ → ℕ → OpenSet
open_set a b c d = record { term = a; flags = b; sites = c; rules = d }

abbrev awaited : ℕ → ℕ → ℕ → Awaited
awaited a b c = record { place = a; priority = b; count = c }

abbrev ended : ℕ → ℕ → List ℕ → List ℕ → EndedSets
ended a b u v = record { sets = a; kept = b; used = u; recs = v }

abbrev reader : ℕ → Stands → EndedSets → Reader
reader l t e = record { line = l; stands = t; ended = e }

abbrev state : Reader → ℕ → List ℕ → Bool → State
state r n b t = record { reader = r; held = record { length = n; bytes = b }; stopped = t }

-- ---- writing

pub sets_length : (m n : List ℕ) (i : ℕ) (ws : List ℕ) → n ≡ sets m i ws → length n ≡ length m
sets_length m n i ws p = ap length p ∙ length-sets m i ws

-- ---- what was written is read again

-- what the types of the code say of a reader
pub record SmallSet (g : OpenSet) : Type 0 where
  pub term : g.term < 65536
  pub flags : g.flags < 256
  pub sites : g.sites < 65536
  pub rules : g.rules < 4294967296

pub record SmallRule (a : Awaited) : Type 0 where
  pub place : a.place < 4294967296
  pub count : a.count < 256

unfoldable pub SmallStands : Stands → Type 0
SmallStands Outside = Unit {0}
SmallStands (Sites g) = SmallSet g
SmallStands (Rules g) = SmallSet g
SmallStands (Items g a left) = SmallSet g × SmallRule a × (left < 256)

pub record SmallEnded (e : EndedSets) : Type 0 where
  pub sets : e.sets < 65536
  pub kept : e.kept < 65536
  pub used : length e.used ≡ 4
  pub recs : length e.recs ≡ 4

pub record SmallReader (r : Reader) : Type 0 where
  pub line : r.line < 4294967296
  pub stands : SmallStands r.stands
  pub ended : SmallEnded r.ended

four_of : (xs : List ℕ) → length xs ≡ 4 → (get_or xs 0 0 ∷ get_or xs 1 0 ∷ get_or xs 2 0 ∷ get_or xs 3 0 ∷ []) ≡ xs
four_of [] h = absurd (omega (arith, h))
four_of (a ∷ []) h = absurd (omega (arith, h))
four_of (a ∷ b ∷ []) h = absurd (omega (arith, h))
four_of (a ∷ b ∷ c ∷ []) h = absurd (omega (arith, h))
four_of (a ∷ b ∷ c ∷ d ∷ []) h = refl
four_of (a ∷ b ∷ c ∷ d ∷ e ∷ xs) h = absurd (omega (arith, h))

set_again : (g : OpenSet) → SmallSet g → open_set (g.term % 65536) (g.flags % 256) (g.sites % 65536) (g.rules % 4294967296) ≡ g
set_again g h = rw (mod-eq_of_lt h.term, mod-eq_of_lt h.flags, mod-eq_of_lt h.sites, mod-eq_of_lt h.rules)

rule_again : (a : Awaited) → SmallRule a → awaited (a.place % 4294967296) a.priority (a.count % 256) ≡ a
rule_again a h = rw (mod-eq_of_lt h.place, mod-eq_of_lt h.count)

ended_again : (e : EndedSets) → SmallEnded e → ended (e.sets % 65536) (e.kept % 65536) (get_or e.used 0 0 ∷ get_or e.used 1 0 ∷ get_or e.used 2 0 ∷ get_or e.used 3 0 ∷ []) (get_or e.recs 0 0 ∷ get_or e.recs 1 0 ∷ get_or e.recs 2 0 ∷ get_or e.recs 3 0 ∷ []) ≡ e
ended_again e h = rw (mod-eq_of_lt h.sets, mod-eq_of_lt h.kept, four_of e.used h.used, four_of e.recs h.recs)

stands_again : (l : ℕ) (s : Stands) (e : EndedSets) (rest : List ℕ) → SmallStands s → stands_in ((l ∷ (stands_words s ++ ended_words e)) ++ rest) ≡ s
unfolding stands_in stands_words both_words set_words rule_words ended_words set_in rule_in SmallStands
stands_again l Outside e rest h = refl
stands_again l (Sites g) e rest h = ap Sites (set_again g h)
stands_again l (Rules g) e rest h = ap Rules (set_again g h)
stands_again l (Items g a left) e rest h =
    ap (λ (x : OpenSet). Items x (awaited (a.place % 4294967296) a.priority (a.count % 256)) (left % 256)) (set_again g h.0)
    ∙ ap (λ (x : Awaited). Items g x (left % 256)) (rule_again a h.1)
    ∙ ap (λ (x : ℕ). Items g a x) (mod-eq_of_lt h.2)

ended_there : (l : ℕ) (s : Stands) (e : EndedSets) (rest : List ℕ) → SmallEnded e → ended_in ((l ∷ (stands_words s ++ ended_words e)) ++ rest) ≡ e
unfolding ended_in row_in stands_words both_words set_words rule_words ended_words
ended_there l Outside e rest h = ended_again e h
ended_there l (Sites g) e rest h = ended_again e h
ended_there l (Rules g) e rest h = ended_again e h
ended_there l (Items g a left) e rest h = ended_again e h

read_again : (r : Reader) (rest : List ℕ) → SmallReader r → reader_in (reader_words r ++ rest) ≡ r
unfolding reader_in reader_words
read_again r rest h =
    ap (λ (x : ℕ). reader x (stands_in (reader_words r ++ rest)) (ended_in (reader_words r ++ rest))) (mod-eq_of_lt h.line)
    ∙ ap (λ (x : Stands). reader r.line x (ended_in (reader_words r ++ rest))) (stands_again r.line r.stands r.ended rest h.stands)
    ∙ ap (λ (x : EndedSets). reader r.line r.stands x) (ended_there r.line r.stands r.ended rest h.ended)

-- ---- the whole state

words_then : (m : List ℕ) (l : ℕ) (s : Stands) (e : EndedSets) (a b : ℕ) → set (set (sets m 0 (l ∷ (stands_words s ++ ended_words e))) 20 a) 21 b ≡ sets m 0 ((l ∷ (stands_words s ++ ended_words e)) ++ (a ∷ b ∷ []))
unfolding stands_words both_words set_words rule_words ended_words
words_then m l Outside e a b = refl
words_then m l (Sites g) e a b = refl
words_then m l (Rules g) e a b = refl
words_then m l (Items g r left) e a b = refl

pub bit_is : (b : Bool) → bool_byte b ≡ bit b
bit_is true = refl
bit_is false = refl

pub words_put : (m n : List ℕ) (a b : ℕ) (s : State) → n ≡ sets m 0 (reader_words s.reader) → a ≡ s.held.length → b ≡ bit s.stopped → set (set n 20 a) 21 b ≡ state_put m s
unfolding state_put reader_words
words_put m n a b s p q r =
    ap (λ (x : List ℕ). set (set x 20 a) 21 b) p
    ∙ words_then m s.reader.line s.reader.stands s.reader.ended a b
    ∙ ap (λ (x : ℕ). sets m 0 (reader_words s.reader ++ (x ∷ b ∷ []))) q
    ∙ ap (λ (x : ℕ). sets m 0 (reader_words s.reader ++ (s.held.length ∷ x ∷ []))) r

pub words_long : (m n : List ℕ) (s : State) → n ≡ state_put m s → length n ≡ length m
unfolding state_put
words_long m n s p = sets_length m n 0 (reader_words s.reader ++ (s.held.length ∷ bit s.stopped ∷ [])) p

-- what the types of the code say of a state
pub record SmallState (s : State) : Type 0 where
  pub reader : SmallReader s.reader
  pub bytes : length s.held.bytes ≡ max_held

abbrev last_two : State → List ℕ
last_two s = s.held.length ∷ bit s.stopped ∷ []

state_count : (s : State) → length (reader_words s.reader ++ last_two s) ≡ 22
unfolding reader_words stands_words both_words set_words rule_words ended_words
state_count s = go s.reader.stands
  where
    go : (t : Stands) → length ((s.reader.line ∷ (stands_words t ++ ended_words s.reader.ended)) ++ last_two s) ≡ 22
    go Outside = refl
    go (Sites g) = refl
    go (Rules g) = refl
    go (Items g a left) = refl

two_there : (r : Reader) (a b : ℕ) (rest : List ℕ) → (get_or ((reader_words r ++ (a ∷ b ∷ [])) ++ rest) 20 0 ≡ a) × (get_or ((reader_words r ++ (a ∷ b ∷ [])) ++ rest) 21 0 ≡ b)
unfolding reader_words stands_words both_words set_words rule_words ended_words
two_there r a b rest = go r.stands
  where
    go : (t : Stands) → (get_or (((r.line ∷ (stands_words t ++ ended_words r.ended)) ++ (a ∷ b ∷ [])) ++ rest) 20 0 ≡ a) × (get_or (((r.line ∷ (stands_words t ++ ended_words r.ended)) ++ (a ∷ b ∷ [])) ++ rest) 21 0 ≡ b)
    go Outside = (refl, refl)
    go (Sites g) = (refl, refl)
    go (Rules g) = (refl, refl)
    go (Items g x left) = (refl, refl)

bit_again : (b : Bool) → not (eqb (bit b) 0) ≡ b
bit_again true = refl
bit_again false = refl

-- a state that was put into words and bytes, enough of both, is the state that they say
pub kept_state : (m h : List ℕ) (s : State) → state_words ≤ length m → max_held ≤ length h → SmallState s → state_in (state_put m s) (held_put h s) ≡ s
unfolding state_in state_put held_put stopped_in bytes_in
kept_state m h s l k b =
    let xs = reader_words s.reader ++ last_two s in
    let rest = drop (0 + length xs) m in
    let e : sets m 0 xs ≡ xs ++ rest = sets-eq xs m 0 (omega (arith, state_count s)) in
    let r : reader_in (xs ++ rest) ≡ s.reader = ap reader_in (append_assoc (reader_words s.reader) (last_two s) rest) ∙ read_again s.reader (last_two s ++ rest) b.reader in
    let t = two_there s.reader s.held.length (bit s.stopped) rest in
    let c = length-append s.held.bytes (drop max_held h) in
    let y : leb max_held (length (s.held.bytes ++ drop max_held h)) ≡ true = le-leb max_held (length (s.held.bytes ++ drop max_held h)) (omega (arith, b.bytes)) in
    let q : take max_held (s.held.bytes ++ drop max_held h) ≡ s.held.bytes = take_at s.held.bytes (drop max_held h) max_held b.bytes in
    let z : not (eqb (get_or (xs ++ rest) 21 0) 0) ≡ s.stopped = ap (λ (x : ℕ). not (eqb x 0)) t.1 ∙ bit_again s.stopped in
    rw (e, y) (
    ap (λ (x : Reader). state x (get_or (xs ++ rest) 20 0) (take max_held (s.held.bytes ++ drop max_held h)) (not (eqb (get_or (xs ++ rest) 21 0) 0))) r
    ∙ ap (λ (x : ℕ). state s.reader x (take max_held (s.held.bytes ++ drop max_held h)) (not (eqb (get_or (xs ++ rest) 21 0) 0))) t.0
    ∙ ap (λ (x : List ℕ). state s.reader s.held.length x (not (eqb (get_or (xs ++ rest) 21 0) 0))) q
    ∙ ap (λ (x : Bool). state s.reader s.held.length s.held.bytes x) z
    )

pub all_put : (m h n k : List ℕ) (s : State) → (state_words ≤ length m) × (max_held ≤ length h) → n ≡ state_put m s → k ≡ s.held.bytes ++ drop max_held h → SmallState s → (n ≡ state_put m s) × ((k ≡ held_put h s) × (state_in n k ≡ s))
unfolding held_put
all_put m h n k s l p q b = (p, (q, ap (λ (x : List ℕ). state_in x k) p ∙ (ap (state_in (state_put m s)) q ∙ kept_state m h s l.0 l.1 b)))

-- ---- what is lent is long enough, or not

pub keeps_long : (w h : List ℕ) → keeps w h ≡ true → (state_words ≤ length w) × (max_held ≤ length h)
unfolding keeps
keeps_long w h e =
    let t = and_both (leb state_words (length w)) (leb max_held (length h)) e in
    (leb-true state_words (length w) t.0, leb-true max_held (length h) t.1)

-- a test that came out so
-- and back, for whoever knows that it is long enough
pub put_there : (b : Bool) (w h n k : List ℕ) (s : State) → b ≡ true → (n ≡ (if b then state_put w s else w)) × ((k ≡ (if b then held_put h s else h)) × (b ≡ true → state_in n k ≡ s)) → (n ≡ state_put w s) × ((k ≡ held_put h s) × (state_in n k ≡ s))
put_there b w h n k s e p = let q = p.0 in let r = p.1.0 in (rw e at q, (rw e at r, p.1.1 e))
