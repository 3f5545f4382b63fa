-- What the loops' proofs cite: a line of a text, and what one turn does.
use mathlib.Core.Path.{◌≡◌, refl, sym, ap, ◌∙◌}
use mathlib.Core.Bool.{Bool, true, false}
use mathlib.Core.Option.{Option, none}
use mathlib.Core.List.{List, [], ◌∷◌, ◌++◌, map}
use Prim.Native.Nat.{ℕ, zero, suc, ◌+◌, ◌-◌, ◌≤◌, ◌<◌}
use native.Mathlib.Omega.{arith}
use native.Mathlib.Numerals.{add-one}
use lib.ListN.{length, get_or, take, drop, set, length-drop, length-append, length-set, replicate}
use lib.Seq.{take-suc, get_or_at, drop-length, set_out, sets, length-sets}
use Rattle.std.specs.declared.option.Option.TheVariants as option
use Rattle.paper.specs.Layout.{Lines, nothing, unended, line, lines}
use Rattle.paper.proofs.Lists.{drop_all}
use Rattle.sheet_digits.proofs.DigitLaws.{sets_append}
use Rattle.paper.specs.Answered.{Maybe}
use Rattle.sheet_lines.specs.Ends.{line_end, ends_at}
use Rattle.sheet_lines.specs.Cut.{part_of, part_there, LeftOf, open_left, line_inside, line_split}
use Rattle.plan_text.specs.declared.Spoken.{Spoken}
use Rattle.plan_text.specs.declared.Spoken.TheVariants.{Set, Rule, None, Bad}
use Rattle.plan_text.specs.Lines.{terms, line_of}
use Rattle.plan_text.specs.Proposal.{spoken, first_bad, Row}
use Rattle.plan_text.proofs.Walks.{by_bad, by_well, bad_is}
use Rattle.plan_text.specs.Walk.{misplaced_by, marks_with, bad_by, laid, row_of, inside_after, rows_from, rows_of, Begins}

-- ---- a line
take_line : (s : List ℕ) (k : ℕ) → k < length s → s ≡ take k s ++ (10 ∷ drop (suc k) s) → take (suc k) s ≡ take k s ++ (10 ∷ [])
take_line s k h e =
    let n : length (take k s) ≡ k = long s k h in
    let g : get_or s k 0 ≡ 10 = ap (λ x. get_or x k 0) e ∙ get_or_at (take k s) 10 (drop (suc k) s) 0 k n in
    take-suc s k 0 h ∙ ap (λ x. take k s ++ (x ∷ [])) g
  where
    long : (s : List ℕ) (k : ℕ) → k < length s → length (take k s) ≡ k
    long [] k h = absurd (omega arith)
    long (x ∷ s) zero h = refl
    long (x ∷ s) (suc k) h = ap suc (long s k (omega arith))

with_end : (text : List ℕ) (from e : ℕ) → line_end from (drop from text) ≡ option.Some e → part_of text from (e + 1) ≡ part_of text from e ++ (10 ∷ [])
with_end text from e g =
    let w = ends_at from e (drop from text) g in
    let i = line_inside text from e g in
    let a = i.0 in
    let b = i.1 in
    let n = length-drop from text in
    let z : e + 1 - from ≡ suc (e - from) = omega arith in
    sym (part_there text from (e + 1) (omega arith)) ∙ (ap (λ k. take k (drop from text)) z ∙ (take_line (drop from text) (e - from) (omega arith) w.split ∙ ap (λ x. x ++ (10 ∷ [])) (part_there text from e (omega arith))))

pub next_ended : (text : List ℕ) (from e : ℕ) (l : List ℕ) (s : Spoken) → line_end from (drop from text) ≡ option.Some e → l ≡ part_of text from (e + 1) → s ≡ line_of l → Begins text from (e + 1) s
next_ended text from e l s g f h =
    let i = line_inside text from e g in
    let a = i.0 in
    let b = i.1 in
    let w : s ≡ line_of (part_of text from e ++ (10 ∷ [])) = h ∙ ap line_of (f ∙ with_end text from e g) in
    record { onward = omega arith; inside_text = omega arith; says = ap spoken (line_split text from e g) ∙ (one (part_of text from e) (lines (drop (e + 1) text)) ∙ ap (λ x. x ∷ spoken (lines (drop (e + 1) text))) (sym w)) }
  where
    one : (l : List ℕ) (r : Lines) → spoken (line l r) ≡ line_of (l ++ (10 ∷ [])) ∷ spoken r
    one l r = unfold spoken in refl

left_bad : (ls : Lines) (l : List ℕ) → 0 < length l → LeftOf ls l → spoken ls ≡ Bad ∷ []
unfolding spoken
left_bad nothing l h e = let n : length l ≡ 0 = ap length e in absurd (omega arith)
left_bad (unended k) l h e = refl
left_bad (line k r) l h e = absurd e

spoken_none : (text : List ℕ) → spoken (lines (drop (length text) text)) ≡ []
unfolding spoken lines
spoken_none text = ap (λ x. spoken (lines x)) (drop-length text)

pub next_open : (text : List ℕ) (from : ℕ) → from < length text → line_end from (drop from text) ≡ option.None → Begins text from (length text) Bad
next_open text from h g =
    let n = length-drop from text in
    let w = left_bad (lines (drop from text)) (drop from text) (omega arith) (open_left text from g) in
    record { onward = h; inside_text = omega arith; says = w ∙ ap (λ x. Bad ∷ x) (sym (spoken_none text)) }

-- ---- the first bad line
abbrev pub Rest : List ℕ → ℕ → List Spoken
Rest text from = spoken (lines (drop from text))

pub scan_bad : (text : List ℕ) (marks : List Bool) (any : Bool) (at from to : ℕ) (s : Spoken) (b : Bool) (F : Option ℕ) → Begins text from to s → b ≡ misplaced_by marks any s → b ≡ true → bad_by marks any at (Rest text from) ≡ F → option.Some at ≡ laid F
scan_bad text marks any at from to s b F B e f g = ap laid (sym (ap (bad_by marks any at) B.says ∙ by_bad marks any at s (Rest text to) (sym e ∙ f)) ∙ g)

pub scan_on : (text : List ℕ) (marks after : List Bool) (any : Bool) (at from to : ℕ) (s : Spoken) (b : Bool) (F : Option ℕ) → Begins text from to s → b ≡ misplaced_by marks any s → b ≡ false → after ≡ marks_with marks s → bad_by marks any at (Rest text from) ≡ F → bad_by after true (at + 1) (Rest text to) ≡ F
scan_on text marks after any at from to s b F B e f m g = ap (λ x. bad_by x true (at + 1) (Rest text to)) m ∙ (sym (ap (bad_by marks any at) B.says ∙ (by_well marks any at s (Rest text to) (sym e ∙ f) ∙ ap (λ i. bad_by (marks_with marks s) true i (Rest text to)) (sym (add-one at)))) ∙ g)

rest_none : (text : List ℕ) (from : ℕ) → length text ≤ from → Rest text from ≡ []
unfolding spoken lines
rest_none text from h = ap (λ x. spoken (lines x)) (drop_all text from h)

pub scan_end : (text : List ℕ) (marks : List Bool) (any : Bool) (at from : ℕ) (F : Option ℕ) → length text ≤ from → bad_by marks any at (Rest text from) ≡ F → option.None ≡ laid F
scan_end text marks any at from F h g = ap laid (sym (ap (bad_by marks any at) (rest_none text from h) ∙ none_left) ∙ g)
  where
    none_left : bad_by marks any at [] ≡ none
    none_left = unfold bad_by in refl

-- ---- the rule lines of one set: what is stored, and what is left to store
pub record Reading (every : List Row) (p₀ q₀ l₀ p q l : List ℕ) (n : ℕ) (left : List Row) : Type 0 where
  pub counted : n + length left ≡ length every
  pub places : sets p n (map (λ (x : Row). x.place) left) ≡ sets p₀ 0 (map (λ (x : Row). x.place) every)
  pub priorities : sets q n (map (λ (x : Row). x.priority) left) ≡ sets q₀ 0 (map (λ (x : Row). x.priority) every)
  pub numbers : sets l n (map (λ (x : Row). x.line) left) ≡ sets l₀ 0 (map (λ (x : Row). x.line) every)

pub reading_start : (text : List ℕ) (wanted : ℕ) (p q l : List ℕ) → Reading (rows_of text wanted) p q l p q l 0 (rows_from wanted false 1 (Rest text 0))
unfolding rows_of
reading_start text wanted p q l = record { counted = omega arith; places = refl; priorities = refl; numbers = refl }

map_append : (f : Row → ℕ) (xs ys : List Row) → map f (xs ++ ys) ≡ map f xs ++ map f ys
map_append f [] ys = refl
map_append f (x ∷ xs) ys = ap (λ z. f x ∷ z) (map_append f xs ys)

map_long : (f : Row → ℕ) (xs : List Row) → length (map f xs) ≡ length xs
map_long f [] = refl
map_long f (x ∷ xs) = ap suc (map_long f xs)

column : (f : Row → ℕ) (m m' : List ℕ) (n : ℕ) (xs ys : List Row) (F : List ℕ) → m' ≡ sets m n (map f xs) → sets m n (map f (xs ++ ys)) ≡ F → sets m' (n + length xs) (map f ys) ≡ F
column f m m' n xs ys F e g =
    ap (λ z. sets z (n + length xs) (map f ys)) e
    ∙ (ap (λ k. sets (sets m n (map f xs)) (n + k) (map f ys)) (sym (map_long f xs))
    ∙ (sets_append m n (map f xs) (map f ys) ∙ (ap (λ z. sets m n z) (sym (map_append f xs ys)) ∙ g)))

abbrev pub KeptRow : List ℕ → List ℕ → List ℕ → List ℕ → List ℕ → List ℕ → ℕ → ℕ → List Row → Type 0
KeptRow p q l p' q' l' n n' xs = (n' ≡ n + length xs) × ((p' ≡ sets p n (map (λ (x : Row). x.place) xs)) × ((q' ≡ sets q n (map (λ (x : Row). x.priority) xs)) × (l' ≡ sets l n (map (λ (x : Row). x.line) xs))))

row_short : (inside : Bool) (at : ℕ) (s : Spoken) → length (row_of inside at s) ≤ 1
row_short true at (Rule p q) = omega arith
row_short false at (Rule p q) = omega arith
row_short true at (Set t) = omega arith
row_short false at (Set t) = omega arith
row_short true at None = omega arith
row_short false at None = omega arith
row_short true at Bad = omega arith
row_short false at Bad = omega arith

module _ (every : List Row) (p₀ q₀ l₀ p q l p' q' l' text : List ℕ) (n n' from to at wanted : ℕ) (inside still : Bool) (s : Spoken)
    (B : Begins text from to s)
    (K : (n' ≡ n + length (row_of inside at s)) × ((p' ≡ sets p n (map (λ (x : Row). x.place) (row_of inside at s))) × ((q' ≡ sets q n (map (λ (x : Row). x.priority) (row_of inside at s))) × (l' ≡ sets l n (map (λ (x : Row). x.line) (row_of inside at s))))))
    (S : still ≡ inside_after wanted inside s) where
  abbrev row : List Row
  row = row_of inside at s

  abbrev later : List Row
  later = rows_from wanted still (at + 1) (Rest text to)

  split : rows_from wanted inside at (Rest text from) ≡ row ++ later
  split = ap (rows_from wanted inside at) B.says ∙ one (spoken (lines (drop to text)))
    where
      one : (ss : List Spoken) → rows_from wanted inside at (s ∷ ss) ≡ row_of inside at s ++ rows_from wanted still (at + 1) ss
      one ss = let z = add-one at in unfold rows_from in (rw (S, z) refl)

  pub reading_turn : Reading every p₀ q₀ l₀ p q l n (rows_from wanted inside at (Rest text from)) → Reading every p₀ q₀ l₀ p' q' l' n' later
  reading_turn R =
      let c = R.counted in
      let d = ap length split ∙ length-append row later in
      let k = K.0 in
      record {
        counted = omega arith;
        places = ap (λ i. sets p' i (map (λ (x : Row). x.place) later)) k ∙ column (λ (x : Row). x.place) p p' n row later _ K.1.0 (ap (λ z. sets p n (map (λ (x : Row). x.place) z)) (sym split) ∙ R.places);
        priorities = ap (λ i. sets q' i (map (λ (x : Row). x.priority) later)) k ∙ column (λ (x : Row). x.priority) q q' n row later _ K.1.1.0 (ap (λ z. sets q n (map (λ (x : Row). x.priority) z)) (sym split) ∙ R.priorities);
        numbers = ap (λ i. sets l' i (map (λ (x : Row). x.line) later)) k ∙ column (λ (x : Row). x.line) l l' n row later _ K.1.1.1 (ap (λ z. sets l n (map (λ (x : Row). x.line) z)) (sym split) ∙ R.numbers);
      }

pub row_fits : (text : List ℕ) (n n' from to at : ℕ) (inside : Bool) (s : Spoken) → Begins text from to s → n' ≡ n + length (row_of inside at s) → n ≤ from → n' ≤ to
row_fits text n n' from to at inside s B k h = let r = row_short inside at s in let o = B.onward in omega arith

-- ---- marks
pub no_store : {A : Type 0} (m : List A) (t : ℕ) (v : A) → length m ≤ t → m ≡ set m t v
no_store m t v h = sym (set_out m t v h)

with_long : (m : List Bool) (s : Spoken) → length (marks_with m s) ≡ length m
with_long m (Set t) = length-set m t true
with_long m (Rule p q) = refl
with_long m None = refl
with_long m Bad = refl

pub line_fits : (text : List ℕ) (from e : ℕ) → line_end from (drop from text) ≡ option.Some e → e < length text
line_fits text from e g = (line_inside text from e g).1

pub first_so : (text : List ℕ) (marks : List Bool) (r : Maybe ℕ) → marks ≡ replicate terms false → r ≡ laid (bad_by marks false 1 (spoken (lines text))) → r ≡ laid (first_bad text)
first_so text marks r e f = f ∙ ap laid (bad_is text marks e)

pub still_long : (text : List ℕ) (m after : List Bool) (n from to : ℕ) (s : Spoken) → Begins text from to s → after ≡ marks_with m s → length m ≡ n → length after ≡ n
still_long text m after n from to s B e f = ap length e ∙ (with_long m s ∙ f)

-- ---- one line of a set
-- ---- all of them
rows_none : (wanted at : ℕ) (b : Bool) (text : List ℕ) (from : ℕ) → length text ≤ from → rows_from wanted b at (Rest text from) ≡ []
rows_none wanted at b text from h = ap (rows_from wanted b at) (rest_none text from h) ∙ empty
  where
    empty : rows_from wanted b at [] ≡ []
    empty = unfold rows_from in refl

pub reading_end : (every : List Row) (p₀ q₀ l₀ p q l text : List ℕ) (n from at wanted : ℕ) (b : Bool) → length text ≤ from → Reading every p₀ q₀ l₀ p q l n (rows_from wanted b at (Rest text from)) → (n ≡ length every) × ((p ≡ sets p₀ 0 (map (λ (x : Row). x.place) every)) × ((q ≡ sets q₀ 0 (map (λ (x : Row). x.priority) every)) × (l ≡ sets l₀ 0 (map (λ (x : Row). x.line) every))))
reading_end every p₀ q₀ l₀ p q l text n from at wanted b h R = go (rows_from wanted b at (Rest text from)) (rows_none wanted at b text from h) R
  where
    go : (left : List Row) → left ≡ [] → Reading every p₀ q₀ l₀ p q l n left → (n ≡ length every) × ((p ≡ sets p₀ 0 (map (λ (x : Row). x.place) every)) × ((q ≡ sets q₀ 0 (map (λ (x : Row). x.priority) every)) × (l ≡ sets l₀ 0 (map (λ (x : Row). x.line) every))))
    go [] e S = let c = S.counted in (omega arith, (S.places, (S.priorities, S.numbers)))
    go (x ∷ left) e S = let z : ◌≡◌ {A = ℕ} 1 0 = cc in absurd (omega arith)

-- what is lent keeps its length
kept_long : (m after xs : List ℕ) (i n : ℕ) → after ≡ sets m i xs → length m ≡ n → length after ≡ n
kept_long m after xs i n e f = ap length e ∙ (length-sets m i xs ∙ f)

module _ (p q l p' q' l' : List ℕ) (n n' at k : ℕ) (b : Bool) (s : Spoken) (K : KeptRow p q l p' q' l' n n' (row_of b at s)) where
  pub places_long : length p ≡ k → length p' ≡ k
  places_long e = kept_long p p' (map (λ (x : Row). x.place) (row_of b at s)) n k K.1.0 e

  pub priorities_long : length q ≡ k → length q' ≡ k
  priorities_long e = kept_long q q' (map (λ (x : Row). x.priority) (row_of b at s)) n k K.1.1.0 e

  pub numbers_long : length l ≡ k → length l' ≡ k
  numbers_long e = kept_long l l' (map (λ (x : Row). x.line) (row_of b at s)) n k K.1.1.1 e
