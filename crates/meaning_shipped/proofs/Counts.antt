-- The 15 of a sheet.
use Rattle.std.specs.Prelude.{◌≡◌, refl, ℕ, suc, ◌+◌, length}
use Rattle.std.proofs.Common.{◌∙◌, arith, length-append}
use mathlib.Core.List.{List, [], ◌∷◌, ◌++◌, map, Memᴰ}
use Rattle.paper.specs.Words.{two}
use Rattle.paper.specs.Numbers.{Outcome, done, refused}
use Rattle.paper.specs.Loading.{Set}
use Rattle.paper.specs.Terms.{cyclic_findings}
use Rattle.paper.specs.Layout.{Lines, nothing, line}
use Rattle.paper.specs.Sheets.{Ended, Reader, Stepped, term_found, end_found, set_ended, step, read_on}
use Rattle.meaning_shipped.specs.Words.{Reads, ReadWhole, found_in, ended_by, sets_from, sets_in, rules_of, first, next}
use Rattle.meaning_shipped.specs.Reports.{to_right}
use Rattle.meaning_shipped.specs.Line.{MadeOpen, Does, stops, begins, adds, waits, keeps, refuses, ends, step_does}
use Rattle.meaning_shipped.specs.Reader.{reads_made}
use Rattle.meaning_shipped.specs.Says.{is_count, stays_found}
use Rattle.meaning_shipped.specs.Counts.{open_at, sets_next}

rules_append : (gs hs : List Set) → rules_of (gs ++ hs) ≡ rules_of gs + rules_of hs
unfolding rules_of
rules_append [] hs = omega arith
rules_append (g ∷ gs) hs = let q = rules_append gs hs in omega arith

-- ---- counted
abbrev Counted : Reader → Outcome Stepped → Type 0
Counted d (done s) = (length s.after.ended.heads ≡ length d.ended.heads + length (ended_by d.stands s.after.stands)) ×
    (s.after.ended.kept ≡ d.ended.kept + rules_of (ended_by d.stands s.after.stands))
Counted d (refused x) = Unit {0}

one_longer : {A : Type 0} (xs : List A) (y : A) → length (xs ++ (y ∷ [])) ≡ length xs + 1
one_longer xs y = simp length-append

step_counted : (d : Reader) (at : ℕ) (l : List ℕ) → MadeOpen d.stands → Counted d (step d at l)
unfolding rules_of
step_counted d at l M = go (step_does d at l M)
  where
    go : {o : Outcome Stepped} → Does d at l o → Counted d o
    go (stops x) = tt
    go (begins t f) = (omega arith, omega arith)
    go (adds g s a h e) = (omega arith, omega arith)
    go (waits g r n h) = (omega arith, omega arith)
    go (keeps g r h c w e) = (omega arith, omega arith)
    go (refuses g r x c w e) = (omega arith, omega arith)
    go (ends g h v w) = let q = open_at d.stands g h in unfold set_ended in rw q (one_longer d.ended.heads _, omega arith)

record Tally (sheet : List ℕ) (e : Ended) (gs : List Set) : Type 0 where
  sets : length e.heads + length gs ≡ length (sets_in sheet)
  rules : e.kept + rules_of gs ≡ rules_of (sets_in sheet)

reads_tally : {sheet : List ℕ} {d : Reader} {at : ℕ} {ls : Lines} → Reads sheet d at ls → Tally sheet d.ended (sets_from d at ls)
reads_tally first = record { sets = omega arith; rules = omega arith }
reads_tally {sheet = sheet} (next {d = d} {at = at} {l = l} {rest = rest} s R e) =
    let T = reads_tally R in
    let C : Counted d (done s) = rw e at (step_counted d at l (reads_made R)) in
    let q = sets_next d at l rest s e in
    go (sets_from d at (line l rest)) (ended_by d.stands s.after.stands) (sets_from s.after (suc at) rest) q T C.0 C.1
  where
    go : (gs new rest : List Set) → gs ≡ new ++ rest → Tally sheet d.ended gs → length s.after.ended.heads ≡ length d.ended.heads + length new →
        s.after.ended.kept ≡ d.ended.kept + rules_of new → Tally sheet s.after.ended rest
    go gs new rest q T a b =
        let x : length gs ≡ length new + length rest = rw q (length-append new rest) in
        let y : rules_of gs ≡ rules_of new + rules_of rest = rw q (rules_append new rest) in
        let t = T.sets in
        let u = T.rules in
        record { sets = omega arith; rules = omega arith }

-- the 15 of a sheet
abbrev pub counts_found : List Set → List ℕ
counts_found gs = 21 ∷ (two (length gs) ++ two (rules_of gs))

end_is : {sheet : List ℕ} {d : Reader} {at : ℕ} → Reads sheet d at nothing → end_found d.ended ≡ counts_found (sets_in sheet)
unfolding end_found sets_from rules_of
end_is {sheet = sheet} {d = d} R =
    let T = reads_tally R in
    let t = T.sets in
    let u = T.rules in
    let a : length d.ended.heads ≡ length (sets_in sheet) = omega arith in
    let b : d.ended.kept ≡ rules_of (sets_in sheet) = omega arith in
    rw (a, b)

pub each_count : (sheet f t : List ℕ) → Memᴰ f (found_in sheet) → f ≡ 21 ∷ t → ReadWhole sheet × (f ≡ counts_found (sets_in sheet))
each_count sheet f t m e = let k = is_count sheet f m t e in ((k.0, k.1, k.2, k.3), k.4 ∙ end_is k.2)

pub count_there : (sheet : List ℕ) → ReadWhole sheet → Memᴰ (counts_found (sets_in sheet)) (found_in sheet)
count_there sheet (z, at, R, o) = let q = end_is R in rw (← q) (stays_found R (end_found z.ended) last)
  where
    last : Memᴰ (end_found z.ended) (read_on z at nothing)
    last = unfold read_on in rw o (to_right (map term_found (cyclic_findings z.ended.heads z.ended.edges)) (end_found z.ended ∷ [])
        (end_found z.ended) (mathlib.Core.List.Memᴰ.head refl))
