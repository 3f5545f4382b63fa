-- The 1F of a sheet, and the sets that its lines end, in order: `sets_in`; how the reading ends: `whole_or_stops`, `not_both`. (The 15: proofs/Counts.antt.)
use Rattle.std.specs.Prelude.{◌≡◌, refl, ◌↔◌, ◌⊎◌, ℕ, suc}
use Rattle.std.proofs.Common.{sym, ap, ◌∙◌, inl, inr}
use Rattle.std.proofs.Math.Option.{none, some}
use mathlib.Core.List.{List, [], ◌∷◌, ◌++◌, map, Memᴰ}
use Rattle.paper.specs.declared.Refusal.{Refusal}
use Rattle.paper.specs.declared.Refusal.TheVariants.{Layout}
use Rattle.paper.specs.Numbers.{Outcome, done, refused}
use Rattle.paper.proofs.Labels.{never}
use Rattle.paper.specs.Loading.{Set}
use Rattle.paper.specs.Layout.{Lines, nothing, unended, line, lines}
use Rattle.paper.specs.Sheets.{Open, outside, at_sites, at_rules, at_items, Ended, Reader, start, Stepped, stop_found, set_ended, step, sheet_ended, read_on}
use Rattle.meaning_shipped.specs.Words.{Reads, IsAtPlace, Closed, ReadWhole, Stops, Stopped, found_in, open_set, ended_by, sets_from, sets_in, first, next}
use Rattle.meaning_shipped.specs.Reports.{to_left, to_right}
use Rattle.meaning_shipped.specs.Line.{Does, stops, begins, adds, waits, keeps, refuses, ends, step_does}
use Rattle.meaning_shipped.specs.Reader.{reads_made, Inside, inside}
use Rattle.meaning_shipped.specs.Says.{is_stop, stays_found}
use Rattle.meaning_shipped.specs.Cycles.{final, reads_final, at_end}

pub open_at : (o : Open) (g : Set) → IsAtPlace o g → open_set o ≡ g ∷ []
open_at outside g h = absurd h
open_at (at_sites x) g h = ap (λ (y : Set). y ∷ []) h
open_at (at_rules x) g h = ap (λ (y : Set). y ∷ []) h
open_at (at_items x r n) g h = ap (λ (y : Set). y ∷ []) h

pub sets_next : (d : Reader) (at : ℕ) (l : List ℕ) (rest : Lines) (s : Stepped) → step d at l ≡ done s →
    sets_from d at (line l rest) ≡ ended_by d.stands s.after.stands ++ sets_from s.after (suc at) rest
unfolding sets_from
sets_next d at l rest s e = rw (e, sets_from)

-- ---- they are those that lines end
sets_stay : {sheet : List ℕ} {d : Reader} {at : ℕ} {ls : Lines} → Reads sheet d at ls → (g : Set) → Memᴰ g (sets_from d at ls) →
    Memᴰ g (sets_in sheet)
sets_stay first g m = m
sets_stay (next {d = d} {at = at} {l = l} {rest = rest} s R e) g m =
    sets_stay R g (rw (sets_next d at l rest s e) (to_right (ended_by d.stands s.after.stands) (sets_from s.after (suc at) rest) g m))

ended_out : (e : Ended) (g : Set) → (s : Stepped) × (set_ended e g ≡ done s) × (s.after.stands ≡ outside)
unfolding set_ended
ended_out e g = (_, refl, refl)

pub closed_there : (sheet : List ℕ) (g : Set) → Closed sheet g → Memᴰ g (sets_in sheet)
closed_there sheet g c =
    let s = ended_out c.reader.ended g in
    let o = s.2 in
    let q : ended_by c.reader.stands s.0.after.stands ≡ g ∷ [] = ap (ended_by c.reader.stands) o ∙ open_at c.reader.stands g c.stands in
    let m : Memᴰ g (ended_by c.reader.stands s.0.after.stands) = rw q (mathlib.Core.List.Memᴰ.head refl) in
    sets_stay c.reads g (rw (sets_next c.reader c.at c.text c.rest s.0 (c.ends ∙ s.1))
    (to_left (ended_by c.reader.stands s.0.after.stands) (sets_from s.0.after (suc c.at) c.rest) g m))

abbrev Closes : List ℕ → Reader → Outcome Stepped → Type 0
Closes sheet d (done s) = (g : Set) → Memᴰ g (ended_by d.stands s.after.stands) → Closed sheet g
Closes sheet d (refused x) = Unit {0}

step_closes : (sheet : List ℕ) (d : Reader) (at : ℕ) (l : List ℕ) (rest : Lines) → Reads sheet d at (line l rest) → Closes sheet d (step d at l)
step_closes sheet d at l rest R = go (step_does d at l (reads_made R))
  where
    go : {o : Outcome Stepped} → Does d at l o → Closes sheet d o
    go (stops x) = tt
    go (begins t f) = λ g m. elim m [ ]
    go (adds g s a h e) = λ g m. elim m [ ]
    go (waits g r n h) = λ g m. elim m [ ]
    go (keeps g r h c w e) = λ g m. elim m [ ]
    go (refuses g r x c w e) = λ g m. elim m [ ]
    go (ends h q v w) = unfold set_ended in (λ g m. let z = mathlib.Core.List.Memᴰ.eq_of_singleton (rw (open_at d.stands h q) at m) in
        rw z (record { reader = d; at = at; text = l; rest = rest; reads = R; stands = q; frame = v; ends = w }))

all_closed : (sheet : List ℕ) (d : Reader) (at : ℕ) (ls : Lines) → Reads sheet d at ls → (g : Set) → Memᴰ g (sets_from d at ls) → Closed sheet g
unfolding sets_from
all_closed sheet d at nothing R g m = absurd (mathlib.Core.List.Memᴰ.not-nil m)
all_closed sheet d at (unended l) R g m = absurd (mathlib.Core.List.Memᴰ.not-nil m)
all_closed sheet d at (line l rest) R g m =
    go (step d at l) refl (step_closes sheet d at l rest R) m (λ s e q. all_closed sheet s.after (suc at) rest (next s R e) g q)
  where
    go : (o : Outcome Stepped) → step d at l ≡ o → Closes sheet d o →
        Memᴰ g (elim o as (λ _. List Set) [ done s ↦ ended_by d.stands s.after.stands ++ sets_from s.after (suc at) rest | refused x ↦ [] ]) →
        ((s : Stepped) → step d at l ≡ done s → Memᴰ g (sets_from s.after (suc at) rest) → Closed sheet g) → Closed sheet g
    go (refused x) e G q more = absurd (mathlib.Core.List.Memᴰ.not-nil q)
    go (done s) e G q more = pick (mathlib.Core.List.Memᴰ.append_cases (ended_by d.stands s.after.stands) q)
      where
        pick : Memᴰ g (ended_by d.stands s.after.stands) ⊎ Memᴰ g (sets_from s.after (suc at) rest) → Closed sheet g
        pick (inl w) = G g w
        pick (inr w) = more s e w

pub those_closed : (sheet : List ℕ) (g : Set) → Memᴰ g (sets_in sheet) ↔ Closed sheet g
those_closed sheet g = (λ m. all_closed sheet start 1 (lines sheet) first g m, λ c. closed_there sheet g c)

-- ---- stopped
pub each_stop : (sheet f t : List ℕ) → Memᴰ f (found_in sheet) → f ≡ 31 ∷ t → (at : ℕ) × (x : Refusal) × Stopped sheet at x × (f ≡ stop_found at x)
each_stop sheet f t m e = let k = is_stop sheet f m t e in (k.1, k.3, (k.0, k.2, k.4, k.5), k.6)

stop_here : (d : Reader) (at : ℕ) (ls : Lines) (x : Refusal) → Stops d at ls x → Memᴰ (stop_found at x) (read_on d at ls)
unfolding read_on
stop_here d at (line l rest) x q = rw (q, read_on) (mathlib.Core.List.Memᴰ.head refl)
stop_here d at (unended l) x q = rw q (mathlib.Core.List.Memᴰ.head refl)
stop_here d at nothing x q = let z = q.1 in rw z (go d.stands q.0)
  where
    go : (o : Open) → (o ≡ outside → ⊥) → Memᴰ (stop_found at (Layout at)) (sheet_ended d.ended at o)
    go outside f = absurd (f refl)
    go (at_sites g) f = mathlib.Core.List.Memᴰ.head refl
    go (at_rules g) f = mathlib.Core.List.Memᴰ.head refl
    go (at_items g r n) f = mathlib.Core.List.Memᴰ.head refl

pub stop_there : (sheet : List ℕ) (at : ℕ) (x : Refusal) → Stopped sheet at x → Memᴰ (stop_found at x) (found_in sheet)
stop_there sheet at x (d, ls, R, q) = stays_found R (stop_found at x) (stop_here d at ls x q)

-- ---- one or the other
ends_at : (sheet : List ℕ) (d : Reader) (at : ℕ) (ls : Lines) → Reads sheet d at ls → ReadWhole sheet ⊎ ((at : ℕ) × (x : Refusal) × Stopped sheet at x)
ends_at sheet d at nothing R = go d.stands refl
  where
    open_there : (o : Open) → d.stands ≡ o → Inside o → (at : ℕ) × (x : Refusal) × Stopped sheet at x
    open_there o e i = (at, Layout at, (d, nothing, R, (inside d o e i, refl)))

    go : (o : Open) → d.stands ≡ o → ReadWhole sheet ⊎ ((at : ℕ) × (x : Refusal) × Stopped sheet at x)
    go outside e = inl (d, at, R, e)
    go (at_sites g) e = inr (open_there (at_sites g) e tt)
    go (at_rules g) e = inr (open_there (at_rules g) e tt)
    go (at_items g r n) e = inr (open_there (at_items g r n) e tt)
ends_at sheet d at (unended l) R = inr (at, Layout at, (d, unended l, R, refl))
ends_at sheet d at (line l rest) R = go (step d at l) refl (λ s e. ends_at sheet s.after (suc at) rest (next s R e))
  where
    go : (o : Outcome Stepped) → step d at l ≡ o → ((s : Stepped) → step d at l ≡ done s → ReadWhole sheet ⊎ ((at : ℕ) × (x : Refusal) × Stopped sheet at x)) →
        ReadWhole sheet ⊎ ((at : ℕ) × (x : Refusal) × Stopped sheet at x)
    go (done s) e f = f s e
    go (refused x) e f = inr (at, x, (d, line l rest, R, e))

pub whole_or_stopped : (sheet : List ℕ) → ReadWhole sheet ⊎ ((at : ℕ) × (x : Refusal) × Stopped sheet at x)
whole_or_stopped sheet = ends_at sheet start 1 (lines sheet) first

final_stop : (d : Reader) (at : ℕ) (l : List ℕ) (rest : Lines) (x : Refusal) → step d at l ≡ refused x → final d at (line l rest) ≡ none
unfolding final
final_stop d at l rest x e = rw (e, final)

stop_final : (d : Reader) (at : ℕ) (ls : Lines) (x : Refusal) (z : Reader) → Stops d at ls x → final d at ls ≡ some z → z.stands ≡ outside → ⊥
unfolding final
stop_final d at (line l rest) x z q e o = never (sym (final_stop d at l rest x q) ∙ e)
stop_final d at (unended l) x z q e o = never e
stop_final d at nothing x z q e o = let w : d ≡ z = cc in q.0 (ap (λ (r : Reader). r.stands) w ∙ o)

pub not_both : (sheet : List ℕ) → ReadWhole sheet → (at : ℕ) (x : Refusal) → Stopped sheet at x → ⊥
not_both sheet (z, n, R, o) at x (d, ls, Q, q) = stop_final d at ls x z q (sym (reads_final Q) ∙ (reads_final R ∙ at_end z n)) o
