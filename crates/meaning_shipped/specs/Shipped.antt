-- What the shipped functions' answers mean, of any sheet. `lintel_sheet_check` answers `findings`, where all that is lent is long enough (else it says so and
-- changes nothing): its contract says this. (Of lent memory that the calls made, and of the 15: proofs/Shipped.antt. Words.antt has the words of both pages.)
use Rattle.std.specs.Prelude.{◌≡◌, true, false, ◌↔◌, ◌⊎◌, ℕ, ◌<◌}
use Rattle.std.proofs.Common.{sym, ◌∙◌}
use mathlib.Core.List.{List, [], ◌∷◌, ◌++◌, map, Memᴰ}
use Rattle.paper.specs.declared.Refusal.{Refusal}
use Rattle.paper.specs.Words.{joined, four}
use Rattle.paper.specs.Numbers.{number, refused}
use Rattle.paper.specs.Inputs.{Given, Input, Matches}
use Rattle.paper.specs.Loading.{Kept, Set, Written, load}
use Rattle.paper.specs.Rules.{overlap, mask, no_equals, rank, masks, is_multi}
use Rattle.paper.specs.Terms.{head_of, is_rec}
use Rattle.paper.specs.Layout.{hex}
use Rattle.paper.specs.Sheets.{refusal_found, listed_found, term_found, stop_found, findings}
use Rattle.meaning.specs.RuleSites.{FourOrSix, OnlyFourOrSix}
use Rattle.meaning.specs.Demand3.{Unmatched}
use Rattle.meaning_shipped.specs.Words.{Asked, Closed, ReadWhole, Stopped, found_in, RuleOf, Common, Overlaps, Pair, Chain, sets_in, ClosesSheet}
use Rattle.meaning_shipped.specs.Says.{each_refusal, refusal_there, unmatched_11, is_overlap, is_mask, named_12, named_13, each_term, findings_are}
use Rattle.meaning_shipped.specs.Cycles.{cyclic_there}
use Rattle.meaning_shipped.specs.Text.{same_text}
use Rattle.meaning_shipped.specs.Counts as C
use Rattle.meaning_shipped.specs.Last.{closed_last}

-- ---- a sheet, any bytes. `found_in sheet` are its findings, each as its bytes, and known by the first of them: 17 is 11 in hexadecimal. `Asked sheet g r`: a
-- line of it completes the rule r of the open set g. `Closed sheet g`: a line of it ends g. Every set that the reader holds is made (Reader.antt,
-- `reads_made`; of the shipped reader's memory, Memory.antt, `reader_made`).

-- The text is the findings, a line for each; and no other list of findings has that text.
pub text_is : (sheet : List ℕ) → findings sheet ≡ joined (map hex (found_in sheet))
text_is = findings_are

pub text_says : (sheet : List ℕ) (fs : List (List ℕ)) → findings sheet ≡ joined (map hex fs) → fs ≡ found_in sheet
text_says sheet fs e = same_text fs (found_in sheet) (sym e ∙ findings_are sheet)

-- Each 11 is of a rule of the sheet, and says what `load` refused it with. If it says 4 or 6, no finite input matches that rule.
pub each_11 : (sheet f t : List ℕ) → Memᴰ f (found_in sheet) → f ≡ 17 ∷ t →
    (g : Set) × (r : Written) × (x : Refusal) × Asked sheet g r × (load g r ≡ refused x) × (f ≡ refusal_found r.place x) × (FourOrSix x → Unmatched g r)
each_11 = each_refusal

-- Each rule of the sheet that `load` refuses has its 11.
pub refused_11 : (sheet : List ℕ) (g : Set) (r : Written) (x : Refusal) → Asked sheet g r → load g r ≡ refused x →
    Memᴰ (refusal_found r.place x) (found_in sheet)
refused_11 = refusal_there

-- A rule of the sheet that no finite input matches, and that earns no other refusal, has an 11 with 4 or 6.
pub has_11 : (sheet : List ℕ) (g : Set) (r : Written) → Asked sheet g r → OnlyFourOrSix (load g r) → Unmatched g r →
    (x : Refusal) × FourOrSix x × Memᴰ (refusal_found r.place x) (found_in sheet)
has_11 = unmatched_11

-- Each 12 names kept rules of one set of the sheet: of the first and each other the priorities are equal and the answer is not No. Without equalities
-- some input matches both as written.
pub each_12 : (sheet f t : List ℕ) → Memᴰ f (found_in sheet) → f ≡ 18 ∷ t →
    (g : Set) × Closed sheet g × (p : ℕ) × (ns : List ℕ) × (f ≡ listed_found (overlap p ns)) × (a : RuleOf sheet g p) ×
    ((q : ℕ) → Memᴰ q ns → (b : RuleOf sheet g q) × Overlaps a.kept b.kept ×
    (no_equals a.kept.equals ≡ true → no_equals b.kept.equals ≡ true → Common a b))
each_12 sheet f t m e = let k = is_overlap sheet f t m e in (k.set, k.closed, k.first, k.others, k.is, k.one, k.each)

-- Each 13 names kept rules of one set of the sheet: each masked one has lower priority than the mask, and every input that matches it, as written,
-- matches the mask.
pub each_13 : (sheet f t : List ℕ) → Memᴰ f (found_in sheet) → f ≡ 19 ∷ t →
    (g : Set) × Closed sheet g × (p : ℕ) × (ns : List ℕ) × (f ≡ listed_found (mask p ns)) × (a : RuleOf sheet g p) ×
    ((q : ℕ) → Memᴰ q ns → (b : RuleOf sheet g q) × (rank b.kept.priority < rank a.kept.priority) ×
    ((at : Given) → Input g.sites at → Matches at b.rule.items → Matches at a.rule.items))
each_13 sheet f t m e = let k = is_mask sheet f t m e in (k.set, k.closed, k.mask, k.masked, k.is, k.one, k.each)

-- None is left out: two kept rules of an ended set, not of a multi term, with equal priorities and not No, stand in a 12.
pub has_12 : (sheet : List ℕ) (g : Set) → Closed sheet g → is_multi g.flags ≡ false →
    (a b : Kept) → Memᴰ a g.kept → Memᴰ b g.kept → (a ≡ b → ⊥) → Overlaps a b →
    (p : ℕ) × (ns : List ℕ) × Memᴰ (listed_found (overlap p ns)) (found_in sheet) × Pair a.place b.place p ns
has_12 = named_12

-- One that masks another stands in a 13.
pub has_13 : (sheet : List ℕ) (g : Set) → Closed sheet g → is_multi g.flags ≡ false →
    (a b : Kept) → Memᴰ a g.kept → Memᴰ b g.kept → masks a b ≡ true →
    (ns : List ℕ) × Memᴰ (listed_found (mask a.place ns)) (found_in sheet) × Memᴰ b.place ns
has_13 = named_13

-- A sheet is read whole, or the reader stops: at this line, with this refusal. Never both.
pub whole_or_stops : (sheet : List ℕ) → ReadWhole sheet ⊎ ((at : ℕ) × (x : Refusal) × Stopped sheet at x)
whole_or_stops = C.whole_or_stopped

pub not_both : (sheet : List ℕ) → ReadWhole sheet → (at : ℕ) (x : Refusal) → Stopped sheet at x → ⊥
not_both = C.not_both

-- Each 14 is of a sheet that is read whole. It names the term of an ended set that is not rec, and from which calls, by sites of ended sets, lead back to
-- it.
pub each_14 : (sheet f t : List ℕ) → Memᴰ f (found_in sheet) → f ≡ 20 ∷ t →
    ReadWhole sheet × (g : Set) × Closed sheet g × (f ≡ term_found g.term) × (is_rec (head_of g) ≡ false) × Chain sheet g.term g.term
each_14 = each_term

-- A sheet that is read whole has a 14 for each such term.
pub has_14 : (sheet : List ℕ) → ReadWhole sheet → (g : Set) → Closed sheet g → is_rec (head_of g) ≡ false → Chain sheet g.term g.term →
    Memᴰ (term_found g.term) (found_in sheet)
has_14 = cyclic_there

-- `sets_in sheet` are the sets that lines of the sheet end, in order, one for each such line.
pub sets_are : (sheet : List ℕ) (g : Set) → Memᴰ g (sets_in sheet) ↔ Closed sheet g
sets_are = C.those_closed

-- Each 1F says the line at which the reader stops, and the number with which.
pub each_1F : (sheet f t : List ℕ) → Memᴰ f (found_in sheet) → f ≡ 31 ∷ t →
    (at : ℕ) × (x : Refusal) × Stopped sheet at x × (f ≡ 31 ∷ (four at ++ (number x ∷ [])))
unfolding stop_found
each_1F = C.each_stop

-- A sheet at which the reader stops has it.
pub has_1F : (sheet : List ℕ) (at : ℕ) (x : Refusal) → Stopped sheet at x → Memᴰ (31 ∷ (four at ++ (number x ∷ []))) (found_in sheet)
unfolding stop_found
has_1F = C.stop_there

-- The last finding is the sheet's 15 or its 1F, and none before it is one: there is one of them, once.
pub one_last : (sheet : List ℕ) → (before : List (List ℕ)) × (end : List ℕ) × (found_in sheet ≡ before ++ (end ∷ [])) × ClosesSheet end ×
    ((f : List ℕ) → Memᴰ f before → ClosesSheet f → ⊥)
one_last = closed_last
