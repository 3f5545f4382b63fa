-- One walk over the lines finds what the proposal has: the first bad line (`bad_is`), and the rule lines of each set (`rows_are`).
use mathlib.Core.Path.{◌≡◌, refl, sym, ap, ◌∙◌}
use mathlib.Core.Bool.{Bool, true, false}
use mathlib.Core.Option.{Option, none, some}
use mathlib.Core.List.{List, [], ◌∷◌, ◌++◌}
use Prim.Native.Nat.{ℕ, zero, suc, ◌<◌}
use native.Mathlib.Omega.{arith}
use lib.ListN.{length, get_or, set, replicate, length-set, length-replicate}
use lib.Seq.{get_or-set_same, get_or-set_other}
use lib.Dec.{eqb}
use borrow.Author.Tests.{eq-eqb, ne_eqb, eqb-true, eqb-false}
use Rattle.paper.specs.Words.{any, has, look, or_else}
use Rattle.paper.specs.Layout.{Lines, nothing, unended, line, lines}
use Rattle.paper.proofs.Lists.{no_way}
use Rattle.plan_text.specs.declared.Spoken.{Spoken}
use Rattle.plan_text.specs.declared.Spoken.TheVariants.{Set, Rule, None, Bad}
use Rattle.plan_text.specs.Lines.{terms, line_of}
use Rattle.plan_text.specs.Proposal.{spoken, misplaced, with_set, bad_from, first_bad, Row, rows_here, sets_from, rows_in, bad_at, sets, told, proposal}
use Rattle.plan_text.specs.Walk.{misplaced_by, marks_with, bad_by, rows_from, rows_of}
use Rattle.plan_text.proofs.Laws.{says_exactly}

-- ---- terms fit
abbrev Fit : List Spoken → Type 0
Fit [] = Unit {0}
Fit (Set t ∷ ss) = (t < terms) × Fit ss
Fit (Rule p q ∷ ss) = Fit ss
Fit (None ∷ ss) = Fit ss
Fit (Bad ∷ ss) = Fit ss

spoken_fit : (ls : Lines) → Fit (spoken ls)
unfolding spoken
spoken_fit nothing = tt
spoken_fit (unended l) = tt
spoken_fit (line l rest) = go (line_of (l ++ (10 ∷ []))) refl (spoken_fit rest)
  where
    go : (s : Spoken) → line_of (l ++ (10 ∷ [])) ≡ s → Fit (spoken rest) → Fit (s ∷ spoken rest)
    go (Set t) e f = (((says_exactly (l ++ (10 ∷ [])) (Set t)).0 e).fits, f)
    go (Rule p q) e f = f
    go None e f = f
    go Bad e f = f

-- ---- marks
Marked : List Bool → List ℕ → Type 0
Marked marks named = (t : ℕ) → t < terms → get_or marks t false ≡ has named t

has_first : (t : ℕ) (named : List ℕ) → has (t ∷ named) t ≡ true
unfolding has any
has_first t named = rw (eq-eqb t t refl) refl

has_other : (t u : ℕ) (named : List ℕ) → (u ≡ t → ⊥) → has (t ∷ named) u ≡ has named u
unfolding has any
has_other t u named h = rw (ne_eqb u t h) refl

has_more : (t u : ℕ) (named : List ℕ) → has named u ≡ true → has (t ∷ named) u ≡ true
has_more t u named h = go (eqb u t) refl
  where
    go : (b : Bool) → eqb u t ≡ b → has (t ∷ named) u ≡ true
    go true e = ap (λ z. has (t ∷ named) z) (eqb-true u t e) ∙ has_first t named
    go false e = has_other t u named (eqb-false u t e) ∙ h

marked_set : (marks : List Bool) (named : List ℕ) (t : ℕ) → length marks ≡ terms → t < terms → Marked marks named → Marked (set marks t true) (t ∷ named)
unfolding Marked
marked_set marks named t L h M u k = go (eqb u t) refl
  where
    go : (b : Bool) → eqb u t ≡ b → get_or (set marks t true) u false ≡ has (t ∷ named) u
    go true e =
        let w : u ≡ t = eqb-true u t e in
        ap (λ z. get_or (set marks t true) z false) w ∙ (get_or-set_same marks t true false (omega arith) ∙ sym (ap (λ z. has (t ∷ named) z) w ∙ has_first t named))
    go false e =
        let w = eqb-false u t e in
        get_or-set_other marks t u true false w ∙ (M u k ∙ sym (has_other t u named w))

abbrev some_named : List ℕ → Bool
some_named [] = false
some_named (t ∷ named) = true

same_place : (s : Spoken) (ss : List Spoken) (named : List ℕ) (marks : List Bool) → Marked marks named → Fit (s ∷ ss) → misplaced_by marks (some_named named) s ≡ misplaced named s
unfolding Marked
same_place (Set t) ss named marks M F = M t F.0
same_place (Rule p q) ss [] marks M F = refl
same_place (Rule p q) ss (t ∷ named) marks M F = refl
same_place None ss [] marks M F = refl
same_place None ss (t ∷ named) marks M F = refl
same_place Bad ss named marks M F = refl

then_some : (s : Spoken) (named : List ℕ) → misplaced named s ≡ false → true ≡ some_named (with_set named s)
then_some (Set t) named e = refl
then_some (Rule p q) [] e = no_way e
then_some (Rule p q) (t ∷ named) e = refl
then_some None [] e = no_way e
then_some None (t ∷ named) e = refl
then_some Bad named e = no_way e

then_marked : (s : Spoken) (ss : List Spoken) (named : List ℕ) (marks : List Bool) → length marks ≡ terms → Marked marks named → Fit (s ∷ ss) → Marked (marks_with marks s) (with_set named s)
then_marked (Set t) ss named marks L M F = marked_set marks named t L F.0 M
then_marked (Rule p q) ss named marks L M F = M
then_marked None ss named marks L M F = M
then_marked Bad ss named marks L M F = M

then_long : (s : Spoken) (marks : List Bool) → length marks ≡ terms → length (marks_with marks s) ≡ terms
then_long (Set t) marks L = length-set marks t true ∙ L
then_long (Rule p q) marks L = L
then_long None marks L = L
then_long Bad marks L = L

then_fit : (s : Spoken) (ss : List Spoken) → Fit (s ∷ ss) → Fit ss
then_fit (Set t) ss F = F.1
then_fit (Rule p q) ss F = F
then_fit None ss F = F
then_fit Bad ss F = F

-- ---- one line
pub by_bad : (marks : List Bool) (any : Bool) (at : ℕ) (s : Spoken) (ss : List Spoken) → misplaced_by marks any s ≡ true → bad_by marks any at (s ∷ ss) ≡ some at
unfolding bad_by
by_bad marks any at s ss e = ap (λ (t : Bool). elim t as (λ _. Option ℕ) [ true ↦ some at | false ↦ bad_by (marks_with marks s) true (suc at) ss ]) e

pub by_well : (marks : List Bool) (any : Bool) (at : ℕ) (s : Spoken) (ss : List Spoken) → misplaced_by marks any s ≡ false → bad_by marks any at (s ∷ ss) ≡ bad_by (marks_with marks s) true (suc at) ss
unfolding bad_by
by_well marks any at s ss e = ap (λ (t : Bool). elim t as (λ _. Option ℕ) [ true ↦ some at | false ↦ bad_by (marks_with marks s) true (suc at) ss ]) e

from_bad : (named : List ℕ) (at : ℕ) (s : Spoken) (ss : List Spoken) → misplaced named s ≡ true → bad_from named at (s ∷ ss) ≡ some at
unfolding bad_from
from_bad named at s ss e = ap (λ (t : Bool). elim t as (λ _. Option ℕ) [ true ↦ some at | false ↦ bad_from (with_set named s) (suc at) ss ]) e

from_well : (named : List ℕ) (at : ℕ) (s : Spoken) (ss : List Spoken) → misplaced named s ≡ false → bad_from named at (s ∷ ss) ≡ bad_from (with_set named s) (suc at) ss
unfolding bad_from
from_well named at s ss e = ap (λ (t : Bool). elim t as (λ _. Option ℕ) [ true ↦ some at | false ↦ bad_from (with_set named s) (suc at) ss ]) e

bad_same : (ss : List Spoken) (at : ℕ) (named : List ℕ) (marks : List Bool) → length marks ≡ terms → Marked marks named → Fit ss → bad_by marks (some_named named) at ss ≡ bad_from named at ss
unfolding bad_by bad_from
bad_same [] at named marks L M F = refl
bad_same (s ∷ ss) at named marks L M F = go (misplaced named s) refl (bad_same ss (suc at) (with_set named s) (marks_with marks s) (then_long s marks L) (then_marked s ss named marks L M F) (then_fit s ss F))
  where
    go : (b : Bool) → misplaced named s ≡ b → bad_by (marks_with marks s) (some_named (with_set named s)) (suc at) ss ≡ bad_from (with_set named s) (suc at) ss
        → bad_by marks (some_named named) at (s ∷ ss) ≡ bad_from named at (s ∷ ss)
    go true e I = by_bad marks (some_named named) at s ss (same_place s ss named marks M F ∙ e) ∙ sym (from_bad named at s ss e)
    go false e I = by_well marks (some_named named) at s ss (same_place s ss named marks M F ∙ e) ∙ (ap (λ b. bad_by (marks_with marks s) b (suc at) ss) (then_some s named e) ∙ (I ∙ sym (from_well named at s ss e)))

get_none : (n t : ℕ) → get_or (replicate {A = Bool} n false) t false ≡ false
get_none zero t = refl
get_none (suc n) zero = refl
get_none (suc n) (suc t) = get_none n t

none_marked : (marks : List Bool) → marks ≡ replicate terms false → Marked marks []
unfolding Marked has any
none_marked marks e t h = ap (λ m. get_or m t false) e ∙ get_none terms t

pub bad_is : (text : List ℕ) (marks : List Bool) → marks ≡ replicate terms false → bad_by marks false 1 (spoken (lines text)) ≡ first_bad text
unfolding first_bad
bad_is text marks e = bad_same (spoken (lines text)) 1 [] marks (ap length e ∙ length-replicate {A = Bool} terms false) (none_marked marks e) (spoken_fit (lines text))

-- ---- the rule lines of a set
not_bad : (named : List ℕ) (at : ℕ) (s : Spoken) (ss : List Spoken) → bad_from named at (s ∷ ss) ≡ none → (misplaced named s ≡ false) × (bad_from (with_set named s) (suc at) ss ≡ none)
not_bad named at s ss e = go (misplaced named s) refl
  where
    go : (b : Bool) → misplaced named s ≡ b → (misplaced named s ≡ false) × (bad_from (with_set named s) (suc at) ss ≡ none)
    go true f = let w : some at ≡ none = sym (from_bad named at s ss f) ∙ e in let z : ◌≡◌ {A = ℕ} 0 1 = cc in absurd (omega arith)
    go false f = (f, sym (from_well named at s ss f) ∙ e)

other_term : (named : List ℕ) (t w : ℕ) → has named t ≡ false → has named w ≡ true → t ≡ w → ⊥
other_term named t w e f g = no_way (sym f ∙ (ap (λ z. has named z) (sym g) ∙ e))

-- a set that was named is not named again
none_later : (ss : List Spoken) (at w : ℕ) (named : List ℕ) → bad_from named at ss ≡ none → has named w ≡ true → rows_from w false at ss ≡ []
unfolding rows_from
none_later [] at w named e h = refl
none_later (Set t ∷ ss) at w named e h =
    let b = not_bad named at (Set t) ss e in
    let o = ne_eqb t w (other_term named t w b.0 h) in
    rw o (none_later ss (suc at) w (t ∷ named) b.1 (has_more t w named h))
none_later (Rule p q ∷ ss) at w named e h = none_later ss (suc at) w named (not_bad named at (Rule p q) ss e).1 h
none_later (None ∷ ss) at w named e h = none_later ss (suc at) w named (not_bad named at None ss e).1 h
none_later (Bad ∷ ss) at w named e h = none_later ss (suc at) w named (not_bad named at Bad ss e).1 h

all_here : (ss : List Spoken) (at w : ℕ) (named : List ℕ) → bad_from named at ss ≡ none → has named w ≡ true → rows_from w true at ss ≡ rows_here at ss
unfolding rows_from rows_here
all_here [] at w named e h = refl
all_here (Set t ∷ ss) at w named e h =
    let b = not_bad named at (Set t) ss e in
    let o = ne_eqb t w (other_term named t w b.0 h) in
    rw o (none_later ss (suc at) w (t ∷ named) b.1 (has_more t w named h))
all_here (Rule p q ∷ ss) at w named e h = ap (λ r. record { place = p; priority = q; line = at } ∷ r) (all_here ss (suc at) w named (not_bad named at (Rule p q) ss e).1 h)
all_here (None ∷ ss) at w named e h = all_here ss (suc at) w named (not_bad named at None ss e).1 h
all_here (Bad ∷ ss) at w named e h = all_here ss (suc at) w named (not_bad named at Bad ss e).1 h

in_first : (t w : ℕ) (r : List Row) (ps : List (ℕ × List Row)) → eqb t w ≡ true → rows_in ((t, r) ∷ ps) w ≡ r
unfolding rows_in look
in_first t w r ps e = ap (λ (b : Bool). or_else (elim b as (λ _. Option (List Row)) [ true ↦ some r | false ↦ look ps w ]) []) e

in_rest : (t w : ℕ) (r : List Row) (ps : List (ℕ × List Row)) → eqb t w ≡ false → rows_in ((t, r) ∷ ps) w ≡ rows_in ps w
unfolding rows_in look
in_rest t w r ps e = ap (λ (b : Bool). or_else (elim b as (λ _. Option (List Row)) [ true ↦ some r | false ↦ look ps w ]) []) e

rows_set : (t w at : ℕ) (ss : List Spoken) (b : Bool) → eqb t w ≡ b → rows_from w false at (Set t ∷ ss) ≡ rows_from w b (suc at) ss
unfolding rows_from
rows_set t w at ss b e = ap (λ (b : Bool). rows_from w b (suc at) ss) e

rows_same : (ss : List Spoken) (at w : ℕ) (named : List ℕ) → bad_from named at ss ≡ none → rows_from w false at ss ≡ rows_in (sets_from at ss) w
unfolding rows_from sets_from rows_in look
rows_same [] at w named e = refl
rows_same (Set t ∷ ss) at w named e = go (eqb t w) refl (rows_same ss (suc at) w (t ∷ named) (not_bad named at (Set t) ss e).1)
  where
    go : (b : Bool) → eqb t w ≡ b → rows_from w false (suc at) ss ≡ rows_in (sets_from (suc at) ss) w → rows_from w false at (Set t ∷ ss) ≡ rows_in (sets_from at (Set t ∷ ss)) w
    go true f I = rows_set t w at ss true f ∙ (all_here ss (suc at) w (t ∷ named) (not_bad named at (Set t) ss e).1 (ap (λ z. has (t ∷ named) z) (sym (eqb-true t w f)) ∙ has_first t named) ∙ sym (in_first t w (rows_here (suc at) ss) (sets_from (suc at) ss) f))
    go false f I = rows_set t w at ss false f ∙ (I ∙ sym (in_rest t w (rows_here (suc at) ss) (sets_from (suc at) ss) f))
rows_same (Rule p q ∷ ss) at w named e = rows_same ss (suc at) w named (not_bad named at (Rule p q) ss e).1
rows_same (None ∷ ss) at w named e = rows_same ss (suc at) w named (not_bad named at None ss e).1
rows_same (Bad ∷ ss) at w named e = rows_same ss (suc at) w named (not_bad named at Bad ss e).1

-- of a text that is as laid out
pub rows_are : (text : List ℕ) (wanted : ℕ) → first_bad text ≡ none → rows_of text wanted ≡ rows_in (sets_from 1 (spoken (lines text))) wanted
unfolding first_bad rows_of
rows_are text wanted e = rows_same (spoken (lines text)) 1 wanted [] e

-- ---- what the two walks answer is the proposal
pub proposal_bad : (text : List ℕ) (at : ℕ) → first_bad text ≡ some at → proposal text ≡ bad_at at
unfolding proposal
proposal_bad text at e = ap (λ o. told o (sets_from 1 (spoken (lines text)))) e

pub proposal_well : (text : List ℕ) → first_bad text ≡ none → proposal text ≡ sets (sets_from 1 (spoken (lines text)))
unfolding proposal
proposal_well text e = ap (λ o. told o (sets_from 1 (spoken (lines text)))) e
