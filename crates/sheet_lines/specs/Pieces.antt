-- A sheet in pieces of any size: what is written with each piece and at the end is, one after the other, the findings.
use Rattle.std.specs.Prelude.{◌≡◌, refl, Bool, true, false, List, [], ◌∷◌, ◌++◌, map, ℕ, suc, ◌≤◌, length, eqb, leb}
use Rattle.std.proofs.Common.{ap, ◌∙◌, append_assoc, arith, length-take, leb-true}
use Rattle.paper.specs.Words.{joined}
use Rattle.paper.specs.Numbers.{Outcome, done, refused, last_line}
use Rattle.paper.specs.Layout.{hex}
use Rattle.paper.specs.Sheets.{Reader, Stepped, step, findings}
use Rattle.sheet_lines.specs.Fed.{Reading, going, stopped, Fed, begun, max_held, line_feed, held_on, after_line, fed, behind, fed_all, ended, closed, findings_fed}

-- ---- pieces
unfoldable pub fed_pieces : Reading → List (List ℕ) → Fed
fed_pieces m [] = record { reading = m; found = [] }
fed_pieces m (p ∷ ps) = behind (fed_all m p).found (fed_pieces (fed_all m p).reading ps)

pub fed_append : (m : Reading) (s t : List ℕ) → fed_all m (s ++ t) ≡ behind (fed_all m s).found (fed_all (fed_all m s).reading t)
unfolding fed_all
fed_append m [] t = refl
fed_append m (b ∷ s) t = rw (fed_append (fed m b).reading s t, append_assoc (fed m b).found _ _)

fed_joined : (m : Reading) (ps : List (List ℕ)) → fed_all m (joined ps) ≡ fed_pieces m ps
unfolding fed_all fed_pieces joined
fed_joined m [] = refl
fed_joined m (p ∷ ps) = fed_append m p (joined ps) ∙ ap (behind (fed_all m p).found) (fed_joined (fed_all m p).reading ps)

pub findings_in_pieces : (ps : List (List ℕ)) → findings (joined ps) ≡ joined (map hex (closed (fed_pieces begun ps)))
findings_in_pieces ps = findings_fed (joined ps) ∙ ap (λ r. joined (map hex (closed r))) (fed_joined begun ps)

-- ---- what is written: with each piece what it finds, and at the end the rest
abbrev pub as_lines : List (List ℕ) → List ℕ
as_lines f = joined (map hex f)

unfoldable pub written : Reading → List (List ℕ) → List ℕ
written m [] = as_lines (ended m)
written m (p ∷ ps) = as_lines (fed_all m p).found ++ written (fed_all m p).reading ps

pub lines_append : (f g : List (List ℕ)) → as_lines (f ++ g) ≡ as_lines f ++ as_lines g
unfolding joined
lines_append [] g = refl
lines_append (x ∷ f) g = rw (lines_append f g, append_assoc (hex x) (as_lines f) (as_lines g))

written_is : (m : Reading) (ps : List (List ℕ)) → as_lines (closed (fed_pieces m ps)) ≡ written m ps
unfolding fed_pieces written
written_is m [] = refl
written_is m (p ∷ ps) =
    let r = fed_pieces (fed_all m p).reading ps in
    ap as_lines (append_assoc (fed_all m p).found r.found (ended r.reading))
    ∙ (lines_append (fed_all m p).found (closed r) ∙ ap (λ t. as_lines (fed_all m p).found ++ t) (written_is (fed_all m p).reading ps))

pub in_pieces : (ps : List (List ℕ)) → findings (joined ps) ≡ written begun ps
in_pieces ps = findings_in_pieces ps ∙ written_is begun ps

-- ---- the reading stays small: its line is a number of four bytes, and of the line it holds at most 65 bytes
abbrev pub Small : Reading → Type 0
Small (going d at h) = (at ≤ suc last_line) × (length h ≤ max_held)
Small stopped = Unit {0}

step_early : (d : Reader) (at : ℕ) (h : List ℕ) (x : Stepped) → step d at h ≡ done x → at ≤ last_line
unfolding step
step_early d at h x e = go (leb at last_line) refl
  where
    go : (t : Bool) → leb at last_line ≡ t → at ≤ last_line
    go true q = leb-true at last_line q
    go false q = absurd (let w = rw q at e in let z : ◌≡◌ {A = ℕ} 0 1 = cc in omega arith)

small_line : (d : Reader) (at : ℕ) (h : List ℕ) (o : Outcome Stepped) → step d at h ≡ o → Small (after_line at o).reading
unfolding after_line
small_line d at h (done x) e = let l = step_early d at h x e in (omega arith, omega arith)
small_line d at h (refused r) e = tt

small_byte : (m : Reading) (b : ℕ) → Small m → Small (fed m b).reading
unfolding fed
small_byte stopped b h = tt
small_byte (going d at h) b s = go (eqb b line_feed)
  where
    go : (t : Bool) → Small (elim t as (λ _. Fed) [ true ↦ after_line at (step d at h) | false ↦ held_on d at (h ++ (b ∷ [])) ]).reading
    go true = small_line d at h (step d at h) refl
    go false = let n = length-take max_held (h ++ (b ∷ [])) in (s.0, omega arith)

pub small_fed : (m : Reading) (s : List ℕ) → Small m → Small (fed_all m s).reading
unfolding fed_all
small_fed m [] h = h
small_fed m (b ∷ s) h = small_fed (fed m b).reading s (small_byte m b h)

pub small_begun : Small begun
small_begun = (omega arith, omega arith)
