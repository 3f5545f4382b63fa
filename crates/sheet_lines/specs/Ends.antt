-- The lines of a piece: where one ends, and what feeding one does.
use Rattle.std.specs.declared.option.Option.TheVariants.{None, Some}
use Rattle.std.specs.Prelude.{◌≡◌, refl, Bool, true, false, List, [], ◌∷◌, ◌++◌, ℕ, suc, ◌+◌, ◌-◌, ◌≤◌, ◌<◌, length, take, drop, eqb}
use Rattle.std.proofs.Common.{sym, ap, ◌∙◌, append_assoc, append-nil, arith, eqb-true}
use Rattle.paper.specs.Sheets.{Reader, step}
use Rattle.paper.specs.Answered.{Maybe}
use Rattle.sheet_lines.specs.Fed.{going, line_feed, held_of, held_on, held_held, step_held, after_line, fed, behind, fed_all}

-- the first LF of s, whose first byte has the number i
unfoldable pub line_end : ℕ → List ℕ → Maybe ℕ
line_end i [] = None
line_end i (b ∷ s) = elim (eqb b line_feed) [ true ↦ Some i | false ↦ line_end (suc i) s ]

-- no LF
abbrev pub Free : List ℕ → Type 0
Free [] = Unit {0}
Free (b ∷ l) = (eqb b line_feed ≡ false) × Free l

pub record Ending (i k : ℕ) (s : List ℕ) : Type 0 where
  pub behind_start : i ≤ k
  pub in_piece : k < i + length s
  pub free : Free (take (k - i) s)
  pub split : s ≡ take (k - i) s ++ (line_feed ∷ drop (suc (k - i)) s)

same_at : {i k : ℕ} → Some i ≡ Some k → i ≡ k
same_at e = cc

pub ends_at : (i k : ℕ) (s : List ℕ) → line_end i s ≡ Some k → Ending i k s
unfolding line_end
ends_at i k [] e = absurd (let z : ◌≡◌ {A = ℕ} 0 1 = cc in omega arith)
ends_at i k (b ∷ s) e = go (eqb b line_feed) refl e (λ q. ends_at (suc i) k s q)
  where
    go : (t : Bool) → eqb b line_feed ≡ t → (elim t as (λ _. Maybe ℕ) [ true ↦ Some i | false ↦ line_end (suc i) s ]) ≡ Some k →
        (line_end (suc i) s ≡ Some k → Ending (suc i) k s) → Ending i k (b ∷ s)
    go true q f w =
        let n : i ≡ k = same_at f in
        let z : k - i ≡ 0 = omega arith in
        let l : b ≡ line_feed = eqb-true b line_feed q in
        record { behind_start = omega arith; in_piece = omega arith; free = rw z tt; split = rw (z, l) }
    go false q f w =
        let r = w f in
        let lo = r.behind_start in
        let hi = r.in_piece in
        let z : k - i ≡ suc (k - suc i) = omega arith in
        record { behind_start = omega arith; in_piece = omega arith; free = rw z (q, r.free); split = rw z (ap (λ t. b ∷ t) r.split) }

pub open_free : (i : ℕ) (s : List ℕ) → line_end i s ≡ None → Free s
unfolding line_end
open_free i [] e = tt
open_free i (b ∷ s) e = go (eqb b line_feed) refl e (λ q. open_free (suc i) s q)
  where
    go : (t : Bool) → eqb b line_feed ≡ t → (elim t as (λ _. Maybe ℕ) [ true ↦ Some i | false ↦ line_end (suc i) s ]) ≡ None →
        (line_end (suc i) s ≡ None → Free s) → Free (b ∷ s)
    go true q f w = absurd (let z : ◌≡◌ {A = ℕ} 0 1 = cc in omega arith)
    go false q f w = (q, w f)

-- ---- a part of a line, and a line to its end
fed_byte : (d : Reader) (at : ℕ) (h : List ℕ) (b : ℕ) → eqb b line_feed ≡ false →
    fed (going d at (held_of h)) b ≡ held_on d at (h ++ (b ∷ []))
unfolding fed
fed_byte d at h b e = rw (e, fed, held_held h (b ∷ []))

fed_lf : (d : Reader) (at : ℕ) (h : List ℕ) → fed (going d at (held_of h)) line_feed ≡ after_line at (step d at h)
unfolding fed
fed_lf d at h = rw (step_held d at h)

pub fed_part : (d : Reader) (at : ℕ) (h l s : List ℕ) → Free l → fed_all (going d at (held_of h)) (l ++ s) ≡ fed_all (going d at (held_of (h ++ l))) s
unfolding fed_all
fed_part d at h [] s f = rw (append-nil h)
fed_part d at h (b ∷ l) s f = rw (fed_byte d at h b f.0, fed_part d at (h ++ (b ∷ [])) l s f.1, append_assoc h (b ∷ []) l)

pub fed_line : (d : Reader) (at : ℕ) (h l s : List ℕ) → Free l →
    fed_all (going d at (held_of h)) (l ++ (line_feed ∷ s))
    ≡ behind (after_line at (step d at (h ++ l))).found (fed_all (after_line at (step d at (h ++ l))).reading s)
unfolding fed_all
fed_line d at h l s f = fed_part d at h l (line_feed ∷ s) f ∙ rw (fed_lf d at (h ++ l))

-- ---- as code has it: the piece s from `from` on, in which the line does not end
pub rest_of_piece : (d : Reader) (at : ℕ) (h s : List ℕ) (from : ℕ) → line_end from (drop from s) ≡ None →
    fed_all (going d at (held_of h)) (drop from s) ≡ held_on d at (h ++ drop from s)
unfolding fed_all
rest_of_piece d at h s from e = ap (fed_all (going d at (held_of h))) (sym (append-nil (drop from s)))
    ∙ fed_part d at h (drop from s) [] (open_free from (drop from s) e)
