-- Bytes into lent room, one after the other: the room, and where the next byte goes.
use Rattle.std.specs.Prelude.{◌≡◌, refl, Bool, true, false, ℕ, suc, ◌+◌, ◌≤◌, ◌<◌, length, set, ltb}
use Rattle.std.proofs.Common.{sym, ap, ◌∙◌, arith, length-set, lt-ltb, le-ltb, ltb-true, ltb-false}
use mathlib.Core.List.{List, [], ◌∷◌, ◌++◌, foldl, foldl-append}
use Rattle.std.proofs.lemmas.List.Edits.{sets}
use Rattle.std.specs.Prelude.{if◌then◌else◌}

abbrev pub Room : Type 0
Room = List ℕ × ℕ

-- past the end of the room nothing is stored
unfoldable pub with_byte : Room → ℕ → Room
with_byte p b = if ltb p.1 (length p.0) then (set p.0 p.1 b, p.1 + 1) else p

unfoldable pub wrote : Room → List ℕ → Room
wrote p s = foldl with_byte p s

pub nothing : (p : Room) → p ≡ wrote p []
unfolding wrote
nothing p = refl

-- a text after a text
pub after : (p : Room) (s t : List ℕ) → wrote (wrote p s) t ≡ wrote p (s ++ t)
unfolding wrote
after p s t = sym (foldl-append with_byte p s t)

pub follows : (p q r : Room) (s t : List ℕ) → q ≡ wrote p s → r ≡ wrote q t → r ≡ wrote p (s ++ t)
follows p q r s t e f = f ∙ (ap (λ z. wrote z t) e ∙ after p s t)

-- ---- what it is: the room keeps its length; a text that fits is stored whole, and of one that doesn't the end is the room's
pub one_fits : (m : List ℕ) (at b : ℕ) → at < length m → with_byte (m, at) b ≡ (set m at b, at + 1)
unfolding with_byte
one_fits m at b h = rw (lt-ltb at (length m) h)

pub one_past : (m : List ℕ) (at b : ℕ) → length m ≤ at → with_byte (m, at) b ≡ (m, at)
unfolding with_byte
one_past m at b h = rw (le-ltb at (length m) h)

pub stored : (m : List ℕ) (at b : ℕ) → at < length m → (set m at b, at + 1) ≡ wrote (m, at) (b ∷ [])
unfolding wrote
stored m at b h = sym (one_fits m at b h)

pub left_out : (m : List ℕ) (at b : ℕ) → length m ≤ at → (m, at) ≡ wrote (m, at) (b ∷ [])
unfolding wrote
left_out m at b h = sym (one_past m at b h)

pub past : (m : List ℕ) (at : ℕ) (s : List ℕ) → length m ≤ at → wrote (m, at) s ≡ (m, at)
unfolding wrote
past m at [] h = refl
past m at (b ∷ s) h = ap (λ z. foldl with_byte z s) (one_past m at b h) ∙ past m at s h

pub fits : (s m : List ℕ) (at : ℕ) → at + length s ≤ length m → wrote (m, at) s ≡ (sets m at s, at + length s)
unfolding wrote
fits [] m at h = ap (λ (k : ℕ). (m, k)) (omega arith)
fits (b ∷ s) m at h =
    let l : suc at + length s ≤ length (set m at b) = rw length-set (omega arith) in
    let e : at + 1 ≡ suc at = omega arith in
    let w : with_byte (m, at) b ≡ (set m at b, suc at) = one_fits m at b (omega arith) ∙ ap (λ (k : ℕ). (set m at b, k)) e in
    let k : suc at + length s ≡ at + length (b ∷ s) = omega arith in
    ap (λ z. foldl with_byte z s) w ∙ (fits s (set m at b) (suc at) l ∙ ap (λ (k : ℕ). (sets (set m at b) (suc at) s, k)) k)

-- a text that doesn't fit reaches the end
pub reaches : (s m : List ℕ) (at : ℕ) → length m ≤ at + length s → length (wrote (m, at) s).0 ≤ (wrote (m, at) s).1
unfolding wrote
reaches [] m at h = omega arith
reaches (b ∷ s) m at h = go (ltb at (length m)) refl (reaches s (set m at b) (suc at))
  where
    go : (t : Bool) → ltb at (length m) ≡ t
        → (length (set m at b) ≤ suc at + length s → length (foldl with_byte (set m at b, suc at) s).0 ≤ (foldl with_byte (set m at b, suc at) s).1)
        → length (foldl with_byte (with_byte (m, at) b) s).0 ≤ (foldl with_byte (with_byte (m, at) b) s).1
    go true e f =
        let l : length (set m at b) ≤ suc at + length s = rw length-set (omega arith) in
        let k : at + 1 ≡ suc at = omega arith in
        rw (one_fits m at b (ltb-true at (length m) e), k) (f l)
    go false e f = rw (one_past m at b (ltb-false at (length m) e), past m at s (ltb-false at (length m) e)) (ltb-false at (length m) e)
