-- What is held of a line, in an array.
use Rattle.std.specs.Prelude.{◌≡◌, refl, List, [], ◌∷◌, ◌++◌, Bool, true, false, ℕ, zero, suc, ◌+◌, ◌-◌, ◌≤◌, min, length, take, get_or, set, replicate, leb}
use Rattle.std.proofs.Common.{sym, ap, ◌∙◌, append-nil, arith, length-take, length-set, take_all, leb-true, leb-false}
use Rattle.std.proofs.lemmas.List.{length-replicate}
use Rattle.std.proofs.Math.Seq.{paste, paste-zero, paste-suc}
use Rattle.std.proofs.lemmas.List.Edits.{take-paste}
use Rattle.std.specs.Prelude.{if◌then◌else◌}
use Rattle.sheet_lines.specs.declared.Held.{Held}
use Rattle.sheet_lines.specs.Fed.{max_held, held_of}

-- the bytes that are held
abbrev pub held_in : Held → List ℕ
held_in h = take h.length h.bytes

-- r holds what came of a line: l
pub record Holds (r : Held) (l : List ℕ) : Type 0 where
  pub holds : held_in r ≡ held_of l
  pub short : r.length ≤ max_held
  pub whole : length r.bytes ≡ max_held

unfoldable pub no_line : Held
no_line = record { length = 0; bytes = replicate max_held 0 }

-- k bytes of s stored from `at` on
unfoldable pub stored : List ℕ → ℕ → List ℕ → ℕ → List ℕ
stored d at s zero = d
stored d at s (suc k) = set (stored d at s k) (at + k) (get_or s k 0)

-- s behind them, as far as there is room: the bytes past it stay
abbrev pub held_behind : Held → List ℕ → ℕ → Held
held_behind h s k = record { length = h.length + k; bytes = stored h.bytes h.length s k }

abbrev pub held_all : Held → Held
held_all h = record { length = max_held; bytes = h.bytes }

unfoldable pub held_more : Held → List ℕ → Held
held_more h s = if leb h.length max_held then held_behind h s (min (length s) (max_held - h.length)) else held_all h

-- ---- laws
take_least : (n : ℕ) (l : List ℕ) → take (min n (length l)) l ≡ take n l
take_least n l = go (leb n (length l)) refl
  where
    go : (t : Bool) → leb n (length l) ≡ t → take (min n (length l)) l ≡ take n l
    go true e = let h = leb-true n (length l) e in let m : min n (length l) ≡ n = omega arith in rw m
    go false e = let h = leb-false n (length l) e in let m : min n (length l) ≡ length l = omega arith in
        rw m (take_all (length l) l (omega arith) ∙ sym (take_all n l (omega arith)))

take_past : (n : ℕ) (l s : List ℕ) → length l ≤ n → take n (l ++ s) ≡ l ++ take (n - length l) s
take_past n [] s h = let e : n - 0 ≡ n = omega arith in rw e
take_past zero (x ∷ l) s h = absurd (omega arith)
take_past (suc n) (x ∷ l) s h = let e : suc n - suc (length l) ≡ n - length l = omega arith in rw e (ap (λ t. x ∷ t) (take_past n l s (omega arith)))

pub stored_is : (d : List ℕ) (at : ℕ) (s : List ℕ) (k : ℕ) → at + k ≤ length d → k ≤ length s → stored d at s k ≡ paste d at s k
unfolding stored
stored_is d at s zero h l = paste-zero d at s
stored_is d at s (suc k) h l = rw (stored_is d at s k (omega arith) (omega arith)) (paste-suc d at s k 0 (omega arith) (omega arith))

length_stored : (d : List ℕ) (at : ℕ) (s : List ℕ) (k : ℕ) → length (stored d at s k) ≡ length d
unfolding stored
length_stored d at s zero = refl
length_stored d at s (suc k) = length-set (stored d at s k) (at + k) (get_or s k 0) ∙ length_stored d at s k

-- what is held then is the first of all that came
pub held_more_is : (h : Held) (s : List ℕ) → length h.bytes ≡ max_held → held_in (held_more h s) ≡ held_of (held_in h ++ s)
unfolding held_more
held_more_is h s e = go (leb h.length max_held) refl
  where
    go : (t : Bool) → leb h.length max_held ≡ t →
        held_in (if t then held_behind h s (min (length s) (max_held - h.length)) else held_all h) ≡ held_of (held_in h ++ s)
    go true q =
        let b = h.bytes in
        let n = h.length in
        let k = min (length s) (max_held - n) in
        let m = leb-true n max_held q in
        let l : length (take n b) ≡ n = length-take n b ∙ omega arith in
        let c : k ≡ min (max_held - n) (length s) = omega arith in
        let t : take k s ≡ take (max_held - n) s = ap (λ i. take i s) c ∙ take_least (max_held - n) s in
        let w : held_of (take n b ++ s) ≡ take n b ++ take (max_held - n) s = take_past max_held (take n b) s (omega arith)
        ∙ ap (λ i. take n b ++ take (max_held - i) s) l in
        ap (take (n + k)) (stored_is b n s k (omega arith) (omega arith))
        ∙ (take-paste b n s k (omega arith) (omega arith) ∙ (ap (λ x. take n b ++ x) t ∙ sym w))
    go false q =
        let b = h.bytes in
        let n = h.length in
        let m = leb-false n max_held q in
        let u : take n b ≡ b = take_all n b (omega arith) in
        let v : take max_held b ≡ b = take_all max_held b (omega arith) in
        let w : held_of (b ++ s) ≡ b ++ take (max_held - length b) s = take_past max_held b s (omega arith) in
        let z : max_held - length b ≡ 0 = omega arith in
        v ∙ sym (ap (λ x. held_of (x ++ s)) u ∙ (w ∙ (ap (λ i. b ++ take i s) z ∙ append-nil b)))

-- the array stays as long as it was
pub held_more_long : (h : Held) (s : List ℕ) → length (held_more h s).bytes ≡ length h.bytes
unfolding held_more
held_more_long h s = go (leb h.length max_held)
  where
    go : (t : Bool) → length (if t then held_behind h s (min (length s) (max_held - h.length)) else held_all h).bytes ≡ length h.bytes
    go true = length_stored h.bytes h.length s (min (length s) (max_held - h.length))
    go false = refl

held_more_short : (h : Held) (s : List ℕ) → (held_more h s).length ≤ max_held
unfolding held_more
held_more_short h s = go (leb h.length max_held) refl
  where
    go : (t : Bool) → leb h.length max_held ≡ t →
        (if t then held_behind h s (min (length s) (max_held - h.length)) else held_all h).length ≤ max_held
    go true e = let l = leb-true h.length max_held e in omega arith
    go false e = omega arith

pub more_holds : (h : Held) (s : List ℕ) → length h.bytes ≡ max_held → Holds (held_more h s) (held_in h ++ s)
more_holds h s e = record { holds = held_more_is h s e; short = held_more_short h s; whole = held_more_long h s ∙ e }

pub nothing_holds : Holds no_line []
unfolding no_line
nothing_holds = record { holds = refl; short = omega arith; whole = length-replicate {A = ℕ} max_held 0 }
