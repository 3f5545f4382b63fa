-- Laws of `put`, and of writing one thing after another.
use mathlib.Core.Path.{◌≡◌, refl, sym, ap, ◌∙◌}
use mathlib.Core.Bool.{Bool, true, false}
use mathlib.Core.List.{List, [], ◌∷◌, ◌++◌, append_assoc, append-nil}
use Prim.Native.Nat.{ℕ, ◌+◌, ◌≤◌, ◌<◌}
use native.Mathlib.Numerals.{add-one}
use native.Mathlib.Omega.{arith}
use lib.ListN.{length, take, drop, set, length-append, length-take, length-drop, take-append-drop}
use lib.Seq.{take_at, drop-append-add, drop-drop, drop-set-lt, take-suc-set, append_snoc}
use lib.Dec.{leb}
use borrow.Author.Tests.{le-leb, lt-leb, leb-true, leb-false}
use Rattle.std.specs.declared.option.Option.TheVariants.{None, Some}
use Rattle.paper.specs.Answered.{Maybe}
use Rattle.sites.specs.Slots.{put, end_at, Writes}
use Rattle.std.specs.Prelude.{if◌then◌else◌}

-- a byte, and then the others after it
pub put_cons : (m : List ℕ) (at x : ℕ) (s : List ℕ) → at < length m → put (set m at x) (at + 1) s ≡ put m at (x ∷ s)
unfolding put
put_cons m at x s h =
    let k : at + 1 + length s ≡ at + length (x ∷ s) = omega arith in
    let d : drop (at + 1 + length s) (set m at x) ≡ drop (at + length (x ∷ s)) m =
    drop-set-lt (at + 1 + length s) m at x (omega arith) ∙ ap (λ (k : ℕ). drop k m) k in
    rw (d, add-one at, take-suc-set m at x h, append_snoc (take at m) x s)

pub length_put : (m : List ℕ) (at : ℕ) (s : List ℕ) → at + length s ≤ length m → length (put m at s) ≡ length m
unfolding put
length_put m at s h = simp (length-append, length-take, length-drop) (omega arith)

pub put_put : (m : List ℕ) (at : ℕ) (x y : List ℕ) → at ≤ length m → put (put m at x) (at + length x) y ≡ put m at (x ++ y)
unfolding put
put_put m at x y h =
    let l : length (take at m ++ x) ≡ at + length x = simp (length-append, length-take) (omega arith) in
    let k : at + length x + length y ≡ length (take at m ++ x) + length y = omega arith in
    let n : at + length x + length y ≡ at + length (x ++ y) = simp length-append (omega arith) in
    let d : drop (at + length x + length y) (take at m ++ x ++ drop (at + length x) m) ≡ drop (at + length (x ++ y)) m =
    ap (λ (j : ℕ). drop j (take at m ++ x ++ drop (at + length x) m)) k
    ∙ drop-append-add (take at m ++ x) (drop (at + length x) m) (length y)
    ∙ drop-drop (length y) (at + length x) m ∙ ap (λ (j : ℕ). drop j m) n in
    rw (d, take_at (take at m ++ x) (drop (at + length x) m) (at + length x) l, append_assoc (take at m) x y)

pub put_nil : (m : List ℕ) (at : ℕ) → put m at [] ≡ m
unfolding put
put_nil m at = let e : at + length {A = ℕ} [] ≡ at = omega arith in rw (e, append-nil (take at m), take-append-drop at m)

-- ---- where writing ends
pub end_to : (room at : ℕ) (u : List ℕ) (e : ℕ) → Some e ≡ end_at room at u → (e ≡ at + length u) × (at + length u ≤ room)
end_to room at u e h = go (leb (at + length u) room) refl h
  where
    go : (t : Bool) → leb (at + length u) room ≡ t → Some e ≡ (if t then Some (at + length u) else None) → (e ≡ at + length u) × (at + length u ≤ room)
    go true p h = ((cc), leb-true _ _ p)
    go false p h = absurd (let z : ◌≡◌ {A = ℕ} 0 1 = cc in omega arith)

pub end_full : (room at : ℕ) (u : List ℕ) → None ≡ end_at room at u → room < at + length u
end_full room at u h = go (leb (at + length u) room) refl h
  where
    go : (t : Bool) → leb (at + length u) room ≡ t → None ≡ (if t then Some (at + length u) else None) → room < at + length u
    go true p h = absurd (let z : ◌≡◌ {A = ℕ} 0 1 = cc in omega arith)
    go false p h = leb-false _ _ p

pub writes_fits : (out : List ℕ) (at : ℕ) (u : List ℕ) (e : ℕ) (out' : List ℕ) → Writes out at u (Some e) out' → (e ≡ at + length u) × (at + length u ≤ length out) × (out' ≡ put out at u)
writes_fits out at u e out' w = let v = end_to (length out) at u e w.is in (v.0, v.1, w.bytes v.1)

-- nothing is written; bytes do not fit
pub writes_none : (out : List ℕ) (at : ℕ) → at ≤ length out → Writes out at [] (Some at) out
writes_none out at h =
    let n : at + length {A = ℕ} [] ≡ at = omega arith in
    record { is = rw (n, le-leb at (length out) h); bytes = λ _. sym (put_nil out at) }

writes_short : (out : List ℕ) (at : ℕ) (u out' : List ℕ) → length out < at + length u → Writes out at u None out'
writes_short out at u out' h = record { is = rw (lt-leb (at + length u) (length out) h); bytes = λ l. absurd (omega arith) }

-- one thing after another; the first does not fit
pub writes_then : (out : List ℕ) (at : ℕ) (x y : List ℕ) (e : ℕ) (r : Maybe ℕ) (o o' : List ℕ) → at ≤ length out → length o ≡ length out → Writes out at x (Some e) o → Writes o e y r o' → Writes out at (x ++ y) r o'
writes_then out at x y e r o o' h l w v =
    let a = writes_fits out at x e o w in
    let p : e ≡ at + length x = a.0 in
    let q : o ≡ put out at x = a.2 in
    let n : at + length (x ++ y) ≡ at + length x + length y = simp length-append (omega arith) in
    record {
      is = v.is ∙ rw (l, p, n);
      bytes = λ f. v.bytes (omega arith) ∙ rw (q, p) (put_put out at x y h);
    }

pub writes_stop : (out : List ℕ) (at : ℕ) (x y o o' : List ℕ) → Writes out at x None o → Writes out at (x ++ y) None o'
writes_stop out at x y o o' w =
    let a = end_full (length out) at x w.is in
    writes_short out at (x ++ y) o' (simp length-append (omega arith))
