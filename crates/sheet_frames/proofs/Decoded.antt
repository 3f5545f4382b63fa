-- Laws of the bytes that digits write, from the left.
use mathlib.Core.Path.{◌≡◌, refl, sym, ap, ◌∙◌}
use mathlib.Core.Bool.{Bool, true, false, ◌&&◌}
use mathlib.Core.Option.{Option, none, some}
use mathlib.Core.List.{List, [], ◌∷◌, ◌++◌, append_assoc, append-nil}
use Prim.Native.Nat.{ℕ, zero, suc, ◌+◌, ◌-◌, ◌*◌, ◌/◌, ◌%◌, ◌≤◌, ◌<◌}
use native.Mathlib.Omega.{arith}
use native.Mathlib.Numerals.{add-one}
use lib.ListN.{length, get_or, take, drop, set, replicate, length-set, length-take, length-replicate, take-append-drop}
use lib.Seq.{drop-cons, drop-drop}
use lib.Dec.{ltb}
use borrow.Author.Tests.{lt-ltb, le-ltb, le-leb, lt-leb, ltb-true}
use Rattle.std.specs.Prelude.{if◌then◌else◌}
use Rattle.paper.specs.Numbers.{max_digits}
use Rattle.paper.specs.Layout.{digit, with_byte, bytes, line_bytes}
use Rattle.paper.proofs.Lists.{drop_all}
use Rattle.std.specs.declared.option.Option.TheVariants.{None, Some}
use Rattle.paper.specs.Answered.{Maybe}
use Rattle.sheet_frames.specs.Said.{max_bytes, pair_value, padded, bytes_said, Takes}

-- ---- two digits
pub pair_first : (h l a : ℕ) → a ≡ digit h → 16 ≤ a → 256 ≡ pair_value h l
unfolding pair_value
pair_first h l a e g = rw (le-ltb (digit h) 16 (let n : 16 ≤ digit h = omega arith in n))

pub pair_second : (h l a b : ℕ) → a ≡ digit h → b ≡ digit l → a < 16 → 16 ≤ b → 256 ≡ pair_value h l
unfolding pair_value
pair_second h l a b e f g k = rw (lt-ltb (digit h) 16 (let n : digit h < 16 = omega arith in n), le-ltb (digit l) 16 (let n : 16 ≤ digit l = omega arith in n))

pub pair_both : (h l a b : ℕ) → a ≡ digit h → b ≡ digit l → a < 16 → b < 16 → a * 16 + b ≡ pair_value h l
unfolding pair_value
pair_both h l a b e f g k = rw (e, f, lt-ltb (digit h) 16 (let n : digit h < 16 = omega arith in n), lt-ltb (digit l) 16 (let n : digit l < 16 = omega arith in n))

-- ---- what was read, before what is still to be read
abbrev pub ahead : List ℕ → Option (List ℕ) → Option (List ℕ)
ahead p none = none
ahead p (some s) = some (p ++ s)

ahead_ahead : (p q : List ℕ) (o : Option (List ℕ)) → ahead p (ahead q o) ≡ ahead (p ++ q) o
ahead_ahead p q none = refl
ahead_ahead p q (some s) = ap some (sym (append_assoc p q s))

none_with : (h l : ℕ) (o : Option (List ℕ)) → ltb h 16 && ltb l 16 ≡ false → with_byte h l o ≡ none
none_with h l none e = refl
none_with h l (some s) e = rw e

byte_with : (h l : ℕ) (o : Option (List ℕ)) → ltb h 16 && ltb l 16 ≡ true → with_byte h l o ≡ ahead ((h * 16 + l) ∷ []) o
byte_with h l none e = refl
byte_with h l (some s) e = rw e

pair_wrong : (h l : ℕ) (o : Option (List ℕ)) → 256 ≤ pair_value h l → with_byte (digit h) (digit l) o ≡ none
unfolding pair_value
pair_wrong h l o g = go (ltb (digit h) 16 && ltb (digit l) 16) refl g
  where
    small : (a b : ℕ) (t u : Bool) → ltb a 16 ≡ t → ltb b 16 ≡ u → t && u ≡ true → a * 16 + b < 256
    small a b true true e f q = let x = ltb-true a 16 e in let y = ltb-true b 16 f in omega arith
    small a b true false e f q = absurd (let z : ◌≡◌ {A = ℕ} 0 1 = cc in omega arith)
    small a b false u e f q = absurd (let z : ◌≡◌ {A = ℕ} 0 1 = cc in omega arith)

    go : (t : Bool) → ltb (digit h) 16 && ltb (digit l) 16 ≡ t → 256 ≤ (if t then digit h * 16 + digit l else 256) → with_byte (digit h) (digit l) o ≡ none
    go true e k = absurd (let x = small (digit h) (digit l) (ltb (digit h) 16) (ltb (digit l) 16) refl refl e in omega arith)
    go false e k = none_with (digit h) (digit l) o e

pair_right : (h l : ℕ) (o : Option (List ℕ)) → pair_value h l < 256 → with_byte (digit h) (digit l) o ≡ ahead (pair_value h l ∷ []) o
unfolding pair_value
pair_right h l o g = go (ltb (digit h) 16 && ltb (digit l) 16) refl g
  where
    go : (t : Bool) → ltb (digit h) 16 && ltb (digit l) 16 ≡ t → (if t then digit h * 16 + digit l else 256) < 256 → with_byte (digit h) (digit l) o ≡ ahead ((if t then digit h * 16 + digit l else 256) ∷ []) o
    go true e k = byte_with (digit h) (digit l) o e
    go false e k = absurd (omega arith)

-- ---- lists
take_set : (l : List ℕ) (n b : ℕ) → n < length l → take (suc n) (set l n b) ≡ take n l ++ (b ∷ [])
take_set [] n b h = absurd (omega arith)
take_set (x ∷ l) zero b h = refl
take_set (x ∷ l) (suc n) b h = ap (λ t. x ∷ t) (take_set l n b (omega arith))

drop_set : (l : List ℕ) (n b : ℕ) → drop (suc n) (set l n b) ≡ drop (suc n) l
drop_set [] n b = refl
drop_set (x ∷ l) zero b = refl
drop_set (x ∷ l) (suc n) b = drop_set l n b

drop_zeros : (n : ℕ) → 0 < n → drop {A = ℕ} 1 (replicate n 0) ≡ replicate (n - 1) 0
drop_zeros zero h = absurd (omega arith)
drop_zeros (suc n) h = let e : suc n - 1 ≡ n = omega arith in rw e

two_first : (l : List ℕ) (i : ℕ) → suc i < length l → drop i l ≡ get_or l i 0 ∷ get_or l (i + 1) 0 ∷ drop (i + 2) l
two_first l i h =
    let e : i + 2 ≡ suc (suc i) = omega arith in
    rw (add-one i, e) (drop-cons l i 0 (omega arith) ∙ ap (λ t. get_or l i 0 ∷ t) (drop-cons l (suc i) 0 h))

-- ---- the loop: j bytes of the line l are in `out`
pub record Decoding (l out : List ℕ) (j : ℕ) : Type 0 where
  pub said : bytes l ≡ ahead (take j out) (bytes (drop (2 * j) l))
  pub zeros : drop j out ≡ replicate (max_bytes - j) 0
  pub long : length out ≡ max_bytes

decoding_none : (l : List ℕ) → Decoding l (replicate max_bytes 0) 0
decoding_none l = record { said = go (bytes l); zeros = refl; long = length-replicate {A = ℕ} max_bytes 0 }
  where
    go : (o : Option (List ℕ)) → o ≡ ahead [] o
    go none = refl
    go (some s) = refl

pub decoding_start : (l out : List ℕ) → out ≡ replicate max_bytes 0 → Decoding l out 0
decoding_start l out e = rw e (decoding_none l)

said_next : (l : List ℕ) (j : ℕ) → 2 * j + 1 < length l → bytes (drop (2 * j) l) ≡ with_byte (digit (get_or l (2 * j) 0)) (digit (get_or l (2 * j + 1) 0)) (bytes (drop (2 * (j + 1)) l))
unfolding bytes
said_next l j h =
    let e : 2 * (j + 1) ≡ 2 * j + 2 = omega arith in
    rw (e, two_first l (2 * j) (omega arith))

pub decoding_more : (l out : List ℕ) (j v : ℕ) → Decoding l out j → 2 * j + 1 < length l → j < max_bytes → v ≡ pair_value (get_or l (2 * j) 0) (get_or l (2 * j + 1) 0) → v < 256 → Decoding l (set out j v) (j + 1)
decoding_more l out j v d h k e g =
    let p : pair_value (get_or l (2 * j) 0) (get_or l (2 * j + 1) 0) < 256 = omega arith in
    let n : j < length out = let x = d.long in omega arith in
    let a : take (j + 1) (set out j v) ≡ take j out ++ (v ∷ []) = rw (add-one j) (take_set out j v n) in
    let rest = bytes (drop (2 * (j + 1)) l) in
    let b : bytes (drop (2 * j) l) ≡ ahead (v ∷ []) rest = said_next l j h ∙ (pair_right (get_or l (2 * j) 0) (get_or l (2 * j + 1) 0) rest p ∙ ap (λ x. ahead (x ∷ []) rest) (sym e)) in
    let z : drop (j + 1) (set out j v) ≡ drop 1 (drop j out) = rw (add-one j) (drop_set out j v) ∙ (sym (drop-drop 1 j out ∙ ap (λ i. drop i out) (let q : j + 1 ≡ suc j = omega arith in q))) in
    let y : max_bytes - j - 1 ≡ max_bytes - (j + 1) = omega arith in
    record {
      said = d.said ∙ (ap (ahead (take j out)) b ∙ (ahead_ahead (take j out) (v ∷ []) rest ∙ ap (λ t. ahead t rest) (sym a)));
      zeros = z ∙ (ap (drop 1) d.zeros ∙ (drop_zeros (max_bytes - j) (omega arith) ∙ ap (λ n. replicate n 0) y));
      long = simp length-set d.long;
    }

pub decoding_wrong : (l out : List ℕ) (j v : ℕ) → Decoding l out j → 2 * j + 1 < length l → v ≡ pair_value (get_or l (2 * j) 0) (get_or l (2 * j + 1) 0) → 256 ≤ v → bytes l ≡ none
decoding_wrong l out j v d h e g =
    let p : 256 ≤ pair_value (get_or l (2 * j) 0) (get_or l (2 * j + 1) 0) = omega arith in
    d.said ∙ ap (ahead (take j out)) (said_next l j h ∙ pair_wrong (get_or l (2 * j) 0) (get_or l (2 * j + 1) 0) (bytes (drop (2 * (j + 1)) l)) p)

-- ---- what the needs ask
odd_none : (l : List ℕ) → (length l % 2 ≡ 0 → ⊥) → bytes l ≡ none
unfolding bytes
odd_none [] n = absurd (n refl)
odd_none (h ∷ []) n = refl
odd_none (h ∷ d ∷ s) n = rw (odd_none s (λ e. n (omega arith)))

short_line : (l : List ℕ) → length l ≤ max_digits → line_bytes l ≡ bytes l
unfolding line_bytes
short_line l h = rw (le-leb (length l) max_digits h)

pub line_long : (l : List ℕ) → max_digits < length l → line_bytes l ≡ none
unfolding line_bytes
line_long l h = rw (lt-leb (length l) max_digits h)

pub line_odd : (l : List ℕ) → length l ≤ max_digits → (length l % 2 ≡ 0 → ⊥) → line_bytes l ≡ none
line_odd l h n = short_line l h ∙ odd_none l n

pub line_wrong : (l : List ℕ) → length l ≤ max_digits → bytes l ≡ none → line_bytes l ≡ none
line_wrong l h e = short_line l h ∙ e

pub line_right : (l out : List ℕ) (k j : ℕ) → length l ≤ max_digits → length l % 2 ≡ 0 → k ≡ length l / 2 → k ≤ j → j ≤ k → Decoding l out j → record { right = true; length = k; bytes = out } ≡ bytes_said (line_bytes l)
unfolding bytes bytes_said padded
line_right l out k j h p e a b d =
    let q : j ≡ k = omega arith in
    let n : length (take j out) ≡ k = length-take j out ∙ (let x = d.long in omega arith) in
    let s : line_bytes l ≡ some (take j out) = short_line l h ∙ (d.said ∙ (ap (λ t. ahead (take j out) (bytes t)) (drop_all l (2 * j) (omega arith)) ∙ ap some (append-nil (take j out)))) in
    let m : max_bytes - j ≡ max_bytes - length (take j out) = omega arith in
    let f : out ≡ take j out ++ replicate (max_bytes - length (take j out)) 0 = sym (take-append-drop j out) ∙ ap (λ t. take j out ++ t) (d.zeros ∙ ap (λ i. replicate i 0) m) in
    rw s (cc)

-- ---- taken, or not
pub taken_none : (l out : List ℕ) → line_bytes l ≡ none → Takes l out None
taken_none l out f = record { wrong = λ x. f; right = λ n x. absurd (let y : ◌≡◌ {A = ℕ} 0 1 = cc in omega arith) }

pub taken_right : (l out : List ℕ) (k : ℕ) → record { right = true; length = k; bytes = out } ≡ bytes_said (line_bytes l) → k ≤ max_bytes → Takes l out (Some k)
taken_right l out k e h = record {
  wrong = λ x. absurd (let y : ◌≡◌ {A = ℕ} 0 1 = cc in omega arith);
  right = λ n x. let z : k ≡ n = cc in rw (← z) (e, h);
}

pub bytes_none : (l out : List ℕ) (t : Maybe ℕ) → Takes l out t → t ≡ None → (record { right = false; length = 0; bytes = replicate max_bytes 0 } ≡ bytes_said (line_bytes l)) × (0 ≤ max_bytes)
unfolding bytes_said padded
bytes_none l out t T f = (rw (T.wrong f), omega arith)
