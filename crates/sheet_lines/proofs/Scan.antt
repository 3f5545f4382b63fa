-- What the needs of the loops ask, over plain variables.
use mathlib.Core.Path.{◌≡◌, sym, ◌∙◌}
use mathlib.Core.List.{List, ◌++◌}
use Prim.Native.Nat.{ℕ, ◌+◌, ◌-◌, ◌≤◌, ◌<◌, min}
use native.Mathlib.Omega.{arith}
use native.Mathlib.Numerals.{add-one}
use lib.ListN.{length, get_or, take, drop}
use lib.Seq.{drop-cons}
use borrow.Rule.Slice.PartMut.{put_mid}
use Rattle.std.specs.declared.option.Option.TheVariants.{None, Some}
use Rattle.std.proofs.lemmas.List.{take_all, length-take-le}
use Rattle.std.proofs.lemmas.Slice.{put_mid-paste}
use borrow.Author.Tests.{eq-eqb, ne_eqb, le-leb, lt-leb}
use Rattle.paper.specs.Answered.{Maybe}
use Rattle.sheet_lines.specs.declared.Held.{Held}
use Rattle.sheet_lines.specs.Fed.{max_held, line_feed}
use Rattle.sheet_lines.specs.Ends.{line_end}
use Rattle.sheet_lines.specs.Cut.{drop_all}
use Rattle.sheet_lines.specs.Held.{Holds, held_in, stored, stored_is, held_more, more_holds}

pub ends_here : (s : List ℕ) (i : ℕ) (e : Maybe ℕ) → i < length s → get_or s i 0 ≡ line_feed → line_end i (drop i s) ≡ e → Some i ≡ e
unfolding line_end
ends_here s i e h q p = sym (rw (drop-cons s i 0 h) (rw (eq-eqb (get_or s i 0) line_feed q, line_end))) ∙ p

pub goes_on : (s : List ℕ) (i : ℕ) (e : Maybe ℕ) → i < length s → (get_or s i 0 ≡ line_feed → ⊥) → line_end i (drop i s) ≡ e → line_end (i + 1) (drop (i + 1) s) ≡ e
unfolding line_end
goes_on s i e h q p = sym (rw (drop-cons s i 0 h, add-one i) (rw (ne_eqb (get_or s i 0) line_feed q, line_end))) ∙ p

pub no_end : (s : List ℕ) (i : ℕ) (e : Maybe ℕ) → length s ≤ i → line_end i (drop i s) ≡ e → None ≡ e
unfolding line_end
no_end s i e h p = sym (rw (drop_all s i h)) ∙ p

pub held_full : (h : Held) (s : List ℕ) → max_held < h.length → record { length = max_held; bytes = h.bytes } ≡ held_more h s
unfolding held_more
held_full h s l = rw (lt-leb h.length max_held l)

-- the bytes of s written over a part of d
written : (d : List ℕ) (at : ℕ) (s : List ℕ) (k : ℕ) (part : List ℕ) → at + k ≤ length d → k ≤ length s → part ≡ take k s → put_mid at (at + k - at) d part ≡ stored d at s k
written d at s k part h l e =
    let n = length-take-le k s l in
    let z = take_all k (take k s) (omega arith) in
    put_mid-paste at (at + k - at) d part (take k s) k e (omega arith) (omega arith) ∙ (rw z (sym (stored_is d at s k h l)))

pub held_is : (h : Held) (s : List ℕ) (k : ℕ) (part : List ℕ) → length h.bytes ≡ max_held → h.length ≤ max_held → k ≡ min (length s) (max_held - h.length) → part ≡ take k s
    → record { length = h.length + k; bytes = put_mid h.length (h.length + k - h.length) h.bytes part } ≡ held_more h s
unfolding held_more
held_is h s k part b l f g = rw (written h.bytes h.length s k part (omega arith) (omega arith) g, f, le-leb h.length max_held l)

-- what is made is what holds
pub holding : (h r : Held) (s : List ℕ) → length h.bytes ≡ max_held → r ≡ held_more h s → (r ≡ held_more h s) × Holds r (held_in h ++ s)
holding h r s e q = (q, rw q (more_holds h s e))
