-- What feed leaves: what its loop and its returns ask.
use mathlib.Core.Path.{◌≡◌, refl, sym, ap, ◌∙◌}
use mathlib.Core.Bool.{Bool, true, false, ◌&&◌, ◌||◌, not}
use mathlib.Core.List.{List}
use mathlib.Core.Logic.{◌⊎◌, inl, inr}
use Prim.Native.Nat.{ℕ, zero, suc, ◌+◌, ◌≤◌, ◌<◌}
use native.Mathlib.Omega.{arith}
use lib.ListN.{length}
use lib.Dec.{ltb}
use borrow.Author.Tests.{lt-ltb, le-ltb}
use Rattle.sheet_reader.specs.State.{Lent, step_room}
use Rattle.sheet_reader.proofs.Leaving.{if_yes, if_no}
use Rattle.sheet_read.specs.declared.State.{State}
use Rattle.sheet_read.specs.declared.Fed.{Fed}
use Rattle.sheet_read.specs.Leaves.{Leaves, leaves, fed_to, feed_line_in, pauses_at, goes_on, feed_from, feed_in}

or_true : (b : Bool) → (b || true) ≡ true
or_true true = refl
or_true false = refl

pause_is : (b halted : Bool) (room at : ℕ) → (b ≡ false → (halted ≡ false) × (at + step_room ≤ room)) × (b ≡ true → (halted ≡ true) ⊎ (room < at + step_room)) → b ≡ pauses_at halted room at
pause_is true halted room at P = go (P.1 refl)
  where
    go : (halted ≡ true) ⊎ (room < at + step_room) → true ≡ pauses_at halted room at
    go (inl e) = ap (λ h. h || ltb room (at + step_room)) (sym e)
    go (inr h) = sym (ap (λ c. halted || c) (lt-ltb room (at + step_room) h) ∙ or_true halted)
pause_is false halted room at P = let q = P.0 refl in sym (ap (λ h. h || ltb room (at + step_room)) q.0 ∙ le-ltb room (at + step_room) q.1)

module _ (piece : List ℕ) (s : State) (i to : ℕ) (k : Lent) (room : List ℕ) where
  abbrev here : Leaves Fed
  here = leaves (fed_to s i to) k room

  pub goes_not : (b : Bool) → (b ≡ false → (s.stopped ≡ false) × (to + step_room ≤ length room)) × (b ≡ true → (s.stopped ≡ true) ⊎ (length room < to + step_room)) → b ≡ true → goes_on piece here ≡ false
  unfolding goes_on
  goes_not b P e =
      ap (λ c. ltb i (length piece) && not c) (sym (pause_is b s.stopped (length room) to P) ∙ e) ∙ go (ltb i (length piece))
    where
      go : (c : Bool) → (c && false) ≡ false
      go true = refl
      go false = refl

  pub goes_past : length piece ≤ i → goes_on piece here ≡ false
  unfolding goes_on
  goes_past h = ap (λ c. c && not (pauses_at s.stopped (length room) to)) (le-ltb i (length piece) h)

  pub goes_yes : i < length piece → (b : Bool) → (b ≡ false → (s.stopped ≡ false) × (to + step_room ≤ length room)) × (b ≡ true → (s.stopped ≡ true) ⊎ (length room < to + step_room)) → b ≡ false → goes_on piece here ≡ true
  unfolding goes_on
  goes_yes h b P e =
      ap (λ c. c && not (pauses_at s.stopped (length room) to)) (lt-ltb i (length piece) h)
      ∙ ap not (sym (pause_is b s.stopped (length room) to P) ∙ e)

-- from here on, `lines` lines at the most lead to what the piece leaves
pub record Onto (goal : Leaves Fed) (piece : List ℕ) (x : Leaves Fed) : Type 0 where
  pub lines : ℕ
  pub enough : length piece ≤ x.answer.read + lines
  pub same : feed_from lines piece x ≡ goal

pub onto_none : (s : State) (k : Lent) (room : List ℕ) (at : ℕ) (piece : List ℕ) → Onto (feed_in s k room at piece) piece (leaves (fed_to s 0 at) k room)
unfolding feed_in
onto_none s k room at piece = record { lines = length piece; enough = omega arith; same = refl }

module _ (goal : Leaves Fed) (piece : List ℕ) (x : Leaves Fed) where
  stays : (n : ℕ) → goes_on piece x ≡ false → x ≡ feed_from n piece x
  unfolding feed_from
  stays zero e = refl
  stays (suc n) e = if_no (goes_on piece x) (feed_from n piece (feed_line_in x.answer.state x.memory x.room x.answer.to piece x.answer.read)) x e

  turns : (n : ℕ) → goes_on piece x ≡ true → feed_from n piece (feed_line_in x.answer.state x.memory x.room x.answer.to piece x.answer.read) ≡ feed_from (suc n) piece x
  unfolding feed_from
  turns n e = if_yes (goes_on piece x) (feed_from n piece (feed_line_in x.answer.state x.memory x.room x.answer.to piece x.answer.read)) x e

  pub onto_done : Onto goal piece x → goes_on piece x ≡ false → x ≡ goal
  onto_done O e = stays O.lines e ∙ O.same

  pub onto_turn : Onto goal piece x → x.answer.read < length piece → goes_on piece x ≡ true → (y : Leaves Fed) → y ≡ feed_line_in x.answer.state x.memory x.room x.answer.to piece x.answer.read → x.answer.read < y.answer.read → Onto goal piece y
  onto_turn O l e y ey h = go O.lines O.enough O.same
    where
      go : (n : ℕ) → length piece ≤ x.answer.read + n → feed_from n piece x ≡ goal → Onto goal piece y
      go zero m q = absurd (omega arith)
      go (suc n) m q = record { lines = n; enough = omega arith; same = ap (feed_from n piece) ey ∙ (turns n e ∙ q) }
