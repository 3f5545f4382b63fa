-- What the sheet calls leave: what each return asks.
use mathlib.Core.Path.{◌≡◌, ap, ◌∙◌}
use mathlib.Core.Bool.{true, false}
use mathlib.Core.List.{List, [], ◌∷◌}
use Prim.Native.Nat.{ℕ}
use lib.ListN.{length}
use Rattle.std.specs.Prelude.{if◌then◌else◌}
use Rattle.term_table.specs.Table.{Square}
use Rattle.paper.specs.Answered.{Maybe}
use Rattle.sheet_reader.specs.State.{Lent}
use Rattle.sheet_reader.proofs.Leaving.{if_yes, if_no}
use Rattle.sheet_state.specs.State.{state_in, state_put, held_put}
use Rattle.sheet_read.specs.Leaves as read
use Rattle.sheet_read.specs.Leaves.{leaves, feed_in, end_in, check_in}
use Rattle.sheet_read.specs.declared.State.{State}
use Rattle.sheet_read.specs.declared.Fed.{Fed}
use Rattle.sheet_read.specs.Checked.{Checked}
use Rattle.box_answers.specs.declared.Said.{Said}
use Rattle.box_answers.specs.Border.{short, said, answered}
use Rattle.box_sheet.specs.Sheet.{ended_said, checked_said}
use Rattle.box_sheet.specs.Leaves.{piece_left, counted_in, piece_fed, piece_fits, piece_in, ending_left, ending_said, ending_fits, ending_in, sheet_left, sheet_said, sheet_fits, sheet_in}

-- ---- feed
module _ (w h : List ℕ) (k : Lent) (piece room a : List ℕ) where
  pub piece_short : piece_fits w h k room a ≡ false → piece_left w h k room (a, short) ≡ piece_in w h k piece room a
  unfolding piece_in
  piece_short e = if_no (piece_fits w h k room a) (piece_fed w h (length piece) a (feed_in (state_in w h) k room 0 piece)) (piece_left w h k room (a, short)) e

  pub piece_there : piece_fits w h k room a ≡ true → (s : State) → s ≡ state_in w h → (f : Fed) (k' : Lent) (room' : List ℕ) → leaves f k' room' ≡ feed_in s k room 0 piece → (w' h' : List ℕ) → (w' ≡ state_put w f.state) × ((h' ≡ held_put h f.state) × (state_in w' h' ≡ f.state)) → (n : ℕ) → n ≡ (if f.state.stopped then length piece else f.read) → (x : List ℕ × ℕ) → x ≡ answered true a (said 0 (n ∷ f.to ∷ [])) → piece_left w' h' k' room' x ≡ piece_in w h k piece room a
  unfolding piece_in
  piece_there e s es f k' room' ef w' h' p n en x ex =
      let said-is : x ≡ answered true a (said 0 (counted_in (length piece) f ∷ f.to ∷ [])) = ex ∙ ap (λ c. answered true a (said 0 (c ∷ f.to ∷ []))) en in
      ap (λ z. piece_left z h' k' room' x) p.0
      ∙ (ap (λ z. piece_left (state_put w f.state) z k' room' x) p.1.0
      ∙ (ap (piece_left (state_put w f.state) (held_put h f.state) k' room') said-is
      ∙ (ap (piece_fed w h (length piece) a) (ef ∙ ap (λ z. feed_in z k room 0 piece) es)
      ∙ if_yes (piece_fits w h k room a) (piece_fed w h (length piece) a (feed_in (state_in w h) k room 0 piece)) (piece_left w h k room (a, short)) e)))

-- ---- end
module _ (w h : List ℕ) (t : Square) (room a : List ℕ) where
  pub ending_short : ending_fits w h room a ≡ false → ending_left room (a, short) ≡ ending_in w h t room a
  unfolding ending_in
  ending_short e = if_no (ending_fits w h room a) (ending_said a (end_in (state_in w h) t room 0)) (ending_left room (a, short)) e

  pub ending_there : ending_fits w h room a ≡ true → (s : State) → s ≡ state_in w h → (o : Maybe ℕ) (room' : List ℕ) → read.said o room' ≡ end_in s t room 0 → (y : Said) → y ≡ ended_said o → (x : List ℕ × ℕ) → x ≡ answered true a y → ending_left room' x ≡ ending_in w h t room a
  unfolding ending_in
  ending_there e s es o room' eo y ey x ex =
      ap (ending_left room') (ex ∙ ap (answered true a) ey)
      ∙ (ap (ending_said a) (eo ∙ ap (λ z. end_in z t room 0) es)
      ∙ if_yes (ending_fits w h room a) (ending_said a (end_in (state_in w h) t room 0)) (ending_left room (a, short)) e)

-- ---- check
module _ (sheet : List ℕ) (k : Lent) (room a : List ℕ) where
  pub sheet_short : sheet_fits k room a ≡ false → sheet_left k room (a, short) ≡ sheet_in sheet k room a
  unfolding sheet_in
  sheet_short e = if_no (sheet_fits k room a) (sheet_said a (check_in sheet k room)) (sheet_left k room (a, short)) e

  pub sheet_there : sheet_fits k room a ≡ true → (r : Checked) (k' : Lent) (room' : List ℕ) → leaves r k' room' ≡ check_in sheet k room → (y : Said) → y ≡ checked_said r → (x : List ℕ × ℕ) → x ≡ answered true a y → sheet_left k' room' x ≡ sheet_in sheet k room a
  unfolding sheet_in
  sheet_there e r k' room' er y ey x ex =
      ap (sheet_left k' room') (ex ∙ ap (answered true a) ey)
      ∙ (ap (sheet_said a) er
      ∙ if_yes (sheet_fits k room a) (sheet_said a (check_in sheet k room)) (sheet_left k room (a, short)) e)
