-- The end of a sheet: what `end` asks.
use mathlib.Core.Path.{◌≡◌, refl, sym, ap, ◌∙◌}
use mathlib.Core.Bool.{Bool, true, false}
use mathlib.Core.List.{List, [], ◌∷◌, append-nil}
use Prim.Native.Nat.{ℕ, ◌+◌, ◌≤◌, ◌<◌}
use native.Mathlib.Omega.{arith}
use lib.ListN.{length, length-take}
use borrow.Author.Tests.{le-leb}
use Rattle.std.specs.declared.option.Option.TheVariants.{None, Some}
use Rattle.paper.specs.declared.Refusal.TheVariants.{Layout}
use Rattle.paper.specs.Words.{joined, four}
use Rattle.paper.specs.Layout.{hex}
use Rattle.paper.specs.Sheets as paper
use Rattle.paper.specs.Sheets.{Open, outside, at_sites, at_rules, at_items, stop_found, sheet_ended, findings}
use Rattle.paper.proofs.Lists.{no_way, none_in}
use Rattle.sheet_findings.specs.Written.{written_at, room_said, room_after}
use Rattle.paper.specs.Answered.{Maybe}
use Rattle.sheet_ended.specs.Sets.{end_room, found_text, said_at, written_after}
use Rattle.sheet_ended.proofs.Laws.{length_hex, written_none, said_to, after_is}
use Rattle.sheet_ended.proofs.Holds.{found_is}
use Rattle.sheet_lines.specs.Fed.{Reading, going, stopped, ended}
use Rattle.sheet_lines.specs.Pieces.{as_lines}
use Rattle.sheet_lines.specs.Held.{held_in}
use Rattle.sheet_reader.specs.State.{Lent, stands_in}
use Rattle.sheet_reader.specs.declared.Stands.{Stands}
use Rattle.sheet_reader.specs.declared.Stands.TheVariants.{Outside, Sites, Rules, Items}
use Rattle.sheet_read.specs.declared.State.{State}
use Rattle.sheet_reader.specs.Answers.{is_outside}
use Rattle.sheet_read.specs.Whole.{Going, Shows, Ending, Ends}

stop_long : (at : ℕ) → length (hex (stop_found at (Layout at))) ≡ 13
unfolding stop_found four
stop_long at = length_hex _

-- ---- what is found at the end
ended_stop : (d : paper.Reader) (l b : ℕ) (h : List ℕ) → as_lines (ended (going d l (b ∷ h))) ≡ hex (stop_found l (Layout l))
unfolding ended joined
ended_stop d l b h = append-nil (hex (stop_found l (Layout l)))

ended_here : (d : paper.Reader) (l : ℕ) → ended (going d l []) ≡ sheet_ended d.ended l d.stands
unfolding ended
ended_here d l = refl

open_stop : (p : paper.Ended) (l : ℕ) (k : Lent) (s : Stands) → is_outside s ≡ false → as_lines (sheet_ended p l (stands_in k s)) ≡ hex (stop_found l (Layout l))
unfolding joined
open_stop p l k Outside e = no_way e
open_stop p l k (Sites s) e = append-nil (hex (stop_found l (Layout l)))
open_stop p l k (Rules s) e = append-nil (hex (stop_found l (Layout l)))
open_stop p l k (Items s r n) e = append-nil (hex (stop_found l (Layout l)))

out_is : (s : Stands) → is_outside s ≡ true → s ≡ Outside
out_is Outside e = refl
out_is (Sites s) e = no_way (sym e)
out_is (Rules s) e = no_way (sym e)
out_is (Items s r n) e = no_way (sym e)

module _ (s : State) (k : Lent) (room : List ℕ) (at : ℕ) where
  pub end_short : length room < at + end_room → Ends s k room room at None
  end_short h = (λ g. absurd (omega arith), λ g. (refl, refl))

  module _ (h : at + end_room ≤ length room) where
    pub end_stopped : s.stopped ≡ true → Ends s k room room at (Some at)
    unfolding ended joined
    end_stopped e = (λ g M S. go M S, λ g. absurd (omega arith))
      where
        go : (M : Reading) → Shows s k M → Ending M room room at (Some at)
        go stopped S = let z : at ≡ at + 0 = omega arith in record { is = ap Some z; into = sym (written_none room at) }
        go (going d l b) G = no_way (sym e ∙ G.goes)

    module _ (room' : List ℕ) (w : Maybe ℕ) (sf : s.stopped ≡ false) where
      -- a text x that is written, if every reading that is shown ends in it
      told : (x : List ℕ) → w ≡ Some (at + length x) → room' ≡ written_at room at x → ((d : paper.Reader) → Going s k d s.reader.line (held_in s.held) → as_lines (ended (going d s.reader.line (held_in s.held))) ≡ x) → Ends s k room room' at w
      told x a b f = (λ g M S. go M S, λ g. absurd (omega arith))
        where
          go : (M : Reading) → Shows s k M → Ending M room room' at w
          go stopped S = no_way (sym S ∙ sf)
          go (going d l h₀) G =
              rw (← G.line, ← G.held)
              (let q = f d (record { tells = G.tells; stands = G.stands; line = refl; held = refl; short = G.short; whole = G.whole; goes = G.goes }) in record { is = rw q a; into = rw q b })

      abbrev L : ℕ
      L = s.reader.line

      pub end_held : 0 < s.held.length → (w ≡ room_said room at (hex (stop_found L (Layout L)))) × (room' ≡ room_after room at (hex (stop_found L (Layout L)))) → Ends s k room room' at w
      end_held n o =
          let x = hex (stop_found L (Layout L)) in
          let c = stop_long L in
          told x (said_to room at x w o.0 (omega arith)) (after_is room room' at x o.1 (omega arith))
          (λ d G. go d (held_in s.held) (let a = G.short in let b = G.whole in length-take s.held.length s.held.bytes ∙ omega arith))
        where
          go : (d : paper.Reader) (b : List ℕ) → length b ≡ s.held.length → as_lines (ended (going d L b)) ≡ hex (stop_found L (Layout L))
          go d [] e = absurd (omega arith)
          go d (y ∷ b) e = ended_stop d L y b

      module _ (n : s.held.length ≤ 0) where
        none_held : held_in s.held ≡ []
        none_held = none_in (held_in s.held) (length-take s.held.length s.held.bytes ∙ omega arith)

        here : (d : paper.Reader) → Going s k d L (held_in s.held) → ended (going d L (held_in s.held)) ≡ sheet_ended d.ended L (stands_in k s.reader.stands)
        here d G = ap (λ b. ended (going d L b)) none_held ∙ (ended_here d L ∙ ap (sheet_ended d.ended L) G.stands)

        pub end_open : (b : Bool) → b ≡ is_outside s.reader.stands → b ≡ false → (w ≡ room_said room at (hex (stop_found L (Layout L)))) × (room' ≡ room_after room at (hex (stop_found L (Layout L)))) → Ends s k room room' at w
        end_open b eb e o =
            let x = hex (stop_found L (Layout L)) in
            let c = stop_long L in
            told x (said_to room at x w o.0 (omega arith)) (after_is room room' at x o.1 (omega arith)) (λ d G. ap as_lines (here d G) ∙ open_stop d.ended L k s.reader.stands (sym eb ∙ e))

        pub end_found : (b : Bool) → b ≡ is_outside s.reader.stands → b ≡ true → (w ≡ said_at room at (found_text k.table s.reader.ended)) × (room' ≡ written_after room at (found_text k.table s.reader.ended)) → Ends s k room room' at w
        unfolding said_at written_after
        end_found b eb e o =
            let x = found_text k.table s.reader.ended in
            let q = le-leb (at + end_room) (length room) h in
            let z = out_is s.reader.stands (sym eb ∙ e) in
            told x (o.0 ∙ rw q) (o.1 ∙ rw q) (λ d G. ap as_lines (here d G) ∙ (ap (λ c. as_lines (sheet_ended d.ended L (stands_in k c))) z ∙ sym (found_is s.reader.ended k.table d.ended G.tells.holds)))
