-- A sheet that is there whole: what `check` asks.
use mathlib.Core.Path.{◌≡◌, refl, sym, ap, ◌∙◌}
use mathlib.Core.Bool.{Bool, true, false}
use mathlib.Core.List.{List, [], ◌∷◌, ◌++◌, append_assoc}
use mathlib.Core.Logic.{◌⊎◌, ⊎_elim}
use Prim.Native.Nat.{ℕ, zero, suc, ◌+◌, ◌≤◌, ◌<◌}
use native.Mathlib.Omega.{arith}
use lib.ListN.{length, take, drop, length-append, take-append-drop}
use lib.Dec.{leb}
use borrow.Author.Tests.{leb-true, leb-false}
use Rattle.std.specs.declared.result.Result.TheVariants.{Err, Ok}
use Rattle.std.specs.declared.option.Option.TheVariants.{None, Some}
use Rattle.std.specs.Option.{ok_or}
use Rattle.paper.specs.Sheets.{findings}
use Rattle.paper.proofs.Lists.{no_way}
use Rattle.term_table.specs.Table.{Square, no_edges}
use Rattle.sheet_findings.specs.Written.{written_at}
use Rattle.paper.specs.Answered.{Maybe}
use Rattle.sheet_ended.specs.Sets.{end_room}
use Rattle.sheet_ended.proofs.Laws.{written_then}
use Rattle.sheet_lines.specs.Fed.{Reading, going, stopped, begun, fed, behind, fed_all, ended, closed, findings_fed}
use Rattle.sheet_lines.specs.Pieces.{as_lines, lines_append, fed_append}
use Rattle.sheet_reader.specs.State.{Lent, lent, step_room, sites_room, kept_room, items_room}
use Rattle.sheet_read.specs.declared.State.{State}
use Rattle.sheet_read.specs.Checked.{Checked}
use Rattle.sheet_read.specs.Whole.{first_state, Shows, Fedding, Feeds, Ending, Ends, Pauses, Checks}
use Rattle.sheet_read.specs.declared.Unchecked.TheVariants as checked
use Rattle.sheet_read.proofs.Feeding.{shows_first}

stays : (s : List ℕ) → fed_all stopped s ≡ record { reading = stopped; found = [] }
unfolding fed_all fed
stays [] = refl
stays (b ∷ s) = rw (stays s)

-- ---- the findings, of which a part was read
module _ (sheet : List ℕ) (i : ℕ) where
  abbrev M : Reading
  M = (fed_all begun (take i sheet)).reading

  abbrev f : List (List ℕ)
  f = (fed_all begun (take i sheet)).found

  split : fed_all begun sheet ≡ behind f (fed_all M (drop i sheet))
  split = ap (fed_all begun) (sym (take-append-drop i sheet)) ∙ fed_append begun (take i sheet) (drop i sheet)

  findings_are : findings sheet ≡ as_lines f ++ as_lines (closed (fed_all M (drop i sheet)))
  findings_are = findings_fed sheet ∙ (ap (λ r. as_lines (closed r)) split ∙ (ap as_lines (append_assoc f (fed_all M (drop i sheet)).found (ended (fed_all M (drop i sheet)).reading)) ∙ lines_append f (closed (fed_all M (drop i sheet)))))

  no_less : length (as_lines f) ≤ length (findings sheet)
  no_less = let e = ap length findings_are ∙ length-append (as_lines f) (as_lines (closed (fed_all M (drop i sheet)))) in omega arith

  drop_none : (n : ℕ) (l : List ℕ) → length l ≤ n → drop n l ≡ []
  drop_none zero [] h = refl
  drop_none (suc n) [] h = refl
  drop_none zero (x ∷ l) h = absurd (omega arith)
  drop_none (suc n) (x ∷ l) h = drop_none n l (omega arith)

  closed_none : (m : Reading) → closed (fed_all m []) ≡ ended m
  unfolding fed_all
  closed_none m = refl

  whole : length sheet ≤ i → findings sheet ≡ as_lines f ++ as_lines (ended M)
  whole h = findings_are ∙ ap (λ l. as_lines f ++ as_lines (closed (fed_all M l))) (drop_none i sheet h) ∙ ap (λ c. as_lines f ++ as_lines c) (closed_none M)

  halted : M ≡ stopped → findings sheet ≡ as_lines f ++ as_lines (ended M)
  halted e =
      let c : closed (fed_all M (drop i sheet)) ≡ ended M = ap (λ m. closed (fed_all m (drop i sheet))) e ∙ (ap closed (stays (drop i sheet)) ∙ ap ended (sym e)) in
      findings_are ∙ ap (λ c. as_lines f ++ as_lines c) c

is_stopped : (s : State) (k : Lent) (m : Reading) → Shows s k m → s.stopped ≡ true → m ≡ stopped
is_stopped s k stopped S e = refl
is_stopped s k (going d l h) G e = no_way (sym e ∙ G.goes)

module _ (sheet m ws it room : List ℕ) (t : Square) (hm : sites_room ≤ length m) (hw : kept_room ≤ length ws) (hi : items_room ≤ length it) (s : State) (es : (s ≡ first_state) × (t ≡ no_edges))
    (k' : Lent) (room' : List ℕ) (st : State) (i to : ℕ) (F : (i ≤ length sheet) × ((0 ≤ length room → Feeds s (lent m ws it t) k' room room' 0 (take i sheet) st to) × Pauses st room to sheet i)) (l : length room' ≡ length room) where
  fedding : Fedding begun k' room room' 0 (take i sheet) st to
  fedding = F.1.0 (omega arith) begun (rw es.0 (shows_first (lent m ws it t) (record { sites = hm; words = hw; items = hi }) es.1))

  pub check_left : (b : Bool) → (b ≡ false → (length sheet ≤ i) ⊎ (st.stopped ≡ true)) × (b ≡ true → (i < length sheet) × (st.stopped ≡ false)) → b ≡ true → Checks sheet m ws it room room' (Err checked.NoRoom)
  check_left b q e =
      let a = q.1 e in
      let D = fedding in
      let c = D.ends in
      let n = no_less sheet i in
      ⊎_elim (λ x. no_way (sym x ∙ a.1)) (λ x. omega arith) (F.1.1 a.0)

  module _ (b : Bool) (q : (b ≡ false → (length sheet ≤ i) ⊎ (st.stopped ≡ true)) × (b ≡ true → (i < length sheet) × (st.stopped ≡ false))) (e : b ≡ false) (room'' : List ℕ) (w : Maybe ℕ) (E : (m ws i : List ℕ) → Ends st (lent m ws i k'.table) room' room'' to w) where
    all : findings sheet ≡ as_lines (f sheet i) ++ as_lines (ended (M sheet i))
    all = ⊎_elim (λ h. whole sheet i h) (λ h. halted sheet i (is_stopped st k' (M sheet i) fedding.shows h)) (q.0 e)

    ending : to + end_room ≤ length room' → Ending (M sheet i) room' room'' to w
    ending h = (E k'.sites k'.words k'.items).0 h (M sheet i) fedding.shows

    short_not : {A : Type 0} (n : ℕ) → w ≡ None → w ≡ Some n → A
    short_not n x y = let z : ◌≡◌ {A = ℕ} 0 1 = cc in absurd (omega arith)

    check_short : w ≡ None → Checks sheet m ws it room room'' (Err checked.NoRoom)
    check_short z = go (leb (to + end_room) (length room')) refl
      where
        go : (t : Bool) → leb (to + end_room) (length room') ≡ t → length room < length (findings sheet) + step_room
        go true x = short_not _ z (ending (leb-true (to + end_room) (length room') x)).is
        go false x =
            let h = leb-false (to + end_room) (length room') x in
            let c = fedding.ends in
            let n = no_less sheet i in
            let k = l in
            omega arith

    check_done : (n : ℕ) → w ≡ Some n → Checks sheet m ws it room room'' (Ok n)
    check_done n z = go (leb (to + end_room) (length room')) refl
      where
        go : (t : Bool) → leb (to + end_room) (length room') ≡ t → (n ≡ length (findings sheet)) × (room'' ≡ written_at room 0 (findings sheet))
        go true x =
            let D = fedding in
            let N = ending (leb-true (to + end_room) (length room') x) in
            let u = as_lines (f sheet i) in
            let v = as_lines (ended (M sheet i)) in
            let c = D.ends in
            let y : n ≡ to + length v = cc N.is in
            let g = all in
            let o = length-append u v in
            let r : room'' ≡ written_at room 0 (u ++ v) = N.into ∙ (rw (D.into, c) (written_then room 0 u v (omega arith))) in
            (rw g (omega arith), rw g r)
        go false x = let h = leb-false (to + end_room) (length room') x in short_not n ((E [] [] []).1 h).0 z

    pub check_ends : (r : Checked) → r ≡ ok_or w checked.NoRoom → Checks sheet m ws it room room'' r
    check_ends r x = rw x (go w refl)
      where
        go : (v : Maybe ℕ) → w ≡ v → Checks sheet m ws it room room'' (ok_or v checked.NoRoom)
        go None z = check_short z
        go (Some n) z = check_done n z
