-- 06: what each return asks.
use mathlib.Core.Path.{◌≡◌, refl, sym, ap, ◌∙◌}
use mathlib.Core.List.{List, [], ◌∷◌, ◌++◌, map, append-nil}
use Prim.Native.Nat.{ℕ, zero, suc, ◌+◌, ◌-◌, ◌≤◌}
use native.Mathlib.Omega.{arith}
use lib.ListN.{length}
use borrow.Author.Tests.{le-ltb}
use Rattle.std.specs.declared.result.Result.TheVariants.{Ok}
use Rattle.std.specs.declared.option.Option.TheVariants.{None, Some}
use Rattle.paper.specs.declared.Refusal.TheVariants.{Layout}
use Rattle.paper.specs.Words.{joined}
use Rattle.paper.specs.Numbers.{max_rules, done}
use Rattle.paper.specs.Layout.{hex, end_set}
use Rattle.paper.specs.Loading.{Set}
use Rattle.paper.specs.Sheets as paper
use Rattle.paper.specs.Sheets.{stepped, outside, set_ended, act, listed_found}
use Rattle.term_table.specs.Table.{Square}
use Rattle.sheet_findings.specs.Written.{written_at}
use Rattle.sites.specs.Slots.{sites_in}
use Rattle.rule_words.specs.Stored.{kept_first}
use Rattle.sheet_ended.specs.Holds.{Holds}
use Rattle.sheet_reader.specs.State.{Lent, lent, set_in, stands_in, Tells, step_room}
use Rattle.sheet_reader.specs.Answers.{Acts, Stops, rule_set}
use Rattle.sheet_reader.specs.declared.OpenSet.{OpenSet}
use Rattle.sheet_reader.specs.declared.Stands.TheVariants.{Outside}
use Rattle.sheet_reader.specs.declared.Reader.{Reader}
use Rattle.sheet_reader.specs.declared.Event.TheVariants as event
use Rattle.sheet_reader.specs.declared.Stepped.{Stepped}
use Rattle.paper.specs.Answered.{Maybe}
use lib.ListN.{take, drop, length-drop}
use lib.Seq.{drop-drop}
use borrow.Rule.Slice.PartMut.{put_mid, Post-is}
use mathlib.Core.List.{append_assoc}
use Rattle.paper.specs.Rules.{report, report_for}
use Rattle.paper.proofs.Lists.{rest_of}
use Rattle.term_table.specs.Table.{with_edges}
use Rattle.sheet_ended.specs.Sets.{edges_from, with_set}
use Rattle.sheet_ended.specs.declared.EndedSets.{EndedSets}
use Rattle.sheet_ended.specs.Holds.{with_ended}
use Rattle.sheet_ended.proofs.Holds.{holds_more}
use Rattle.report.specs.Lines.{report_text, report_room, reported}
use Rattle.report.specs.Lines as lines
use Rattle.report.specs.Reported.{Reported}
use Rattle.report.proofs.ListLaws.{map_map}
use Rattle.report.proofs.ReportLaws.{room_enough}
use Rattle.sheet_lines.specs.Fed.{after_line}
use Rattle.sheet_reader.specs.Answers.{text_of}
use Rattle.sheet_step.specs.Parts.{count_of, report_end, report_after}
use Rattle.sheet_reader.proofs.Acts.{stopped}
use Rattle.sheet_reader.proofs.Standing.{end_out, inside, length_kept}

-- ---- the report from `at` on
drop_none : (n : ℕ) (l : List ℕ) → length l ≤ n → drop n l ≡ []
drop_none zero [] h = refl
drop_none (suc n) [] h = refl
drop_none zero (x ∷ l) h = absurd (omega arith)
drop_none (suc n) (x ∷ l) h = drop_none n l (omega arith)

put_rest : (room ys : List ℕ) (at : ℕ) → at ≤ length room → put_mid at (length room - at) room ys ≡ take at room ++ ys
put_rest room ys at h = ap (λ z. take at room ++ (ys ++ z)) (Post-is at (length room) room h ∙ drop_none (length room) room (omega arith)) ∙ ap (λ z. take at room ++ z) (append-nil ys)

pub report_says : (ws : List ℕ) (n flags : ℕ) (room : List ℕ) (at : ℕ) (v : Reported) (ys : List ℕ) (c : ℕ) → at ≤ length room → v ≡ reported ws n flags (take (length room - at) (drop at room)) → ys ≡ lines.room_after ws n flags (take (length room - at) (drop at room)) → c ≡ count_of v → (at + c ≡ report_end ws n flags room at) × (put_mid at (length room - at) room ys ≡ report_after ws n flags room at)
report_says ws n flags room at v ys c h ev ey ec =
    let r : take (length room - at) (drop at room) ≡ drop at room = rest_of room at in
    let x : c ≡ count_of (reported ws n flags (drop at room)) = ec ∙ ap count_of (ev ∙ ap (reported ws n flags) r) in
    let y : ys ≡ lines.room_after ws n flags (drop at room) = ey ∙ ap (lines.room_after ws n flags) r in
    (ap (λ z. at + z) x, put_rest room ys at h ∙ ap (λ z. take at room ++ z) y)

module _ (ws : List ℕ) (n flags : ℕ) (room : List ℕ) (at : ℕ) (few : n ≤ max_rules) (h : at + step_room ≤ length room) where
  abbrev T : List ℕ
  T = report_text ws n flags

  said : reported ws n flags (drop at room) ≡ Ok (length T)
  unfolding reported
  said = let l = length-drop at room in rw (le-ltb max_rules n (omega arith), le-ltb (length (drop at room)) report_room (omega arith))

  after : lines.room_after ws n flags (drop at room) ≡ T ++ drop (length T) (drop at room)
  unfolding lines.room_after
  after = let l = length-drop at room in rw (le-ltb max_rules n (omega arith), le-ltb (length (drop at room)) report_room (omega arith))

  end_is : report_end ws n flags room at ≡ at + length T
  end_is = ap (λ v. at + count_of v) said

  into_is : report_after ws n flags room at ≡ written_at room at T
  unfolding written_at
  into_is = ap (λ z. take at room ++ z) (after ∙ ap (λ z. T ++ z) (drop-drop (length T) at room)) ∙ sym (append_assoc (take at room) T (drop (at + length T) room))

-- ---- the answer
ended_is : (p : paper.Ended) (g : Set) → set_ended p g ≡ done (stepped (with_ended p g) outside (map listed_found (report g)))
unfolding set_ended
ended_is p g = refl

ended_text : (at : ℕ) (p : paper.Ended) (k : Lent) (g : OpenSet) → text_of at (done (stepped p outside (map listed_found (report (set_in k g))))) ≡ report_text k.words g.rules g.flags
unfolding after_line report_text report
ended_text at p k g = ap joined (map_map hex listed_found (report_for g.flags (kept_first k.words g.rules)))

module _ (r : Reader) (m ws : List ℕ) (t : Square) (room : List ℕ) (at : ℕ) (a : Stepped) (v : Maybe OpenSet) (ev : v ≡ rule_set r.stands) where
  pub end_not : (room' : List ℕ) → v ≡ None → Stops r (Layout r.line) room room' at a → (i : List ℕ) (p : paper.Ended) → Tells r (lent m ws i t) p → Acts r (lent m ws i t) (lent m ws i t) room room' at p end_set a
  end_not room' e S i p T = stopped (Layout r.line) (end_out p r.line (lent m ws i t) r.stands (sym ev ∙ e)) S

  pub end_ended : (g : OpenSet) (room' : List ℕ) (t' : Square) (to : ℕ) (E : EndedSets) → v ≡ Some g → at + step_room ≤ length room → (to ≡ report_end ws g.rules g.flags room at) × (room' ≡ report_after ws g.rules g.flags room at) → t' ≡ with_edges t (edges_from g.term (sites_in m g.sites)) → E ≡ with_set r.ended g.term g.flags g.rules → a ≡ record { reader = record { line = r.line + 1; stands = Outside; ended = E }; event = event.Ended; to = to } → (i : List ℕ) (p : paper.Ended) → Tells r (lent m ws i t) p → Acts r (lent m ws i t) (lent m ws i t') room room' at p end_set a
  end_ended g room' t' to E eg h er et ee ea i p T =
      let k = lent m ws i t in
      let k' = lent m ws i t' in
      let I = inside p r.line k r.stands g (sym ev ∙ eg) in
      let F = I.fine T.fine in
      let l = length_kept ws g.rules in
      let f = F.rules in
      let P = with_ended p (set_in k g) in
      let S = stepped P outside (map listed_found (report (set_in k g))) in
      let o : act p r.line (stands_in k r.stands) end_set ≡ done S = I.ends ∙ ended_is p (set_in k g) in
      let x = ended_text r.line P k g in
      let e = I.ended in
      let few : g.rules ≤ max_rules = omega arith in
      let ez : E ≡ with_set r.ended g.term g.flags (length (kept_first ws g.rules)) = ee ∙ ap (with_set r.ended g.term g.flags) (sym l) in
      let H : Holds E t' P = rw (ez, et) (holds_more r.ended t p (set_in k g) T.holds F) in
      rw (o, ea)
      (record {
        event = sym e;
        to = er.0 ∙ (end_is ws g.rules g.flags room at few h ∙ rw x);
        into = er.1 ∙ (into_is ws g.rules g.flags room at few h ∙ rw x);
        goes = (refl, record { holds = H; fine = tt; roomy = record { sites = T.roomy.sites; words = T.roomy.words; items = T.roomy.items } }, refl);
        fits = rw x (room_enough ws g.rules g.flags few);
      })
