-- The report's answer, return by return; and the room that is enough.
use mathlib.Core.Path.{◌≡◌, refl, sym, ap, ◌∙◌}
use mathlib.Core.List.{List, [], ◌++◌}
use Prim.Native.Nat.{ℕ, zero, suc, ◌+◌, ◌%◌, ◌≤◌, ◌<◌}
use native.Mathlib.Omega.{arith}
use native.Mathlib.Decide.{ℕ_discrete}
use lib.ListN.{length, take, drop, replicate}
use lib.Seq.{sets-eq, take_all}
use borrow.Author.Tests.{eq-eqb, ne_eqb, lt-ltb, le-ltb}
use Rattle.std.specs.declared.result.Result.TheVariants.{Err, Ok}
use Rattle.paper.specs.Numbers.{max_rules}
use Rattle.paper.specs.Words.{sort_by}
use Rattle.paper.specs.Loading.{Kept}
use Rattle.paper.specs.Rules.{report_of, report_for, is_multi}
use Rattle.rule_words.specs.Stored.{run, kept_first}
use Rattle.report.specs.declared.Unreported.TheVariants.{TooManyRules, NoRoom}
use Rattle.report.specs.Rows.{filled, place_in, named, lower_word, row_word, take_from}
use Rattle.report.specs.Lines.{report_room, Wrote, lists_text, report_text, reported, room_after}
use Rattle.report.proofs.ListLaws.{joined_none}
use Rattle.report.proofs.OrderLaws.{sort_length}
use Rattle.report.proofs.LineLaws.{lists_long}
use Rattle.report.proofs.TextLaws.{text, lists_report}

run_length : {A : Type 0} (f : ℕ → A) (i n : ℕ) → length (run f i n) ≡ n
unfolding run
run_length f i zero = refl
run_length f i (suc n) = ap suc (run_length f (suc i) n)

module _ (flags : ℕ) (ks : List Kept) where
  multi_none : flags % 2 ≡ 1 → report_for flags ks ≡ []
  unfolding report_for is_multi
  multi_none e = rw (eq-eqb (flags % 2) 1 e, report_for)

  multi_not : (flags % 2 ≡ 1 → ⊥) → report_for flags ks ≡ report_of ks
  unfolding report_for is_multi
  multi_not e = rw (ne_eqb (flags % 2) 1 e, report_for)

module _ (ws : List ℕ) (n flags : ℕ) where
  text_none : flags % 2 ≡ 1 → report_text ws n flags ≡ []
  unfolding report_text
  text_none e = ap text (multi_none flags (kept_first ws n) e) ∙ joined_none

  text_some : (flags % 2 ≡ 1 → ⊥) → report_text ws n flags ≡ text (report_of (kept_first ws n))
  unfolding report_text
  text_some e = ap text (multi_not flags (kept_first ws n) e)

  module _ (room : List ℕ) where
    pub many : max_rules < n → ((Err (TooManyRules n)) ≡ reported ws n flags room) × (room ≡ room_after ws n flags room)
    unfolding reported room_after
    many h = (rw (lt-ltb max_rules n h), rw (lt-ltb max_rules n h))

    pub short : n ≤ max_rules → length room < report_room → ((Err NoRoom) ≡ reported ws n flags room) × (room ≡ room_after ws n flags room)
    unfolding reported room_after
    short h l = (rw (le-ltb max_rules n h, lt-ltb (length room) report_room l), rw (le-ltb max_rules n h, lt-ltb (length room) report_room l))

    done_is : n ≤ max_rules → report_room ≤ length room → reported ws n flags room ≡ Ok (length (report_text ws n flags))
    unfolding reported
    done_is h l = rw (le-ltb max_rules n h, le-ltb (length room) report_room l)

    room_is : n ≤ max_rules → report_room ≤ length room → room_after ws n flags room ≡ report_text ws n flags ++ drop (length (report_text ws n flags)) room
    unfolding room_after
    room_is h l = rw (le-ltb max_rules n h, le-ltb (length room) report_room l)

    pub multi : n ≤ max_rules → report_room ≤ length room → flags % 2 ≡ 1 → (Ok 0 ≡ reported ws n flags room) × (room ≡ room_after ws n flags room)
    multi h l e = (sym (done_is h l ∙ ap (λ z. Ok (length z)) (text_none e)), sym (room_is h l ∙ ap (λ z. z ++ drop (length z) room) (text_none e)))

    written_so : (room' t : List ℕ) (count : ℕ) → n ≤ max_rules → report_room ≤ length room → t ≡ report_text ws n flags → length t ≤ report_room → Wrote room room' 0 count t → (Ok count ≡ reported ws n flags room) × (room' ≡ room_after ws n flags room)
    written_so room' t count h l e k w =
        let z : count ≡ length t = omega (arith, w.ends) in
        let y : 0 + length t ≤ length room = omega arith in
        let x : 0 + length t ≡ length t = omega arith in (
          ap Ok z ∙ sym (done_is h l ∙ ap (λ s. Ok (length s)) (sym e)),
          w.into ∙ (sets-eq t room 0 y ∙ (ap (λ s. t ++ drop s room) x ∙ sym (room_is h l ∙ ap (λ s. s ++ drop (length s) room) (sym e)))),
        )

    pub done : (room' all os names low graph ts : List ℕ) (count : ℕ) → n ≤ max_rules → report_room ≤ length room → (flags % 2 ≡ 1 → ⊥)
        → all ≡ filled (place_in ws) n → (take n os ≡ sort_by (place_in ws) (run (λ j. j) 0 n)) × (length os ≡ max_rules) → names ≡ filled (named ws os) n
        → low ≡ filled (lower_word ws os) n → graph ≡ filled (row_word low n) n → ts ≡ take_from n n graph 18446744073709551615 (replicate max_rules 0)
        → Wrote room room' 0 count (lists_text ws all os names ts n n)
        → (Ok count ≡ reported ws n flags room) × (room' ≡ room_after ws n flags room)
    done room' all os names low graph ts count h l e a o b c d f w =
        let g : n ≤ length os = omega (arith, o.1) in
        let q : ts ≡ take_from n n (filled (row_word (filled (lower_word ws os) n) n) n) 18446744073709551615 (replicate max_rules 0) = f ∙ ap (λ z. take_from n n z 18446744073709551615 (replicate max_rules 0)) (d ∙ ap (λ z. filled (row_word z n) n) c) in
        let t : lists_text ws all os names ts n n ≡ report_text ws n flags =
        ap (λ z. lists_text ws z os names ts n n) a ∙ (ap (λ z. lists_text ws (filled (place_in ws) n) os z ts n n) b ∙ (ap (λ z. lists_text ws (filled (place_in ws) n) os (filled (named ws os) n) z n n) q ∙ (lists_report ws n os g o.0 h ∙ sym (text_some e)))) in
        written_so room' (lists_text ws all os names ts n n) count h l t (omega (arith, lists_long ws all os names ts n h n)) w

-- what a report can write is bounded
order_length : (ws : List ℕ) (n : ℕ) → length (sort_by (place_in ws) (run (λ j. j) 0 n)) ≡ n
order_length ws n = sort_length (place_in ws) (run (λ j. j) 0 n) ∙ run_length (λ j. j) 0 n

text_bounded : (ws : List ℕ) (n : ℕ) → n ≤ max_rules → length (text (report_of (kept_first ws n))) ≤ report_room
text_bounded ws n h =
    let os : List ℕ = sort_by (place_in ws) (run (λ j. j) 0 n) in
    let g : n ≤ length os = omega (arith, order_length ws n) in
    let k : length os ≤ n = omega (arith, order_length ws n) in
    let t = lists_report ws n os g (take_all n os k) h in
    omega (arith, ap length t, lists_long ws (filled (place_in ws) n) os (filled (named ws os) n) (take_from n n (filled (row_word (filled (lower_word ws os) n) n) n) 18446744073709551615 (replicate max_rules 0)) n h n)

pub room_enough : (ws : List ℕ) (n flags : ℕ) → n ≤ max_rules → length (report_text ws n flags) ≤ report_room
room_enough ws n flags h = go (ℕ_discrete (flags % 2) 1)
  where
    go : Dec (flags % 2 ≡ 1) → length (report_text ws n flags) ≤ report_room
    go (yes e) = omega (arith, ap length (text_none ws n flags e))
    go (no e) = omega (arith, ap length (text_some ws n flags e), text_bounded ws n h)
