-- The whole: the classes that the code makes, and what it answers of them.
use mathlib.Core.Path.{◌≡◌, refl, ap, ◌∙◌, subst, subst⁻¹}
use mathlib.Core.Bool.{Bool, true, false}
use mathlib.Core.Logic.{◌↔◌}
use mathlib.Core.List.{List, [], ◌++◌}
use mathlib.Core.Option.{none}
use Prim.Native.Nat.{ℕ, ◌/◌}
use native.Mathlib.Omega.{arith}
use lib.ListN.{length}
use Rattle.std.specs.declared.result.Result.TheVariants.{Err, Ok}
use Rattle.std.specs.declared.option.Option.TheVariants.{Some}
use Rattle.paper.specs.declared.Refusal.TheVariants.{Unknown, Unreachable}
use Rattle.paper.specs.Answered.{Verdict}
use Rattle.paper.specs.declared.Refusal.{Refusal}
use Rattle.paper.specs.Words.{or_else, below, pairs}
use Rattle.paper.specs.Numbers.{refused}
use Rattle.paper.specs.Classes.{Classes, classes, no_classes}
use Rattle.paper.specs.Loading.{Holder, Labels, Together, lowest, join_all, pass, same_classes, close, closure_of}
use Rattle.paper.proofs.Closure.{closure_of_is}
use Rattle.classes.specs.Well.{Well}
use Rattle.classes.proofs.Uniting.{rep_rep, rep_inside}
use Rattle.paper.specs.Answered.{Maybe}
use Rattle.rule_rows.specs.Holding.{Held, held, bare, how_many, holders_to, holders_in, eqs_in, Inside, class_check, stray, checked, merge_each}
use Rattle.rule_classes.specs.Growing.{One, Closed}
use Rattle.rule_classes.specs.Meeting.{Strays, Reps, ClashIs, Seated, Classed, JoinedIs, Grouped}
use Rattle.rule_rows.proofs.Reading.{strays_are, told_stray, told_clean}
use Rattle.rule_classes.proofs.Joining.{Starts, written_starts}
use Rattle.rule_classes.proofs.Turning.{exactly}
use Rattle.rule_classes.proofs.Clashing.{agree, answer_clash}

-- what `written` makes of what `clear_in` leaves
pub from_none : (eqs p r a b : List ℕ) (n d : ℕ) → classes a b d ≡ no_classes → classes p r n ≡ merge_each (classes a b d) (eqs_in eqs) → classes p r n ≡ merge_each no_classes (eqs_in eqs)
from_none eqs p r a b n d s e = e ∙ ap (λ (c : Classes). merge_each c (eqs_in eqs)) s

starts_as : (eqs : List ℕ) (hs : List Holder) (c : Classes) → Inside eqs → c ≡ merge_each no_classes (eqs_in eqs) → Starts eqs hs c (length eqs / 2)
starts_as eqs hs c I e = subst⁻¹ (λ (d : Classes). Starts eqs hs d (length eqs / 2)) e (written_starts eqs hs I)

pub start_well : (eqs p r : List ℕ) (n : ℕ) → Inside eqs → classes p r n ≡ merge_each no_classes (eqs_in eqs) → Well p r n
start_well eqs p r n I e = (starts_as eqs (holders_to (held eqs eqs eqs eqs) 0) (classes p r n) I e).well

-- what `written` makes of no classes: exactly the least equivalence that holds the written equalities
pub written_exactly : (eqs : List ℕ) → Inside eqs → (u v : ℕ) → One (merge_each no_classes (eqs_in eqs)).parents u v ↔ Together (eqs_in eqs) [] u v
unfolding holders_to below
written_exactly eqs I u v = exactly H eqs c c.parents c.ranks c.count 0 S (record { well = S.well; grows = λ a b o. o; sound = λ E R. R; rest = λ h l. absurd (omega arith) }) u v
  where
    H : Held
    H = held [] [] [] []

    c : Classes
    c = merge_each no_classes (eqs_in eqs)

    S : Starts eqs (holders_to H 0) c (length eqs / 2)
    S = written_starts eqs (holders_to H 0) I

-- and so the labels that paper's rounds start from
no_holders : (E : List (ℕ × ℕ)) → closure_of 0 E [] ≡ join_all [] E
unfolding closure_of close pass pairs
no_holders E = go (same_classes k k)
  where
    k : Labels
    k = join_all [] E

    go : (t : Bool) → elim t as (λ _. Labels) [ true ↦ k | false ↦ k ] ≡ k
    go true = refl
    go false = refl

pub written_labels : (eqs : List ℕ) → Inside eqs → (u v : ℕ)
    → One (merge_each no_classes (eqs_in eqs)).parents u v ↔ (lowest (join_all [] (eqs_in eqs)) u ≡ lowest (join_all [] (eqs_in eqs)) v)
written_labels eqs I u v =
    let w = written_exactly eqs I u v in
    let c : (lowest (join_all [] (eqs_in eqs)) u ≡ lowest (join_all [] (eqs_in eqs)) v) ↔ Together (eqs_in eqs) [] u v = rw no_holders at (closure_of_is 0 (eqs_in eqs) [] (λ h m. elim m [ ]) u v) in
    (λ o. c.1 (w.0 o), λ e. w.1 (c.0 e))

pub reps_of : (H : Held) (p q r : List ℕ) (n m : ℕ) → Closed H p q r n m → Reps q
reps_of H p q r n m C = record { inside = rep_inside q r n C.well; again = rep_rep q r n C.well }

module _ (H : Held) (eqs p r : List ℕ) (n : ℕ) (I : Inside eqs × (Inside H.sites × Inside H.kids)) (e : classes p r n ≡ merge_each no_classes (eqs_in eqs))
    (m w : ℕ) (em : m ≡ how_many H) (ew : w ≡ m) (q s : List ℕ) (k : ℕ) (C : Closed H p q s k w) where
  C' : Closed H p q s k (how_many H)
  C' = subst (λ (x : ℕ). Closed H p q s k x) (ew ∙ em) C

  exact : (u v : ℕ) → One q u v ↔ Together (eqs_in eqs) (holders_in H) u v
  exact = exactly H eqs (classes p r n) q s k (how_many H) (starts_as eqs (holders_in H) (classes p r n) I.0 e) C'

  pub join_clash : (x : Maybe (ℕ × ℕ)) (a b : ℕ) → x ≡ Some (a, b) → ClashIs (bare H.sites H.rows H.words) q m x → class_check (eqs_in eqs) (holders_in H) ≡ refused (Unreachable a b)
  join_clash x a b ex K =
      let K' : ClashIs (bare H.sites H.rows H.words) q (how_many H) (Some (a, b)) = rw (ex, em) at K in
      answer_clash H (eqs_in eqs) q (how_many H) (agree H (eqs_in eqs) q (how_many H) exact I.1.1) a b K'

  pub join_fine : (boss : List ℕ) → Seated (bare H.sites H.rows H.words) q boss m → Classed eqs H q boss
  join_fine boss T = record { exact = exact; reps = reps_of H p q s k w C; rest = C'.rest; seated = rw em at T }

-- ---- 2 before all else

module _ (eqs : List ℕ) (H : Held) (a : ℕ) (ea : a ≡ or_else (stray eqs) 0) where
  pub stray_eqs : (a ≡ 0 → ⊥) → checked eqs H ≡ refused (Unknown a)
  unfolding checked
  stray_eqs n = rw (strays_are eqs H.sites H.kids, told_stray eqs a ea n)

  module _ (za : a ≡ 0) (b : ℕ) (eb : b ≡ or_else (stray H.sites) 0) where
    pub stray_sites : (b ≡ 0 → ⊥) → checked eqs H ≡ refused (Unknown b)
    unfolding checked
    stray_sites n = rw (strays_are eqs H.sites H.kids, (told_clean eqs a ea za).0, told_stray H.sites b eb n)

    module _ (zb : b ≡ 0) (d : ℕ) (ed : d ≡ or_else (stray H.kids) 0) where
      pub stray_kids : (d ≡ 0 → ⊥) → checked eqs H ≡ refused (Unknown d)
      unfolding checked
      stray_kids n = rw (strays_are eqs H.sites H.kids, (told_clean eqs a ea za).0, (told_clean H.sites b eb zb).0, told_stray H.kids d ed n)

      module _ (zd : d ≡ 0) where
        pub all_inside : Inside eqs × (Inside H.sites × Inside H.kids)
        all_inside = ((told_clean eqs a ea za).1, ((told_clean H.sites b eb zb).1, (told_clean H.kids d ed zd).1))

        clean : stray (eqs ++ (H.sites ++ H.kids)) ≡ none
        clean = rw (strays_are eqs H.sites H.kids, (told_clean eqs a ea za).0, (told_clean H.sites b eb zb).0, (told_clean H.kids d ed zd).0)

        pub grouped : (p boss : List ℕ) (v : Verdict) → JoinedIs eqs H p boss v → Grouped eqs H p boss v
        unfolding checked
        grouped p boss (Ok _) C = (clean, C)
        grouped p boss (Err e) q = rw clean q

-- the same by what `known` answers
module _ (eqs : List ℕ) (H : Held) where
  pub known_first : (e : Refusal) → Strays eqs (Err e) → checked eqs H ≡ refused e
  known_first e S = rw S.3 (stray_eqs eqs H S.0 S.1 S.2)

  module _ (ze : or_else (stray eqs) 0 ≡ 0) where
    pub known_second : (e : Refusal) → Strays H.sites (Err e) → checked eqs H ≡ refused e
    known_second e S = rw S.3 (stray_sites eqs H _ refl ze S.0 S.1 S.2)

    module _ (zs : or_else (stray H.sites) 0 ≡ 0) where
      pub known_third : (e : Refusal) → Strays H.kids (Err e) → checked eqs H ≡ refused e
      known_third e S = rw S.3 (stray_kids eqs H _ refl ze _ refl zs S.0 S.1 S.2)
