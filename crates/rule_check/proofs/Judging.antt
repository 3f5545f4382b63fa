-- The whole: what is answered of the classes, and where none need be made.
use mathlib.Core.Path.{◌≡◌, sym, ◌∙◌, subst}
use mathlib.Core.Option.{none}
use mathlib.Core.List.{List, ◌++◌}
use Prim.Native.Nat.{ℕ, ◌≤◌, ◌<◌}
use lib.ListN.{get_or}
use Rattle.std.specs.declared.result.Result.TheVariants.{Err, Ok}
use Rattle.paper.specs.declared.Refusal.{Refusal}
use Rattle.paper.specs.Answered.{Verdict}
use Rattle.paper.specs.Numbers.{max_sites, refused}
use Rattle.rule_rows.specs.Holding.{Held, how_many, holders_in, eqs_in, Inside, class_check, stray, checked, verdict_of}
use Rattle.rule_rows.proofs.Reading.{strays_are, low_clean, clean_inside}
use Rattle.rule_classes.specs.Meeting.{Classed, Grouped}
use Rattle.rule_classes.proofs.Clashing.{agree}
use Rattle.rule_check.specs.Search.{Ready, AllNamed, WalksIs}
use Rattle.rule_check.proofs.Naming.{all_named}
use Rattle.rule_check.proofs.Answering.{answer_walks}

-- ---- where no classes need be made

pub low_strays : (xs ys zs : List ℕ) (a b d : ℕ) → ((k : ℕ) → get_or xs k 0 ≤ a) → a < max_sites → ((k : ℕ) → get_or ys k 0 ≤ b) → b < max_sites → ((k : ℕ) → get_or zs k 0 ≤ d) → d < max_sites
    → stray (xs ++ (ys ++ zs)) ≡ none
low_strays xs ys zs a b d ha la hb lb hd ld = rw (strays_are xs ys zs, low_clean xs a ha la, low_clean ys b hb lb, low_clean zs d hd ld)

pub no_stray_at : (eqs : List ℕ) (H : Held) (v : Verdict) → stray (eqs ++ (H.sites ++ H.kids)) ≡ none → verdict_of v ≡ class_check (eqs_in eqs) (holders_in H) → verdict_of v ≡ checked eqs H
unfolding checked
no_stray_at eqs H v s e = e ∙ sym (rw s)

-- ---- by the classes

module _ (eqs : List ℕ) (H : Held) (p boss : List ℕ) (g : Verdict) (G : Grouped eqs H p boss g) where
  pub judge_refused : (e : Refusal) → g ≡ Err e → verdict_of (Err e) ≡ checked eqs H
  judge_refused e q = let K : checked eqs H ≡ refused e = rw q at G in sym K

  module _ (q : g ≡ Ok tt) where
    C : Classed eqs H p boss
    C = let K : Grouped eqs H p boss (Ok tt) = rw q at G in K.1

    clean : stray (eqs ++ (H.sites ++ H.kids)) ≡ none
    clean = let K : Grouped eqs H p boss (Ok tt) = rw q at G in K.0

    pub inside_sites : Inside H.sites
    inside_sites = (clean_inside eqs H.sites H.kids clean).0

    inside_kids : Inside H.kids
    inside_kids = (clean_inside eqs H.sites H.kids clean).1

    pub judge_ready : Ready p H.kids
    judge_ready = record { reps = C.reps; inside = inside_kids }

    pub judge_named : AllNamed p boss eqs H.sites H.kids
    judge_named = all_named H eqs p (how_many H) C.exact C.reps boss (how_many H) C.seated

    pub judge_walks : (m w : ℕ) (v : Verdict) → m ≡ how_many H → w ≡ m → WalksIs H p boss w v → verdict_of v ≡ checked eqs H
    judge_walks m w v em ew W =
        no_stray_at eqs H v clean
        (answer_walks H (eqs_in eqs) p (how_many H) (agree H (eqs_in eqs) p (how_many H) C.exact inside_kids) inside_sites boss C.reps C.seated C.rest v
        (subst (λ (x : ℕ). WalksIs H p boss x v) (ew ∙ em) W))
