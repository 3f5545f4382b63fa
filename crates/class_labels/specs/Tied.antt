-- The lent parts of `classes` (parents p, ranks r, count n) hold the classes that the labels k of paper tell.
use Rattle.std.specs.Prelude.{◌≡◌, refl, Bool, true, false, List, ℕ, ◌<◌}
use Rattle.std.proofs.Common.{sym, ap, ◌∙◌, arith}
use Rattle.std.proofs.Math.Option.{Option, none, some}
use Rattle.paper.specs.Words.{look}
use Rattle.paper.specs.Numbers.{max_sites}
use Rattle.paper.specs.Loading.{Labels, lowest}
use Rattle.paper.proofs.Labels.{Sound}
use Rattle.paper.proofs.Tables.{Rising, Fine, lowest_is, lowest_own}
use Rattle.classes.specs.Well.{Well, has_up}
use Rattle.classes.specs.Equal.{Holds}

-- z has a label: z is joined with another
abbrev pub is_some : {A : Type 0} → Option A → Bool
is_some none = false
is_some (some a) = true

abbrev pub has_label : Labels → ℕ → Bool
has_label k z = is_some (look k z)

pub record Tied (p r : List ℕ) (n : ℕ) (k : Labels) : Type 0 where
  pub well : Well p r n
  -- one class there exactly where one label here
  pub holds : Holds p (lowest k)
  -- the joined sites there are the labelled ones here
  pub joined : (z : ℕ) → z < max_sites → has_up p z ≡ has_label k z
  -- labelled sites are sites
  pub inside : (z v : ℕ) → look k z ≡ some v → z < max_sites
  -- a label is the lowest member of its class, and its own; the table ascends, each site once
  pub sound : Sound k
  pub rising : Rising 0 k

pub tied_fine : {p r : List ℕ} {n : ℕ} {k : Labels} → Tied p r n k → Fine (λ z. z < max_sites) k
tied_fine T = record { sound = T.sound; rising = T.rising; within = T.inside }

-- ---- the two readings of "has a label"

pub label_some : (k : Labels) (z v : ℕ) → look k z ≡ some v → has_label k z ≡ true
label_some k z v e = ap is_some e

pub label_none : (k : Labels) (z : ℕ) → look k z ≡ none → has_label k z ≡ false
label_none k z e = ap is_some e

pub some_label : (k : Labels) (z : ℕ) → has_label k z ≡ true → look k z ≡ some (lowest k z)
some_label k z e = go (look k z) refl
  where
    go : (o : Option ℕ) → look k z ≡ o → look k z ≡ some (lowest k z)
    go none q = let w = ap is_some q in let y : ◌≡◌ {A = ℕ} 0 1 = cc in absurd (omega arith)
    go (some v) q = q ∙ ap some (sym (lowest_is k z v q))

pub none_label : (k : Labels) (z : ℕ) → has_label k z ≡ false → look k z ≡ none
none_label k z e = go (look k z) refl
  where
    go : (o : Option ℕ) → look k z ≡ o → look k z ≡ none
    go none q = q
    go (some v) q = let w = ap is_some q in let y : ◌≡◌ {A = ℕ} 0 1 = cc in absurd (omega arith)

-- a label is the lowest member
pub label_is : (k : Labels) (z v : ℕ) → look k z ≡ some v → look k z ≡ some (lowest k z)
label_is k z v e = some_label k z (label_some k z v e)

-- a site without a label is in a class of its own
pub alone : (k : Labels) → Sound k → (x y : ℕ) → lowest k x ≡ lowest k y → (x ≡ y → ⊥) → has_label k x ≡ true
alone k S x y e d = go (look k x) refl
  where
    go : (o : Option ℕ) → look k x ≡ o → has_label k x ≡ true
    go none q = absurd (d (sym (S.lone x y q (sym e ∙ lowest_own k x q))))
    go (some v) q = label_some k x v q
