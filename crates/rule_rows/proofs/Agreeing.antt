-- For whoever calls the class check: lists by index, the two lines of paper's `normalise`, and that no second answer meets the contract.
use mathlib.Core.Path.{◌≡◌, refl, sym, ap, ◌∙◌}
use mathlib.Core.List.{List, [], ◌∷◌, ◌++◌, Memᴰ}
use Prim.Native.Nat.{ℕ, zero, suc, ◌≤◌, ◌<◌}
use native.Mathlib.Omega.{arith}
use native.Mathlib.Nat.{not-suc-le-zero}
use native.Mathlib.Decide.{ℕ_discrete}
use lib.ListN.{length, get_or, get_or-append}
use lib.Seq.{get_or_at, ext_get_or}
use lib.Dec.{leb}
use Rattle.std.specs.declared.result.Result.TheVariants.{Err, Ok}
use Rattle.paper.specs.declared.Refusal.TheVariants.{TooManyConstrained, TooManyEqual}
use Rattle.paper.specs.Words.{below}
use Rattle.paper.specs.Numbers.{max_sites, max_constrained, max_equal, most_rounds, Outcome, done, refused, ◌>>=◌, demand}
use Rattle.paper.specs.Loading.{Loading, Holder, holders, closure, closure_of, hanging, no_hanging, conflict, check_4, steps, endless, no_endless, Solving, started, rounds, normalise}
use Rattle.paper.proofs.Bounds.{closures_agree, lines_agree}
use Rattle.paper.specs.Answered.{Verdict}
use Rattle.rule_rows.specs.Holding.{class_check, verdict_of}
use Rattle.rule_rows.proofs.Holders.{length_below}

pub get_or_below : {A : Type 0} (n : ℕ) (f : ℕ → A) (i : ℕ) (d : A) → i < n → get_or (below n f) i d ≡ f i
unfolding below
get_or_below zero f i d l = absurd (not-suc-le-zero l)
get_or_below {A} (suc n) f i d l = go (λ h. get_or_below n f i d h) (ℕ_discrete i n)
  where
    go : (i < n → get_or (below n f) i d ≡ f i) → Dec (i ≡ n) → get_or (below n f ++ (f n ∷ [])) i d ≡ f i
    go r (yes e) = get_or_at (below n f) (f n) [] d i (length_below n f ∙ sym e) ∙ ap f (sym e)
    go r (no h) = let b : i < n = omega arith in get_or-append (below n f) (f n ∷ []) d i (let q = length_below n f in omega arith) ∙ r b

-- a list is told by its elements: so `holders_in` and `eqs_in` are the lists whose elements the caller wrote
pub below_is : {A : Type 0} (n : ℕ) (f : ℕ → A) (xs : List A) (d : A) → length xs ≡ n → ((i : ℕ) → i < n → get_or xs i d ≡ f i) → below n f ≡ xs
below_is n f xs d e h = ext_get_or d (below n f) xs (length_below n f ∙ sym e) (λ i l. let b : i < n = let q = length_below n f in omega arith in get_or_below n f i d b ∙ sym (h i b))

-- ---- the two lines of `normalise`

-- what comes after them
abbrev pub last_lines : Loading → ℕ → Outcome Solving
last_lines l count =
    rounds most_rounds count (started l) >>= λ s.
    (demand (leb (length s.constraints) max_constrained) (TooManyConstrained (length s.constraints)) >>= λ _.
    (demand (leb (length s.classes) max_equal) (TooManyEqual (length s.classes)) >>= λ _. done s))

module _ (l : Loading) (inside : (h : Holder) → Memᴰ h (holders l) → (x : ℕ) → Memᴰ x h.kids → x < length l.sites) (few : length l.sites ≤ max_sites) where
  pub class_lines : class_check l.equalities (holders l) ≡ (check_4 (closure l) (holders l) (conflict (closure l) (holders l)) >>= λ _. no_endless (endless (steps (closure l) (holders l))))
  unfolding class_check closure
  class_lines =
      let w = lines_agree (closure_of (length l.sites) l.equalities (holders l)) (closure_of max_sites l.equalities (holders l)) (holders l) (closures_agree (length l.sites) max_sites l.equalities (holders l) inside few) in
      rw (w.0, w.1)

  then_then : {A : Type 0} (a b : Outcome (Unit {0})) (f : Outcome A) → (a >>= λ _. (b >>= λ _. f)) ≡ ((a >>= λ _. b) >>= λ _. f)
  then_then (done u) b f = refl
  then_then (refused e) b f = refl

  -- "Then 5 .. Then classes .. Then rounds"
  pub normalise_by : (count : ℕ) → normalise l count ≡ (no_hanging (hanging l) >>= λ _. (class_check l.equalities (holders l) >>= λ _. last_lines l count))
  unfolding normalise
  normalise_by count = ap (λ (o : Outcome Solving). no_hanging (hanging l) >>= λ _. o) (
      then_then (check_4 (closure l) (holders l) (conflict (closure l) (holders l))) (no_endless (endless (steps (closure l) (holders l)))) (last_lines l count)
      ∙ ap (λ (o : Outcome (Unit {0})). o >>= λ _. last_lines l count) (sym class_lines))

-- ---- no second answer

pub only_verdict : (v w : Verdict) (o : Outcome (Unit {0})) → verdict_of v ≡ o → verdict_of w ≡ o → v ≡ w
only_verdict v w o p q = go v w (p ∙ sym q)
  where
    go : (v w : Verdict) → verdict_of v ≡ verdict_of w → v ≡ w
    go (Ok _) (Ok _) e = refl
    go (Ok _) (Err b) e = let z : ◌≡◌ {A = ℕ} 0 1 = cc in absurd (omega arith)
    go (Err a) (Ok _) e = let z : ◌≡◌ {A = ℕ} 0 1 = cc in absurd (omega arith)
    go (Err a) (Err b) e = let z : a ≡ b = cc in ap Err z
