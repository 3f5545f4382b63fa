-- [3]: `old` of what is answered now is what 01 answered before, for every refusal and for the findings of every sheet; and no answer is 7.
use Rattle.std.specs.Prelude.{◌≡◌, refl, List, [], ◌∷◌, map, ℕ}
use Rattle.std.proofs.Common.{ap, ◌∙◌, arith}
use Rattle.paper.specs.declared.Refusal.{Refusal}
use Rattle.paper.specs.declared.Refusal.TheVariants.{Layout, Unknown, Itself, Unreachable, Hanging, Endless, TooManySites, TooManySources, TooManyFields, TooManyRules, TooManyItems, TooManyConstrained, TooManyEqual, TooManySets, TermTooHigh, UnfoldingTooLong, PlaceUsed, Repeated}
use Rattle.paper.specs.Words.{joined}
use Rattle.paper.specs.Numbers.{number, told, Outcome, done, refused}
use Rattle.paper.specs.Layout.{Lines, lines, hex}
use Rattle.paper.specs.Sheets.{Reader, start, refusal_found, stop_found, read_on, findings}
use Rattle.old_numbers.specs.Before.{number_before, told_before, old, refusal_by, stop_by, read_by}
use Rattle.old_numbers.specs.Renumbered.{Renumbers, read_same}

-- `old` of a refusal's number and of what is told is what 01 had
pub old_is : (r : Refusal) → old (number r, told r) ≡ (number_before r, told_before r)
unfolding old number told number_before told_before
old_is (Layout line) = refl
old_is (Unknown site) = refl
old_is (Itself site) = refl
old_is (Unreachable site other) = refl
old_is (Hanging site) = refl
old_is (Endless site) = refl
old_is (TooManySites asked at) = refl
old_is (TooManySources asked at) = refl
old_is (TooManyFields asked at) = refl
old_is (TooManyRules asked) = refl
old_is (TooManyItems asked) = refl
old_is (TooManyConstrained asked) = refl
old_is (TooManyEqual asked) = refl
old_is (TooManySets asked) = refl
old_is (TermTooHigh asked) = refl
old_is (UnfoldingTooLong asked) = refl
old_is (PlaceUsed place) = refl
old_is (Repeated line) = refl

-- and so of every call: 0 and the answer, or a refusal. "the memory afterwards is the same": an outcome's memory does not speak of numbers.
abbrev pub answered : {A : Type 0} → (A → List ℕ) → Outcome A → ℕ × List ℕ
answered f (done a) = (0, f a)
answered f (refused r) = (number r, told r)

abbrev pub answered_before : {A : Type 0} → (A → List ℕ) → Outcome A → ℕ × List ℕ
answered_before f (done a) = (0, f a)
answered_before f (refused r) = (number_before r, told_before r)

pub call_old : {A : Type 0} (f : A → List ℕ) (o : Outcome A) → old (answered f o) ≡ answered_before f o
unfolding old
call_old f (done a) = refl
call_old f (refused r) = old_is r

-- "No answer is 7."
pub never_7 : (r : Refusal) → number r ≡ 7 → ⊥
unfolding number
never_7 (Layout line) e = let z : ◌≡◌ {A = ℕ} 1 7 = e in omega arith
never_7 (Unknown site) e = let z : ◌≡◌ {A = ℕ} 2 7 = e in omega arith
never_7 (Itself site) e = let z : ◌≡◌ {A = ℕ} 3 7 = e in omega arith
never_7 (Unreachable site other) e = let z : ◌≡◌ {A = ℕ} 4 7 = e in omega arith
never_7 (Hanging site) e = let z : ◌≡◌ {A = ℕ} 5 7 = e in omega arith
never_7 (Endless site) e = let z : ◌≡◌ {A = ℕ} 6 7 = e in omega arith
never_7 (TooManySites asked at) e = let z : ◌≡◌ {A = ℕ} 20 7 = e in omega arith
never_7 (TooManySources asked at) e = let z : ◌≡◌ {A = ℕ} 21 7 = e in omega arith
never_7 (TooManyFields asked at) e = let z : ◌≡◌ {A = ℕ} 22 7 = e in omega arith
never_7 (TooManyRules asked) e = let z : ◌≡◌ {A = ℕ} 23 7 = e in omega arith
never_7 (TooManyItems asked) e = let z : ◌≡◌ {A = ℕ} 24 7 = e in omega arith
never_7 (TooManyConstrained asked) e = let z : ◌≡◌ {A = ℕ} 25 7 = e in omega arith
never_7 (TooManyEqual asked) e = let z : ◌≡◌ {A = ℕ} 26 7 = e in omega arith
never_7 (TooManySets asked) e = let z : ◌≡◌ {A = ℕ} 27 7 = e in omega arith
never_7 (TermTooHigh asked) e = let z : ◌≡◌ {A = ℕ} 28 7 = e in omega arith
never_7 (UnfoldingTooLong asked) e = let z : ◌≡◌ {A = ℕ} 29 7 = e in omega arith
never_7 (PlaceUsed place) e = let z : ◌≡◌ {A = ℕ} 8 7 = e in omega arith
never_7 (Repeated line) e = let z : ◌≡◌ {A = ℕ} 9 7 = e in omega arith

-- with paper's own numbers the reader of Before is paper's
now : Renumbers number (λ f. f)
unfolding refusal_found stop_found refusal_by stop_by
now = record { refusal = λ p r. refl; stop = λ a r. refl; listed = λ l. refl; term = λ t. refl; end = λ e. refl }

map_itself : (xs : List (List ℕ)) → map (λ f. f) xs ≡ xs
map_itself [] = refl
map_itself (x ∷ xs) = ap (λ z. x ∷ z) (map_itself xs)

pub same_reader : (d : Reader) (at : ℕ) (ls : Lines) → read_by number d at ls ≡ read_on d at ls
same_reader d at ls = read_same number (λ f. f) now d at ls ∙ map_itself (read_on d at ls)

-- ---- the findings of every sheet

-- each as its bytes
abbrev pub found_in : List ℕ → List (List ℕ)
found_in sheet = read_on start 1 (lines sheet)

pub findings_now : (sheet : List ℕ) → findings sheet ≡ joined (map hex (found_in sheet))
unfolding findings
findings_now sheet = refl
