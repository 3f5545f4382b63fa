-- Decimal numbers as text: no leading zero, and read back they are the number.
use Rattle.std.specs.Prelude.{◌≡◌, refl, Bool, true, false, ℕ, zero, suc, ◌+◌, ◌-◌, ◌*◌, ◌/◌, ◌%◌, ◌≤◌, ◌<◌, ltb}
use Rattle.std.proofs.Common.{sym, ap, ◌∙◌, arith, lt-ltb, le-ltb, ltb-true, ltb-false}
use mathlib.Core.List.{List, [], ◌∷◌, ◌++◌, foldl, foldl-append}

-- with so many digits at most
unfoldable pub digits : ℕ → ℕ → List ℕ
digits zero n = []
digits (suc k) n = elim (ltb n 10) [ true ↦ (48 + n) ∷ [] | false ↦ digits k (n / 10) ++ ((48 + n % 10) ∷ []) ]

unfoldable pub decimal : ℕ → List ℕ
decimal n = digits (suc n) n

low : (k n : ℕ) → ltb n 10 ≡ true → digits (suc k) n ≡ (48 + n) ∷ []
unfolding digits
low k n e = ap (λ (t : Bool). elim t [ true ↦ (48 + n) ∷ [] | false ↦ digits k (n / 10) ++ ((48 + n % 10) ∷ []) ]) e

high : (k n : ℕ) → ltb n 10 ≡ false → digits (suc k) n ≡ digits k (n / 10) ++ ((48 + n % 10) ∷ [])
unfolding digits
high k n e = ap (λ (t : Bool). elim t [ true ↦ (48 + n) ∷ [] | false ↦ digits k (n / 10) ++ ((48 + n % 10) ∷ []) ]) e

-- more digits allowed change nothing
enough_as : (t : Bool) (k j n : ℕ) → ltb n 10 ≡ t → (10 ≤ n → digits k (n / 10) ≡ digits j (n / 10)) → digits (suc k) n ≡ digits (suc j) n
enough_as true k j n e f = low k n e ∙ sym (low j n e)
enough_as false k j n e f = high k n e ∙ (ap (λ s. s ++ ((48 + n % 10) ∷ [])) (f (ltb-false n 10 e)) ∙ sym (high j n e))

enough : (k j n : ℕ) → n < k → n < j → digits k n ≡ digits j n
enough zero j n h l = absurd (omega arith)
enough (suc k) zero n h l = absurd (omega arith)
enough (suc k) (suc j) n h l = enough_as (ltb n 10) k j n refl (λ w. enough k j (n / 10) (omega arith) (omega arith))

pub one_digit : (n : ℕ) → n < 10 → decimal n ≡ (48 + n % 10) ∷ []
unfolding decimal
one_digit n h = let e : n ≡ n % 10 = omega arith in low n n (lt-ltb n 10 h) ∙ ap (λ (d : ℕ). (48 + d) ∷ []) e

pub more_digits : (n : ℕ) → 10 ≤ n → decimal n ≡ decimal (n / 10) ++ ((48 + n % 10) ∷ [])
unfolding decimal
more_digits n h = high n n (le-ltb n 10 h) ∙ ap (λ s. s ++ ((48 + n % 10) ∷ [])) (enough n (suc (n / 10)) (n / 10) (omega arith) (omega arith))

-- ---- the number that digits write
unfoldable pub value : List ℕ → ℕ
value s = foldl (λ v d. v * 10 + (d - 48)) 0 s

value_more : (s : List ℕ) (d : ℕ) → value (s ++ ((48 + d) ∷ [])) ≡ value s * 10 + d
unfolding value
value_more s d = foldl-append (λ v d. v * 10 + (d - 48)) 0 s ((48 + d) ∷ []) ∙ omega arith

value_none : (n : ℕ) → n < 10 → value [] * 10 + n % 10 ≡ n
unfolding value
value_none n h = omega arith

read_back_as : (t : Bool) (n : ℕ) → ltb n 10 ≡ t → (10 ≤ n → value (decimal (n / 10)) ≡ n / 10) → value (decimal n) ≡ n
read_back_as true n e f = let l = ltb-true n 10 e in ap value (one_digit n l) ∙ (value_more [] (n % 10) ∙ value_none n l)
read_back_as false n e f =
    let l = ltb-false n 10 e in
    ap value (more_digits n l) ∙ (value_more (decimal (n / 10)) (n % 10) ∙ (ap (λ (v : ℕ). v * 10 + n % 10) (f l) ∙ omega arith))

read_back_to : (k n : ℕ) → n < k → value (decimal n) ≡ n
read_back_to zero n h = absurd (omega arith)
read_back_to (suc k) n h = read_back_as (ltb n 10) n refl (λ w. read_back_to k (n / 10) (omega arith))

pub read_back : (n : ℕ) → value (decimal n) ≡ n
read_back n = read_back_to (suc n) n (omega arith)
