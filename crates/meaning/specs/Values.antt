-- Laws of values: the shape, the parts and the fields of a value of 01's "Inputs", and of the constraint that it meets.
-- Everything after this file goes through `shape`, `parts`, `make`, `child_count`, `field_of`, `field` and their laws.
use Rattle.std.specs.Prelude.{◌≡◌, Bool, true, false, ◌&&◌, ℕ, zero, suc, ◌+◌, ◌≤◌, ◌<◌, ltb, eqb}
use Rattle.std.proofs.Math.Path.{refl}
use Rattle.std.proofs.Common.{sym, ap, ap₂, ◌∙◌, not-suc-le-zero, le_of_suc-le-suc, arith, ltb-true, eqb-true, lt-ltb, eq-eqb}
use Rattle.std.proofs.Math.Option.{Option, none, some}
use Rattle.paper.specs.declared.Constraint.{Constraint}
use Rattle.paper.specs.declared.Constraint.TheVariants.{Variant, Struct, ConstBool, ConstInt, ConstPrim, Some}
use Rattle.paper.specs.Sites.{child_count}
use Rattle.paper.specs.Inputs.{Value, bool, int, name, variant, structure, absent, present, Values, nil, more, count, value_at, shape, variant_field, struct_field, inner_of, and_then}
use Rattle.paper.proofs.Labels.{never}
use Rattle.paper.proofs.Lists.{and_both}

-- the first n values of a function
pub tab : ℕ → (ℕ → Value) → Values
tab zero f = nil
tab (suc n) f = more (f zero) (tab n (λ i. f (suc i)))

-- which field a child site takes of its source
pub data Proj : Type 0 where
  variant_at : (variant field : ℕ) → Proj
  struct_at : (field : ℕ) → Proj
  inner_at : Proj

-- the child's projection, by field
abbrev pub proj_at : Constraint → ℕ → Proj
proj_at (Variant t v n) i = variant_at v i
proj_at (Struct t n) i = struct_at i
proj_at (ConstBool t b) i = inner_at
proj_at (ConstInt t h l) i = inner_at
proj_at (ConstPrim s) i = inner_at
proj_at Some i = inner_at

abbrev pub parts : Value → Values
parts (bool t b) = nil
parts (int t h l) = nil
parts (name s) = nil
parts (variant t v xs) = xs
parts (structure t xs) = xs
parts absent = nil
parts (present x) = more x nil

abbrev pub when : Bool → ℕ → Option ℕ
when true i = some i
when false i = none

-- the field that a projection takes of a value of a shape, if the shape has it
abbrev pub field_of : Constraint → Proj → Option ℕ
field_of (Variant t v n) (variant_at w f) = when (eqb w v && ltb f n) f
field_of (Variant t v n) (struct_at f) = none
field_of (Variant t v n) inner_at = none
field_of (Struct t n) (variant_at w f) = none
field_of (Struct t n) (struct_at f) = when (ltb f n) f
field_of (Struct t n) inner_at = none
field_of (ConstBool t b) p = none
field_of (ConstInt t h l) p = none
field_of (ConstPrim s) p = none
field_of Some (variant_at w f) = none
field_of Some (struct_at f) = none
field_of Some inner_at = some 0

-- the field of a value, or none where its shape lacks it
abbrev pub field : Proj → Value → Option Value
field p x = and_then (shape x) (λ c. and_then (field_of c p) (value_at (parts x)))

-- the value of a shape over its parts
abbrev pub make : Constraint → Values → Value
make (Variant t v n) xs = variant t v xs
make (Struct t n) xs = structure t xs
make (ConstBool t b) xs = bool t b
make (ConstInt t h l) xs = int t h l
make (ConstPrim s) xs = name s
make Some nil = absent
make Some (more x xs) = present x

-- ---- the laws

pub count_tab : (n : ℕ) (f : ℕ → Value) → count (tab n f) ≡ n
unfolding count tab
count_tab zero f = refl
count_tab (suc n) f = ap suc (count_tab n (λ i. f (suc i)))

pub at_tab : (n : ℕ) (f : ℕ → Value) (i : ℕ) → i < n → value_at (tab n f) i ≡ some (f i)
unfolding value_at tab
at_tab zero f i h = absurd (not-suc-le-zero h)
at_tab (suc n) f zero h = refl
at_tab (suc n) f (suc i) h = at_tab n (λ i. f (suc i)) i (le_of_suc-le-suc h)

pub tab_ext : (n : ℕ) (f g : ℕ → Value) → ((i : ℕ) → i < n → f i ≡ g i) → tab n f ≡ tab n g
unfolding tab
tab_ext zero f g h = refl
tab_ext (suc n) f g h = ap₂ more (h zero (omega arith)) (tab_ext n (λ i. f (suc i)) (λ i. g (suc i)) (λ i k. h (suc i) (omega arith)))

pub parts_ext : (xs ys : Values) → count xs ≡ count ys → ((i : ℕ) → i < count xs → value_at xs i ≡ value_at ys i) → xs ≡ ys
unfolding count value_at
parts_ext nil nil e h = refl
parts_ext nil (more y ys) e h = absurd (omega arith)
parts_ext (more x xs) nil e h = absurd (omega arith)
parts_ext (more x xs) (more y ys) e h =
    ap₂ more (let q : some x ≡ some y = h zero (omega arith) in cc) (parts_ext xs ys (omega arith) (λ i k. h (suc i) (omega arith)))

pub at_in : (xs : Values) (i : ℕ) → i < count xs → (x : Value) × (value_at xs i ≡ some x)
unfolding count value_at
at_in nil i h = absurd (not-suc-le-zero h)
at_in (more x xs) zero h = (x, refl)
at_in (more x xs) (suc i) h = at_in xs i (le_of_suc-le-suc h)

pub make_shape : (x : Value) (c : Constraint) → shape x ≡ some c → (x ≡ make c (parts x)) × (count (parts x) ≡ child_count c)
unfolding count shape
make_shape (bool t b) c e = let q : ConstBool t b ≡ c = cc in rw (← q) (refl, refl)
make_shape (int t h l) c e = let q : ConstInt t h l ≡ c = cc in rw (← q) (refl, refl)
make_shape (name s) c e = let q : ConstPrim s ≡ c = cc in rw (← q) (refl, refl)
make_shape (variant t v xs) c e = let q : Variant t v (count xs) ≡ c = cc in rw (← q) (refl, refl)
make_shape (structure t xs) c e = let q : Struct t (count xs) ≡ c = cc in rw (← q) (refl, refl)
make_shape absent c e = let z : ◌≡◌ {A = ℕ} 0 1 = cc in absurd (omega arith)
make_shape (present x) c e = let q : Some ≡ c = cc in rw (← q) (refl, refl)

pub shape_make : (c : Constraint) (xs : Values) → count xs ≡ child_count c → (shape (make c xs) ≡ some c) × (parts (make c xs) ≡ xs)
unfolding count shape
shape_make (Variant t v n) xs e = (rw e refl, refl)
shape_make (Struct t n) xs e = (rw e refl, refl)
shape_make (ConstBool t b) nil e = (refl, refl)
shape_make (ConstBool t b) (more x xs) e = absurd (omega arith)
shape_make (ConstInt t h l) nil e = (refl, refl)
shape_make (ConstInt t h l) (more x xs) e = absurd (omega arith)
shape_make (ConstPrim s) nil e = (refl, refl)
shape_make (ConstPrim s) (more x xs) e = absurd (omega arith)
shape_make Some nil e = absurd (omega arith)
shape_make Some (more x nil) e = (refl, refl)
shape_make Some (more x (more y ys)) e = absurd (omega arith)

when_inv : (b : Bool) (f i : ℕ) → when b f ≡ some i → (b ≡ true) × (f ≡ i)
when_inv true f i e = (refl, cc)
when_inv false f i e = absurd (never e)

-- a shape has exactly its own children's projections
pub field_of_proj_at : (c : Constraint) (i : ℕ) → i < child_count c → field_of c (proj_at c i) ≡ some i
field_of_proj_at (Variant t v n) i h = rw (eq-eqb v v refl, lt-ltb i n h)
field_of_proj_at (Struct t n) i h = rw (lt-ltb i n h)
field_of_proj_at (ConstBool t b) i h = absurd (not-suc-le-zero h)
field_of_proj_at (ConstInt t h l) i k = absurd (not-suc-le-zero k)
field_of_proj_at (ConstPrim s) i h = absurd (not-suc-le-zero h)
field_of_proj_at Some zero h = refl
field_of_proj_at Some (suc i) h = absurd (omega arith)

pub field_of_inv : (c : Constraint) (p : Proj) (i : ℕ) → field_of c p ≡ some i → (p ≡ proj_at c i) × (i < child_count c)
field_of_inv (Variant t v n) (variant_at w f) i e =
    let w0 = when_inv (eqb w v && ltb f n) f i e in
    let w1 = and_both (eqb w v) (ltb f n) w0.0 in
    let q : w ≡ v = eqb-true w v w1.0 in
    let r : f ≡ i = w0.1 in
    let l : f < n = ltb-true f n w1.1 in
    (cc, omega arith)
field_of_inv (Variant t v n) (struct_at f) i e = absurd (never e)
field_of_inv (Variant t v n) inner_at i e = absurd (never e)
field_of_inv (Struct t n) (variant_at w f) i e = absurd (never e)
field_of_inv (Struct t n) (struct_at f) i e =
    let w0 = when_inv (ltb f n) f i e in
    let r : f ≡ i = w0.1 in
    let l : f < n = ltb-true f n w0.0 in
    (cc, omega arith)
field_of_inv (Struct t n) inner_at i e = absurd (never e)
field_of_inv (ConstBool t b) p i e = absurd (never e)
field_of_inv (ConstInt t h l) p i e = absurd (never e)
field_of_inv (ConstPrim s) p i e = absurd (never e)
field_of_inv Some (variant_at w f) i e = absurd (never e)
field_of_inv Some (struct_at f) i e = absurd (never e)
field_of_inv Some inner_at i e = let q : 0 ≡ i = cc in (refl, omega arith)

-- what the rest of the theory uses of values
-- the field of a value that is made of its parts
pub field_make : (c : Constraint) (p : Proj) (xs : Values) → count xs ≡ child_count c → field p (make c xs) ≡ and_then (field_of c p) (value_at xs)
field_make c p xs e = let k = shape_make c xs e in rw (k.0, k.1)

-- a value of a shape has every field that the shape has: by the projection, and by the child's number
pub field_has : (c : Constraint) (x : Value) (p : Proj) (i : ℕ) → shape x ≡ some c → field_of c p ≡ some i → (y : Value) × (field p x ≡ some y)
field_has c x p i e g =
    let k = make_shape x c e in
    let v = field_of_inv c p i g in
    let y = at_in (parts x) i (omega arith) in
    (y.0, rw (e, g) y.1)

pub field_in : (c : Constraint) (x : Value) (i : ℕ) → shape x ≡ some c → i < child_count c → (y : Value) × (field (proj_at c i) x ≡ some y)
field_in c x i e h = field_has c x (proj_at c i) i e (field_of_proj_at c i h)

-- and the shape and the fields make the value
pub field_ext : (c : Constraint) (x y : Value) → shape x ≡ some c → shape y ≡ some c →
    ((i : ℕ) → i < child_count c → field (proj_at c i) x ≡ field (proj_at c i) y) → x ≡ y
field_ext c x y e d h =
    let k = make_shape x c e in
    let l = make_shape y c d in
    let q : parts x ≡ parts y = parts_ext (parts x) (parts y) (omega arith) (λ i b.
    let b' : i < child_count c = omega arith in
    simp (e, d, field_of_proj_at c i b') at (h i b')) in
    k.0 ∙ ap (make c) q ∙ sym l.0

-- ---- the size of a value: a field's is less

mutual
  pub size : Value → ℕ
  size (bool t b) = 1
  size (int t h l) = 1
  size (name s) = 1
  size (variant t v xs) = suc (sizes xs)
  size (structure t xs) = suc (sizes xs)
  size absent = 1
  size (present x) = 2 + size x

  pub sizes : Values → ℕ
  sizes nil = 0
  sizes (more x xs) = size x + sizes xs

pub and_then_inv : {A B : Type 0} (o : Option A) (f : A → Option B) (y : B) → and_then o f ≡ some y → (a : A) × (o ≡ some a) × (f a ≡ some y)
and_then_inv none f y e = absurd (never e)
and_then_inv (some a) f y e = (a, refl, e)

value_at_size : (xs : Values) (i : ℕ) (y : Value) → value_at xs i ≡ some y → size y ≤ sizes xs
unfolding value_at size sizes
value_at_size nil i y e = absurd (never e)
value_at_size (more x xs) zero y e = let q : x ≡ y = cc in rw (← q) (omega arith)
value_at_size (more x xs) (suc i) y e = let h = value_at_size xs i y e in omega arith

pub parts_size : (x : Value) → sizes (parts x) < size x
unfolding size sizes
parts_size (bool t b) = omega arith
parts_size (int t h l) = omega arith
parts_size (name s) = omega arith
parts_size (variant t v xs) = omega arith
parts_size (structure t xs) = omega arith
parts_size absent = omega arith
parts_size (present x) = omega arith

pub field_size : (p : Proj) (x y : Value) → field p x ≡ some y → size y < size x
field_size p x y e =
    let a = and_then_inv (shape x) (λ c. and_then (field_of c p) (value_at (parts x))) y e in
    let b = and_then_inv (field_of a.0 p) (value_at (parts x)) y a.2 in
    let h = value_at_size (parts x) b.0 y b.2 in
    omega (arith, parts_size x)

-- ---- the three fields of 01's "Inputs" are this one

abbrev pub taken : Proj → Value → Option Value
taken (variant_at v f) x = variant_field v f x
taken (struct_at f) x = struct_field f x
taken inner_at x = inner_of x

at_past : (xs : Values) (i : ℕ) → (i < count xs → ⊥) → value_at xs i ≡ none
unfolding count value_at
at_past nil i h = refl
at_past (more x xs) zero h = absurd (h (omega arith))
at_past (more x xs) (suc i) h = at_past xs i (λ l. h (omega arith))

at_when : (xs : Values) (f : ℕ) → value_at xs f ≡ and_then (when (ltb f (count xs)) f) (value_at xs)
at_when xs f = go (ltb f (count xs)) refl
  where
    go : (b : Bool) → ltb f (count xs) ≡ b → value_at xs f ≡ and_then (when (ltb f (count xs)) f) (value_at xs)
    go true e = rw e
    go false e = rw e (at_past xs f (λ l. let q = lt-ltb f (count xs) l in let z : ◌≡◌ {A = ℕ} 0 1 = cc in omega arith))

pub field_is : (p : Proj) (x : Value) → taken p x ≡ field p x
unfolding shape variant_field struct_field inner_of
field_is (variant_at v f) (bool t b) = refl
field_is (variant_at v f) (int t h l) = refl
field_is (variant_at v f) (name n) = refl
field_is (variant_at v f) (variant t w xs) = go (eqb v w)
  where
    go : (b : Bool) → elim b as (λ _. Option Value) [ true ↦ value_at xs f | false ↦ none ] ≡ and_then (when (b && ltb f (count xs)) f) (value_at xs)
    go true = at_when xs f
    go false = refl
field_is (variant_at v f) (structure t xs) = refl
field_is (variant_at v f) absent = refl
field_is (variant_at v f) (present x) = refl
field_is (struct_at f) (bool t b) = refl
field_is (struct_at f) (int t h l) = refl
field_is (struct_at f) (name n) = refl
field_is (struct_at f) (variant t w xs) = refl
field_is (struct_at f) (structure t xs) = at_when xs f
field_is (struct_at f) absent = refl
field_is (struct_at f) (present x) = refl
field_is inner_at (bool t b) = refl
field_is inner_at (int t h l) = refl
field_is inner_at (name n) = refl
field_is inner_at (variant t w xs) = refl
field_is inner_at (structure t xs) = refl
field_is inner_at absent = refl
field_is inner_at (present x) = unfold value_at in refl
