-- Laws of constraints and frames: a wrong length is no frame, a right one computes.
use mathlib.Core.Path.{◌≡◌, refl, sym, ap, ◌∙◌}
use mathlib.Core.Bool.{Bool, true, false}
use mathlib.Core.Option.{Option, none, some}
use mathlib.Core.List.{List, [], ◌∷◌}
use Prim.Native.Nat.{ℕ, zero, suc, ◌+◌, ◌-◌, ◌*◌, ◌≤◌, ◌<◌}
use native.Mathlib.Omega.{arith}
use lib.ListN.{length, get_or, take, drop}
use lib.Dec.{eqb, ltb}
use borrow.Author.Tests.{lt-ltb, le-ltb}
use Rattle.std.specs.declared.option.Option.TheVariants as option
use Rattle.paper.specs.declared.Constraint.{Constraint}
use Rattle.paper.specs.declared.Constraint.TheVariants.{Variant, Struct, ConstBool, ConstInt, ConstPrim, Some}
use Rattle.paper.specs.declared.Item.TheVariants.{Is, Equal}
use Rattle.paper.specs.Sites.{Site}
use Rattle.paper.specs.Layout as layout
use Rattle.paper.specs.Layout.{Reads, then_read, give, ◌&◌, refuse, byte, number_from, bool_byte, site_read, constraint_readers, constraint_read, flags_byte, frame_readers, frame_read, whole, begin_set, a_site, a_rule, an_item, end_set}
use Rattle.paper.proofs.Lists.{rest_of}
use Rattle.sheet_frames.specs.declared.Frame.{Frame}
use Rattle.sheet_frames.specs.declared.Frame.TheVariants as said
use Rattle.paper.specs.Answered.{Maybe}
use Rattle.sheet_frames.specs.Said.{code, shape_code, number_at, shape_in, frame_in}
use Rattle.site_body.specs.Body.{is_there, is_body}

-- ---- what is read has k bytes
abbrev Taken : {A : Type 0} → ℕ → List ℕ → Option (A × List ℕ) → Type 0
Taken k s none = Unit
Taken k s (some p) = length s ≡ k + length p.1

pub record Takes {A : Type 0} (k : ℕ) (r : Reads A) : Type 0 where
  pub taken : (s : List ℕ) → Taken k s (r s)

t_give : {A : Type 0} (a : A) → Takes 0 (give a)
t_give a = record { taken = λ s. omega arith }

byte_taken : (s : List ℕ) → Taken 1 s (byte s)
byte_taken [] = tt
byte_taken (b ∷ s) = omega arith

t_byte : Takes 1 byte
t_byte = record { taken = byte_taken }

number_taken : (n k : ℕ) (s : List ℕ) → Taken k s (number_from n k s)
unfolding number_from
number_taken n zero s = omega arith
number_taken n (suc k) [] = tt
number_taken n (suc k) (b ∷ s) = go (number_from (n * 256 + b) k s) (number_taken (n * 256 + b) k s)
  where
    go : (o : Option (ℕ × List ℕ)) → Taken k s o → Taken (suc k) (b ∷ s) o
    go none h = tt
    go (some p) h = omega arith

t_number : (k : ℕ) → Takes k (number_from 0 k)
t_number k = record { taken = number_taken 0 k }

bool_taken : (s : List ℕ) → Taken 1 s (bool_byte s)
unfolding bool_byte
bool_taken [] = tt
bool_taken (b ∷ s) = go (ltb b 2)
  where
    go : (t : Bool) → Taken 1 (b ∷ s) (then_read (λ _. give (eqb b 1)) (layout.only_if t s))
    go true = omega arith
    go false = tt

t_bool : Takes 1 bool_byte
t_bool = record { taken = bool_taken }

flags_taken : (s : List ℕ) → Taken 1 s (flags_byte s)
unfolding flags_byte
flags_taken [] = tt
flags_taken (b ∷ s) = go (ltb b 4)
  where
    go : (t : Bool) → Taken 1 (b ∷ s) (then_read (λ _. give b) (layout.only_if t s))
    go true = omega arith
    go false = tt

t_flags : Takes 1 flags_byte
t_flags = record { taken = flags_taken }

and_taken : {A B : Type 0} (r : Reads (A → B)) (q : Reads A) (j k : ℕ) → ((s : List ℕ) → Taken j s (r s)) → ((s : List ℕ) → Taken k s (q s)) → (s : List ℕ) → Taken (j + k) s ((r & q) s)
and_taken {A} {B} r q j k f g s = go (r s) (f s)
  where
    next : (h : A → B) (rest : List ℕ) → length s ≡ j + length rest → (o : Option (A × List ℕ)) → Taken k rest o → Taken (j + k) s (then_read (λ a. give (h a)) o)
    next h rest l none w = tt
    next h rest l (some p) w = omega arith

    go : (o : Option ((A → B) × List ℕ)) → Taken j s o → Taken (j + k) s (then_read (λ h rest. then_read (λ a. give (h a)) (q rest)) o)
    go none w = tt
    go (some p) w = next p.0 p.1 w (q p.1) (g p.1)

infixl 12 ◌⊕◌
◌⊕◌ : {A B : Type 0} {r : Reads (A → B)} {q : Reads A} {j k : ℕ} → Takes j r → Takes k q → Takes (j + k) (r & q)
◌⊕◌ {A} {B} {r} {q} {j} {k} f g = record { taken = and_taken r q j k f.taken g.taken }

wrong : {A : Type 0} {k : ℕ} {r : Reads A} → Takes k r → (s : List ℕ) → (length s ≡ k → ⊥) → whole (r s) ≡ none
wrong {A} {k} {r} f s n = go (r s) (f.taken s)
  where
    go : (o : Option (A × List ℕ)) → Taken k s o → whole o ≡ none
    go none h = refl
    go (some (a, [])) h = absurd (n (omega arith))
    go (some (a, b ∷ t)) h = refl

-- ---- a list of known length
abbrev pub spelled : ℕ → ℕ → List ℕ → List ℕ
spelled zero i s = []
spelled (suc k) i s = get_or s i 0 ∷ spelled k (suc i) s

spelled_cons : (k i x : ℕ) (s : List ℕ) → spelled k (suc i) (x ∷ s) ≡ spelled k i s
spelled_cons zero i x s = refl
spelled_cons (suc k) i x s = ap (λ t. get_or s i 0 ∷ t) (spelled_cons k (suc i) x s)

spell : (k : ℕ) (s : List ℕ) → length s ≡ k → s ≡ spelled k 0 s
spell zero [] l = refl
spell zero (x ∷ s) l = absurd (omega arith)
spell (suc k) [] l = absurd (omega arith)
spell (suc k) (x ∷ s) l = ap (λ t. x ∷ t) (spell k s (omega arith) ∙ sym (spelled_cons k 0 x s))

-- ---- constraints
abbrev pub sizes : List ℕ
sizes = 6 ∷ 4 ∷ 4 ∷ 19 ∷ 3 ∷ 1 ∷ []

abbrev Sizes : List ℕ → List (Reads Constraint) → Type 0
Sizes [] rs = Unit
Sizes (z ∷ zs) [] = Unit
Sizes (z ∷ zs) (r ∷ rs) = Takes (z - 1) r × Sizes zs rs

sizes_at : (zs : List ℕ) (rs : List (Reads Constraint)) → Sizes zs rs → (k : ℕ) → k < length zs → k < length rs → Takes (get_or zs k 0 - 1) (get_or rs k refuse)
sizes_at (z ∷ zs) (r ∷ rs) h zero a b = h.0
sizes_at (z ∷ zs) (r ∷ rs) h (suc k) a b = sizes_at zs rs h.1 k (omega arith) (omega arith)
sizes_at [] rs h k a b = absurd (omega arith)
sizes_at (z ∷ zs) [] h k a b = absurd (omega arith)

sizes_fit : Sizes sizes constraint_readers
unfolding constraint_readers
sizes_fit =
    let two = t_number 2 in
    let eight = t_number 8 in
    (t_give Variant ⊕ two ⊕ two ⊕ t_byte, (t_give Struct ⊕ two ⊕ t_byte, (t_give ConstBool ⊕ two ⊕ t_bool, (t_give ConstInt ⊕ two ⊕ eight ⊕ eight, (t_give ConstPrim ⊕ two, (t_give Some, tt))))))

code_wrong : {k : ℕ} {r : Reads Constraint} → Takes k r → (s : List ℕ) → (length s ≡ k → ⊥) → shape_code (whole (r s)) ≡ option.None
unfolding shape_code
code_wrong t s n = rw (wrong t s n)

size_least : (k : ℕ) → k < 6 → 0 < get_or sizes k 0
size_least zero h = omega arith
size_least (suc zero) h = omega arith
size_least (suc (suc zero)) h = omega arith
size_least (suc (suc (suc zero))) h = omega arith
size_least (suc (suc (suc (suc zero)))) h = omega arith
size_least (suc (suc (suc (suc (suc zero))))) h = omega arith
size_least (suc (suc (suc (suc (suc (suc k)))))) h = absurd (omega arith)

pub shape_wrong : (s : List ℕ) → 0 < length s → get_or s 0 0 < 6 → (length s ≡ get_or sizes (get_or s 0 0) 0 → ⊥) → shape_in s ≡ option.None
unfolding shape_in constraint_read constraint_readers
shape_wrong [] h l n = absurd (omega arith)
shape_wrong (k ∷ s) h l n =
    let p = size_least k l in
    let m : length s ≡ get_or sizes k 0 - 1 → ⊥ = λ e. n (omega arith) in
    code_wrong (sizes_at sizes constraint_readers sizes_fit k l l) s m

pub shape_none : (s : List ℕ) → length s ≡ 0 → shape_in s ≡ option.None
unfolding shape_in constraint_read shape_code
shape_none [] l = refl
shape_none (b ∷ s) l = absurd (omega arith)

past : (k : ℕ) → 6 ≤ k → get_or constraint_readers k refuse ≡ refuse
unfolding constraint_readers
past (suc (suc (suc (suc (suc (suc k)))))) h = refl
past zero h = absurd (omega arith)
past (suc zero) h = absurd (omega arith)
past (suc (suc zero)) h = absurd (omega arith)
past (suc (suc (suc zero))) h = absurd (omega arith)
past (suc (suc (suc (suc zero)))) h = absurd (omega arith)
past (suc (suc (suc (suc (suc zero))))) h = absurd (omega arith)

pub shape_past : (s : List ℕ) → 6 ≤ get_or s 0 0 → shape_in s ≡ option.None
unfolding shape_in constraint_read shape_code
shape_past [] h = refl
shape_past (k ∷ s) h = rw (past k h)

module _ (s : List ℕ) where
  pub shape_variant : length s ≡ 6 → get_or s 0 0 ≡ 0 → shape_in s ≡ option.Some (Variant (number_at s 0 2 1) (number_at s 0 2 3) (get_or s 5 0))
  unfolding shape_in constraint_read constraint_readers shape_code number_at number_from
  shape_variant l k = ap shape_in (spell 6 s l) ∙ rw k

  pub shape_struct : length s ≡ 4 → get_or s 0 0 ≡ 1 → shape_in s ≡ option.Some (Struct (number_at s 0 2 1) (get_or s 3 0))
  unfolding shape_in constraint_read constraint_readers shape_code number_at number_from
  shape_struct l k = ap shape_in (spell 4 s l) ∙ rw k

  pub shape_bool : length s ≡ 4 → get_or s 0 0 ≡ 2 → get_or s 3 0 < 2 → shape_in s ≡ option.Some (ConstBool (number_at s 0 2 1) (eqb (get_or s 3 0) 1))
  unfolding shape_in constraint_read constraint_readers shape_code number_at number_from bool_byte
  shape_bool l k b = ap shape_in (spell 4 s l) ∙ rw (k, lt-ltb (get_or s 3 0) 2 b)

  pub shape_no_bool : length s ≡ 4 → get_or s 0 0 ≡ 2 → 2 ≤ get_or s 3 0 → shape_in s ≡ option.None
  unfolding shape_in constraint_read constraint_readers shape_code number_from bool_byte
  shape_no_bool l k b = ap shape_in (spell 4 s l) ∙ rw (k, le-ltb (get_or s 3 0) 2 b)

  pub shape_int : length s ≡ 19 → get_or s 0 0 ≡ 3 → shape_in s ≡ option.Some (ConstInt (number_at s 0 2 1) (number_at s 0 8 3) (number_at s 0 8 11))
  unfolding shape_in constraint_read constraint_readers shape_code number_at number_from
  shape_int l k = ap shape_in (spell 19 s l) ∙ rw k

  pub shape_prim : length s ≡ 3 → get_or s 0 0 ≡ 4 → shape_in s ≡ option.Some (ConstPrim (number_at s 0 2 1))
  unfolding shape_in constraint_read constraint_readers shape_code number_at number_from
  shape_prim l k = ap shape_in (spell 3 s l) ∙ rw k

  pub shape_some : length s ≡ 1 → get_or s 0 0 ≡ 5 → shape_in s ≡ option.Some Some
  unfolding shape_in constraint_read constraint_readers shape_code
  shape_some l k = ap shape_in (spell 1 s l) ∙ rw k

-- ---- frames
frame_code_wrong : {k : ℕ} {r : Reads layout.Frame} → Takes k r → (s : List ℕ) → (length s ≡ k → ⊥) → code (whole (r s)) ≡ said.Wrong
unfolding code
frame_code_wrong t s n = rw (wrong t s n)

pub t_begin : Takes 3 (get_or frame_readers 1 refuse)
unfolding frame_readers
t_begin = t_give begin_set ⊕ t_number 2 ⊕ t_flags

pub t_rule : Takes 13 (get_or frame_readers 3 refuse)
unfolding frame_readers
t_rule = t_give a_rule ⊕ t_number 4 ⊕ t_number 8 ⊕ t_byte

pub t_equal : Takes 4 (get_or frame_readers 5 refuse)
unfolding frame_readers
t_equal = t_give (λ a b. an_item (Equal a b)) ⊕ t_number 2 ⊕ t_number 2

pub t_end : Takes 0 (get_or frame_readers 6 refuse)
unfolding frame_readers
t_end = t_give end_set

pub frame_wrong : {k j : ℕ} → Takes j (get_or frame_readers k refuse) → (s : List ℕ) → 0 < length s → get_or s 0 0 ≡ k → (length s ≡ suc j → ⊥) → frame_in s ≡ said.Wrong
unfolding frame_in frame_read
frame_wrong t [] h e n = absurd (omega arith)
frame_wrong {k} {j} t (b ∷ s) h e n = let m : length s ≡ j → ⊥ = λ q. n (omega arith) in rw e (frame_code_wrong t s m)

pub frame_none : (s : List ℕ) → length s ≡ 0 → frame_in s ≡ said.Wrong
unfolding frame_in frame_read code
frame_none [] l = refl
frame_none (b ∷ s) l = absurd (omega arith)

other : (k : ℕ) → (k ≡ 1 → ⊥) → (k ≡ 2 → ⊥) → (k ≡ 3 → ⊥) → (k ≡ 4 → ⊥) → (k ≡ 5 → ⊥) → (k ≡ 6 → ⊥) → get_or frame_readers k refuse ≡ refuse
unfolding frame_readers
other zero a b c d e f = refl
other (suc zero) a b c d e f = absurd (a refl)
other (suc (suc zero)) a b c d e f = absurd (b refl)
other (suc (suc (suc zero))) a b c d e f = absurd (c refl)
other (suc (suc (suc (suc zero)))) a b c d e f = absurd (d refl)
other (suc (suc (suc (suc (suc zero))))) a b c d e f = absurd (e refl)
other (suc (suc (suc (suc (suc (suc zero)))))) a b c d e f = absurd (f refl)
other (suc (suc (suc (suc (suc (suc (suc k))))))) a b c d e f = refl

pub frame_other : (s : List ℕ) → (get_or s 0 0 ≡ 1 → ⊥) → (get_or s 0 0 ≡ 2 → ⊥) → (get_or s 0 0 ≡ 3 → ⊥) → (get_or s 0 0 ≡ 4 → ⊥) → (get_or s 0 0 ≡ 5 → ⊥) → (get_or s 0 0 ≡ 6 → ⊥) → frame_in s ≡ said.Wrong
unfolding frame_in frame_read code
frame_other [] a b c d e f = refl
frame_other (k ∷ s) a b c d e f = rw (other k a b c d e f)

there_frame : (o : Option (Site × List ℕ)) → code (whole (then_read (λ a. give (a_site a)) o)) ≡ elim (is_there (whole o)) as (λ _. Frame) [ true ↦ said.Site | false ↦ said.Wrong ]
unfolding is_there code
there_frame none = refl
there_frame (some (a, [])) = refl
there_frame (some (a, b ∷ t)) = refl

pub frame_site : (s : List ℕ) (t : Bool) → 0 < length s → get_or s 0 0 ≡ 2 → t ≡ is_body (drop 1 s) → frame_in s ≡ elim t as (λ _. Frame) [ true ↦ said.Site | false ↦ said.Wrong ]
unfolding frame_in frame_read frame_readers is_body
frame_site [] t h k e = absurd (omega arith)
frame_site (b ∷ s) t h k e = rw (k, e) (there_frame (site_read s))

shape_frame : (x : ℕ) (o : Option (Constraint × List ℕ)) → code (whole (then_read (λ a. give (an_item (Is x a))) o)) ≡ elim (shape_code (whole o)) [ option.Some c ↦ said.Item (Is x c) | option.None ↦ said.Wrong ]
unfolding shape_code code
shape_frame x none = refl
shape_frame x (some (a, [])) = refl
shape_frame x (some (a, b ∷ t)) = refl

pub frame_is : (s : List ℕ) (r : Maybe Constraint) → 3 ≤ length s → get_or s 0 0 ≡ 4 → r ≡ shape_in (drop 3 s) → frame_in s ≡ elim r [ option.Some c ↦ said.Item (Is (number_at s 0 2 1) c) | option.None ↦ said.Wrong ]
unfolding frame_in frame_read frame_readers shape_in number_at number_from
frame_is [] r h k e = absurd (omega arith)
frame_is (a ∷ []) r h k e = absurd (omega arith)
frame_is (a ∷ b ∷ []) r h k e = absurd (omega arith)
frame_is (a ∷ b ∷ c ∷ s) r h k e = rw (k, e) (shape_frame _ (constraint_read s))

pub frame_short : (s : List ℕ) → length s < 3 → get_or s 0 0 ≡ 4 → frame_in s ≡ said.Wrong
unfolding frame_in frame_read frame_readers number_from code
frame_short [] h k = refl
frame_short (a ∷ []) h k = rw k
frame_short (a ∷ b ∷ []) h k = rw k
frame_short (a ∷ b ∷ c ∷ s) h k = absurd (omega arith)

module _ (s : List ℕ) where
  pub frame_begin : length s ≡ 4 → get_or s 0 0 ≡ 1 → get_or s 3 0 < 4 → frame_in s ≡ said.Begin (number_at s 0 2 1) (get_or s 3 0)
  unfolding frame_in frame_read frame_readers code number_at number_from flags_byte
  frame_begin l k f = ap frame_in (spell 4 s l) ∙ rw (k, lt-ltb (get_or s 3 0) 4 f)

  pub frame_flags : length s ≡ 4 → get_or s 0 0 ≡ 1 → 4 ≤ get_or s 3 0 → frame_in s ≡ said.Wrong
  unfolding frame_in frame_read frame_readers code number_at number_from flags_byte
  frame_flags l k f = ap frame_in (spell 4 s l) ∙ rw (k, le-ltb (get_or s 3 0) 4 f)

  pub frame_rule : length s ≡ 14 → get_or s 0 0 ≡ 3 → frame_in s ≡ said.Rule (number_at s 0 4 1) (number_at s 0 8 5) (get_or s 13 0)
  unfolding frame_in frame_read frame_readers code number_at number_from
  frame_rule l k = ap frame_in (spell 14 s l) ∙ rw k

  pub frame_equal : length s ≡ 5 → get_or s 0 0 ≡ 5 → frame_in s ≡ said.Item (Equal (number_at s 0 2 1) (number_at s 0 2 3))
  unfolding frame_in frame_read frame_readers code number_at number_from
  frame_equal l k = ap frame_in (spell 5 s l) ∙ rw k

  pub frame_end : length s ≡ 1 → get_or s 0 0 ≡ 6 → frame_in s ≡ said.End
  unfolding frame_in frame_read frame_readers code
  frame_end l k = ap frame_in (spell 1 s l) ∙ rw k

-- ---- what the needs ask
pub equal_said : (s : List ℕ) (a b : ℕ) → length s ≡ 5 → get_or s 0 0 ≡ 5 → a ≡ number_at s 0 2 1 → b ≡ number_at s 0 2 3 → said.Item (Equal a b) ≡ frame_in s
equal_said s a b l k p q = rw (p, q) (sym (frame_equal s l k))

pub kind_at : (s : List ℕ) (k z i : ℕ) → k ≡ get_or s 0 0 → z ≡ get_or sizes k 0 → length s ≡ z → k ≡ i → (length s ≡ get_or sizes i 0) × (get_or s 0 0 ≡ i)
kind_at s k z i p q r e = ((r ∙ q) ∙ ap (λ n. get_or sizes n 0) e, sym p ∙ e)

pub shape_size : (s : List ℕ) (k z : ℕ) → (length s ≡ 0 → ⊥) → k ≡ get_or s 0 0 → k < 6 → z ≡ get_or sizes k 0 → (length s ≡ z → ⊥) → option.None ≡ shape_in s
shape_size s k z h p l q n = sym (shape_wrong s (omega (arith, h)) (omega arith) (λ e. n (e ∙ (ap (λ i. get_or sizes i 0) (sym p) ∙ sym q))))

take_all : (t : List ℕ) (m : ℕ) → length t ≤ m → take m t ≡ t
take_all [] zero h = refl
take_all [] (suc m) h = refl
take_all (x ∷ t) zero h = absurd (omega arith)
take_all (x ∷ t) (suc m) h = ap (λ u. x ∷ u) (take_all t m (omega arith))

-- `&s[n..]`

pub site_body_is : (s : List ℕ) (r t : Bool) → 0 < length s → get_or s 0 0 ≡ 2 → r ≡ is_body (take (length s - 1) (drop 1 s)) → r ≡ t → frame_in s ≡ elim t as (λ _. Frame) [ true ↦ said.Site | false ↦ said.Wrong ]
site_body_is s r t h k f e = frame_site s t h k (sym e ∙ (f ∙ ap is_body (rest_of s 1)))

pub item_is : (s : List ℕ) (r t : Maybe Constraint) → 3 ≤ length s → get_or s 0 0 ≡ 4 → r ≡ shape_in (take (length s - 3) (drop 3 s)) → r ≡ t → frame_in s ≡ elim t [ option.Some c ↦ said.Item (Is (number_at s 0 2 1) c) | option.None ↦ said.Wrong ]
item_is s r t h k f e = frame_is s t h k (sym e ∙ (f ∙ ap shape_in (rest_of s 3)))
