-- What the paper's reader takes from bytes is written back by `body`: reading loses nothing.
use mathlib.Core.Path.{◌≡◌, refl, sym, ap, ◌∙◌}
use mathlib.Core.Bool.{Bool, true, false}
use mathlib.Core.Option.{Option, none, some}
use mathlib.Core.List.{List, [], ◌∷◌, ◌++◌, map, append_assoc, append-nil}
use Prim.Native.Nat.{ℕ, zero, suc, ◌+◌, ◌*◌, ◌/◌, ◌%◌, ◌<◌}
use native.Mathlib.Omega.{arith}
use lib.ListN.{length, get_or}
use lib.Seq.{get_or-append-add}
use lib.Dec.{eqb, ltb}
use borrow.Author.Tests.{eqb-true, eqb-false, ltb-true}
use Rattle.paper.specs.Words.{two, four, eight, flag, joined}
use Rattle.paper.specs.Sites.{Site, const_bool, const_int, const_prim, argument, extractor, constructor, iterator, make_variant, match_variant, make_struct, extract_struct, make_some, match_some, match_tuple, body, body_by}
use Rattle.paper.specs.Layout.{Reads, then_read, give, ◌&◌, refuse, byte, only_if, number_from, two_bytes, four_bytes, eight_bytes, bool_byte, sites_read, source_list, site_readers, site_read, whole}

-- a list of bytes
abbrev pub Bytes : List ℕ → Type 0
Bytes s = (i : ℕ) → get_or s i 0 < 256

bytes_on : (p r : List ℕ) → Bytes (p ++ r) → Bytes r
bytes_on p r f i = rw (get_or-append-add p r i 0) at (f (length p + i))

-- what w writes for a value is what r read it from
record Undoes {A : Type 0} (r : Reads A) (w : A → List ℕ) : Type 0 where
  is : (s : List ℕ) → Bytes s → (p : A × List ℕ) → r s ≡ some p → s ≡ w p.0 ++ p.1

two_back : (s : List ℕ) → Bytes s → (p : ℕ × List ℕ) → two_bytes s ≡ some p → s ≡ two p.0 ++ p.1
unfolding number_from two
two_back [] f p e = let z : ◌≡◌ {A = ℕ} 0 1 = cc in absurd (omega arith)
two_back (a ∷ []) f p e = let z : ◌≡◌ {A = ℕ} 0 1 = cc in absurd (omega arith)
two_back (a ∷ b ∷ s) f p e =
    let q : p ≡ ((0 * 256 + a) * 256 + b, s) = cc in
    let n = ap (λ x. x.0) q in
    let r : p.1 ≡ s = ap (λ x. x.1) q in
    let l = f 1 in
    let c : a ≡ p.0 / 256 = omega arith in
    let d : b ≡ p.0 % 256 = omega arith in
    cc

undo_two : Undoes two_bytes two
undo_two = record { is = two_back }

-- four bytes behind what was read before them
four_on : (acc : ℕ) (s : List ℕ) → Bytes s → (p : ℕ × List ℕ) → number_from acc 4 s ≡ some p → (n : ℕ) × (n < 4294967296) × (s ≡ four n ++ p.1) × (p.0 ≡ acc * 4294967296 + n)
unfolding number_from four
four_on acc [] f p e = let z : ◌≡◌ {A = ℕ} 0 1 = cc in absurd (omega arith)
four_on acc (a ∷ []) f p e = let z : ◌≡◌ {A = ℕ} 0 1 = cc in absurd (omega arith)
four_on acc (a ∷ b ∷ []) f p e = let z : ◌≡◌ {A = ℕ} 0 1 = cc in absurd (omega arith)
four_on acc (a ∷ b ∷ c ∷ []) f p e = let z : ◌≡◌ {A = ℕ} 0 1 = cc in absurd (omega arith)
four_on acc (a ∷ b ∷ c ∷ d ∷ s) f p e =
    let q : p ≡ ((((acc * 256 + a) * 256 + b) * 256 + c) * 256 + d, s) = cc in
    let m = ap (λ x. x.0) q in
    let r : p.1 ≡ s = ap (λ x. x.1) q in
    let la = f 0 in
    let lb = f 1 in
    let lc = f 2 in
    let ld = f 3 in
    let n : ℕ = ((a * 256 + b) * 256 + c) * 256 + d in
    let ha : a ≡ n / 256 / 256 / 256 = omega arith in
    let hb : b ≡ n / 256 / 256 % 256 = omega arith in
    let hc : c ≡ n / 256 % 256 = omega arith in
    let hd : d ≡ n % 256 = omega arith in
    (n, omega arith, (cc), omega arith)

undo_four : Undoes four_bytes four
undo_four = record { is = λ s f p e. let w = four_on 0 s f p e in let n : p.0 ≡ w.0 = omega (arith, w.3) in rw n w.2 }

eight_back : (s : List ℕ) → Bytes s → (p : ℕ × List ℕ) → eight_bytes s ≡ some p → s ≡ eight p.0 ++ p.1
unfolding number_from eight four
eight_back [] f p e = let z : ◌≡◌ {A = ℕ} 0 1 = cc in absurd (omega arith)
eight_back (a ∷ []) f p e = let z : ◌≡◌ {A = ℕ} 0 1 = cc in absurd (omega arith)
eight_back (a ∷ b ∷ []) f p e = let z : ◌≡◌ {A = ℕ} 0 1 = cc in absurd (omega arith)
eight_back (a ∷ b ∷ c ∷ []) f p e = let z : ◌≡◌ {A = ℕ} 0 1 = cc in absurd (omega arith)
eight_back (a ∷ b ∷ c ∷ d ∷ s) f p e =
    let la = f 0 in
    let lb = f 1 in
    let lc = f 2 in
    let ld = f 3 in
    let h : ℕ = (((0 * 256 + a) * 256 + b) * 256 + c) * 256 + d in
    let w = four_on h s (λ i. f (suc (suc (suc (suc i))))) p e in
    let v : p.0 ≡ h * 4294967296 + w.0 = w.3 in
    let l : w.0 < 4294967296 = w.1 in
    let hi : p.0 / 4294967296 ≡ h = omega arith in
    let lo : p.0 % 4294967296 ≡ w.0 = omega arith in
    let ha : a ≡ h / 256 / 256 / 256 = omega arith in
    let hb : b ≡ h / 256 / 256 % 256 = omega arith in
    let hc : c ≡ h / 256 % 256 = omega arith in
    let hd : d ≡ h % 256 = omega arith in
    rw (hi, lo) (let r : s ≡ four w.0 ++ p.1 = w.2 in cc)

undo_eight : Undoes eight_bytes eight
undo_eight = record { is = eight_back }

byte_back : (s : List ℕ) → Bytes s → (p : ℕ × List ℕ) → byte s ≡ some p → s ≡ (p.0 ∷ []) ++ p.1
byte_back [] f p e = let z : ◌≡◌ {A = ℕ} 0 1 = cc in absurd (omega arith)
byte_back (a ∷ s) f p e = let q : p ≡ (a, s) = cc in let x : p.0 ≡ a = ap (λ x. x.0) q in let y : p.1 ≡ s = ap (λ x. x.1) q in cc

undo_byte : Undoes byte (λ b. b ∷ [])
undo_byte = record { is = byte_back }

bool_back : (s : List ℕ) → Bytes s → (p : Bool × List ℕ) → bool_byte s ≡ some p → s ≡ (flag p.0 ∷ []) ++ p.1
unfolding bool_byte
bool_back [] f p e = let z : ◌≡◌ {A = ℕ} 0 1 = cc in absurd (omega arith)
bool_back (a ∷ s) f p e = go (ltb a 2) refl e
  where
    one : (t : Bool) → eqb a 1 ≡ t → a < 2 → a ≡ flag t
    one true v h = eqb-true a 1 v
    one false v h = let n = eqb-false a 1 v in omega arith

    go : (t : Bool) → ltb a 2 ≡ t → then_read (λ _. give (eqb a 1)) (only_if t s) ≡ some p → a ∷ s ≡ flag p.0 ∷ p.1
    go true v w =
        let q : p ≡ (eqb a 1, s) = cc in
        let x : p.0 ≡ eqb a 1 = ap (λ x. x.0) q in
        let y : p.1 ≡ s = ap (λ x. x.1) q in
        let z : a ≡ flag (eqb a 1) = one (eqb a 1) refl (ltb-true a 2 v) in
        cc
    go false v w = let z : ◌≡◌ {A = ℕ} 0 1 = cc in absurd (omega arith)

undo_bool : Undoes bool_byte (λ b. flag b ∷ [])
undo_bool = record { is = bool_back }

sites_back : (n : ℕ) (s : List ℕ) → Bytes s → (p : List ℕ × List ℕ) → sites_read n s ≡ some p → (s ≡ joined (map two p.0) ++ p.1) × (length p.0 ≡ n)
unfolding sites_read joined
sites_back zero s f p e =
    let q : p ≡ ([], s) = cc in
    let x : p.0 ≡ [] = ap (λ x. x.0) q in
    let y : p.1 ≡ s = ap (λ x. x.1) q in
    (rw (x, y), rw x)
sites_back (suc n) s f p e = go (two_bytes s) refl e (λ r g. sites_back n r g)
  where
    next : (x : ℕ) (r : List ℕ) → s ≡ two x ++ r → (o : Option (List ℕ × List ℕ)) → then_read (λ l. give (x ∷ l)) o ≡ some p → ((q : List ℕ × List ℕ) → o ≡ some q → (r ≡ joined (map two q.0) ++ q.1) × (length q.0 ≡ n)) → (s ≡ joined (map two p.0) ++ p.1) × (length p.0 ≡ suc n)
    next x r h none w g = let z : ◌≡◌ {A = ℕ} 0 1 = cc in absurd (omega arith)
    next x r h (some q) w g =
        let v : p ≡ (x ∷ q.0, q.1) = cc in
        let a : p.0 ≡ x ∷ q.0 = ap (λ x. x.0) v in
        let b : p.1 ≡ q.1 = ap (λ x. x.1) v in
        let k = g q refl in
        (rw (a, b) (h ∙ ap (λ l. two x ++ l) k.0 ∙ sym (append_assoc (two x) (joined (map two q.0)) q.1)), rw a (ap suc k.1))

    go : (o : Option (ℕ × List ℕ)) → two_bytes s ≡ o → then_read (λ x r. then_read (λ l. give (x ∷ l)) (sites_read n r)) o ≡ some p → ((r : List ℕ) → Bytes r → (q : List ℕ × List ℕ) → sites_read n r ≡ some q → (r ≡ joined (map two q.0) ++ q.1) × (length q.0 ≡ n)) → (s ≡ joined (map two p.0) ++ p.1) × (length p.0 ≡ suc n)
    go none v w g = let z : ◌≡◌ {A = ℕ} 0 1 = cc in absurd (omega arith)
    go (some q) v w g =
        let h = two_back s f q v in
        let k : Bytes q.1 = bytes_on (two q.0) q.1 (rw h at f) in
        next q.0 q.1 h (sites_read n q.1) w (λ u c. g q.1 k u c)

list_back : (s : List ℕ) → Bytes s → (p : List ℕ × List ℕ) → source_list s ≡ some p → s ≡ (length p.0 ∷ joined (map two p.0)) ++ p.1
unfolding source_list
list_back [] f p e = let z : ◌≡◌ {A = ℕ} 0 1 = cc in absurd (omega arith)
list_back (c ∷ s) f p e =
    let k = sites_back c s (λ i. f (suc i)) p e in
    let a : s ≡ joined (map two p.0) ++ p.1 = k.0 in
    let b : length p.0 ≡ c = k.1 in
    cc

undo_list : Undoes source_list (λ l. length l ∷ joined (map two l))
undo_list = record { is = list_back }

-- the bytes p that r read x from are as Q says
record Undo {A : Type 0} (r : Reads A) (Q : A → List ℕ → Type 0) : Type 0 where
  is : (s : List ℕ) → Bytes s → (x : A × List ℕ) → r s ≡ some x → (p : List ℕ) × (s ≡ p ++ x.1) × Q x.0 p

undo_give : {A : Type 0} (f : A) (Q : A → List ℕ → Type 0) → Q f [] → Undo (give f) Q
undo_give {A} f Q h =
    record { is = λ s g x e. let q : x ≡ (f, s) = cc in let a : x.0 ≡ f = ap (λ x. x.0) q in let b : x.1 ≡ s = ap (λ x. x.1) q in ([], sym b, rw a h) }

undo_and : {A B : Type 0} {r : Reads (A → B)} {q : Reads A} {w : A → List ℕ} (Q : B → List ℕ → Type 0) → Undo r (λ f p. (a : A) → Q (f a) (p ++ w a)) → Undoes q w → Undo (r & q) Q
undo_and {A} {B} {r} {q} {w} Q u v = record { is = λ s f x e. go s f x (r s) refl e }
  where
    next : (s : List ℕ) (x : B × List ℕ) (h : A → B) (rest : List ℕ) (p : List ℕ) → s ≡ p ++ rest → Bytes rest → ((a : A) → Q (h a) (p ++ w a)) → (o : Option (A × List ℕ)) → q rest ≡ o → then_read (λ a. give (h a)) o ≡ some x → (p : List ℕ) × (s ≡ p ++ x.1) × Q x.0 p
    next s x h rest p m f k none c e = let z : ◌≡◌ {A = ℕ} 0 1 = cc in absurd (omega arith)
    next s x h rest p m f k (some y) c e =
        let d : x ≡ (h y.0, y.1) = cc in
        let a : x.0 ≡ h y.0 = ap (λ x. x.0) d in
        let b : x.1 ≡ y.1 = ap (λ x. x.1) d in
        let n : rest ≡ w y.0 ++ y.1 = v.is rest f y c in
        (p ++ w y.0, rw b (m ∙ ap (λ l. p ++ l) n ∙ sym (append_assoc p (w y.0) y.1)), rw a (k y.0))

    go : (s : List ℕ) → Bytes s → (x : B × List ℕ) (o : Option ((A → B) × List ℕ)) → r s ≡ o → then_read (λ h rest. then_read (λ a. give (h a)) (q rest)) o ≡ some x → (p : List ℕ) × (s ≡ p ++ x.1) × Q x.0 p
    go s f x none c e = let z : ◌≡◌ {A = ℕ} 0 1 = cc in absurd (omega arith)
    go s f x (some y) c e =
        let k = u.is s f y c in
        let g : Bytes y.1 = bytes_on k.0 y.1 (rw k.1 at f) in
        next s x y.0 y.1 k.0 k.1 g k.2 (q y.1) refl e

-- ---- the 14 kinds

abbrev Of : ℕ → Site → List ℕ → Type 0
Of k x p = body x ≡ k ∷ p

abbrev Backs : ℕ → List (Reads Site) → Type 0
Backs k [] = Unit {0}
Backs k (r ∷ rs) = Undo r (Of k) × Backs (suc k) rs

backs : Backs 0 site_readers
unfolding site_readers body body_by two four eight
backs = (
  undo_and (Of 0) (undo_and _ (undo_give const_bool _ (λ t v. refl)) undo_two) undo_bool,
  (
    undo_and (Of 1) (undo_and _ (undo_and _ (undo_give const_int _ (λ t h l. refl)) undo_two) undo_eight) undo_eight,
    (
      undo_and (Of 2) (undo_give const_prim _ (λ v. refl)) undo_two,
      (
        undo_and (Of 3) (undo_give argument _ (λ i. refl)) undo_byte,
        (
          undo_and (Of 4) (undo_and _ (undo_give extractor _ (λ t s. refl)) undo_two) undo_two,
          (
            undo_and (Of 5) (undo_and _ (undo_and _ (undo_give constructor _ (λ t n l. refl)) undo_two) undo_four) undo_list,
            (
              undo_and (Of 6) (undo_give iterator _ (λ s. refl)) undo_two,
              (
                undo_and (Of 7) (undo_and _ (undo_and _ (undo_give make_variant _ (λ t v l. refl)) undo_two) undo_two) undo_list,
                (
                  undo_and (Of 8) (undo_and _ (undo_and _ (undo_give match_variant _ (λ s v f. refl)) undo_two) undo_two) undo_byte,
                  (
                    undo_and (Of 9) (undo_and _ (undo_give make_struct _ (λ t l. refl)) undo_two) undo_list,
                    (
                      undo_and (Of 10) (undo_and _ (undo_give extract_struct _ (λ s f. refl)) undo_two) undo_byte,
                      (
                        undo_and (Of 11) (undo_give make_some _ (λ s. refl)) undo_two,
                        (
                          undo_and (Of 12) (undo_give match_some _ (λ s. refl)) undo_two,
                          (
                            undo_and (Of 13) (undo_and _ (undo_give match_tuple _ (λ s f. refl)) undo_two) undo_byte,
                            tt,
                          ),
                        ),
                      ),
                    ),
                  ),
                ),
              ),
            ),
          ),
        ),
      ),
    ),
  ),
)

refused_back : (k : ℕ) → Undo refuse (Of k)
refused_back k = record { is = λ s f x e. let z : ◌≡◌ {A = ℕ} 0 1 = cc in absurd (omega arith) }

backs_at : (j : ℕ) (rs : List (Reads Site)) → Backs j rs → (k : ℕ) → Undo (get_or rs k refuse) (Of (j + k))
backs_at j [] h k = refused_back (j + k)
backs_at j (r ∷ rs) h zero = let e : j + 0 ≡ j = omega arith in rw e h.0
backs_at j (r ∷ rs) h (suc k) = let e : j + suc k ≡ suc j + k = omega arith in rw e (backs_at (suc j) rs h.1 k)

-- a list of bytes that is a site is that site's body
pub back : (b : List ℕ) → Bytes b → (s : Site) → whole (site_read b) ≡ some s → body s ≡ b
unfolding site_read
back [] f s e = let z : ◌≡◌ {A = ℕ} 0 1 = cc in absurd (omega arith)
back (k ∷ b) f s e = go (get_or site_readers k refuse b) refl e
  where
    z : 0 + k ≡ k
    z = omega arith

    go : (o : Option (Site × List ℕ)) → get_or site_readers k refuse b ≡ o → whole o ≡ some s → body s ≡ k ∷ b
    go none q w = let z : ◌≡◌ {A = ℕ} 0 1 = cc in absurd (omega arith)
    go (some (x, [])) q w =
        let u = (backs_at 0 site_readers backs k).is b (λ i. f (suc i)) (x, []) q in
        let v : b ≡ u.0 = u.1 ∙ append-nil u.0 in
        let h : body x ≡ (0 + k) ∷ u.0 = u.2 in
        let e : x ≡ s = cc in
        let c = z in
        cc
    go (some (x, y ∷ r)) q w = let z : ◌≡◌ {A = ℕ} 0 1 = cc in absurd (omega arith)
