-- When bytes are a body: the paper's reader and the three tables agree, kind by kind.
use mathlib.Core.Path.{◌≡◌, refl, sym, ap, ◌∙◌}
use mathlib.Core.Bool.{Bool, true, false, ◌&&◌}
use mathlib.Core.Option.{Option, none, some}
use mathlib.Core.List.{List, [], ◌∷◌}
use Prim.Native.Nat.{ℕ, zero, suc, ◌+◌, ◌-◌, ◌*◌, ◌≤◌, ◌<◌}
use native.Mathlib.Omega.{arith}
use lib.ListN.{length, get_or, drop, length-drop, get_or-eq_default}
use lib.Seq.{get_or-drop, drop-drop}
use lib.Dec.{eqb, ltb, leb}
use borrow.Author.Tests.{le-leb, lt-leb, eq-eqb, ne_eqb, eqb-true, eqb-false}
use Rattle.paper.specs.Sites.{Site, const_bool, const_int, const_prim, argument, extractor, constructor, iterator, make_variant, match_variant, make_struct, extract_struct, make_some, match_some, match_tuple}
use Rattle.paper.specs.Layout.{Reads, then_read, give, ◌&◌, refuse, byte, number_from, two_bytes, bool_byte, sites_read, source_list, site_readers, site_read, whole}
use Rattle.site_body.specs.Body.{offs, ways, tails, count_by, off_of, many_of, tail_of, is_there, is_body}

-- ---- a reader that takes k bytes exactly
abbrev FixedAt : {A : Type 0} → ℕ → List ℕ → Option (A × List ℕ) → Type 0
FixedAt k s none = length s < k
FixedAt k s (some p) = (k ≤ length s) × (p.1 ≡ drop k s)

record Fixed {A : Type 0} (k : ℕ) (r : Reads A) : Type 0 where
  takes : (s : List ℕ) → FixedAt k s (r s)

fixed_give : {A : Type 0} (a : A) → Fixed 0 (give a)
fixed_give a = record { takes = λ s. (omega arith, refl) }

number_takes : (n k : ℕ) (s : List ℕ) → FixedAt k s (number_from n k s)
unfolding number_from
number_takes n zero s = (omega arith, refl)
number_takes n (suc k) [] = omega arith
number_takes n (suc k) (b ∷ s) = go (number_from (n * 256 + b) k s) (number_takes (n * 256 + b) k s)
  where
    go : (o : Option (ℕ × List ℕ)) → FixedAt k s o → FixedAt (suc k) (b ∷ s) o
    go none h = omega arith
    go (some p) h = (omega arith, h.1)

fixed_number : (k : ℕ) → Fixed k (number_from 0 k)
fixed_number k = record { takes = number_takes 0 k }

byte_takes : (s : List ℕ) → FixedAt 1 s (byte s)
byte_takes [] = omega arith
byte_takes (b ∷ s) = (omega arith, refl)

fixed_byte : Fixed 1 byte
fixed_byte = record { takes = byte_takes }

and_takes : {A B : Type 0} (r : Reads (A → B)) (q : Reads A) (j k : ℕ) → ((s : List ℕ) → FixedAt j s (r s)) → ((s : List ℕ) → FixedAt k s (q s)) → (s : List ℕ) → FixedAt (j + k) s ((r & q) s)
and_takes {A} {B} r q j k f g s = go (r s) (f s)
  where
    next : (h : A → B) (rest : List ℕ) → j ≤ length s → rest ≡ drop j s → (o : Option (A × List ℕ)) → FixedAt k rest o → FixedAt (j + k) s (then_read (λ a. give (h a)) o)
    next h rest l e none w = let m = ap length e ∙ length-drop j s in omega arith
    next h rest l e (some p) w = let m = ap length e ∙ length-drop j s in (omega arith, (w.1 ∙ ap (drop k) e) ∙ drop-drop k j s)

    go : (o : Option ((A → B) × List ℕ)) → FixedAt j s o → FixedAt (j + k) s (then_read (λ h rest. then_read (λ a. give (h a)) (q rest)) o)
    go none w = omega arith
    go (some p) w = next p.0 p.1 w.0 w.1 (q p.1) (g p.1)

fixed_and : {A B : Type 0} {r : Reads (A → B)} {q : Reads A} {j k : ℕ} → Fixed j r → Fixed k q → Fixed (j + k) (r & q)
fixed_and {A} {B} {r} {q} {j} {k} f g = record { takes = and_takes r q j k f.takes g.takes }

sites_takes : (n : ℕ) (s : List ℕ) → FixedAt (n * 2) s (sites_read n s)
unfolding sites_read
sites_takes zero s = (omega arith, refl)
sites_takes (suc n) s = go (two_bytes s) (number_takes 0 2 s) (λ t. sites_takes n t)
  where
    next : (x : ℕ) (rest : List ℕ) → 2 ≤ length s → rest ≡ drop 2 s → (o : Option (List ℕ × List ℕ)) → FixedAt (n * 2) rest o → FixedAt (suc n * 2) s (then_read (λ l. give (x ∷ l)) o)
    next x rest l e none w = let m = ap length e ∙ length-drop 2 s in omega arith
    next x rest l e (some p) w =
        let m = ap length e ∙ length-drop 2 s in
        let k : 2 + n * 2 ≡ suc n * 2 = omega arith in
        (omega arith, ((w.1 ∙ ap (drop (n * 2)) e) ∙ drop-drop (n * 2) 2 s) ∙ ap (λ i. drop i s) k)

    go : (o : Option (ℕ × List ℕ)) → FixedAt 2 s o → ((t : List ℕ) → FixedAt (n * 2) t (sites_read n t)) → FixedAt (suc n * 2) s (then_read (λ x r. then_read (λ l. give (x ∷ l)) (sites_read n r)) o)
    go none w f = omega arith
    go (some p) w f = next p.0 p.1 w.0 w.1 (sites_read n p.1) (f p.1)

-- ---- the test of a body by its row of the tables
unfoldable test : ℕ → ℕ → ℕ → List ℕ → Bool
test o w t b = leb o (length b) && eqb (length b) (o + 2 * count_by w (get_or b (o - 1) 0) + t)

record Sorted (o w t : ℕ) (r : Reads Site) : Type 0 where
  is : (x : ℕ) (s : List ℕ) → is_there (whole (r s)) ≡ test o w t (x ∷ s)

-- an answer that takes k bytes and more, or none
there_at : (k : ℕ) (s : List ℕ) (o : Option (Site × List ℕ)) → FixedAt k s o → is_there (whole o) ≡ eqb (length s) k
unfolding is_there
there_at k s none h = let n : length s ≡ k → ⊥ = λ e. omega arith in sym (ne_eqb (length s) k n)
there_at k s (some (a, [])) h = let m = ap length h.1 ∙ length-drop k s in sym (eq-eqb (length s) k (omega arith))
there_at k s (some (a, b ∷ t)) h =
    let m = ap length h.1 ∙ length-drop k s in
    let n : length s ≡ k → ⊥ = λ e. omega arith in
    sym (ne_eqb (length s) k n)

-- one test in the words of another, whose first half follows from its second
both_as : (o a b c d : ℕ) → (c ≡ d → a ≡ b) → (a ≡ b → c ≡ d) → (a ≡ b → o ≤ a) → eqb c d ≡ leb o a && eqb a b
both_as o a b c d f g h = go (eqb c d) refl
  where
    last : (t : Bool) → false ≡ t && false
    last true = refl
    last false = refl

    go : (t : Bool) → eqb c d ≡ t → t ≡ leb o a && eqb a b
    go true e = let q = f (eqb-true c d e) in rw (le-leb o a (h q), eq-eqb a b q)
    go false e = rw (ne_eqb a b (λ q. eqb-false c d e (g q))) (last (leb o a))

fixed_is : (o w n t : ℕ) {k : ℕ} {r : Reads Site} → ((x : ℕ) → count_by w x ≡ n) → suc k ≡ o + 2 * n + t → Fixed k r → Sorted o w t r
unfolding test
fixed_is o w n t {k} {r} c e f =
    record {
      is = λ x s. there_at k s (r s) (f.takes s)
          ∙ rw (c (get_or (x ∷ s) (o - 1) 0)) (both_as o (suc (length s)) (o + 2 * n + t) (length s) k (λ q. omega arith) (λ q. omega arith) (λ q. omega arith));
    }

none_is : (o t : ℕ) {k : ℕ} {r : Reads Site} → suc k ≡ o + 2 * 0 + t → Fixed k r → Sorted o 0 t r
none_is o t e f = fixed_is o 0 0 t (λ x. refl) e f

one_is : (o t : ℕ) {k : ℕ} {r : Reads Site} → suc k ≡ o + 2 * 1 + t → Fixed k r → Sorted o 1 t r
one_is o t e f = fixed_is o 1 1 t (λ x. refl) e f

test_list : (j x : ℕ) (s : List ℕ) → test (suc (suc j)) 2 0 (x ∷ s) ≡ leb (suc (suc j)) (suc (length s)) && eqb (suc (length s)) (suc (suc j) + 2 * get_or s j 0 + 0)
unfolding test
test_list j x s = let e : suc (suc j) - 1 ≡ suc j = omega arith in rw e

-- a map of what was read changes nothing of how much
there_map : {A : Type 0} (f : A → Site) (k : ℕ) (s : List ℕ) (o : Option (A × List ℕ)) → FixedAt k s o → FixedAt k s (then_read (λ a. give (f a)) o)
there_map f k s none h = h
there_map f k s (some p) h = h

list_end : (j x : ℕ) (s : List ℕ) (f : List ℕ → Site) (rest : List ℕ) → j ≤ length s → rest ≡ drop j s → is_there (whole (then_read (λ a. give (f a)) (source_list rest))) ≡ test (suc (suc j)) 2 0 (x ∷ s)
unfolding source_list is_there
list_end j x s f [] l e =
    let m = ap length e ∙ length-drop j s in
    rw (test_list j x s, lt-leb (suc (suc j)) (suc (length s)) (omega arith))
list_end j x s f (c ∷ t) l e =
    let m : suc (length t) ≡ length s - j = ap length e ∙ length-drop j s in
    let g : c ≡ get_or s (j + 0) 0 = ap (λ u. get_or u 0 0) e ∙ get_or-drop j s 0 0 in
    let i : j + 0 ≡ j = omega arith in
    let v : c ≡ get_or s j 0 = rw i at g in
    let w = there_at (c * 2) t (then_read (λ a. give (f a)) (sites_read c t)) (there_map f (c * 2) t (sites_read c t) (sites_takes c t)) in
    rw (test_list j x s) (w ∙ both_as (suc (suc j)) (suc (length s)) (suc (suc j) + 2 * get_or s j 0 + 0) (length t) (c * 2) (λ q. omega arith) (λ q. omega arith) (λ q. omega arith))

list_is : {j : ℕ} {p : Reads (List ℕ → Site)} → Fixed j p → Sorted (suc (suc j)) 2 0 (p & source_list)
unfolding is_there
list_is {j} {p} f = record { is = λ x s. go x s (p s) (f.takes s) }
  where
    go : (x : ℕ) (s : List ℕ) (o : Option ((List ℕ → Site) × List ℕ)) → FixedAt j s o → is_there (whole (then_read (λ h rest. then_read (λ a. give (h a)) (source_list rest)) o)) ≡ test (suc (suc j)) 2 0 (x ∷ s)
    go x s none w = rw (test_list j x s, lt-leb (suc (suc j)) (suc (length s)) (omega arith), is_there)
    go x s (some q) w = list_end j x s q.0 q.1 w.0 w.1

-- ---- the 14 kinds. Kind 0 has a bool, and stands apart.
abbrev Rows : List ℕ → List ℕ → List ℕ → List (Reads Site) → Type 0
Rows [] ws ts rs = Unit {0}
Rows (o ∷ os) [] ts rs = Unit {0}
Rows (o ∷ os) (w ∷ ws) [] rs = Unit {0}
Rows (o ∷ os) (w ∷ ws) (t ∷ ts) [] = Unit {0}
Rows (o ∷ os) (w ∷ ws) (t ∷ ts) (r ∷ rs) = Sorted o w t r × Rows os ws ts rs

rows_at : (os ws ts : List ℕ) (rs : List (Reads Site)) → Rows os ws ts rs → (k : ℕ) → k < length os → k < length ws → k < length ts → k < length rs → Sorted (get_or os k 0) (get_or ws k 0) (get_or ts k 0) (get_or rs k refuse)
rows_at (o ∷ os) (w ∷ ws) (t ∷ ts) (r ∷ rs) h zero a b c d = h.0
rows_at (o ∷ os) (w ∷ ws) (t ∷ ts) (r ∷ rs) h (suc k) a b c d = rows_at os ws ts rs h.1 k (omega arith) (omega arith) (omega arith) (omega arith)
rows_at [] ws ts rs h k a b c d = absurd (omega arith)
rows_at (o ∷ os) [] ts rs h k a b c d = absurd (omega arith)
rows_at (o ∷ os) (w ∷ ws) [] rs h k a b c d = absurd (omega arith)
rows_at (o ∷ os) (w ∷ ws) (t ∷ ts) [] h k a b c d = absurd (omega arith)

rows : Rows (drop 1 offs) (drop 1 ways) (drop 1 tails) (drop 1 site_readers)
unfolding site_readers
rows =
    let two = fixed_number 2 in
    let four = fixed_number 4 in
    let eight = fixed_number 8 in (
      none_is 19 0 refl (fixed_and (fixed_and (fixed_and (fixed_give const_int) two) eight) eight),
      (
        none_is 3 0 refl (fixed_and (fixed_give const_prim) two),
        (
          none_is 2 0 refl (fixed_and (fixed_give argument) fixed_byte),
          (
            one_is 3 0 refl (fixed_and (fixed_and (fixed_give extractor) two) two),
            (
              list_is (fixed_and (fixed_and (fixed_give constructor) two) four),
              (
                one_is 1 0 refl (fixed_and (fixed_give iterator) two),
                (
                  list_is (fixed_and (fixed_and (fixed_give make_variant) two) two),
                  (
                    one_is 1 3 refl (fixed_and (fixed_and (fixed_and (fixed_give match_variant) two) two) fixed_byte),
                    (
                      list_is (fixed_and (fixed_give make_struct) two),
                      (
                        one_is 1 1 refl (fixed_and (fixed_and (fixed_give extract_struct) two) fixed_byte),
                        (
                          one_is 1 0 refl (fixed_and (fixed_give make_some) two),
                          (
                            one_is 1 0 refl (fixed_and (fixed_give match_some) two),
                            (
                              one_is 1 1 refl (fixed_and (fixed_and (fixed_give match_tuple) two) fixed_byte),
                              tt,
                            ),
                          ),
                        ),
                      ),
                    ),
                  ),
                ),
              ),
            ),
          ),
        ),
      ),
    )

tested : (k : ℕ) (s : List ℕ) → suc k < 14 → is_body (suc k ∷ s) ≡ leb (off_of (suc k ∷ s)) (length (suc k ∷ s)) && eqb (length (suc k ∷ s)) (off_of (suc k ∷ s) + 2 * many_of (suc k ∷ s) + tail_of (suc k ∷ s))
unfolding is_body site_read site_readers test off_of many_of tail_of
tested k s l = (rows_at (drop 1 offs) (drop 1 ways) (drop 1 tails) (drop 1 site_readers) rows k (omega arith) (omega arith) (omega arith) (omega arith)).is (suc k) s

bool_tested : (s : List ℕ) → is_body (0 ∷ s) ≡ eqb (length (0 ∷ s)) 4 && ltb (get_or (0 ∷ s) 3 0) 2
unfolding is_body is_there site_read site_readers bool_byte number_from
bool_tested [] = refl
bool_tested (a ∷ []) = refl
bool_tested (a ∷ b ∷ []) = refl
bool_tested (a ∷ b ∷ c ∷ []) = go (ltb c 2) refl
  where
    go : (t : Bool) → ltb c 2 ≡ t → is_there (whole ((give const_bool & two_bytes & bool_byte) (a ∷ b ∷ c ∷ []))) ≡ ltb c 2
    go true e = rw e
    go false e = rw e
bool_tested (a ∷ b ∷ c ∷ d ∷ s) = go (ltb c 2) refl
  where
    go : (t : Bool) → ltb c 2 ≡ t → is_there (whole ((give const_bool & two_bytes & bool_byte) (a ∷ b ∷ c ∷ d ∷ s))) ≡ eqb (length (0 ∷ a ∷ b ∷ c ∷ d ∷ s)) 4 && ltb c 2
    go true e = rw (e, ne_eqb (length (0 ∷ a ∷ b ∷ c ∷ d ∷ s)) 4 (λ q. omega arith))
    go false e = rw (e, ne_eqb (length (0 ∷ a ∷ b ∷ c ∷ d ∷ s)) 4 (λ q. omega arith))

-- ---- what each test of the code shows
pub is_past : (b : List ℕ) → 14 ≤ get_or b 0 0 → is_body b ≡ false
unfolding is_body is_there site_read site_readers
is_past [] l = absurd (omega arith)
is_past (k ∷ s) l = rw (get_or-eq_default site_readers refuse l)

and_false : (t : Bool) → t && false ≡ false
and_false true = refl
and_false false = refl

module _ (b : List ℕ) (l : get_or b 0 0 < 14) where
  pub is_wrong : (length b ≡ off_of b + 2 * many_of b + tail_of b → ⊥) → is_body b ≡ false
  unfolding off_of many_of tail_of is_body is_there site_read
  is_wrong e = go b l e
    where
      go : (b : List ℕ) → get_or b 0 0 < 14 → (length b ≡ off_of b + 2 * many_of b + tail_of b → ⊥) → is_body b ≡ false
      go [] l e = refl
      go (zero ∷ s) l e = bool_tested s ∙ rw (ne_eqb (length (0 ∷ s)) 4 e)
      go (suc k ∷ s) l e = tested k s l ∙ rw (ne_eqb (length (suc k ∷ s)) _ e) (and_false (leb (off_of (suc k ∷ s)) (length (suc k ∷ s))))

  module _ (e : length b ≡ off_of b + 2 * many_of b + tail_of b) where
    pub is_bool : get_or b 0 0 ≡ 0 → is_body b ≡ ltb (get_or b 3 0) 2
    unfolding off_of many_of tail_of
    is_bool z = go b e z
      where
        go : (b : List ℕ) → length b ≡ off_of b + 2 * many_of b + tail_of b → get_or b 0 0 ≡ 0 → is_body b ≡ ltb (get_or b 3 0) 2
        go [] e z = absurd (omega arith)
        go (zero ∷ s) e z = bool_tested s ∙ rw (eq-eqb (length (0 ∷ s)) 4 e)
        go (suc k ∷ s) e z = absurd (omega arith)

    pub is_right : (get_or b 0 0 ≡ 0 → ⊥) → is_body b ≡ true
    is_right z = go b l e z
      where
        go : (b : List ℕ) → get_or b 0 0 < 14 → length b ≡ off_of b + 2 * many_of b + tail_of b → (get_or b 0 0 ≡ 0 → ⊥) → is_body b ≡ true
        go [] l e z = absurd (z refl)
        go (zero ∷ s) l e z = absurd (z refl)
        go (suc k ∷ s) l e z =
            tested k s l ∙ rw (le-leb (off_of (suc k ∷ s)) (length (suc k ∷ s)) (omega arith), eq-eqb (length (suc k ∷ s)) _ e)
