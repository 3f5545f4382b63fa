-- What was held is read back, and the rule that is handed over has the items in order.
use mathlib.Core.Path.{◌≡◌, refl, sym, ap, ◌∙◌}
use mathlib.Core.Bool.{Bool, true, false, ◌&&◌}
use mathlib.Core.List.Memᴰ
use mathlib.Core.List.{List, [], ◌∷◌, ◌++◌, map, Memᴰ}
use mathlib.Core.Logic.{⊎_elim}
use Prim.Native.Nat.{ℕ, zero, suc, ◌+◌, ◌*◌, ◌/◌, ◌%◌, ◌≤◌, ◌<◌, min}
use native.Mathlib.Omega.{arith}
use lib.ListN.{length, get_or, set, take, length-set, length-replicate}
use lib.Seq.{get_or-set_same, get_or-set_other}
use lib.Dec.{eqb, leb, ltb}
use borrow.Author.Tests.{le-leb, lt-leb, lt-ltb, le-ltb, ltb-true, leb-true, leb-false}
use Rattle.paper.specs.declared.Constraint.{Constraint}
use Rattle.paper.specs.declared.Constraint.TheVariants.{Variant, Struct, ConstBool, ConstInt, ConstPrim, Some}
use Rattle.paper.specs.declared.Item.{Item}
use Rattle.paper.specs.declared.Item.TheVariants.{Is, Equal}
use Rattle.paper.specs.declared.Entry.{Entry}
use Rattle.std.specs.Prelude.{if◌then◌else◌}
use Rattle.paper.specs.Numbers.{max_items}
use Rattle.paper.specs.Loading.{written}
use Rattle.rule_words.specs.Packing.{head, second, third, unpack, narrow, InRange}
use Rattle.rule_words.specs.Stored.{put_four, run}
use Rattle.rule_words.proofs.PackLaws.{unpack_pack, narrow_same}
use Rattle.rule_words.proofs.StoreLaws.{run_same}
use Rattle.item_words.specs.Items.{Ranged, put_words, put_item, item_of, item_at, items_in, entries_in, rule_in}

-- ---- four words
module _ (ws : List ℕ) (p a b c d : ℕ) where
  pub short_words : length ws < p + 4 → ws ≡ put_words ws p a b c d
  unfolding put_words
  short_words h = rw (lt-leb (p + 4) (length ws) h)

  pub long_words : p + 4 ≤ length ws → set (set (set (set ws p a) (p + 1) b) (p + 2) c) (p + 3) d ≡ put_words ws p a b c d
  unfolding put_words put_four
  long_words h = rw (le-leb (p + 4) (length ws) h)

  pub words_length : length (put_words ws p a b c d) ≡ length ws
  unfolding put_words put_four
  words_length = go (leb (p + 4) (length ws))
    where
      go : (t : Bool) → length (if t then set (set (set (set ws p a) (p + 1) b) (p + 2) c) (p + 3) d else ws) ≡ length ws
      go true = simp length-set
      go false = refl

-- ---- reading
module _ (ws : List ℕ) (k a b : ℕ) where
  pub is_item : (c d : ℕ) (x : Constraint) → a ≡ get_or ws (4 * k) 0 → b ≡ get_or ws (4 * k + 1) 0 → c ≡ get_or ws (4 * k + 2) 0 → d ≡ get_or ws (4 * k + 3) 0 → x ≡ narrow (unpack b c d) → a < 65536 → Is a x ≡ item_at ws k
  unfolding item_at item_of
  is_item c d x ea eb ec ed ex h = rw (← ea, ← eb, ← ec, ← ed, lt-ltb a 65536 h, ex)

  pub equal_item : a ≡ get_or ws (4 * k) 0 → b ≡ get_or ws (4 * k + 1) 0 → 65536 ≤ a → Equal (a % 65536) (b % 65536) ≡ item_at ws k
  unfolding item_at item_of
  equal_item ea eb h = rw (← ea, ← eb, le-ltb a 65536 h)

-- ---- holding
item_same : (v w : List ℕ) (k : ℕ) → ((q : ℕ) → 4 * k ≤ q → q < 4 * k + 4 → get_or v q 0 ≡ get_or w q 0) → item_at v k ≡ item_at w k
unfolding item_at
item_same v w k h = rw (h (4 * k) (omega arith) (omega arith), h (4 * k + 1) (omega arith) (omega arith), h (4 * k + 2) (omega arith) (omega arith), h (4 * k + 3) (omega arith) (omega arith))

run_last : {A : Type 0} (f : ℕ → A) (i n : ℕ) → run f i (suc n) ≡ run f i n ++ (f (i + n) ∷ [])
unfolding run
run_last f i zero = let e : i + 0 ≡ i = omega arith in rw e
run_last f i (suc n) = let e : i + suc n ≡ suc i + n = omega arith in rw e (ap (λ r. f i ∷ r) (run_last f (suc i) n))

module _ (ws : List ℕ) (k a b c d : ℕ) (l : 4 * k + 4 ≤ length ws) where
  abbrev there : List ℕ
  there = set (set (set (set ws (4 * k) a) (4 * k + 1) b) (4 * k + 2) c) (4 * k + 3) d

  four_read : item_at there k ≡ item_of a b c d
  unfolding item_at
  four_read =
      let w1 = set ws (4 * k) a in
      let w2 = set w1 (4 * k + 1) b in
      let w3 = set w2 (4 * k + 2) c in
      let e1 : get_or there (4 * k) 0 ≡ a = get_or-set_other w3 (4 * k + 3) (4 * k) d 0 (λ e. omega arith) ∙ (get_or-set_other w2 (4 * k + 2) (4 * k) c 0 (λ e. omega arith) ∙ (get_or-set_other w1 (4 * k + 1) (4 * k) b 0 (λ e. omega arith) ∙ get_or-set_same ws (4 * k) a 0 (omega arith))) in
      let e2 : get_or there (4 * k + 1) 0 ≡ b = get_or-set_other w3 (4 * k + 3) (4 * k + 1) d 0 (λ e. omega arith) ∙ (get_or-set_other w2 (4 * k + 2) (4 * k + 1) c 0 (λ e. omega arith) ∙ get_or-set_same w1 (4 * k + 1) b 0 (simp length-set (omega arith))) in
      let e3 : get_or there (4 * k + 2) 0 ≡ c = get_or-set_other w3 (4 * k + 3) (4 * k + 2) d 0 (λ e. omega arith) ∙ get_or-set_same w2 (4 * k + 2) c 0 (simp length-set (omega arith)) in
      let e4 : get_or there (4 * k + 3) 0 ≡ d = get_or-set_same w3 (4 * k + 3) d 0 (simp length-set (omega arith)) in
      rw (e1, e2, e3, e4)

  four_older : (q : ℕ) → q < 4 * k → get_or there q 0 ≡ get_or ws q 0
  four_older q h =
      let w1 = set ws (4 * k) a in
      let w2 = set w1 (4 * k + 1) b in
      let w3 = set w2 (4 * k + 2) c in
      get_or-set_other w3 (4 * k + 3) q d 0 (λ e. omega arith)
      ∙ (get_or-set_other w2 (4 * k + 2) q c 0 (λ e. omega arith)
      ∙ (get_or-set_other w1 (4 * k + 1) q b 0 (λ e. omega arith)
      ∙ get_or-set_other ws (4 * k) q a 0 (λ e. omega arith)))

  words_added : items_in (put_words ws (4 * k) a b c d) (suc k) ≡ items_in ws k ++ (item_of a b c d ∷ [])
  unfolding items_in
  words_added =
      let z : 0 + k ≡ k = omega arith in
      let h : run (item_at there) 0 k ≡ run (item_at ws) 0 k = run_same (item_at there) (item_at ws) 0 k (λ j o m. item_same there ws j (λ q x y. four_older q (omega arith))) in
      ap (λ w. run (item_at w) 0 (suc k)) (sym (long_words ws (4 * k) a b c d l)) ∙ (run_last (item_at there) 0 k ∙ rw (z, h, four_read))

held_is : (s : ℕ) (c : Constraint) → s < 65536 → InRange c → item_of s (head c) (second c) (third c) ≡ Is s c
unfolding item_of
held_is s c h r = rw (lt-ltb s 65536 h, unpack_pack c r, narrow_same c r)

held_equal : (a b : ℕ) → a < 65536 → b < 65536 → item_of (65536 + a) b 0 0 ≡ Equal a b
unfolding item_of
held_equal a b h l = let x : (65536 + a) % 65536 ≡ a = omega arith in let y : b % 65536 ≡ b = omega arith in rw (le-ltb (65536 + a) 65536 (omega arith), x, y)

-- one item more
pub item_held : (ws : List ℕ) (k : ℕ) (i : Item) → Ranged i → 4 * k + 4 ≤ length ws → items_in (put_item ws k i) (suc k) ≡ items_in ws k ++ (i ∷ [])
item_held ws k (Is s c) r l = words_added ws k s (head c) (second c) (third c) l ∙ ap (λ x. items_in ws k ++ (x ∷ [])) (held_is s c r.0 r.1)
item_held ws k (Equal a b) r l = words_added ws k (65536 + a) b 0 0 l ∙ ap (λ x. items_in ws k ++ (x ∷ [])) (held_equal a b r.0 r.1)

pub item_length : (ws : List ℕ) (k : ℕ) (i : Item) → length (put_item ws k i) ≡ length ws
item_length ws k (Is s c) = words_length ws (4 * k) s (head c) (second c) (third c)
item_length ws k (Equal a b) = words_length ws (4 * k) (65536 + a) b 0 0

run_length : {A : Type 0} (f : ℕ → A) (i n : ℕ) → length (run f i n) ≡ n
unfolding run
run_length f i zero = refl
run_length f i (suc n) = ap suc (run_length f (suc i) n)

run_at : {A : Type 0} (f : ℕ → A) (i n j : ℕ) (d : A) → j < n → get_or (run f i n) j d ≡ f (i + j)
unfolding run
run_at f i zero j d h = absurd (omega arith)
run_at f i (suc n) zero d h = let e : i + 0 ≡ i = omega arith in rw e
run_at f i (suc n) (suc j) d h = let e : i + suc j ≡ suc i + j = omega arith in rw e (run_at f (suc i) n j d (omega arith))

pub items_length : (ws : List ℕ) (n : ℕ) → length (items_in ws n) ≡ n
unfolding items_in
items_length ws n = run_length (item_at ws) 0 n

pub items_read : (ws : List ℕ) (n i : ℕ) (d : Item) → i < n → get_or (items_in ws n) i d ≡ item_at ws i
unfolding items_in
items_read ws n i d h = let e : 0 + i ≡ i = omega arith in rw e at (run_at (item_at ws) 0 n i d h)

pub no_items : (ws : List ℕ) → items_in ws 0 ≡ []
unfolding items_in run
no_items ws = refl

-- ---- the rule that is handed over
entries_length : (ws : List ℕ) (n : ℕ) → length (entries_in ws n) ≡ max_items
unfolding entries_in
entries_length ws zero = length-replicate {A = Entry} max_items (record { item = Equal 0 0 })
entries_length ws (suc n) = length-set (entries_in ws n) n (record { item = item_at ws n }) ∙ entries_length ws n

map_set : (xs : List Entry) (k : ℕ) (e : Entry) → map (λ x. x.item) (set xs k e) ≡ set (map (λ x. x.item) xs) k e.item
map_set [] k e = refl
map_set (x ∷ xs) zero e = refl
map_set (x ∷ xs) (suc k) e = ap (λ r. x.item ∷ r) (map_set xs k e)

length_map : (xs : List Entry) → length (map (λ x. x.item) xs) ≡ length xs
length_map [] = refl
length_map (x ∷ xs) = ap suc (length_map xs)

take_set : {A : Type 0} (xs : List A) (k : ℕ) (a : A) → k < length xs → take (suc k) (set xs k a) ≡ take k xs ++ (a ∷ [])
take_set [] k a h = absurd (omega arith)
take_set (x ∷ xs) zero a h = refl
take_set (x ∷ xs) (suc k) a h = ap (λ r. x ∷ r) (take_set xs k a (omega arith))

entries_are : (ws : List ℕ) (n : ℕ) → n ≤ max_items → take n (map (λ x. x.item) (entries_in ws n)) ≡ items_in ws n
unfolding items_in entries_in run
entries_are ws zero h = refl
entries_are ws (suc n) h =
    let xs = map (λ x. x.item) (entries_in ws n) in
    let l = entries_length ws n in
    let m = length_map (entries_in ws n) in
    let z : 0 + n ≡ n = omega arith in
    ap (take (suc n)) (map_set (entries_in ws n) n (record { item = item_at ws n }))
    ∙ (take_set xs n (item_at ws n) (omega arith) ∙ (ap (λ r. r ++ (item_at ws n ∷ [])) (entries_are ws n (omega arith)) ∙ sym (run_last (item_at ws) 0 n ∙ rw z)))

take_all : {A : Type 0} (xs : List A) (n : ℕ) → length xs ≤ n → take n xs ≡ take (length xs) xs
take_all [] zero h = refl
take_all [] (suc n) h = refl
take_all (x ∷ xs) zero h = absurd (omega arith)
take_all (x ∷ xs) (suc n) h = ap (λ r. x ∷ r) (take_all xs n (omega arith))

-- the items of a rule that announces n: those that were held
held_few : (ws : List ℕ) (n : ℕ) → take n (map (λ x. x.item) (entries_in ws (min n max_items))) ≡ items_in ws (min n max_items)
held_few ws n = go (leb n max_items) refl
  where
    go : (t : Bool) → leb n max_items ≡ t → take n (map (λ x. x.item) (entries_in ws (min n max_items))) ≡ items_in ws (min n max_items)
    go true e =
        let l = leb-true n max_items e in
        let m : min n max_items ≡ n = omega arith in
        rw m (entries_are ws n l)
    go false e =
        let l = leb-false n max_items e in
        let m : min n max_items ≡ max_items = omega arith in
        let xs = map (λ x. x.item) (entries_in ws max_items) in
        let k : length xs ≡ max_items = length_map (entries_in ws max_items) ∙ entries_length ws max_items in
        rw m (take_all xs n (omega arith) ∙ (ap (λ i. take i xs) k ∙ entries_are ws max_items (omega arith)))

pub rule_written : (ws : List ℕ) (p q n : ℕ) → written (rule_in ws p q n) ≡ record { place = p; priority = q; count = n; items = items_in ws (min n max_items) }
unfolding rule_in
rule_written ws p q n = rw (held_few ws n)

-- ---- what is read is in range
narrow_ranged : (a b c : ℕ) → InRange (narrow (unpack a b c))
unfolding unpack
narrow_ranged a b c = go (eqb (a / 65536) 1 && eqb c 0) (eqb (a / 65536) 2 && (ltb b 2 && eqb c 0)) (eqb (a / 65536) 3) (eqb (a / 65536) 4 && (eqb b 0 && eqb c 0)) (eqb (a / 65536) 5 && (eqb (a % 65536) 0 && (eqb b 0 && eqb c 0)))
  where
    go : (v w x y z : Bool) → InRange (narrow (if v then Struct (a % 65536) b else (if w then ConstBool (a % 65536) (eqb b 1) else (if x then ConstInt (a % 65536) b c else (if y then ConstPrim (a % 65536) else (if z then Some else Variant a b c))))))
    go true w x y z = (omega arith, omega arith)
    go false true x y z = omega arith
    go false false true y z = omega arith
    go false false false true z = omega arith
    go false false false false true = tt
    go false false false false false = (omega arith, (omega arith, omega arith))

item_ranged : (a b c d : ℕ) → Ranged (item_of a b c d)
unfolding item_of
item_ranged a b c d = go (ltb a 65536) refl
  where
    go : (t : Bool) → ltb a 65536 ≡ t → Ranged (if t then Is a (narrow (unpack b c d)) else Equal (a % 65536) (b % 65536))
    go true e = (ltb-true a 65536 e, narrow_ranged b c d)
    go false e = (omega arith, omega arith)

walk : (ws : List ℕ) (i : Item) → ((k : ℕ) → i ≡ item_at ws k → Ranged i) → (j n : ℕ) → Memᴰ i (run (item_at ws) j n) → Ranged i
unfolding run
walk ws i f j zero m = absurd (Memᴰ.not-nil m)
walk ws i f j (suc n) m = ⊎_elim (λ e. f j e) (λ r. walk ws i f (suc j) n r) (Memᴰ.cases_cons m)

pub items_ranged : (ws : List ℕ) (n : ℕ) (i : Item) → Memᴰ i (items_in ws n) → Ranged i
unfolding items_in item_at
items_ranged ws n i m = go 0 n m
  where
    at : (k : ℕ) → i ≡ item_at ws k → Ranged i
    at k e = rw e (item_ranged (get_or ws (4 * k) 0) (get_or ws (4 * k + 1) 0) (get_or ws (4 * k + 2) 0) (get_or ws (4 * k + 3) 0))

    go : (j n : ℕ) → Memᴰ i (run (item_at ws) j n) → Ranged i
    go j n m = walk ws i at j n m
