-- Words as laid out: the test says what the definition says, and of items that were held nothing changes.
use mathlib.Core.Path.{◌≡◌, refl, ap, ◌∙◌}
use mathlib.Core.Bool.{Bool, true, false, ◌&&◌}
use mathlib.Core.Logic.{◌↔◌}
use mathlib.Core.List.{List, [], ◌∷◌}
use Prim.Native.Nat.{ℕ, zero, suc, ◌+◌, ◌-◌, ◌/◌, ◌%◌, ◌≤◌, ◌<◌}
use native.Mathlib.Omega.{arith}
use lib.Dec.{eqb, ltb}
use borrow.Author.Tests.{eqb-true, eqb-false, lt-ltb, le-ltb, ltb-true}
use Rattle.paper.specs.declared.Constraint.{Constraint}
use Rattle.paper.specs.declared.Constraint.TheVariants.{Variant, Struct, ConstBool, ConstInt, ConstPrim, Some}
use Rattle.paper.specs.declared.Item.{Item}
use Rattle.paper.specs.declared.Item.TheVariants.{Is, Equal}
use Rattle.std.specs.Prelude.{if◌then◌else◌}
use Rattle.paper.specs.Words.{same_list}
use Rattle.paper.proofs.Laws.{same_list_true, same_list_refl}
use Rattle.rule_words.specs.Packing.{head, second, third, unpack, narrow, InRange}
use Rattle.item_words.specs.Items.{Ranged, item_of}
use Rattle.item_layout.specs.Layout.{packed, LaidOut, laid, laid_out, stray_from, stray, First}
use Rattle.rule_words.proofs.PackLaws.{unpack_pack, narrow_same}

-- ---- what an item packs to is read as it, and what is read is in range
held_is : (s : ℕ) (c : Constraint) → s < 65536 → InRange c → item_of s (head c) (second c) (third c) ≡ Is s c
unfolding item_of
held_is s c h r = rw (lt-ltb s 65536 h, unpack_pack c r, narrow_same c r)

held_equal : (a b : ℕ) → a < 65536 → b < 65536 → item_of (65536 + a) b 0 0 ≡ Equal a b
unfolding item_of
held_equal a b h l = let x : (65536 + a) % 65536 ≡ a = omega arith in let y : b % 65536 ≡ b = omega arith in rw (le-ltb (65536 + a) 65536 (omega arith), x, y)

narrow_ranged : (a b c : ℕ) → InRange (narrow (unpack a b c))
unfolding unpack
narrow_ranged a b c = go (eqb (a / 65536) 1 && eqb c 0) (eqb (a / 65536) 2 && (ltb b 2 && eqb c 0)) (eqb (a / 65536) 3) (eqb (a / 65536) 4 && (eqb b 0 && eqb c 0)) (eqb (a / 65536) 5 && (eqb (a % 65536) 0 && (eqb b 0 && eqb c 0)))
  where
    go : (v w x y z : Bool) → InRange (narrow (if v then Struct (a % 65536) b else (if w then ConstBool (a % 65536) (eqb b 1) else (if x then ConstInt (a % 65536) b c else (if y then ConstPrim (a % 65536) else (if z then Some else Variant a b c))))))
    go true w x y z = (omega arith, omega arith)
    go false true x y z = omega arith
    go false false true y z = omega arith
    go false false false true z = omega arith
    go false false false false true = tt
    go false false false false false = (omega arith, (omega arith, omega arith))

item_ranged : (a b c d : ℕ) → Ranged (item_of a b c d)
unfolding item_of
item_ranged a b c d = go (ltb a 65536) refl
  where
    go : (t : Bool) → ltb a 65536 ≡ t → Ranged (if t then Is a (narrow (unpack b c d)) else Equal (a % 65536) (b % 65536))
    go true e = (ltb-true a 65536 e, narrow_ranged b c d)
    go false e = (omega arith, omega arith)

-- ---- the test and the definition

-- what packs to the words is what they are read as
pub read_back : (i : Item) (a b c d : ℕ) → Ranged i → packed i ≡ (a ∷ b ∷ c ∷ d ∷ []) → item_of a b c d ≡ i
read_back (Is s k) a b c d r e =
    let x : a ≡ s = cc in
    let y : b ≡ head k = cc in
    let z : c ≡ second k = cc in
    let w : d ≡ third k = cc in
    rw (x, y, z, w) (held_is s k r.0 r.1)
read_back (Equal s t) a b c d r e =
    let x : a ≡ 65536 + s = cc in
    let y : b ≡ t = cc in
    let z : c ≡ 0 = cc in
    let w : d ≡ 0 = cc in
    rw (x, y, z, w) (held_equal s t r.0 r.1)

pub laid_true : (a b c d : ℕ) → LaidOut a b c d → laid a b c d ≡ true
unfolding laid
laid_true a b c d p =
    let i = read_back p.0 a b c d p.1 p.2 in
    let e : packed (item_of a b c d) ≡ (a ∷ b ∷ c ∷ d ∷ []) = ap packed i ∙ p.2 in
    ap (λ l. same_list l (a ∷ b ∷ c ∷ d ∷ [])) e ∙ same_list_refl (a ∷ b ∷ c ∷ d ∷ [])

pub true_laid : (a b c d : ℕ) → laid a b c d ≡ true → LaidOut a b c d
unfolding laid
true_laid a b c d e = (item_of a b c d, item_ranged a b c d, same_list_true (packed (item_of a b c d)) (a ∷ b ∷ c ∷ d ∷ []) e)

-- an item's words are as laid out exactly when packing some item gives them
pub laid_exactly : (a b c d : ℕ) → (laid a b c d ≡ true) ↔ LaidOut a b c d
laid_exactly a b c d = (true_laid a b c d, laid_true a b c d)

-- ---- the first that is not

module _ (ws : List ℕ) where
  pub stray_is : (k n : ℕ) → First ws k n (stray_from ws k n)
  unfolding stray_from
  stray_is k zero = record { least = omega arith; most = omega arith; before = λ i l m. absurd (omega arith); there = λ h. absurd (omega arith) }
  stray_is k (suc n) = go (laid_out ws k) refl (stray_is (suc k) n)
    where
      go : (t : Bool) → laid_out ws k ≡ t → First ws (suc k) n (stray_from ws (suc k) n) → First ws k (suc n) (if t then stray_from ws (suc k) n else k)
      go true e F = record {
        least = let l = F.least in omega arith;
        most = let m = F.most in omega arith;
        before = λ i l m. one i (eqb i k) refl l m;
        there = λ h. F.there (omega arith);
      }
        where
          one : (i : ℕ) (t : Bool) → eqb i k ≡ t → k ≤ i → i < stray_from ws (suc k) n → laid_out ws i ≡ true
          one i true q l m = rw (eqb-true i k q) e
          one i false q l m = let d = eqb-false i k q in F.before i (omega arith) m
      go false e F = record { least = omega arith; most = omega arith; before = λ i l m. absurd (omega arith); there = λ h. e }

-- the first of n items that is not as laid out, or n
pub first_stray : (ws : List ℕ) (n : ℕ) → First ws 0 n (stray ws n)
unfolding stray
first_stray ws n = stray_is ws 0 n

-- ---- what was held is as laid out, and is read as it was: on such words nothing changes
pub held_laid : (i : Item) (a b c d : ℕ) → Ranged i → packed i ≡ (a ∷ b ∷ c ∷ d ∷ []) → (laid a b c d ≡ true) × (item_of a b c d ≡ i)
held_laid i a b c d r e = (laid_true a b c d (i, r, e), read_back i a b c d r e)

-- ---- turns of the walk
module _ (ws : List ℕ) (n : ℕ) where
  pub walk_begins : stray_from ws 0 (n - 0) ≡ stray ws n
  unfolding stray
  walk_begins = let e : n - 0 ≡ n = omega arith in rw e

  pub walk_stops : (k : ℕ) → k < n → stray_from ws k (n - k) ≡ stray ws n → laid_out ws k ≡ false → k ≡ stray ws n
  unfolding stray_from
  walk_stops k h e f = let z : n - k ≡ suc (n - (k + 1)) = omega arith in rw (z, f) at e

  pub walk_goes : (k : ℕ) → k < n → stray_from ws k (n - k) ≡ stray ws n → laid_out ws k ≡ true → stray_from ws (k + 1) (n - (k + 1)) ≡ stray ws n
  unfolding stray_from
  walk_goes k h e f = let z : n - k ≡ suc (n - (k + 1)) = omega arith in let w : suc k ≡ k + 1 = omega arith in rw w at (rw (z, f) at e)

  pub walk_ends : (k : ℕ) → n ≤ k → k ≤ n → stray_from ws k (n - k) ≡ stray ws n → n ≡ stray ws n
  unfolding stray_from
  walk_ends k h l e = let z : n - k ≡ 0 = omega arith in let w : k ≡ n = omega arith in rw (z, w) at e
