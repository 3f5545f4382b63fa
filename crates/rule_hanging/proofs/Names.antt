-- The sites that items name, and the items that words hold.
use mathlib.Core.Path.{◌≡◌, refl, sym, ◌∙◌, ap}
use mathlib.Core.Option.{Option, none, some}
use mathlib.Core.List.{List, [], ◌∷◌, ◌++◌, Memᴰ}
use Prim.Native.Nat.{ℕ, ◌+◌, ◌<◌}
use native.Mathlib.Omega.{arith}
use native.Mathlib.Numerals.{add-one}
use lib.ListN.{length, get_or, take, drop, take-append-drop}
use lib.Seq.{take-suc}
use Rattle.std.specs.declared.option.Option.TheVariants.{None, Some}
use Rattle.paper.specs.declared.Constraint.TheVariants.{Variant}
use Rattle.paper.specs.declared.Item.{Item}
use Rattle.paper.specs.declared.Item.TheVariants.{Is, Equal}
use Rattle.item_words.specs.Items.{item_at, items_in as held_items}
use Rattle.item_words.proofs.Laws.{items_read}
use Rattle.rule_hanging.specs.Seen.{names}
use Rattle.paper.specs.Answered.{Maybe}
use Rattle.rule_lists.specs.Entries.{found_as}

-- ---- items

pub held_read : (ws : List ℕ) (n i : ℕ) (it : Item) → i < n → it ≡ item_at ws i → get_or (held_items ws n) i (Is 0 (Variant 0 0 0)) ≡ it
held_read ws n i it l e = items_read ws n i (Is 0 (Variant 0 0 0)) l ∙ sym e

-- ---- names

pub names_on : (xs ys : List Item) (ns : List ℕ) → names (xs ++ ys) ns ≡ names ys (names xs ns)
names_on [] ys ns = refl
names_on (Is s c ∷ xs) ys ns = names_on xs ys (s ∷ ns)
names_on (Equal a b ∷ xs) ys ns = names_on xs ys (a ∷ b ∷ ns)

pub names_next : (items : List Item) (i : ℕ) (it : Item) → i < length items → get_or items i (Is 0 (Variant 0 0 0)) ≡ it → names (take (i + 1) items) [] ≡ names (it ∷ []) (names (take i items) [])
names_next items i it h e =
    ap (λ k. names (take k items) []) (add-one i) ∙ ap (λ l. names l []) (take-suc items i (Is 0 (Variant 0 0 0)) h) ∙ names_on (take i items) (get_or items i (Is 0 (Variant 0 0 0)) ∷ []) [] ∙ ap (λ x. names (x ∷ []) (names (take i items) [])) e

pub names_keep : (ys : List Item) (ns : List ℕ) (x : ℕ) → Memᴰ x ns → Memᴰ x (names ys ns)
names_keep [] ns x m = m
names_keep (Is s c ∷ ys) ns x m = names_keep ys (s ∷ ns) x (Memᴰ.tail m)
names_keep (Equal a b ∷ ys) ns x m = names_keep ys (a ∷ b ∷ ns) x (Memᴰ.tail (Memᴰ.tail m))

pub names_part : (items : List Item) (i x : ℕ) → Memᴰ x (names (take i items) []) → Memᴰ x (names items [])
names_part items i x m =
    let e : names items [] ≡ names (drop i items) (names (take i items) []) = ap (λ l. names l []) (sym (take-append-drop i items)) ∙ names_on (take i items) (drop i items) [] in
    rw e (names_keep (drop i items) (names (take i items) []) x m)

-- ---- what was looked for

pub found_nothing : (o : Option ℕ) (f : Maybe ℕ) → f ≡ found_as o → f ≡ None → o ≡ none
found_nothing none f p q = refl
found_nothing (some k) f p q = let z : ◌≡◌ {A = ℕ} 0 1 = cc in absurd (omega arith)

pub found_there : (o : Option ℕ) (f : Maybe ℕ) (row : ℕ) → f ≡ found_as o → f ≡ Some row → o ≡ some row
found_there none f row p q = let z : ◌≡◌ {A = ℕ} 0 1 = cc in absurd (omega arith)
found_there (some k) f row p q = let z : k ≡ row = cc in ap some z
