-- Check 5: whether a site hangs, and the lowest that does.
use mathlib.Core.Path.{◌≡◌, refl, sym, ◌∙◌, ap}
use mathlib.Core.Bool.{Bool, true, false, not}
use mathlib.Core.Option.{Option, none, some}
use mathlib.Core.List.Memᴰ
use mathlib.Core.List.{List, [], ◌∷◌}
use Prim.Native.Nat.{ℕ, ◌+◌, ◌*◌, ◌≤◌, ◌<◌, min}
use native.Mathlib.Omega.{arith}
use lib.ListN.{length, get_or, take}
use lib.Seq.{take_all}
use Rattle.std.specs.declared.option.Option.TheVariants.{None, Some}
use Rattle.paper.specs.declared.Constraint.{Constraint}
use Rattle.paper.specs.Answered.{Maybe}
use Rattle.paper.specs.declared.Item.{Item}
use Rattle.paper.specs.declared.Item.TheVariants.{Is, Equal}
use Rattle.paper.specs.declared.Constraint.TheVariants.{Variant}
use Rattle.paper.specs.Words.{or_else, any, keep, least, look}
use Rattle.paper.specs.Sites.{parent, children, same_site, site_at}
use Rattle.paper.specs.Loading.{Loading, has_child, hangs}
use Rattle.rule_words.specs.Packing.{unpack, narrow, InRange}
use Rattle.rule_words.specs.Stored.{constraint_at}
use Rattle.rule_words.proofs.PackLaws.{narrow_same}
use Rattle.rule_children.specs.Tail.{site_of_word, Spelt, site_there}
use Rattle.rule_children.proofs.WordLaws.{word_parent, word_orphan, spelt_as}
use Rattle.rule_rows.specs.Holding.{shape_in}
use Rattle.rule_lists.specs.Entries.{entries, found_as}
use Rattle.rule_lists.proofs.Placing.{look_none}
use Rattle.rule_hanging.specs.Seen.{shown, names, Sees, Known}
use Rattle.rule_hanging.proofs.Showing.{look_shown, with, found_stands}
use Rattle.rule_hanging.proofs.Names.{found_nothing, found_there, names_next, names_part}

module _ (m : List ℕ) (n : ℕ) (tail sites rows words : List ℕ) (held : ℕ) (l : Loading) (X : Sees m n tail sites rows words held l) (x w : ℕ) (hx : x < length l.sites) (sp : Spelt (site_there m n tail x) w) where
  spelt : Spelt (site_at l.sites x) w
  spelt = spelt_as (site_there m n tail x) (site_at l.sites x) w (sym (X.site x hx)) sp

  pub hangs_none : w ≡ 0 → false ≡ hangs l x
  unfolding hangs
  hangs_none e =
      let s : Spelt (site_at l.sites x) 0 = rw e at spelt in
      rw (word_orphan (site_at l.sites x) s)

  module _ (d : w ≡ 0 → ⊥) (p : ℕ) (ep : p ≡ or_else (parent (site_of_word w)) 0) where
    positive : 0 < w
    positive = let z = d in omega arith

    source : parent (site_at l.sites x) ≡ some p
    source = word_parent (site_at l.sites x) w spelt positive ∙ ap some (sym ep)

    hangs_is : (o : Option Constraint) → look l.constraints p ≡ o → hangs l x ≡ not (has_child o p (site_at l.sites x))
    unfolding hangs
    hangs_is o e = rw (source, e)

    pub hangs_far : 65536 ≤ p → true ≡ hangs l x
    unfolding shown
    hangs_far h = sym (hangs_is none (ap (λ k. look k p) (sym X.constraints_are) ∙ look_none held (λ k. (get_or sites k 0, shape_in words (get_or rows k 0))) p (λ k q e. let z = X.small k q in omega arith)))

    module _ (f : Maybe ℕ) (ef : f ≡ found_as (look (entries sites rows held) p)) where
      looked : look l.constraints p ≡ with (shape_in words) (look (entries sites rows held) p)
      looked = ap (λ k. look k p) (sym X.constraints_are) ∙ look_shown sites rows words held p

      pub hangs_free : f ≡ None → true ≡ hangs l x
      hangs_free e = sym (hangs_is none (looked ∙ ap (with (shape_in words)) (found_nothing (look (entries sites rows held) p) f ef e)))

      pub hangs_held : (row k a b c : ℕ) (y : Constraint) (q : Bool) → f ≡ Some row → k ≡ 3 * row → a ≡ get_or words k 0 → b ≡ get_or words (k + 1) 0 → c ≡ get_or words (k + 2) 0 → y ≡ narrow (unpack a b c) → q ≡ any (same_site (site_of_word w)) (children p y) → not q ≡ hangs l x
      unfolding shape_in constraint_at
      hangs_held row k a b c y q e ek ea eb ec ey eq =
          let o = found_there (look (entries sites rows held) p) f row ef e in
          let st = found_stands sites rows held p row o in
          let rng : InRange (shape_in words row) = rw st.its_row at (X.range st.at st.among) in
          let ka : a ≡ get_or words (3 * row) 0 = ea ∙ ap (λ j. get_or words j 0) ek in
          let kb : b ≡ get_or words (3 * row + 1) 0 = eb ∙ ap (λ j. get_or words (j + 1) 0) ek in
          let kc : c ≡ get_or words (3 * row + 2) 0 = ec ∙ ap (λ j. get_or words (j + 2) 0) ek in
          let u : unpack a b c ≡ shape_in words row = rw (ka, kb, kc) in
          let v : y ≡ shape_in words row = ey ∙ ap narrow u ∙ narrow_same (shape_in words row) rng in
          let h = hangs_is (some (shape_in words row)) (looked ∙ ap (with (shape_in words)) o) in
          let g : q ≡ any (same_site (site_at l.sites x)) (children p (shape_in words row)) = eq ∙ ap (λ z. any (same_site z) (children p y)) (spelt.back positive) ∙ ap (λ z. any (same_site (site_at l.sites x)) (children p z)) v in
          ap not g ∙ sym h

-- ---- the lowest

module _ (p : ℕ → Bool) (x : ℕ) (ns : List ℕ) where
  kept_on : p x ≡ true → keep p (x ∷ ns) ≡ x ∷ keep p ns
  unfolding keep
  kept_on e = rw (e, keep)

  kept_off : p x ≡ false → keep p (x ∷ ns) ≡ keep p ns
  unfolding keep
  kept_off e = rw (e, keep)

  module _ (best : Maybe ℕ) (eb : best ≡ found_as (least (keep p ns))) where
    pub lower_off : p x ≡ false → best ≡ found_as (least (keep p (x ∷ ns)))
    lower_off e = eb ∙ ap (λ k. found_as (least k)) (sym (kept_off e))

    pub lower_first : p x ≡ true → best ≡ None → Some x ≡ found_as (least (keep p (x ∷ ns)))
    unfolding least
    lower_first e q = let o = found_nothing (least (keep p ns)) best eb q in sym (ap (λ k. found_as (least k)) (kept_on e) ∙ rw (o, least))

    pub lower_min : p x ≡ true → (y r : ℕ) → best ≡ Some y → r ≡ min y x → Some r ≡ found_as (least (keep p (x ∷ ns)))
    unfolding least
    lower_min e y r q h = let o = found_there (least (keep p ns)) best y eb q in let z : min x y ≡ r = omega arith in sym (ap (λ k. found_as (least k)) (kept_on e) ∙ rw (o, least) (ap Some z))

-- ---- an item, and all

abbrev Lowers : Maybe ℕ → ℕ → Bool → Maybe ℕ → Type 0
Lowers best x says r = (p : ℕ → Bool) (ns : List ℕ) → best ≡ found_as (least (keep p ns)) → says ≡ p x → r ≡ found_as (least (keep p (x ∷ ns)))

module _ (l : Loading) (ns : List ℕ) (it : Item) (best : Maybe ℕ) (K : Known l (names (it ∷ []) ns)) (eb : best ≡ found_as (least (keep (hangs l) ns))) where
  pub lowest_is : (s : ℕ) (c : Constraint) (says : Bool) (r : Maybe ℕ) → it ≡ Is s c → (s < length l.sites → says ≡ hangs l s) → Lowers best s says r → r ≡ found_as (least (keep (hangs l) (names (it ∷ []) ns)))
  lowest_is s c says r e h g =
      let n : names (it ∷ []) ns ≡ s ∷ ns = ap (λ x. names (x ∷ []) ns) e in
      let k : s < length l.sites = K s (rw n (Memᴰ.head refl)) in
      rw n (g (hangs l) ns eb (h k))

  pub lowest_equal : (a b : ℕ) (one says : Bool) (q r : Maybe ℕ) → it ≡ Equal a b → (b < length l.sites → one ≡ hangs l b) → Lowers best b one q → (a < length l.sites → says ≡ hangs l a) → Lowers q a says r → r ≡ found_as (least (keep (hangs l) (names (it ∷ []) ns)))
  lowest_equal a b one says q r e h g i j =
      let n : names (it ∷ []) ns ≡ a ∷ b ∷ ns = ap (λ x. names (x ∷ []) ns) e in
      let k : a < length l.sites = K a (rw n (Memᴰ.head refl)) in
      let m : b < length l.sites = K b (rw n (Memᴰ.tail (Memᴰ.head refl))) in
      rw n (j (hangs l) (b ∷ ns) (g (hangs l) ns eb (h m)) (i k))

pub lowest_none : (items : List Item) (l : Loading) → None ≡ found_as (least (keep (hangs l) (names (take 0 items) [])))
unfolding keep least
lowest_none items l = refl

pub lowest_step : (items : List Item) (i : ℕ) (it : Item) (l : Loading) (best r : Maybe ℕ) → i < length items → get_or items i (Is 0 (Variant 0 0 0)) ≡ it → Known l (names items []) → best ≡ found_as (least (keep (hangs l) (names (take i items) [])))
    → ((ns : List ℕ) → Known l (names (it ∷ []) ns) → best ≡ found_as (least (keep (hangs l) ns)) → r ≡ found_as (least (keep (hangs l) (names (it ∷ []) ns)))) → r ≡ found_as (least (keep (hangs l) (names (take (i + 1) items) [])))
lowest_step items i it l best r h e K eb g =
    let n = names_next items i it h e in
    rw n (g (names (take i items) []) (λ x m. K x (names_part items (i + 1) x (rw n m))) eb)

pub lowest_all : (items : List Item) (i : ℕ) (l : Loading) (best : Maybe ℕ) → length items ≤ i → best ≡ found_as (least (keep (hangs l) (names (take i items) []))) → best ≡ found_as (least (keep (hangs l) (names items [])))
lowest_all items i l best h e = e ∙ ap (λ x. found_as (least (keep (hangs l) (names x [])))) (take_all i items h)
