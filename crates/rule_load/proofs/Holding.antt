-- The items of a rule, held as words one after the other, are what is written of it.
use mathlib.Core.Path.{◌≡◌, refl, sym, ap, ◌∙◌}
use mathlib.Core.List.{List, [], ◌∷◌, ◌++◌, map}
use Prim.Native.Nat.{ℕ, zero, suc, ◌+◌, ◌*◌, ◌≤◌, ◌<◌, min}
use native.Mathlib.Omega.{arith}
use native.Mathlib.Decide.{ℕ_discrete}
use native.Mathlib.Numerals.{add-one}
use lib.ListN.{length, get_or, take, length-map}
use lib.Seq.{take_all}
use mir.Val.{Val}
use denote.Laws.{Is}
use denote.Struct.Declared.{row}
use Rattle.paper.specs.declared.Entry.{Entry}
use Rattle.paper.specs.declared.Item.{Item}
use Rattle.paper.specs.declared.Rule.{Rule}
use Rattle.paper.specs.Numbers.{max_items}
use Rattle.paper.specs.Loading.{written}
use Rattle.paper.specs.contracts.Rule.{the_type}
use Rattle.item_words.specs.Items.{Ranged, put_item, items_in, rule_in}
use Rattle.item_words.proofs.Laws.{item_held, no_items, rule_written}

-- what the code's types say of a rule
pub rule_long : (r : Rule) (vs : List Val) → Is (row the_type) r vs → length r.entries ≡ max_items
rule_long r vs p = p.1.1.1.1.1.0.1.0.1

-- the first k items of a rule
abbrev pub first_items : Rule → ℕ → List Item
first_items r k = take k (map (λ x. x.item) r.entries)

one_more : (es : List Entry) (d : Entry) (k : ℕ) → k < length es → take (suc k) (map (λ x. x.item) es) ≡ take k (map (λ x. x.item) es) ++ ((get_or es k d).item ∷ [])
one_more [] d k h = absurd (omega arith)
one_more (x ∷ es) d zero h = refl
one_more (x ∷ es) d (suc k) h = ap (λ r. x.item ∷ r) (one_more es d k (omega arith))

module _ (r : Rule) where
  pub hold_none : (ws : List ℕ) → items_in ws 0 ≡ first_items r 0
  hold_none ws = no_items ws

  pub hold_more : (ws out : List ℕ) (k : ℕ) (d : Entry) (i : Item) → items_in ws k ≡ first_items r k → k < length r.entries → 4 * k + 4 ≤ length ws → i ≡ (get_or r.entries k d).item → Ranged i → out ≡ put_item ws k i → items_in out (k + 1) ≡ first_items r (k + 1)
  hold_more ws out k d i e h l f g o =
      let a : items_in (put_item ws k i) (suc k) ≡ items_in ws k ++ (i ∷ []) = item_held ws k i g l in
      rw add-one (ap (λ w. items_in w (suc k)) o ∙ (a ∙ (rw (e, f) (sym (one_more r.entries d k h)))))

  hold_few : (ws : List ℕ) (k : ℕ) → items_in ws k ≡ first_items r k → k ≤ max_items → k ≤ r.count → r.count ≤ k → items_in ws (min r.count max_items) ≡ (written r).items
  hold_few ws k e h l g =
      let a : min r.count max_items ≡ k = omega arith in
      let b : k ≡ r.count = omega arith in
      ap (items_in ws) a ∙ (e ∙ ap (first_items r) b)

  hold_all : (ws : List ℕ) (k : ℕ) → items_in ws k ≡ first_items r k → length r.entries ≡ max_items → k ≤ max_items → max_items ≤ k → k ≤ r.count → items_in ws (min r.count max_items) ≡ (written r).items
  hold_all ws k e n h l g =
      let a : min r.count max_items ≡ k = omega arith in
      let b = length-map r.entries (λ x. x.item) in
      ap (items_in ws) a ∙ (e ∙ (take_all k (map (λ x. x.item) r.entries) (omega arith) ∙ sym (take_all r.count (map (λ x. x.item) r.entries) (omega arith))))

  pub hold_end : (ws : List ℕ) (k : ℕ) → items_in ws k ≡ first_items r k → length r.entries ≡ max_items → k ≡ min r.count max_items → items_in ws (min r.count max_items) ≡ (written r).items
  hold_end ws k e n h = go (ℕ_discrete k r.count)
    where
      go : Dec (k ≡ r.count) → items_in ws (min r.count max_items) ≡ (written r).items
      go (yes q) = hold_few ws k e (omega arith) (omega arith) (omega arith)
      go (no q) = hold_all ws k e n (omega arith) (omega arith) (omega arith)

  -- so the rule that the words hold has the same written
  pub hold_same : (ws : List ℕ) → items_in ws (min r.count max_items) ≡ (written r).items → written r ≡ written (rule_in ws r.place r.priority r.count)
  hold_same ws e = sym (rule_written ws r.place r.priority r.count ∙ ap (λ (l : List Item). record { place = r.place; priority = r.priority; count = r.count; items = l }) e)
