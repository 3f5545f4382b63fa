-- What the types of a rule that C hands over say of it.
use Rattle.std.specs.Prelude.{◌≡◌, List, ℕ, ◌<◌, min}
use Rattle.std.proofs.Common.{ap}
use Rattle.paper.specs.declared.Item.{Item}
use Rattle.paper.specs.declared.Item.TheVariants.{Is, Equal}
use Rattle.paper.specs.Numbers.{max_items}
use Rattle.paper.specs.Loading.{written}
use Rattle.item_words.specs.Items.{Ranged, items_in, rule_in}
use Rattle.item_words.proofs.Laws.{rule_written, items_ranged}
use Rattle.rule_load.proofs.Ranging.{RuleFits, ItemFits}

-- A rule whose items cross as words, as C hands it over: its numbers are cut to their widths as they are read. Only the place and the priority are left,
-- a uint32_t and a uint64_t.
pub handed_fits : (items : List ℕ) (place priority count : ℕ) → place < 4294967296 → priority < 18446744073709551616 →
    RuleFits (rule_in items place priority count)
unfolding rule_in
handed_fits items place priority count p q = record {
  place = p;
  priority = q;
  items = λ i j. item_fits i (items_ranged items (min count max_items) i (rw items_are at j));
}
  where
    item_fits : (i : Item) → Ranged i → ItemFits i
    item_fits (Is s c) r = r.1
    item_fits (Equal x y) r = tt

    items_are : (written (rule_in items place priority count)).items ≡ items_in items (min count max_items)
    items_are = ap (λ x. x.items) (rule_written items place priority count)
