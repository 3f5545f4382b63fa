-- The items of a rule in words, four to an item: the first site, which of an equality has 65,536 added, and the three words of the constraint or the
-- second site.
use Rattle.std.specs.Prelude.{List, ℕ, zero, suc, ◌+◌, ◌*◌, ◌%◌, ◌<◌, min, length, get_or, set, replicate, leb, ltb}
use Rattle.paper.specs.declared.Item.{Item}
use Rattle.paper.specs.declared.Item.TheVariants.{Is, Equal}
use Rattle.paper.specs.declared.Entry.{Entry}
use Rattle.paper.specs.declared.Rule.{Rule}
use Rattle.std.specs.Prelude.{if◌then◌else◌}
use Rattle.paper.specs.Numbers.{max_items}
use Rattle.rule_words.specs.Packing.{head, second, third, unpack, narrow, InRange}
use Rattle.rule_words.specs.Stored.{put_four, run}

-- what the types of the code allow
abbrev pub Ranged : Item → Type 0
Ranged (Is s c) = (s < 65536) × InRange c
Ranged (Equal a b) = (a < 65536) × (b < 65536)

-- four words at p, if they are there
unfoldable pub put_words : List ℕ → ℕ → ℕ → ℕ → ℕ → ℕ → List ℕ
put_words ws p a b c d = if leb (p + 4) (length ws) then put_four ws p a b c d else ws

abbrev pub put_item : List ℕ → ℕ → Item → List ℕ
put_item ws k (Is s c) = put_words ws (4 * k) s (head c) (second c) (third c)
put_item ws k (Equal a b) = put_words ws (4 * k) (65536 + a) b 0 0

-- and back; each number is cut to its width, which changes nothing where an item was held
unfoldable pub item_of : ℕ → ℕ → ℕ → ℕ → Item
item_of a b c d = if ltb a 65536 then Is a (narrow (unpack b c d)) else Equal (a % 65536) (b % 65536)

unfoldable pub item_at : List ℕ → ℕ → Item
item_at ws k = item_of (get_or ws (4 * k) 0) (get_or ws (4 * k + 1) 0) (get_or ws (4 * k + 2) 0) (get_or ws (4 * k + 3) 0)

-- the first n items
unfoldable pub items_in : List ℕ → ℕ → List Item
items_in ws n = run (item_at ws) 0 n

-- an array of entries, of which the first n are the items
unfoldable pub entries_in : List ℕ → ℕ → List Entry
entries_in ws zero = replicate max_items (record { item = Equal 0 0 })
entries_in ws (suc k) = set (entries_in ws k) k (record { item = item_at ws k })

unfoldable pub rule_in : List ℕ → ℕ → ℕ → ℕ → Rule
rule_in ws p q n = record { place = p; priority = q; count = n; entries = entries_in ws (min n max_items) }
