-- "1: a frame is not as laid out", of an item in words: as laid out are the words that some item packs to, and no others.
use Rattle.std.specs.Prelude.{◌≡◌, Bool, true, false, List, [], ◌∷◌, ℕ, zero, suc, ◌+◌, ◌*◌, ◌%◌, ◌≤◌, ◌<◌, get_or}
use Rattle.paper.specs.declared.Item.{Item}
use Rattle.paper.specs.declared.Item.TheVariants.{Is, Equal}
use Rattle.std.specs.Prelude.{if◌then◌else◌}
use Rattle.paper.specs.Words.{same_list}
use Rattle.rule_words.specs.Packing.{head, second, third, unpack, narrow}
use Rattle.item_words.specs.Items.{Ranged, item_of}

-- the four words that an item packs to
abbrev pub packed : Item → List ℕ
packed (Is s c) = s ∷ head c ∷ second c ∷ third c ∷ []
packed (Equal a b) = (65536 + a) ∷ b ∷ 0 ∷ 0 ∷ []

-- some item, each of its numbers within its width, packs to these four words
abbrev pub LaidOut : ℕ → ℕ → ℕ → ℕ → Type 0
LaidOut a b c d = (i : Item) × Ranged i × (packed i ≡ (a ∷ b ∷ c ∷ d ∷ []))

-- The same as a test: the item that they are read as packs to them. `laid_exactly` (proofs/Laying.antt): the two say the same.
unfoldable pub laid : ℕ → ℕ → ℕ → ℕ → Bool
laid a b c d = same_list (packed (item_of a b c d)) (a ∷ b ∷ c ∷ d ∷ [])

-- the four words that stand for item k
unfoldable pub laid_out : List ℕ → ℕ → Bool
laid_out ws k = laid (get_or ws (4 * k) 0) (get_or ws (4 * k + 1) 0) (get_or ws (4 * k + 2) 0) (get_or ws (4 * k + 3) 0)

-- from item k on, the first of n that is not as laid out; the one after them where each is
unfoldable pub stray_from : List ℕ → ℕ → ℕ → ℕ
stray_from ws k zero = k
stray_from ws k (suc n) = if laid_out ws k then stray_from ws (suc k) n else k

-- of the first n items: n where each is as laid out
unfoldable pub stray : List ℕ → ℕ → ℕ
stray ws n = stray_from ws 0 n

-- What such a number r is, of n items from k on (`first_stray`, proofs/Laying.antt: it is the first): each item before it is as laid out, and it is not.
pub record First (ws : List ℕ) (k n r : ℕ) : Type 0 where
  pub least : k ≤ r
  pub most : r ≤ k + n
  pub before : (i : ℕ) → k ≤ i → i < r → laid_out ws i ≡ true
  pub there : r < k + n → laid_out ws r ≡ false

-- ---- the two halves of the test, as the code makes them: the three words of a constraint, and the four of an equality
unfoldable pub shaped : ℕ → ℕ → ℕ → Bool
shaped b c d = let k = narrow (unpack b c d) in same_list (head k ∷ second k ∷ third k ∷ []) (b ∷ c ∷ d ∷ [])

unfoldable pub paired : ℕ → ℕ → ℕ → ℕ → Bool
paired a b c d = same_list ((65536 + a % 65536) ∷ b % 65536 ∷ 0 ∷ 0 ∷ []) (a ∷ b ∷ c ∷ d ∷ [])
