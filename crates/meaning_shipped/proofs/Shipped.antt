-- What the shipped functions' answers mean. `lintel_load` answers `load_in`, `lintel_may_overlap` `may_overlap` of two `kept_in`, `lintel_sheet_check`
-- `findings`, where all that is lent is long enough (else they say so and change nothing): their contracts say this. Lent memory is `MadeIn m n ws k` if it
-- began with no site and no rule, whatever its bytes, and only `lintel_add_site` and `lintel_load` wrote to it since: m holds n sites, ws holds k kept rules.
-- specs/Words.antt has its definition and the others of this page; Made.antt, that each call keeps it, whatever its answer: `after_adding`, `after_loading`,
-- `after_handing`.
-- (The rest of what the findings of a sheet say is on specs/Shipped.antt.)
use Rattle.std.specs.Prelude.{◌≡◌, true, ◌↔◌, ℕ, ◌≤◌, ◌<◌, length}
use Rattle.std.proofs.Math.Option.{none, some}
use mathlib.Core.List.{List, ◌∷◌, ◌++◌, Memᴰ}
use Rattle.paper.specs.declared.Constraint.{Constraint}
use Rattle.paper.specs.declared.Overlap.TheVariants.{No, Subset}
use Rattle.paper.specs.declared.Refusal.{Refusal}
use Rattle.paper.specs.declared.Rule.{Rule}
use Rattle.paper.specs.Words.{look, two}
use Rattle.paper.specs.Numbers.{done, refused}
use Rattle.paper.specs.Sites.{Extends}
use Rattle.paper.specs.Inputs.{Given, Input, Meets, Agree, Matches, MatchesKept}
use Rattle.paper.specs.Loading.{Set, Written, written}
use Rattle.paper.specs.Rules.{no_equals, may_overlap, masks}
use Rattle.rule_words.specs.Stored.{kept_in}
use Rattle.sites.specs.Slots.{sites_in}
use Rattle.rule_load.specs.Whole.{set_in, load_in}
use Rattle.rule_load.proofs.Ranging.{RuleFits}
use Rattle.meaning.specs.RuleSites.{rule_sites, FourOrSix, OnlyFourOrSix, RefusedFourOrSix, SameOn}
use Rattle.meaning.specs.Demand3.{Unmatched, HoldsEqual}
use Rattle.meaning.specs.Overlaps as O
use Rattle.sheet_reader.specs.State.{Lent}
use Rattle.sheet_read.specs.declared.State.{State}
use Rattle.meaning_shipped.specs.Words.{sites_now, rule_now, MadeIn, FedTo, MadeAt, From, ReadWhole, found_in, sets_in, rules_of}
use Rattle.meaning_shipped.proofs.Made.{made_in}
use Rattle.meaning_shipped.proofs.Lent as L
use Rattle.meaning_shipped.specs.Origin.{made_from, from_same}
use Rattle.meaning_shipped.proofs.Counts as C
use Rattle.meaning_shipped.proofs.Bytes.{fed_made}

-- ---- loading a rule into lent memory that the calls made
module _ (m : List ℕ) (n : ℕ) (ws : List ℕ) (k : ℕ) (M : MadeIn m n ws k) (r : Rule) where
  -- 1. A 4 or 6 says that no finite input matches the written rule.
  pub refused_means : (x : Refusal) → load_in m n ws k r ≡ refused x → FourOrSix x → Unmatched (set_in m n ws k) (written r)
  refused_means = L.refused_none m n ws k r M

  -- Of rules that earn no other refusal: refused 4 or 6 exactly if no finite input matches the written rule.
  pub refused_exactly : OnlyFourOrSix (load_in m n ws k r) → RefusedFourOrSix (load_in m n ws k r) ↔ Unmatched (set_in m n ws k) (written r)
  refused_exactly = L.lent_1 m n ws k r M

  -- Of those, one that some input matches is kept.
  pub matched_kept : OnlyFourOrSix (load_in m n ws k r) →
      (at : Given) → Input (rule_sites (set_in m n ws k) (written r)) at → Matches at (written r).items → (g : Set) × (load_in m n ws k r ≡ done g)
  matched_kept = L.matched_done m n ws k r M

  -- A kept rule. `RuleFits` is what the rule's types give: place below 2^32, priority below 2^64, of a constraint type, variant and name below 2^16 and
  -- the field count below 2^8. Of a rule that C hands over, the place as uint32_t and the priority as uint64_t are enough (Handed.antt, `handed_fits`).
  module _ (F : RuleFits r) (g : Set) (e : load_in m n ws k r ≡ done g) where
    -- Some input matches it.
    pub kept_matched : (at : Given) × Input (sites_now m n g) at × Matches at (written r).items
    kept_matched = L.some_input m n ws k r M F g e

    -- 2. The kept rule, as the words then hold it, matches exactly the inputs that the written rule matches, of the sites then held.
    pub kept_same : (at : Given) → Input (sites_now m n g) at → Matches at (written r).items ↔ MatchesKept at (rule_now ws k g)
    kept_same = L.lent_2 m n ws k r M F g e

    -- Old sites stay, and an input of the rule's sites is one of the sites then held, with its values.
    pub kept_old : Extends (sites_in m n) (rule_sites (set_in m n ws k) (written r)) × Extends (rule_sites (set_in m n ws k) (written r)) (sites_now m n g) ×
        ((at : Given) → Input (rule_sites (set_in m n ws k) (written r)) at →
        (at' : Given) × Input (sites_now m n g) at' × SameOn (rule_sites (set_in m n ws k) (written r)) at at')
    kept_old = L.lent_2_old m n ws k r M F g e

    -- 3. It constrains a site by c exactly if every matching input has shape c there.
    pub kept_shapes : (i : ℕ) (c : Constraint) →
        (look (rule_now ws k g).constraints i ≡ some c) ↔ ((at : Given) → Input (sites_now m n g) at → Matches at (written r).items → Meets at i c)
    kept_shapes = L.lent_3 m n ws k r M F g e

    -- 4. It holds two different unconstrained sites equal exactly if every matching input gives both a value, and the same one.
    pub kept_equals : (a b : ℕ) → (a ≡ b → ⊥) → look (rule_now ws k g).constraints a ≡ none → look (rule_now ws k g).constraints b ≡ none →
        HoldsEqual (rule_now ws k g) a b ↔ ((at : Given) → Input (sites_now m n g) at → Matches at (written r).items → Agree at a b)
    kept_equals = L.lent_4 m n ws k r M F g e

-- ---- the kept rules i and j of k, as the words hold them
module _ (m : List ℕ) (n : ℕ) (ws : List ℕ) (k : ℕ) (M : MadeIn m n ws k) (i j : ℕ) (hi : i < k) (hj : j < k) where
  -- Rule i came from a rule that a call loaded, and matches what that matches as written, of the sites as they are now.
  pub rule_came : (r : Written) × From (set_in m n ws k) (kept_in ws i) r ×
      ((at : Given) → Input (set_in m n ws k).sites at → Matches at r.items ↔ MatchesKept at (kept_in ws i))
  rule_came =
      let x = made_from (made_in M) (kept_in ws i) (L.kept_there m n ws k i hi) in
      (x.0, x.1, from_same (set_in m n ws k) (kept_in ws i) x.0 x.1)

  -- Some input matches it; it constrains a site, and holds two different unconstrained sites equal, exactly where all its inputs do, of the sites as they
  -- are now.
  pub rule_matched : (at : Given) × Input (set_in m n ws k).sites at × MatchesKept at (kept_in ws i)
  rule_matched = O.has_input (set_in m n ws k) (made_in M) (kept_in ws i) (L.kept_there m n ws k i hi)

  pub rule_shapes : (s : ℕ) (c : Constraint) → (look (kept_in ws i).constraints s ≡ some c) ↔
      ((at : Given) → Input (set_in m n ws k).sites at → MatchesKept at (kept_in ws i) → Meets at s c)
  rule_shapes = O.forces_shape (set_in m n ws k) (made_in M) (kept_in ws i) (L.kept_there m n ws k i hi)

  pub rule_equals : (a b : ℕ) → (a ≡ b → ⊥) → look (kept_in ws i).constraints a ≡ none → look (kept_in ws i).constraints b ≡ none →
      HoldsEqual (kept_in ws i) a b ↔ ((at : Given) → Input (set_in m n ws k).sites at → MatchesKept at (kept_in ws i) → Agree at a b)
  rule_equals = O.forces_equal (set_in m n ws k) (made_in M) (kept_in ws i) (L.kept_there m n ws k i hi)

  -- No: no input matches both.
  pub no_means : may_overlap (kept_in ws i) (kept_in ws j) ≡ No → (at : Given) → MatchesKept at (kept_in ws i) → MatchesKept at (kept_in ws j) → ⊥
  no_means = O.no_means (set_in m n ws k) (made_in M) (kept_in ws i) (kept_in ws j) (L.kept_there m n ws k i hi) (L.kept_there m n ws k j hj)

  -- No, of two rules without equalities: exactly if no input matches both.
  pub no_exactly : no_equals (kept_in ws i).equals ≡ true → no_equals (kept_in ws j).equals ≡ true →
      (may_overlap (kept_in ws i) (kept_in ws j) ≡ No) ↔
      ((at : Given) → Input (set_in m n ws k).sites at → MatchesKept at (kept_in ws i) → MatchesKept at (kept_in ws j) → ⊥)
  no_exactly = O.no_exactly (set_in m n ws k) (made_in M) (kept_in ws i) (kept_in ws j) (L.kept_there m n ws k i hi) (L.kept_there m n ws k j hj)

  -- Not No, of two rules without equalities: some input matches both.
  pub yes_means : no_equals (kept_in ws i).equals ≡ true → no_equals (kept_in ws j).equals ≡ true → (may_overlap (kept_in ws i) (kept_in ws j) ≡ No → ⊥) →
      (at : Given) × Input (set_in m n ws k).sites at × MatchesKept at (kept_in ws i) × MatchesKept at (kept_in ws j)
  yes_means = O.else_common (set_in m n ws k) (made_in M) (kept_in ws i) (kept_in ws j) (L.kept_there m n ws k i hi) (L.kept_there m n ws k j hj)

  -- Subset, of two rules without equalities of which i has no more constraints: exactly if every input of j matches i.
  pub subset_means : no_equals (kept_in ws i).equals ≡ true → no_equals (kept_in ws j).equals ≡ true →
      length (kept_in ws i).constraints ≤ length (kept_in ws j).constraints →
      (may_overlap (kept_in ws i) (kept_in ws j) ≡ Subset) ↔
      ((at : Given) → Input (set_in m n ws k).sites at → MatchesKept at (kept_in ws j) → MatchesKept at (kept_in ws i))
  subset_means = O.subset_exactly (set_in m n ws k) (made_in M) (kept_in ws i) (kept_in ws j) (L.kept_there m n ws k i hi) (L.kept_there m n ws k j hj)

  -- The same with j, which has more, in the first place.
  pub subset_second : no_equals (kept_in ws i).equals ≡ true → no_equals (kept_in ws j).equals ≡ true →
      length (kept_in ws i).constraints < length (kept_in ws j).constraints →
      (may_overlap (kept_in ws j) (kept_in ws i) ≡ Subset) ↔
      ((at : Given) → Input (set_in m n ws k).sites at → MatchesKept at (kept_in ws j) → MatchesKept at (kept_in ws i))
  subset_second = O.subset_exactly_second (set_in m n ws k) (made_in M) (kept_in ws i) (kept_in ws j) (L.kept_there m n ws k i hi) (L.kept_there m n ws k j hj)

  -- If i masks j, j is never the rule that answers, for any input.
  pub masked_silent : masks (kept_in ws i) (kept_in ws j) ≡ true → (at : Given) → O.Answers (set_in m n ws k).kept at (kept_in ws j) → ⊥
  masked_silent = O.masked_silent (set_in m n ws k).kept (kept_in ws i) (kept_in ws j) (L.kept_there m n ws k i hi)

-- ---- the bytes and words that the shipped reader was lent
-- While a set is open they are `MadeIn`, with the counts of sites and rules that the reader's state holds, so that all of the above is true of them:
-- after `sheet_read::begin`, whatever is lent, and any pieces fed with any room. `sheet_read::feed` leaves `feed_in`, its contract says.
pub reader_bytes_made : (s : State) (k : Lent) → FedTo s k → MadeAt k.sites k.words s.reader.stands
reader_bytes_made = fed_made

-- ---- the 15 of a sheet, any bytes
-- Each 15 is of a sheet that is read whole, and says how many sets it ended and how many rules these keep.
pub each_15 : (sheet f t : List ℕ) → Memᴰ f (found_in sheet) → f ≡ 21 ∷ t →
    ReadWhole sheet × (f ≡ 21 ∷ (two (length (sets_in sheet)) ++ two (rules_of (sets_in sheet))))
each_15 = C.each_count

-- A sheet that is read whole has it.
pub has_15 : (sheet : List ℕ) → ReadWhole sheet → Memᴰ (21 ∷ (two (length (sets_in sheet)) ++ two (rules_of (sets_in sheet)))) (found_in sheet)
has_15 = C.count_there
