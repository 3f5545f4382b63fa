-- A kept rule in a stride of words: place, priority (as an unsigned number that keeps the order), how many constrained sites, how many equal
-- sites; then for each constrained site, ascending, the site and its constraint's three words; then for each equal site, ascending, the site and
-- its class's lowest member. Past the end of the words there are zeros; a count above the limit is the limit; a place is 32 bits.
use Rattle.std.specs.Prelude.{Bool, ◌&&◌, List, [], ◌∷◌, ℕ, zero, suc, ◌+◌, ◌*◌, ◌%◌, min, length, get_or, set, leb}
use Rattle.paper.specs.declared.Constraint.{Constraint}
use Rattle.std.specs.Prelude.{if◌then◌else◌}
use Rattle.paper.specs.Numbers.{max_constrained, max_equal}
use Rattle.paper.specs.Loading.{Kept}
use Rattle.paper.specs.Rules.{rank}
use Rattle.rule_words.specs.Packing.{unpack}

-- where the constrained sites and the equal sites begin in a stride, and its length
abbrev pub first_constrained : ℕ
first_constrained = 4

abbrev pub first_equal : ℕ
first_equal = first_constrained + 4 * max_constrained

abbrev pub stride : ℕ
stride = first_equal + 2 * max_equal

-- where the words of a constrained site, and of an equal site, of the rule at b start
abbrev pub constrained_word : ℕ → ℕ → ℕ
constrained_word b k = b + first_constrained + 4 * k

abbrev pub equal_word : ℕ → ℕ → ℕ
equal_word b k = b + first_equal + 2 * k

-- f i, f (i + 1) .. , k of them
unfoldable pub run : {A : Type 0} → (ℕ → A) → ℕ → ℕ → List A
run f i zero = []
run f i (suc k) = f i ∷ run f (suc i) k

unfoldable pub base : ℕ → ℕ
base i = stride * i

-- ---- reading

unfoldable pub place_at : List ℕ → ℕ → ℕ
place_at ws b = get_or ws b 0 % 4294967296

-- the rank of its priority
abbrev pub rank_at : List ℕ → ℕ → ℕ
rank_at ws b = get_or ws (b + 1) 0

unfoldable pub count_at : List ℕ → ℕ → ℕ → ℕ
count_at ws at most = min (get_or ws at 0) most

abbrev pub constrained_count : List ℕ → ℕ → ℕ
constrained_count ws b = count_at ws (b + 2) max_constrained

abbrev pub equal_count : List ℕ → ℕ → ℕ
equal_count ws b = count_at ws (b + 3) max_equal

unfoldable pub constraint_at : List ℕ → ℕ → Constraint
constraint_at ws p = unpack (get_or ws p 0) (get_or ws (p + 1) 0) (get_or ws (p + 2) 0)

unfoldable pub constrained_at : List ℕ → ℕ → ℕ → ℕ × Constraint
constrained_at ws b k = (get_or ws (constrained_word b k) 0, constraint_at ws (constrained_word b k + 1))

unfoldable pub equal_at : List ℕ → ℕ → ℕ → ℕ × ℕ
equal_at ws b k = (get_or ws (equal_word b k) 0, get_or ws (equal_word b k + 1) 0)

-- the kept rule whose words start at b
unfoldable pub kept_at : List ℕ → ℕ → Kept
kept_at ws b = record {
  place = place_at ws b;
  priority = rank (rank_at ws b);
  constraints = run (constrained_at ws b) 0 (constrained_count ws b);
  equals = run (equal_at ws b) 0 (equal_count ws b);
}

unfoldable pub kept_in : List ℕ → ℕ → Kept
kept_in ws i = kept_at ws (base i)

-- the first n rules
unfoldable pub kept_first : List ℕ → ℕ → List Kept
kept_first ws n = run (kept_in ws) 0 n

-- ---- writing

unfoldable pub put_four : List ℕ → ℕ → ℕ → ℕ → ℕ → ℕ → List ℕ
put_four ws p a b c d = set (set (set (set ws p a) (p + 1) b) (p + 2) c) (p + 3) d

unfoldable pub put_two : List ℕ → ℕ → ℕ → ℕ → List ℕ
put_two ws p a b = set (set ws p a) (p + 1) b

-- the first k of the sites ss, each with three words of sh, into the rule at b
unfoldable pub put_constrained : List ℕ → ℕ → List ℕ → List ℕ → ℕ → List ℕ
put_constrained ws b ss sh zero = ws
put_constrained ws b ss sh (suc k) =
    put_four (put_constrained ws b ss sh k) (constrained_word b k) (get_or ss k 0) (get_or sh (3 * k) 0) (get_or sh (3 * k + 1) 0) (get_or sh (3 * k + 2) 0)

-- the first k of the sites es, each with the lowest member of its class
unfoldable pub put_equal : List ℕ → ℕ → List ℕ → List ℕ → ℕ → List ℕ
put_equal ws b es lo zero = ws
put_equal ws b es lo (suc k) = put_two (put_equal ws b es lo k) (equal_word b k) (get_or es k 0) (get_or lo k 0)

unfoldable pub put_rule : List ℕ → ℕ → ℕ → ℕ → List ℕ → List ℕ → List ℕ → List ℕ → List ℕ
put_rule ws b p q ss sh es lo =
    put_equal (put_constrained (put_four ws b p (rank q) (length ss) (length es)) b ss sh (length ss)) b es lo (length es)

-- a rule is written where its sites are few enough and its stride is there
unfoldable pub fits_in : List ℕ → ℕ → List ℕ → List ℕ → Bool
fits_in ws i ss es = leb (length ss) max_constrained && (leb (length es) max_equal && leb (base i + stride) (length ws))

unfoldable pub written : List ℕ → ℕ → ℕ → ℕ → List ℕ → List ℕ → List ℕ → List ℕ → List ℕ
written ws i p q ss sh es lo = if fits_in ws i ss es then put_rule ws (base i) p q ss sh es lo else ws

-- the rule that was handed over; past the end of sh and of lo there are zeros
unfoldable pub handed : ℕ → ℕ → List ℕ → List ℕ → List ℕ → List ℕ → Kept
handed p q ss sh es lo = record {
  place = p;
  priority = q;
  constraints = run (λ k. (get_or ss k 0, unpack (get_or sh (3 * k) 0) (get_or sh (3 * k + 1) 0) (get_or sh (3 * k + 2) 0))) 0 (length ss);
  equals = run (λ k. (get_or es k 0, get_or lo k 0)) 0 (length es);
}
