-- Loading a rule into a set in lent memory: what is answered, and what the memory is afterwards.
use Rattle.std.specs.declared.result.Result.TheVariants.{Err, Ok}
use Rattle.std.specs.Prelude.{◌&&◌, List, [], ◌∷◌, map, ℕ, suc, ◌+◌, ◌*◌, ◌/◌, min, length, get_or, drop, ltb, leb}
use Rattle.paper.specs.declared.Constraint.{Constraint}
use Rattle.paper.specs.declared.Rule.{Rule}
use Rattle.paper.specs.declared.Refusal.TheVariants.{TooManySites, TooManyRules}
use Rattle.paper.specs.Words.{joined}
use Rattle.paper.specs.Numbers.{max_sites, max_rules, Outcome, done, refused, ◌>>=◌, demand}
use Rattle.paper.specs.Loading.{Kept, Set, written, load}
use Rattle.paper.specs.Rules.{no_rule}
use Rattle.rule_words.specs.Packing.{head, second, third}
use Rattle.rule_words.specs.Stored.{base, stride, kept_first}
use Rattle.rule_words.specs.Stored as stored
use Rattle.sites.specs.Slots.{slot, sites_in, store}
use Rattle.paper.specs.Answered.{Answer}

-- n sites of the memory m, and the first k rules of the words ws (loading looks at neither the term nor the flags)
unfoldable pub set_in : List ℕ → ℕ → List ℕ → ℕ → Set
set_in m n ws k = record { term = 0; flags = 0; sites = sites_in m n; kept = kept_first ws k }

-- Words without room for one more rule are full, as a set of max-rules is; a table that passes the numbers, or that the lent bytes can't hold, is full.
-- "Lent room below a limit counts as the limit": told are the slots that are lent, and one. They are asked for last, when the rule is to be kept.
unfoldable pub load_in : List ℕ → ℕ → List ℕ → ℕ → Rule → Outcome Set
load_in m n ws k r = do
  _ ← demand (ltb k max_rules && leb (base k + stride) (length ws)) (TooManyRules (suc (min k max_rules)))
  _ ← demand (leb n max_sites) (TooManySites n r.count)
  g ← load (set_in m n ws k) (written r)
  _ ← demand (leb (length g.sites * slot) (length m)) (TooManySites (length m / slot + 1) r.count)
  done g

abbrev pub loaded_as : Outcome Set → Answer ℕ
loaded_as (done g) = Ok (length g.sites)
loaded_as (refused e) = Err e

-- A refused rule changes nothing. Of a kept one the new sites go into their slots,
abbrev pub sites_after : List ℕ → ℕ → Outcome Set → List ℕ
sites_after m n (done g) = store m n (drop n g.sites)
sites_after m n (refused e) = m

abbrev pub three : ℕ × Constraint → List ℕ
three p = head p.1 ∷ second p.1 ∷ third p.1 ∷ []

-- and the kept rule into its stride
unfoldable pub put_kept : List ℕ → ℕ → Kept → List ℕ
put_kept ws k q =
    stored.written ws k q.place q.priority (map (λ p. p.0) q.constraints) (joined (map three q.constraints))
    (map (λ p. p.0) q.equals) (map (λ p. p.1) q.equals)

abbrev pub words_after : List ℕ → ℕ → Outcome Set → List ℕ
words_after ws k (done g) = put_kept ws k (get_or g.kept k no_rule)
words_after ws k (refused e) = ws
