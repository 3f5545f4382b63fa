-- The sets that were ended, as the code holds them, and what is asked of them.
use Rattle.std.specs.declared.result.Result.TheVariants.{Err, Ok}
use Rattle.std.specs.declared.option.Option.TheVariants.{None, Some}
use Rattle.std.specs.Option.{unwrap_or}
use Rattle.std.specs.Prelude.{Bool, ◌&&◌, not, List, ◌++◌, map, ℕ, suc, ◌+◌, ◌*◌, ◌/◌, length, eqb, ltb, leb}
use Rattle.paper.specs.Answered.{Verdict}
use Rattle.paper.specs.declared.Refusal.TheVariants.{Repeated, TooManySets, TermTooHigh}
use Rattle.std.specs.Prelude.{if◌then◌else◌}
use Rattle.paper.specs.Words.{joined, Edges}
use Rattle.paper.specs.Numbers.{max_sets, max_rules, max_term, Outcome, done, refused, ◌>>=◌, demand}
use Rattle.paper.specs.Sites.{Site, Sites, term_of}
use Rattle.paper.specs.Terms.{edge_to}
use Rattle.paper.specs.Layout.{hex}
use Rattle.paper.specs.Sheets.{term_found}
use Rattle.term_table.specs.Table.{Square, has_term, no_marks, with_term, left, unflagged}
use Rattle.sheet_findings.specs.Written.{written_at, ended_found}
use Rattle.paper.specs.Answered.{Maybe}
use Rattle.sheet_ended.specs.declared.EndedSets.{EndedSets}

unfoldable pub no_sets : EndedSets
no_sets = record { sets = 0; kept = 0; used = no_marks; recs = no_marks }

abbrev pub verdict_as : Outcome (Unit {0}) → Verdict
verdict_as (done a) = Ok tt
verdict_as (refused r) = Err r

-- 9 for a term used before, then 27, 28
unfoldable pub may_begin : EndedSets → ℕ → ℕ → Outcome (Unit {0})
may_begin e t at = do
  _ ← demand (not (has_term e.used t)) (Repeated at)
  _ ← demand (ltb e.sets max_sets) (TooManySets (suc e.sets))
  demand (leb t max_term) (TermTooHigh t)

-- the edges that sites of the set of term a give
abbrev pub edge_from : ℕ → Site → Edges
edge_from a s = edge_to a (term_of s)

unfoldable pub edges_from : ℕ → Sites → Edges
edges_from a ss = joined (map (edge_from a) ss)

-- one set more, if it is within the numbers of a sheet
abbrev pub marked_by : List ℕ → ℕ → List ℕ
marked_by r t = left r (with_term r t)

unfoldable pub fits_set : EndedSets → ℕ → Bool
fits_set e rules = ltb e.sets max_sets && (leb rules max_rules && leb e.kept (max_sets * max_rules))

unfoldable pub recs_with : List ℕ → ℕ → ℕ → List ℕ
recs_with r t f = if eqb (f / 2) 1 then marked_by r t else r

abbrev pub one_more : EndedSets → ℕ → ℕ → ℕ → EndedSets
one_more e t f rules = record { sets = e.sets + 1; kept = e.kept + rules; used = marked_by e.used t; recs = recs_with e.recs t f }

unfoldable pub with_set : EndedSets → ℕ → ℕ → ℕ → EndedSets
with_set e t f rules = if fits_set e rules then one_more e t f rules else e

-- ---- "at the end the 14s ascending, then 15"
unfoldable pub terms_text : List ℕ → List ℕ
terms_text ts = joined (map (λ t. hex (term_found t)) ts)

abbrev pub to_or : Maybe ℕ → ℕ → ℕ
to_or w at = unwrap_or w at

abbrev pub end_room : ℕ
end_room = 7 * (max_term + 1) + 11

unfoldable pub found_text : Square → EndedSets → List ℕ
found_text t e = terms_text (unflagged t e.recs) ++ hex (ended_found e.sets e.kept)

unfoldable pub said_at : List ℕ → ℕ → List ℕ → Maybe ℕ
said_at room at s = if leb (at + end_room) (length room) then Some (at + length s) else None

unfoldable pub written_after : List ℕ → ℕ → List ℕ → List ℕ
written_after room at s = if leb (at + end_room) (length room) then written_at room at s else room
