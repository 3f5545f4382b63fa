-- What the code holds of the sets that were ended is what the paper holds; and what the paper's open set is when it is ended.
use Rattle.std.specs.Prelude.{◌≡◌, false, [], ◌∷◌, ◌++◌, map, ℕ, ◌+◌, ◌*◌, ◌≤◌, ◌<◌, length, eqb}
use Rattle.paper.specs.Words.{any}
use Rattle.paper.specs.Numbers.{max_sets, max_rules, max_term}
use Rattle.paper.specs.Sites.{Sound}
use Rattle.paper.specs.Loading.{Set}
use Rattle.paper.specs.Terms.{Head, head_of, is_rec, edges_of}
use Rattle.paper.specs.Sheets as paper
use Rattle.term_table.specs.Table.{Square, no_marks, no_edges, with_terms, with_edges}
use Rattle.term_table.specs.Heads.{Sheeted, rec_marks}
use Rattle.sheet_ended.specs.declared.EndedSets.{EndedSets}

abbrev pub term_in : Head → ℕ
term_in h = h.term

-- the code's e, with the table t, holds the paper's p
pub record Holds (e : EndedSets) (t : Square) (p : paper.Ended) : Type 0 where
  pub sets : e.sets ≡ length p.heads
  pub few : length p.heads ≤ max_sets
  pub kept : e.kept ≡ p.kept
  pub few_kept : p.kept ≤ max_rules * length p.heads
  pub used : e.used ≡ with_terms no_marks (map term_in p.heads)
  pub recs : e.recs ≡ rec_marks term_in is_rec p.heads
  pub table : t ≡ with_edges no_edges p.edges
  pub sheeted : Sheeted term_in is_rec p.heads p.edges

-- the set that is ended: a term that no other had, in range, and sites as adding makes them
pub record Endable (p : paper.Ended) (g : Set) : Type 0 where
  pub fresh : any (λ h. eqb h.term g.term) p.heads ≡ false
  pub term : g.term ≤ max_term
  pub room : length p.heads < max_sets
  pub rules : length g.kept ≤ max_rules
  pub sites : Sound g.sites

abbrev pub with_ended : paper.Ended → Set → paper.Ended
with_ended p g = record { heads = p.heads ++ (head_of g ∷ []); edges = p.edges ++ edges_of g; kept = p.kept + length g.kept }
