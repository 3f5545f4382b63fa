use mathlib.Core.Path.{◌≡◌}
use Rattle.term_table.specs.Table.{with_edges}
use Rattle.sites.specs.Slots.{sites_in}
use Rattle.sheet_ended.specs.Sets.{edges_from}
use Rattle.sheet_ended.proofs.add_edges.Given as goal

abbrev pub invariant-loop-i : goal.invariant-loop-i
invariant-loop-i l = l.t ≡ with_edges l.initial.t (edges_from l.term (sites_in l.m l.i))
