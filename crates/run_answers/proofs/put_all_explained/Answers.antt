use mathlib.Core.Path.{sym, ◌∙◌}
use native.Mathlib.Omega.{arith}
use Rattle.sheet_lines.specs.Cut.{line_inside}
use Rattle.run_answers.proofs.Laws.{said_turn, said_open}
use Rattle.run_answers.proofs.put_all_explained.Goals as goal

pub overflow_add-from : goal.overflow_add-from
overflow_add-from c = omega (arith, (line_inside _ _ _ (sym c.line_end.ensures ∙ c.in-Some.is)).1, c.well_formed)

pub loop-e-smaller : goal.loop-e-smaller
loop-e-smaller c = let i = line_inside _ _ _ (sym c.line_end.ensures ∙ c.in-Some.is) in omega (arith, i.0, i.1)

pub loop-e-preserved : goal.loop-e-preserved
loop-e-preserved c = said_turn _ _ _ _ _ _ _ _ _ c.line_end.ensures c.in-Some.is c.part.ensures c.loop-e.invariant c.put_explained-n.ensures

pub returns : goal.returns
returns c = said_open _ _ _ _ _ _ c.line_end.ensures c.in_default.is c.loop-e.invariant
