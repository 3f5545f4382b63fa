use native.Mathlib.Omega.{arith}
use Rattle.sheet_ended.proofs.Laws.{set_many, set_rules, set_kept, set_more}
use Rattle.sheet_ended.proofs.with_set.Goals.{then-from-ge-SETS-via-then-from-ge-SETS, then-from-ge-SETS-via-else-from-ge-SETS+then-rules-gt-RULES, then-from-ge-SETS-via-else-from-ge-SETS+else-rules-gt-RULES+then-from}
use Rattle.sheet_ended.proofs.with_set.Goals as goal

pub returns-then-from-ge-SETS : goal.returns-then-from-ge-SETS
returns-then-from-ge-SETS c = elim c.then-from-ge-SETS.branch [
  | then-from-ge-SETS-via-then-from-ge-SETS w ↦ set_many c.args.e _ _ _ (omega arith)
  | then-from-ge-SETS-via-else-from-ge-SETS+then-rules-gt-RULES w ↦ set_rules c.args.e _ _ _ (omega arith) (omega arith)
  | then-from-ge-SETS-via-else-from-ge-SETS+else-rules-gt-RULES+then-from w ↦ set_kept c.args.e _ _ _ (omega arith) (omega arith) (omega arith)
]

pub returns : goal.returns
returns c = set_more c.args.e _ _ _ _ _ (omega arith) (omega arith) (omega arith) c.flag.ensures.r_after c.rec_marks.ensures
