-- `rule_load::write_child` meets its contract. Assumes nothing.
use native.Mathlib.Omega.{arith}
use Rattle.rule_load.proofs.Placing.{put_variant, put_struct, put_some}
use Rattle.rule_load.proofs.write_child.Goals as goal

pub overflow_cast-high : goal.overflow_cast-high
overflow_cast-high c = omega (arith, c.requires.2.low, c.source_of-s.ensures)

pub returns-then-kind-eq8 : goal.returns-then-kind-eq8
returns-then-kind-eq8 c = put_variant c.args.m.now _ c.args.i c.args.w _ c.source_of-s.ensures c.if-kind-eq8.true c.put_bytes.ensures

pub returns-then-kind-eq10 : goal.returns-then-kind-eq10
returns-then-kind-eq10 c = put_struct c.args.m.now _ c.args.i c.args.w _ c.source_of-s.ensures c.if-kind-eq10.true c.put_bytes-then-kind-eq10.ensures

pub returns-else-kind-eq10 : goal.returns-else-kind-eq10
returns-else-kind-eq10 c = put_some c.args.m.now _ c.args.i c.args.w _ c.source_of-s.ensures c.requires.2 c.if-kind-eq8.false c.if-kind-eq10.false c.put_bytes-else-kind-eq10.ensures
