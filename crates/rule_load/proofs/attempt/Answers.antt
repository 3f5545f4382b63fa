-- `rule_load::attempt` meets its contract. Assumes nothing.
use mathlib.Core.Path.{refl, ap, ◌∙◌}
use Prim.Native.Nat.{◌*◌}
use native.Mathlib.Omega.{arith}
use Rattle.std.specs.declared.result.Result.TheVariants.{Err}
use Rattle.paper.specs.Numbers.{max_items}
use Rattle.item_words.specs.Items.{rule_in}
use Rattle.item_words.proofs.Laws.{rule_written}
use Rattle.rule_load.specs.Parts.{Tries}
use Rattle.rule_rounds.specs.declared.Halt.{Halt}
use Rattle.rule_rounds.proofs.Telling.{fine_told}
use Rattle.rule_load.proofs.Keeping.{refused_told, rounds_refuse, finishable, finished, array_long}
use Rattle.rule_load.proofs.attempt.Goals as goal

pub solve-s-requires-clause-lent : goal.solve-s-requires-clause-lent
solve-s-requires-clause-lent c = (c.requires.lent.0, (omega arith, (omega arith, omega arith)))

pub solve-s-requires-clause-sites_in_bounds : goal.solve-s-requires-clause-sites_in_bounds
solve-s-requires-clause-sites_in_bounds c = c.requires.sites_in_bounds

pub finish-requires : goal.finish-requires
finish-requires c = finishable c.args.m.now c.args.n c.args.words.now c.args.kept (rule_in c.args.items.now c.args.place c.args.priority c.args.count) _ (rule_written c.args.items.now c.args.place c.args.priority c.args.count) c.requires.lent.1 c.solve-s.new.tail c.solve-s.new.sites c.solve-s.new.rows c.solve-s.new.shapes c.solve-s.new.equal c.solve-s.new.low c.solve-s.result (fine_told c.in-Ok.is c.solve-s.ensures) c.in-Ok.is (let z = array_long c.solve-s.new.shapes (3 * max_items) c.solve-s.auto.shapes in omega arith) (omega arith) (omega arith)

pub returns-in-Err-Short : goal.returns-in-Err-Short
unfolding Tries
returns-in-Err-Short c = (c.solve-s.ensures.short (c.in-Err-Short.is ∙ ap (λ (h : Halt). Err h) (rw c.in-Err-Short.is at c.in-Err-Short.field-0-is)), (refl, refl))

pub returns-in-Err-Refused : goal.returns-in-Err-Refused
unfolding Tries
returns-in-Err-Refused c = rounds_refuse c.args.m.now c.args.n c.args.words.now c.args.kept (rule_in c.args.items.now c.args.place c.args.priority c.args.count) _ (rule_written c.args.items.now c.args.place c.args.priority c.args.count) c.requires.lent.1 c.solve-s.new.tail c.solve-s.new.sites c.solve-s.new.rows c.solve-s.new.shapes c.solve-s.new.equal c.solve-s.new.low c.solve-s.result (refused_told (c.in-Err-Refused.is ∙ ap (λ (h : Halt). Err h) (rw c.in-Err-Refused.is at c.in-Err-Refused.field-0-is)) c.solve-s.ensures) _ (c.in-Err-Refused.is ∙ ap (λ (h : Halt). Err h) (rw c.in-Err-Refused.is at c.in-Err-Refused.field-0-is))

pub returns-in-Ok : goal.returns-in-Ok
unfolding Tries
returns-in-Ok c = finished c.args.m.now c.args.n c.args.words.now c.args.kept (rule_in c.args.items.now c.args.place c.args.priority c.args.count) _ (rule_written c.args.items.now c.args.place c.args.priority c.args.count) c.requires.lent.1 c.solve-s.new.tail c.solve-s.new.sites c.solve-s.new.rows c.solve-s.new.shapes c.solve-s.new.equal c.solve-s.new.low c.solve-s.result (fine_told c.in-Ok.is c.solve-s.ensures) c.in-Ok.is (omega arith) (omega arith) _ _ _ c.finish.ensures
