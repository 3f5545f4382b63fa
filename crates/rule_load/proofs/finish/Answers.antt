-- `rule_load::finish` meets its contract. Assumes nothing.
use mathlib.Core.Path.{refl}
use Prim.Native.Nat.{◌+◌}
use Rattle.std.proofs.lemmas.Result.{err_from_is_err_and}
use Rattle.rule_load.proofs.Keeping.{finish_refuses, keepable, finish_keeps}
use Rattle.rule_load.proofs.finish.Goals as goal

pub returns-in_err-settle : goal.returns-in_err-settle
returns-in_err-settle c = let p = err_from_is_err_and c.from_residual.result c.from_residual.ensures.1 in rw (p.1, p.2) (finish_refuses c.args.m.now _ c.args.words.now c.args.kept c.args.place c.args.priority _ _ _ _ _ _ _ _ c.requires (c.args.n + c.args.s.tail) refl _ (rw c.from.ensures at c.settle.ensures) _ c.in_err-settle.was)

pub keep-requires : goal.keep-requires
keep-requires c = keepable c.args.m.now c.args.n c.args.words.now c.args.kept c.args.place c.args.priority c.args.count _ _ _ _ _ _ _ c.requires (c.args.n + c.args.s.tail) refl _ (rw c.from.ensures at c.settle.ensures) c.in_ok-settle.was

pub returns : goal.returns
returns c = finish_keeps c.args.m.now _ c.args.words.now c.args.kept c.args.place c.args.priority _ _ _ _ _ _ _ _ c.requires (c.args.n + c.args.s.tail) refl _ (rw c.from.ensures at c.settle.ensures) c.in_ok-settle.was _ _ c.keep.ensures.m_after c.keep.ensures.lent_words
