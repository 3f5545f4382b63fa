-- `rule_load::keep` meets its contract. Assumes nothing.
use mathlib.Core.Path.{sym}
use native.Mathlib.Omega.{arith}
use lib.Seq.{length-take-le}
use Rattle.rule_load.proofs.Keeping.{wrote_as}
use Rattle.rule_load.proofs.keep.Goals as goal

pub slice_bounds-write-end : goal.slice_bounds-write-end
slice_bounds-write-end c = sym (length-take-le _ _ c.requires.long_sites)

pub slice_bounds-write-end-2 : goal.slice_bounds-write-end-2
slice_bounds-write-end-2 c = sym (length-take-le _ _ (omega (arith, c.gather.auto.out, c.requires.few)))

pub slice_bounds-write-end-3 : goal.slice_bounds-write-end-3
slice_bounds-write-end-3 c = sym (length-take-le _ _ c.requires.long_equal)

pub slice_bounds-write-end-4 : goal.slice_bounds-write-end-4
slice_bounds-write-end-4 c = sym (length-take-le _ _ c.requires.long_low)

pub returns-clause-m_after : goal.returns-clause-m_after
returns-clause-m_after c = c.write_children.ensures

pub returns-clause-lent_words : goal.returns-clause-lent_words
returns-clause-lent_words c = wrote_as _ _ _ _ _ _ _ _ _ _ c.write.ensures.words_after c.gather.ensures
