-- `class_script::step` meets its contract. Assumes nothing.
use Rattle.class_script.proofs.Stepping.{step_merge, step_find, step_find_mut, step_same, step_remove, step_len, step_empty, step_bad}
use Rattle.class_script.proofs.step.Goals as goal

pub returns-in-Merge : goal.returns-in-Merge
returns-in-Merge c = step_merge _ _ _ c.call_of.ensures c.in-Merge.is c.merge_in.ensures

pub returns-in-Find : goal.returns-in-Find
returns-in-Find c = step_find _ _ _ c.call_of.ensures c.in-Find.is (c.find_in.ensures _ _)

pub returns-in-FindMut : goal.returns-in-FindMut
returns-in-FindMut c = step_find_mut _ _ _ c.call_of.ensures c.in-FindMut.is (c.find_mut_in.ensures _ _)

pub returns-in-SameSet : goal.returns-in-SameSet
returns-in-SameSet c = step_same _ _ _ c.call_of.ensures c.in-SameSet.is (c.in_same_set_in.ensures _ _)

pub returns-in-Remove : goal.returns-in-Remove
returns-in-Remove c = step_remove _ _ _ c.call_of.ensures c.in-Remove.is (c.remove_set_of_in.ensures _)

pub returns-in-Len : goal.returns-in-Len
returns-in-Len c = step_len _ _ _ c.call_of.ensures c.in-Len.is

pub returns-in-Empty : goal.returns-in-Empty
returns-in-Empty c = step_empty _ _ _ c.call_of.ensures c.in-Empty.is

pub returns-in-Bad : goal.returns-in-Bad
returns-in-Bad c = step_bad _ _ _ c.call_of.ensures c.in-Bad.is
