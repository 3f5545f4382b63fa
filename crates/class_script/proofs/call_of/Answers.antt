-- `class_script::call_of` meets its contract. Assumes nothing.
use mathlib.Core.Path.{◌∙◌, refl}
use Rattle.class_script.proofs.Reading.{starts_is, call_merge, call_find, call_find_mut, call_same, call_remove, call_len, call_empty, call_bad}
use Rattle.class_script.proofs.call_of.Goals as goal

pub returns-in-Some-strip_prefix : goal.returns-in-Some-strip_prefix
returns-in-Some-strip_prefix c = call_find _ (starts_is _ _ ∙ c.in_default.ensures.cases) (starts_is _ _ ∙ c.in-Some-strip_prefix.ensures.cases.0) c.in-Some-strip_prefix.ensures.cases.1 _ c.number_of.ensures c.map_or.ensures

pub returns-in-Some-strip_prefix-2 : goal.returns-in-Some-strip_prefix-2
returns-in-Some-strip_prefix-2 c = call_find_mut _ (starts_is _ _ ∙ c.in_default.ensures.cases) (starts_is _ _ ∙ c.in_default-strip_prefix.ensures.cases) (starts_is _ _ ∙ c.in-Some-strip_prefix-2.ensures.cases.0) c.in-Some-strip_prefix-2.ensures.cases.1 _ c.number_of-in-Some-strip_prefix-2.ensures c.map_or-in-Some-strip_prefix-2.ensures

pub returns-in-Some-strip_prefix-4 : goal.returns-in-Some-strip_prefix-4
returns-in-Some-strip_prefix-4 c = call_remove _ (starts_is _ _ ∙ c.in_default.ensures.cases) (starts_is _ _ ∙ c.in_default-strip_prefix.ensures.cases) (starts_is _ _ ∙ c.in_default-strip_prefix-2.ensures.cases) (starts_is _ _ ∙ c.in_default-strip_prefix-3.ensures.cases) (starts_is _ _ ∙ c.in-Some-strip_prefix-4.ensures.cases.0) c.in-Some-strip_prefix-4.ensures.cases.1 _ c.number_of-in-Some-strip_prefix-4.ensures c.map_or-in-Some-strip_prefix-4.ensures

pub returns-then-eq : goal.returns-then-eq
returns-then-eq c = call_len _ (starts_is _ _ ∙ c.in_default.ensures.cases) (starts_is _ _ ∙ c.in_default-strip_prefix.ensures.cases) (starts_is _ _ ∙ c.in_default-strip_prefix-2.ensures.cases) (starts_is _ _ ∙ c.in_default-strip_prefix-3.ensures.cases) (starts_is _ _ ∙ c.in_default-strip_prefix-4.ensures.cases) c.as_slice.ensures c.if-eq.ensures

pub returns-then-eq-2 : goal.returns-then-eq-2
returns-then-eq-2 c = call_empty _ (starts_is _ _ ∙ c.in_default.ensures.cases) (starts_is _ _ ∙ c.in_default-strip_prefix.ensures.cases) (starts_is _ _ ∙ c.in_default-strip_prefix-2.ensures.cases) (starts_is _ _ ∙ c.in_default-strip_prefix-3.ensures.cases) (starts_is _ _ ∙ c.in_default-strip_prefix-4.ensures.cases) c.as_slice-2.ensures c.if-eq-2.ensures

pub returns : goal.returns
returns c = call_bad _ (starts_is _ _ ∙ c.in_default.ensures.cases) (starts_is _ _ ∙ c.in_default-strip_prefix.ensures.cases) (starts_is _ _ ∙ c.in_default-strip_prefix-2.ensures.cases) (starts_is _ _ ∙ c.in_default-strip_prefix-3.ensures.cases) (starts_is _ _ ∙ c.in_default-strip_prefix-4.ensures.cases) c.as_slice.ensures c.if-eq.ensures c.as_slice-2.ensures c.if-eq-2.ensures

pub returns-in_default-pair : goal.returns-in_default-pair
returns-in_default-pair c = call_merge _ (starts_is _ _ ∙ c.in-Some.ensures.cases.0) c.in-Some.ensures.cases.1 c.pair.ensures c.in_default-pair.is refl

pub returns-in-Some : goal.returns-in-Some
returns-in-Some c = call_merge _ (starts_is _ _ ∙ c.in-Some.ensures.cases.0) c.in-Some.ensures.cases.1 c.pair.ensures c.in-Some-pair.is refl

pub returns-in_default-pair-2 : goal.returns-in_default-pair-2
returns-in_default-pair-2 c = call_same _ (starts_is _ _ ∙ c.in_default.ensures.cases) (starts_is _ _ ∙ c.in_default-strip_prefix.ensures.cases) (starts_is _ _ ∙ c.in_default-strip_prefix-2.ensures.cases) (starts_is _ _ ∙ c.in-Some-strip_prefix-3.ensures.cases.0) c.in-Some-strip_prefix-3.ensures.cases.1 c.pair-in-Some-strip_prefix-3.ensures c.in_default-pair-2.is refl

pub returns-in-Some-strip_prefix-3 : goal.returns-in-Some-strip_prefix-3
returns-in-Some-strip_prefix-3 c = call_same _ (starts_is _ _ ∙ c.in_default.ensures.cases) (starts_is _ _ ∙ c.in_default-strip_prefix.ensures.cases) (starts_is _ _ ∙ c.in_default-strip_prefix-2.ensures.cases) (starts_is _ _ ∙ c.in-Some-strip_prefix-3.ensures.cases.0) c.in-Some-strip_prefix-3.ensures.cases.1 c.pair-in-Some-strip_prefix-3.ensures c.in-Some-pair-2.is refl
