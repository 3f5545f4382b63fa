-- The test of the count is what paper's `is_empty` says of it.
use Rattle.std.proofs.Common.{refl}
use Rattle.paper.specs.Classes.{is_empty}
use Rattle.class_struct.proofs.is_empty.Goals as goal

pub returns : goal.returns
unfolding is_empty
returns c = refl
