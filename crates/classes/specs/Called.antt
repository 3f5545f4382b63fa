-- What the calls answer, where it is more than a value or a refusal of paper's.
use Rattle.std.specs.Prelude.{ℕ}
use Rattle.std.specs.declared.result.Result.{Result}
use Rattle.paper.specs.Answered.{Answer}
use Rattle.classes.specs.declared.Trail.{Trail}
use Rattle.classes.specs.declared.Untaken.{Untaken}

-- the plain find: the representative with the links followed
abbrev pub Looked : Type 0
Looked = Answer Trail

-- a removal: how many members it listed
abbrev pub Taken : Type 0
Taken = Result ℕ Untaken
