-- What every set has that calls and sheets make (crate meaning_plan, `made_ready`): constrained sites that ascend, priorities of 64 bits, and no more
-- rules than the number allows.
use mathlib.Core.List.{Memᴰ}
use Prim.Native.Nat.{◌≤◌, ◌<◌, ◌^◌}
use lib.ListN.{length}
use Rattle.paper.specs.Numbers.{max_rules}
use Rattle.paper.specs.Loading.{Kept, Set}
use Rattle.paper.proofs.Tables.{Rising}

pub record Ready (g : Set) : Type 0 where
  pub rising : (k : Kept) → Memᴰ k g.kept → Rising 0 k.constraints
  pub words : (k : Kept) → Memᴰ k g.kept → k.priority < 2 ^ 64
  pub few : length g.kept ≤ max_rules
