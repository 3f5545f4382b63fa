use Prim.Native.Nat.{◌-◌}
use lib.ListN.{length}
use Rattle.sheet_reader.specs.State.{lent}
use Rattle.sheet_read.specs.Leaves.{leaves, fed_to, feed_in}
use Rattle.sheet_read.proofs.Leaving.{Onto}
use Rattle.sheet_read.proofs.Feeding.{Fedto}
use Rattle.sheet_read.proofs.feed.Given as goal

abbrev pub invariant-loop-fed : goal.invariant-loop-fed
invariant-loop-fed l = Fedto l.fn.s (lent l.initial.m l.initial.words l.initial.items l.initial.table) (lent l.m l.words l.items l.table) l.initial.room l.room l.at l.piece l.fed.state l.fed.read l.fed.to × Onto (feed_in l.fn.s (lent l.initial.m l.initial.words l.initial.items l.initial.table) l.initial.room l.at l.piece) l.piece (leaves (fed_to l.fed.state l.fed.read l.fed.to) (lent l.m l.words l.items l.table) l.room)

abbrev pub decreases-loop-fed : goal.decreases-loop-fed
decreases-loop-fed l = length l.piece - l.fed.read
