-- What the types of the code say of a state that is handed over by value: each number fits its width, each array has its length.
use mathlib.Core.Path.{◌≡◌}
use mathlib.Core.List.{List}
use lib.ListN.{length}
use mir.Val.{Val}
use denote.Shadow.{shadow}
use Rattle.sheet_lines.specs.Fed.{max_held}
use Rattle.sheet_ended.specs.declared.EndedSets.{EndedSets}
use Rattle.sheet_reader.specs.declared.OpenSet.{OpenSet}
use Rattle.sheet_reader.specs.declared.Awaited.{Awaited}
use Rattle.sheet_reader.specs.declared.Reader.{Reader}
use Rattle.sheet_reader.specs.declared.Stands.{Stands}
use Rattle.sheet_reader.specs.declared.Stands.TheVariants.{Outside, Sites, Rules, Items}
use Rattle.sheet_read.specs.declared.State.{State}
use Rattle.sheet_ended.specs.contracts.EndedSets as ended
use Rattle.sheet_reader.specs.contracts.OpenSet as set
use Rattle.sheet_reader.specs.contracts.Awaited as awaited
use Rattle.sheet_reader.specs.contracts.Stands as stands
use Rattle.sheet_reader.specs.contracts.Reader as reader
use Rattle.sheet_state.proofs.Reading.{SmallSet, SmallRule, SmallStands, SmallEnded, SmallReader, SmallState}

small_set : (g : OpenSet) (vs : List Val) → shadow ((set.the_field).row.own_val ((set.the_type).to g) vs) → SmallSet g
small_set g vs h = record { term = h.1.1.0.1; flags = h.1.1.1.0.1; sites = h.1.1.1.1.0.1; rules = h.1.1.1.1.1.0.1 }

small_rule : (a : Awaited) (vs : List Val) → shadow ((awaited.the_field).row.own_val ((awaited.the_type).to a) vs) → SmallRule a
small_rule a vs h = record { place = h.1.1.0.1; count = h.1.1.1.1.0.1 }

small_stands : (s : Stands) (vs : List Val) → shadow ((stands.the_field).row.own_val ((stands.the_type).to s) vs) → SmallStands s
unfolding SmallStands
small_stands Outside vs h = tt
small_stands (Sites g) vs h = small_set g _ h.1.1.1.1.0
small_stands (Rules g) vs h = small_set g _ h.1.1.1.1.0
small_stands (Items g a left) vs h = (small_set g _ h.1.1.1.1.0, small_rule a _ h.1.1.1.1.1.0, h.1.1.1.1.1.1.0.1)

small_ended : (e : EndedSets) (vs : List Val) → shadow ((ended.the_field).row.own_val ((ended.the_type).to e) vs) → SmallEnded e
small_ended e vs h = record {
  sets = h.1.1.0.1;
  kept = h.1.1.1.0.1;
  used = h.1.1.1.1.0.1.0.1;
  recs = h.1.1.1.1.1.0.1.0.1;
}

small_reader : (r : Reader) (vs : List Val) → shadow ((reader.the_field).row.own_val ((reader.the_type).to r) vs) → SmallReader r
small_reader r vs h = record { line = h.1.1.0.1; stands = small_stands r.stands _ h.1.1.1.0; ended = small_ended r.ended _ h.1.1.1.1.0 }

pub small_state : (s : State) (vs : List Val) → shadow ((reader.the_field).row.own_val ((reader.the_type).to s.reader) vs) → length s.held.bytes ≡ max_held → SmallState s
small_state s vs h e = record { reader = small_reader s.reader vs h; bytes = e }
