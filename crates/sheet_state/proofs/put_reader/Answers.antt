use Rattle.sheet_state.proofs.Reading.{reader_put}
use Rattle.sheet_state.proofs.put_reader.Goals as goal

pub returns : goal.returns
returns c = reader_put _ _ _ _ _ c.from.ensures c.put_stands.ensures c.put_ended.ensures
