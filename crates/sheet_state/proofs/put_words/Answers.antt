use mathlib.Core.Path.{refl, ◌∙◌}
use Rattle.sheet_state.proofs.Reading.{words_put, bit_is}
use Rattle.sheet_state.proofs.put_words.Goals as goal

pub returns : goal.returns
returns c = words_put _ _ _ _ c.args.s c.put_reader.ensures refl (c.from.ensures ∙ bit_is c.args.s.stopped)
