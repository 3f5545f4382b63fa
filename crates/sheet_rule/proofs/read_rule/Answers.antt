use mathlib.Core.Path.{refl}
use Rattle.sheet_reader.proofs.Acts.{on_went}
use Rattle.sheet_rule.proofs.Leaving.{loads_kept, loads_refused}
use Rattle.sheet_rule.proofs.Ruled.{reads_kept, reads_refused}
use Rattle.sheet_rule.proofs.read_rule.Goals as goal

pub returns-in-Ok-clause-room_after : goal.returns-in-Ok-clause-room_after
returns-in-Ok-clause-room_after c = λ t. loads_kept _ _ _ _ _ _ _ _ _ _ _ _ c.load_handed.ensures.value c.load_handed.ensures.m_after c.load_handed.ensures.lent_words t _ _ _ c.in-Ok.is c.next_rule.ensures refl c.on.ensures

pub returns-in-Ok-clause-fact : goal.returns-in-Ok-clause-fact
returns-in-Ok-clause-fact c = λ h. reads_kept c.args.r c.args.set c.args.rule _ _ _ _ _ _ _ _ _ _ refl c.range_of.ensures c.load_handed.ensures.value c.load_handed.ensures.m_after c.load_handed.ensures.lent_words _ _ _ c.in-Ok.is c.next_rule.ensures c.load_handed.auto.m c.load_handed.auto.words refl (on_went _ _ _ _ _ h.1 c.on.ensures)

pub returns-in-Err-clause-room_after : goal.returns-in-Err-clause-room_after
returns-in-Err-clause-room_after c = λ t. loads_refused _ _ _ _ _ _ _ _ _ _ _ _ c.load_handed.ensures.value c.load_handed.ensures.m_after c.load_handed.ensures.lent_words t _ _ _ _ c.in-Err.is c.write_refusal.ensures.0 c.write_refusal.ensures.1 c.unwrap_or-to.ensures c.on-in-Err.ensures

pub returns-in-Err-clause-fact : goal.returns-in-Err-clause-fact
returns-in-Err-clause-fact c = λ h. reads_refused c.args.r c.args.set c.args.rule _ _ _ _ _ _ _ _ _ _ refl c.range_of.ensures c.load_handed.ensures.value c.load_handed.ensures.m_after c.load_handed.ensures.lent_words _ _ _ _ c.in-Err.is h.0 c.write_refusal.ensures.0 c.write_refusal.ensures.1 c.unwrap_or-to.ensures (on_went _ _ _ _ _ h.1 c.on-in-Err.ensures)
