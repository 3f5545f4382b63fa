-- `run_script::end_line` meets its contract. Assumes nothing.
use Rattle.std.proofs.Common.{not, refl, ap}
use Rattle.run_script.proofs.Fitting.{answer_fits}
use Rattle.run_script.proofs.Stopping.{at_error, answered_here}
use Rattle.run_script.proofs.end_line.Goals as goal

pub returns-in_err-filled-clause-unwritten : goal.returns-in_err-filled-clause-unwritten
returns-in_err-filled-clause-unwritten g c = at_error _ (answered_here _ _ _ _ _ _ _ _ _ _ _ _ c.reply_to-r.ensures c.put_answer-n.ensures.result_after c.put_answer-n.ensures.in_range.0 c.put_answer-n.ensures.in_range.1 c.is_bad-bad.ensures refl c.in_err-filled.ensures.past)

pub returns-clause-answered : goal.returns-clause-answered
returns-clause-answered g c =
    record {
      answer = c.reply_to-r.result;
      end = c.put_answer-n.result;
      replies = c.reply_to-r.ensures;
      answers = c.put_answer-n.ensures.result_after;
      whole = answer_fits _ _ _ _ _ _ _ _ c.reply_to-r.ensures c.put_answer-n.ensures.in_range.0 c.put_answer-n.ensures.in_range.1 _ c.args.out.now;
      filled = c.in_ok-filled.ensures.after;
      used = refl;
      goes = ap not c.is_bad-bad.ensures;
      number = refl;
    }
