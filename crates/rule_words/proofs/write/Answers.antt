use mathlib.Core.Path.{refl}
use Rattle.rule_words.proofs.TurnLaws.{Refused, many_constrained, many_equal, short, stored}
use Rattle.rule_words.proofs.write.Goals as goal
use Rattle.rule_words.proofs.write.Goals.{then-n-gt-CONSTRAINED-via-then-n-gt-CONSTRAINED, then-n-gt-CONSTRAINED-via-else-n-gt-CONSTRAINED+then-m-gt-EQUALS, then-n-gt-CONSTRAINED-via-else-n-gt-CONSTRAINED+else-m-gt-EQUALS+then-b-words}

pub returns-then-n-gt-CONSTRAINED : goal.returns-then-n-gt-CONSTRAINED
returns-then-n-gt-CONSTRAINED c =
    let whole : Refused c.args.words.now c.args.i c.args.place c.args.priority c.args.sites.now c.args.shapes.now c.args.equal.now c.args.low.now = elim c.then-n-gt-CONSTRAINED.branch [
      | then-n-gt-CONSTRAINED-via-then-n-gt-CONSTRAINED w ↦ many_constrained _ _ _ _ _ _ _ _ w.if-n-gt-CONSTRAINED.true
      | then-n-gt-CONSTRAINED-via-else-n-gt-CONSTRAINED+then-m-gt-EQUALS w ↦ many_equal _ _ _ _ _ _ _ _ w.if-m-gt-EQUALS.true
      | then-n-gt-CONSTRAINED-via-else-n-gt-CONSTRAINED+else-m-gt-EQUALS+then-b-words w ↦ short _ _ _ _ _ _ _ _ _ c.start-b.ensures.value w.if-b-words.true
    ] in
    record { value = whole.0; words_after = whole.1 }

pub returns : goal.returns
returns c =
    let whole = stored c.args.words.now c.args.i c.args.place c.args.priority c.args.sites.now c.args.shapes.now c.args.equal.now c.args.low.now _ _ _ _ _ _ _ c.start-b.ensures.value c.if-n-gt-CONSTRAINED.false c.if-m-gt-EQUALS.false c.if-b-words.false c.ranked.ensures refl refl (rw c.from.ensures at c.put_four.ensures) c.put_constrained.ensures c.put_equal.ensures in
    record { value = whole.0; words_after = whole.1 }
