use borrow.Author.Rules.{rules}
use Rattle.sheet_lines.proofs.Scan.{held_full, held_is, holding}
use Rattle.sheet_lines.proofs.hold.Goals as goal

pub returns-then-h-gt-HELD : goal.returns-then-h-gt-HELD
returns-then-h-gt-HELD c = holding c.args.h _ c.args.s.now (search rules) (held_full c.args.h c.args.s.now c.if-h-gt-HELD.true)

pub returns : goal.returns
returns c =
    holding c.args.h _ c.args.s.now (search rules) (held_is c.args.h c.args.s.now _ _ (search rules) c.if-h-gt-HELD.false c.min-k.ensures c.copy_from_slice.ensures.after)
