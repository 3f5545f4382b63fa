-- `rule_classes::group` meets its contract. Assumes nothing.
use mathlib.Core.Path.{◌≡◌, refl}
use Rattle.std.specs.declared.result.Result.TheVariants.{Err}
use borrow.Author.Rules.{rules}
use Rattle.rule_rows.specs.Holding.{held}
use Rattle.rule_classes.proofs.Grouping.{known_first, known_second, known_third, all_inside, grouped}
use Rattle.rule_classes.proofs.group.Goals as goal

pub returns-in_err-known : goal.returns-in_err-known
returns-in_err-known c = let e : c.from_residual.result ≡ Err c.in_err-known.field-0.0 = search rules in rw e (known_first c.args.eqs.now (held c.args.sites.now c.args.rows.now c.args.words.now c.args.kids.now) _ (rw c.in_err-known.was at c.known.ensures))

pub returns-in_err-known-2 : goal.returns-in_err-known-2
returns-in_err-known-2 c = let e : c.from_residual-in_err-known-2.result ≡ Err c.in_err-known-2.field-0.0 = search rules in rw e (known_second c.args.eqs.now (held c.args.sites.now c.args.rows.now c.args.words.now c.args.kids.now) (rw c.in_ok-known.was at c.known.ensures) _ (rw c.in_err-known-2.was at c.known-2.ensures))

pub returns-in_err-known-3 : goal.returns-in_err-known-3
returns-in_err-known-3 c = let e : c.from_residual-in_err-known-3.result ≡ Err c.in_err-known-3.field-0.0 = search rules in rw e (known_third c.args.eqs.now (held c.args.sites.now c.args.rows.now c.args.words.now c.args.kids.now) (rw c.in_ok-known.was at c.known.ensures) (rw c.in_ok-known-2.was at c.known-2.ensures) _ (rw c.in_err-known-3.was at c.known-3.ensures))

pub join-requires : goal.join-requires
join-requires c = all_inside c.args.eqs.now (held c.args.sites.now c.args.rows.now c.args.words.now c.args.kids.now) _ refl (rw c.in_ok-known.was at c.known.ensures) _ refl (rw c.in_ok-known-2.was at c.known-2.ensures) _ refl (rw c.in_ok-known-3.was at c.known-3.ensures)

pub returns : goal.returns
returns c = grouped c.args.eqs.now (held c.args.sites.now c.args.rows.now c.args.words.now c.args.kids.now) _ refl (rw c.in_ok-known.was at c.known.ensures) _ refl (rw c.in_ok-known-2.was at c.known-2.ensures) _ refl (rw c.in_ok-known-3.was at c.known-3.ensures) _ _ c.join.result c.join.ensures
