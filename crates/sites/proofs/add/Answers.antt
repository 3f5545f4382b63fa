use mathlib.Core.Path.{◌∙◌, ap}
use Rattle.std.proofs.Common.{Err}
use Rattle.std.proofs.lemmas.Result.{err_from_is_err_and}
use native.Mathlib.Omega.{arith}
use Rattle.sites.proofs.Adds.{add_refused, findable, short, add_cut, add_known, add_over, add_full, add_fresh}
use Rattle.sites.proofs.add.Goals as goal
use Rattle.sites.proofs.add.Goals.{then-n-ge-SITES-via-then-n-ge-SITES, then-n-ge-SITES-via-else-n-ge-SITES+then-m-n-2}

pub returns-in_err-judge : goal.returns-in_err-judge
returns-in_err-judge c =
    let z = add_refused c.args.m.now c.args.count c.args.at c.args.b.now c.judge.result c.in_err-judge.field-0.0 c.judge.ensures c.in_err-judge.was in
    let e = err_from_is_err_and _ c.from_residual.ensures.1 in
    (e.1 ∙ ap Err e.2 ∙ z.0, z.1)

pub find-requires : goal.find-requires
find-requires c = findable c.args.m.now c.args.b.now (λ i. omega (arith, c.type_inv.b i)) c.args.count c.args.at (omega arith) c.judge.result c.judge.ensures c.in_ok-judge.was

pub returns-then-m-n : goal.returns-then-m-n
returns-then-m-n c = rw c.from.ensures (add_cut c.args.m.now c.args.b.now (λ i. omega (arith, c.type_inv.b i)) c.args.count c.args.at (omega arith) c.judge.result c.judge.ensures c.in_ok-judge.was c.find.result c.in-Some.i c.find.ensures c.in-Some.is (rw c.from-n.ensures at c.if-m-n.true))

pub returns-in-Some : goal.returns-in-Some
returns-in-Some c = add_known c.args.m.now c.args.b.now (λ i. omega (arith, c.type_inv.b i)) c.args.count c.args.at (omega arith) c.judge.result c.judge.ensures c.in_ok-judge.was c.find.result c.in-Some.i c.find.ensures c.in-Some.is (rw c.from-n.ensures at c.if-m-n.false)

pub returns-then-n-ge-SITES : goal.returns-then-n-ge-SITES
returns-then-n-ge-SITES c =
    rw c.from-then-n-ge-SITES.ensures (elim c.then-n-ge-SITES.branch [
      | then-n-ge-SITES-via-then-n-ge-SITES w ↦ add_over c.args.m.now c.args.b.now (λ i. omega (arith, c.type_inv.b i)) c.args.count c.args.at (omega arith) c.judge.result c.judge.ensures c.in_ok-judge.was c.find.result c.find.ensures c.in_default.is (rw c.from-n.ensures at w.if-n-ge-SITES.true)
      | then-n-ge-SITES-via-else-n-ge-SITES+then-m-n-2 w ↦ add_full c.args.m.now c.args.b.now (λ i. omega (arith, c.type_inv.b i)) c.args.count c.args.at (omega arith) c.judge.result c.judge.ensures c.in_ok-judge.was c.find.result c.find.ensures c.in_default.is (rw c.from-n.ensures at w.if-n-ge-SITES.false) (rw c.from-n.ensures at w.if-m-n-2.true)
    ])

pub store-requires : goal.store-requires
store-requires c = let z = short c.args.m.now c.args.b.now (λ i. omega (arith, c.type_inv.b i)) c.args.count c.args.at (omega arith) c.judge.result c.judge.ensures c.in_ok-judge.was in (omega (arith, c.if-m-n-2.false), omega arith)

pub returns : goal.returns
returns c = add_fresh c.args.m.now c.args.b.now (λ i. omega (arith, c.type_inv.b i)) c.args.count c.args.at (omega arith) c.judge.result c.judge.ensures c.in_ok-judge.was c.find.result c.find.ensures c.in_default.is _ (rw c.from-n.ensures at c.if-n-ge-SITES.false) (rw c.from-n.ensures at c.if-m-n-2.false) c.store.ensures
