use lib.Seq.{length-take-le}
use mathlib.Core.Path.{sym, ◌∙◌}
use native.Mathlib.Omega.{arith}
use Rattle.sites.proofs.Unfolds.{unfolded_alone, head_fits, stop_head, stop_sources, all_three, end_inside, bytes_as, none_left, skip_source, stop_source, go_on}
use Rattle.sites.proofs.+unfold_site_unfold_sources.Goals as goal

pub unfold_site-returns-then-not-is_body : goal.unfold_site-returns-then-not-is_body
unfold_site-returns-then-not-is_body t c = rw (unfolded_alone c.args.m.now c.args.s c.body-b.result.now c.body-b.ensures (sym c.is_body.ensures ∙ c.if-not-is_body.true) (omega arith)) c.write.ensures

pub unfold_site-slice_bounds-write-end-2 : goal.unfold_site-slice_bounds-write-end-2
unfold_site-slice_bounds-write-end-2 t c = let z = head_fits c.args.m.now c.args.s c.body-b.result.now (λ i. bytes_as c.args.m.now c.args.s c.body-b.result.now c.body-b.ensures (λ i. omega (arith, c.type_inv.m i)) i) c.body-b.ensures (sym c.is_body.ensures ∙ c.if-not-is_body.false) c.off_of-off.result c.many_of-many.result c.off_of-off.ensures.0 c.many_of-many.ensures.0 in sym (length-take-le c.off_of-off.result c.body-b.result.now (omega arith))

pub unfold_site-returns-in_err-e : goal.unfold_site-returns-in_err-e
unfold_site-returns-in_err-e t c = rw c.from_residual.ensures (stop_head c.args.m.now c.args.s c.body-b.result.now (λ i. bytes_as c.args.m.now c.args.s c.body-b.result.now c.body-b.ensures (λ i. omega (arith, c.type_inv.m i)) i) c.body-b.ensures (sym c.is_body.ensures ∙ c.if-not-is_body.false) c.off_of-off.result c.many_of-many.result c.off_of-off.ensures.0 c.many_of-many.ensures.0 c.args.out.now c.args.at c.requires _ _ (rw c.in_err-e.was at c.write-2.ensures))

pub unfold_site-unfold_sources-requires : goal.unfold_site-unfold_sources-requires
unfold_site-unfold_sources-requires t c = (omega (arith, c.decreases, c.many_of-many.ensures.1), (end_inside _ _ _ _ _ (rw c.in_ok-e.was at c.write-2.ensures) c.write-2.auto.out, head_fits c.args.m.now c.args.s c.body-b.result.now (λ i. bytes_as c.args.m.now c.args.s c.body-b.result.now c.body-b.ensures (λ i. omega (arith, c.type_inv.m i)) i) c.body-b.ensures (sym c.is_body.ensures ∙ c.if-not-is_body.false) c.off_of-off.result c.many_of-many.result c.off_of-off.ensures.0 c.many_of-many.ensures.0, c.many_of-many.ensures.1))

pub unfold_site-returns-in_err-f : goal.unfold_site-returns-in_err-f
unfold_site-returns-in_err-f t c = rw c.from_residual-in_err-f.ensures (stop_sources c.args.m.now c.args.s c.body-b.result.now (λ i. bytes_as c.args.m.now c.args.s c.body-b.result.now c.body-b.ensures (λ i. omega (arith, c.type_inv.m i)) i) c.body-b.ensures (sym c.is_body.ensures ∙ c.if-not-is_body.false) c.off_of-off.result c.many_of-many.result c.off_of-off.ensures.0 c.many_of-many.ensures.0 c.args.out.now c.args.at c.requires _ _ _ _ c.write-2.auto.out (rw c.in_ok-e.was at c.write-2.ensures) (rw c.in_err-f.was at c.unfold_sources.ensures))

pub unfold_site-slice_bounds-write-count : goal.unfold_site-slice_bounds-write-count
unfold_site-slice_bounds-write-count t c = let z = head_fits c.args.m.now c.args.s c.body-b.result.now (λ i. bytes_as c.args.m.now c.args.s c.body-b.result.now c.body-b.ensures (λ i. omega (arith, c.type_inv.m i)) i) c.body-b.ensures (sym c.is_body.ensures ∙ c.if-not-is_body.false) c.off_of-off.result c.many_of-many.result c.off_of-off.ensures.0 c.many_of-many.ensures.0 in omega arith

pub unfold_site-slice_bounds-write-start : goal.unfold_site-slice_bounds-write-start
unfold_site-slice_bounds-write-start t c = let z = head_fits c.args.m.now c.args.s c.body-b.result.now (λ i. bytes_as c.args.m.now c.args.s c.body-b.result.now c.body-b.ensures (λ i. omega (arith, c.type_inv.m i)) i) c.body-b.ensures (sym c.is_body.ensures ∙ c.if-not-is_body.false) c.off_of-off.result c.many_of-many.result c.off_of-off.ensures.0 c.many_of-many.ensures.0 in omega arith

pub unfold_site-returns : goal.unfold_site-returns
unfold_site-returns t c = all_three c.args.m.now c.args.s c.body-b.result.now (λ i. bytes_as c.args.m.now c.args.s c.body-b.result.now c.body-b.ensures (λ i. omega (arith, c.type_inv.m i)) i) c.body-b.ensures (sym c.is_body.ensures ∙ c.if-not-is_body.false) c.off_of-off.result c.many_of-many.result c.off_of-off.ensures.0 c.many_of-many.ensures.0 c.args.out.now c.args.at c.requires _ _ _ _ _ _ c.write-2.auto.out c.unfold_sources.auto.out (rw c.in_ok-e.was at c.write-2.ensures) (rw c.in_ok-f.was at c.unfold_sources.ensures) c.write-3.ensures

pub unfold_sources-returns-then-left-eq0 : goal.unfold_sources-returns-then-left-eq0
unfold_sources-returns-then-left-eq0 t c = none_left c.args.m.now c.args.s c.args.b.now c.args.from c.args.left c.args.out.now c.args.at c.requires.0 c.if-left-eq0.true

pub unfold_sources-returns-then-s-t : goal.unfold_sources-returns-then-s-t
unfold_sources-returns-then-s-t t c = skip_source c.args.m.now c.args.s c.args.b.now c.args.from c.args.left c.word_at-t.result c.requires.1 c.if-left-eq0.false c.word_at-t.ensures c.args.out.now c.args.at _ _ c.if-s-t.true c.unfold_sources.ensures

pub unfold_sources-returns-in_err-e : goal.unfold_sources-returns-in_err-e
unfold_sources-returns-in_err-e t c = rw c.from_residual.ensures (stop_source c.args.m.now c.args.s c.args.b.now c.args.from c.args.left c.word_at-t.result c.requires.1 c.if-left-eq0.false c.word_at-t.ensures c.args.out.now c.args.at _ _ c.if-s-t.false (rw c.in_err-e.was at c.unfold_site.ensures))

pub unfold_sources-returns : goal.unfold_sources-returns
unfold_sources-returns t c = go_on c.args.m.now c.args.s c.args.b.now c.args.from c.args.left c.word_at-t.result c.requires.1 c.if-left-eq0.false c.word_at-t.ensures c.args.out.now c.args.at _ _ _ _ c.requires.0 c.unfold_site.auto.out c.if-s-t.false (rw c.in_ok-e.was at c.unfold_site.ensures) c.unfold_sources-2.ensures
