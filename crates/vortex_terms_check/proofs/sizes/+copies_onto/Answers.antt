use Rattle.vortex_terms_check.specs.Plain.{row_of}
use Rattle.vortex_terms_check.proofs.Sums.{copies_step}
use Rattle.vortex_terms_check.proofs.sizes.+copies_onto.Goals as goal

pub returns : goal.returns
returns t c = copies_step c.copies_onto.result (λ v. v.items) row_of c.args.k c.in_ok-copy.field-0 (row_of c.args.r.now) c.args.out.items _ c.if-k-eq0.false c.in_ok-push.ensures.items c.in_ok-copy.ensures c.copies_onto.ensures
