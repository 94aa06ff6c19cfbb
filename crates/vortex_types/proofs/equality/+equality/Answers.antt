use Rattle.std.proofs.Common.{◌≡◌, sym, ◌∙◌, arith}
use Rattle.vortex_terms.specs.Types.{field_count}
use Rattle.vortex_types.specs.TypeRefs.{fields_term}
use Rattle.vortex_types.proofs.Equal.{step, other_counts, none_left, differ_at, agree_at}
use Rattle.vortex_types.proofs.equality.+equality.Goals as goal

pub equal_fields-returns-then-n-len : goal.equal_fields-returns-then-n-len
equal_fields-returns-then-n-len t c =
    sym (other_counts c.args.exact (fields_term c.args.a) (fields_term c.args.b) (λ e. omega (arith, c.len-n.ensures, c.len.ensures, c.if-n-len.true, e)))

pub equal_fields-returns-then-not-equal_field : goal.equal_fields-returns-then-not-equal_field
equal_fields-returns-then-not-equal_field t c =
    let here = step c.args.exact (fields_term c.args.a) (fields_term c.args.b) c.loop-i.i
    (omega (arith, c.len-n.ensures, c.loop-i-test.true))
    (omega (arith, c.len-n.ensures, c.len.ensures, c.if-n-len.false, c.loop-i-test.true)) in
    differ_at _ _ _ _ (sym c.equal_field.ensures ∙ c.if-not-equal_field.true) here c.loop-i.invariant

pub equal_fields-loop-i-preserved : goal.equal_fields-loop-i-preserved
equal_fields-loop-i-preserved t c =
    let here = step c.args.exact (fields_term c.args.a) (fields_term c.args.b) c.loop-i.i
    (omega (arith, c.len-n.ensures, c.loop-i-test.true))
    (omega (arith, c.len-n.ensures, c.len.ensures, c.if-n-len.false, c.loop-i-test.true)) in
    agree_at _ _ _ _ (sym c.equal_field.ensures ∙ c.if-not-equal_field.false) here c.loop-i.invariant

pub equal_fields-returns : goal.equal_fields-returns
equal_fields-returns t c =
    let left : field_count (fields_term c.args.a) ≡ c.loop-i.i =
    omega (arith, c.len-n.ensures, c.loop-i-test.false, c.loop-i.auto.i-end) in
    let right : field_count (fields_term c.args.b) ≡ c.loop-i.i =
    omega (arith, c.len-n.ensures, c.len.ensures, c.if-n-len.false, c.loop-i-test.false, c.loop-i.auto.i-end) in
    sym (none_left c.args.exact (fields_term c.args.a) (fields_term c.args.b) c.loop-i.i left right) ∙ c.loop-i.invariant
