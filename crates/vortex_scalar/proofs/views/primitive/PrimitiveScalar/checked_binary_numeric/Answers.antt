use Rattle.std.proofs.Common.{Some, sym, ap, ◌∙◌}
use Rattle.std.specs.Option.{option_map}
use Rattle.vortex_terms.specs.Row.{whole_row}
use Rattle.vortex_types.specs.DTypes.{term_of}
use Rattle.vortex_number.specs.WholeKind.{whole_kind}
use Rattle.vortex_value.specs.PValue.{number_of}
use Rattle.vortex_scalar.specs.ViewRows.{or_null}
use Rattle.vortex_scalar.specs.Views.{primitive_term}
use Rattle.vortex_scalar.proofs.Combined.{one_kind, one_fits, combined_some, combined_none}
use Rattle.vortex_scalar.proofs.views.primitive.PrimitiveScalar.checked_binary_numeric.Goals as goal

pub invariant_of-result : goal.invariant_of-result
invariant_of-result c =
    let one = c.args.self.now in
    let other = c.args.other.now in
    record {
      kind = one_kind (term_of one.dtype.now) (term_of other.dtype.now) (term_of c.nullable_one.result.now) (Some (whole_kind one.ptype)) c.nullable_one.ensures one.kind c.requires;
      own = c.in_ok-pvalue.ensures.kind;
      fits = one_fits c.args.op (term_of one.dtype.now) (term_of other.dtype.now) (term_of c.nullable_one.result.now) one.ptype (or_null (λ v. whole_row (number_of v)) one.pvalue) (or_null (λ v. whole_row (number_of v)) other.pvalue) (or_null (λ v. whole_row (number_of v)) c.in_ok-pvalue.pvalue) c.nullable_one.ensures one.kind (sym c.requires ∙ one.kind) one.fits other.fits (sym c.in_ok-pvalue.ensures.row);
    }

pub returns : goal.returns
returns c =
    let one = c.args.self.now in
    let other = c.args.other.now in
    combined_some c.args.op (term_of one.dtype.now) (term_of other.dtype.now) (term_of c.nullable_one.result.now) one.ptype (or_null (λ v. whole_row (number_of v)) one.pvalue) (or_null (λ v. whole_row (number_of v)) other.pvalue) (or_null (λ v. whole_row (number_of v)) c.in_ok-pvalue.pvalue) c.nullable_one.ensures one.kind (sym c.in_ok-pvalue.ensures.row)

pub returns-in_err-pvalue : goal.returns-in_err-pvalue
returns-in_err-pvalue c =
    let one = c.args.self.now in
    let other = c.args.other.now in
    ap (option_map primitive_term) c.from_residual.ensures
    ∙ combined_none c.args.op (term_of one.dtype.now) (term_of other.dtype.now) one.ptype (or_null (λ v. whole_row (number_of v)) one.pvalue) (or_null (λ v. whole_row (number_of v)) other.pvalue) one.kind (sym c.in_err-pvalue.ensures.row)
