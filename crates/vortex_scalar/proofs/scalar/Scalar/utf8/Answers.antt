use Rattle.std.proofs.Common.{refl}
use Rattle.vortex_terms.specs.Term.{utf8}
use Rattle.vortex_terms.specs.Row.{bytes_row}
use Rattle.vortex_names.specs.Nullable.{is_nullable}
use Rattle.vortex_scalar_value.specs.Value.{text_value}
use Rattle.vortex_scalar.proofs.Rows.{fits_as, made_as}
use Rattle.vortex_scalar.proofs.scalar.Scalar.utf8.Goals as goal

pub new-requires : goal.new-requires
new-requires c =
    fits_as (utf8 (is_nullable c.args.nullability)) c.in_ok-value.value (text_value c.args.text.now) (bytes_row c.args.text.now)
    c.in_ok-value.ensures.value refl c.utf8.text

pub returns-clause-scalar : goal.returns-clause-scalar
returns-clause-scalar c =
    made_as (utf8 (is_nullable c.args.nullability)) c.in_ok-value.value (text_value c.args.text.now) (bytes_row c.args.text.now) c.new.result
    c.in_ok-value.ensures.value refl c.utf8.text c.new.ensures
