use Rattle.std.proofs.Common.{ap, ◌∙◌}
use Rattle.std.specs.Option.{option_map}
use Rattle.vortex_types.specs.DTypes.{term_of}
use Rattle.vortex_types.specs.Predicates.{is_decimal}
use Rattle.vortex_scalar.specs.Views.{decimal_term}
use Rattle.vortex_scalar.proofs.Viewing.{viewed}
use Rattle.vortex_scalar.proofs.scalar.Scalar.as_decimal_opt.Goals as goal

pub returns : goal.returns
returns c =
    ap (option_map decimal_term) c.ok.ensures.value
    ∙ viewed decimal_term is_decimal (term_of c.dtype.result.now) c.value.result.now c.args.self.now c.try_new.result c.dtype.ensures c.value.ensures c.law.ensures.fits c.try_new.ensures.scalar
