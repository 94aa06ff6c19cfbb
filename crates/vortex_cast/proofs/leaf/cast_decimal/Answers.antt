use Rattle.std.proofs.Common.{◌≡◌, sym, ap, ◌∙◌, FitsSigned, to_z, w8}
use Rattle.std.specs.Int.{w128}
use Rattle.std.proofs.lemmas.Int.{to_z-of_z}
use Rattle.std.specs.Prelude.{ok_or}
use Rattle.std.specs.Option.{option_map}
use Rattle.vortex_scalar_value.specs.declared.error.ScalarError.TheVariants as error
use Rattle.vortex_cast.specs.inner.Steps.{pvalue_term}
use Rattle.vortex_names.specs.Nullable.{is_nullable}
use Rattle.vortex_types.specs.TypeRefs.{ref_term}
use Rattle.vortex_cast.proofs.Leaves.{shared, same_is_cast, decimal_is_cast}
use Rattle.vortex_cast.proofs.leaf.cast_decimal.Goals as goal

pub returns-then-scale : goal.returns-then-scale
returns-then-scale c =
    let range : FitsSigned w8 c.scale.result = record { sfits = c.scale.type_inv } in
    let same : c.in-Decimal.target.scale ≡ c.args.scale =
    sym c.scale.ensures.value ∙ sym (to_z-of_z w8 c.scale.result range) ∙ ap (to_z w8) c.if-scale.true ∙ to_z-of_z w8 c.args.scale c.ranges.scale in
    same_is_cast c.in-Decimal.target.precision c.in-Decimal.target.scale (is_nullable c.in-Decimal.field-1) c.args.value.now c.args.number c.args.scale (ref_term c.args.to)
    c.try_clone.result c.in-Decimal.ensures same c.ranges.number c.requires (shared c.args.value.now c.try_clone.result c.try_clone.ensures.value c.try_clone.ensures.memory)

pub returns-in-Primitive : goal.returns-in-Primitive
returns-in-Primitive c =
    let found = rw (to_z-of_z w8 c.args.scale c.ranges.scale) at (rw (to_z-of_z w128 c.args.number c.ranges.number) at c.to_whole.ensures) in
    decimal_is_cast c.in-Primitive.ptype (is_nullable c.in-Primitive.field-1) c.args.number c.args.scale (ref_term c.args.to) c.whole_value.result c.in-Primitive.ensures
    (c.whole_value.ensures ∙ ap (λ o. ok_or (option_map pvalue_term o) error.CastRange) found)
