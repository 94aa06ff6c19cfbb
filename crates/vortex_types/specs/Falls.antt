-- What stands in a type is lighter than it.
use Rattle.std.specs.Prelude.{max, ◌≤◌}
use Rattle.std.proofs.Common.{arith}
use Rattle.vortex_terms.specs.Weight.{weight, fields_weight, most_le-fields_weight}
use Rattle.vortex_types.specs.DTypes.{term_of, field_term, kept_fields, AreKept}
use Rattle.vortex_types.specs.declared.dtype.DType.{DType}
use Rattle.vortex_types.specs.declared.dtype.DType.TheVariants as types
use Rattle.vortex_types.specs.declared.field_dtype.FieldKind.{FieldKind}
use Rattle.vortex_types.specs.declared.field_dtype.FieldKind.TheVariants as kinds
use Rattle.vortex_types.specs.declared.struct_fields.KeptFields.{KeptFields}
use Rattle.vortex_types.specs.declared.struct_fields.KeptFields.TheVariants as kept
use Rattle.vortex_types.specs.declared.element.Element.TheDeep.{deep-DType, deep-FieldKind}
use Rattle.vortex_types.specs.declared.element.Element.TheDeep.{deep-KeptFields}

-- a type is no heavier than its term
dtype_no_heavier : (t : DType) → deep-DType t ≤ weight (term_of t)
dtype_no_heavier types.Null = omega arith
dtype_no_heavier (types.Bool n) = omega arith
dtype_no_heavier (types.Primitive k n) = omega arith
dtype_no_heavier (types.Decimal d n) = omega arith
dtype_no_heavier (types.Utf8 n) = omega arith
dtype_no_heavier (types.Binary n) = omega arith
dtype_no_heavier (types.Struct fs n) = omega arith
dtype_no_heavier (types.List t n) = omega arith
dtype_no_heavier (types.Extension e) = omega arith
dtype_no_heavier (types.FixedSizeList t k n) = omega arith

-- what an element or an extension holds
pub dtype_falls : (t : DType) → max (deep-DType t) 0 ≤ weight (term_of t)
dtype_falls t = omega (arith, dtype_no_heavier t)

-- the type of a field, however it is kept
pub kind_falls : (k : FieldKind) → max (deep-FieldKind k) 0 ≤ weight (field_term k)
kind_falls (kinds.Owned t) = omega (arith, dtype_no_heavier t)

-- the types of a struct
pub fields_fall : (k : KeptFields) → AreKept k
    → max (deep-KeptFields k) 0 ≤ fields_weight (kept_fields k)
fields_fall (kept.Empty names) h = omega arith
fields_fall (kept.Shared names types) h =
    omega (arith, most_le-fields_weight names.value types.value.items h.0)
