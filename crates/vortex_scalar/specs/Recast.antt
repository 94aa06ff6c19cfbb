-- Numbers of another kind that have the same bits.
--     kind_in           the kind of a primitive type
--     reinterpreted     the scalar of another kind
use Rattle.vortex_number.specs.Format.{bits_of, number_with_bits}
use Rattle.vortex_number.specs.PType.{format_of}
use Rattle.vortex_number.specs.WholeKind.{whole_kind, ptype_of}
use Rattle.vortex_number.specs.declared.ptype.PType.{PType}
use Rattle.vortex_number.specs.declared.ptype.PType.TheVariants as kind
use Rattle.vortex_terms.specs.Term.{Term, primitive}
use Rattle.vortex_terms.specs.Types.{nullable}
use Rattle.vortex_terms.specs.Row.{Row, whole_row}
use Rattle.vortex_scalar.specs.ScalarTerm.{ScalarTerm}
use Rattle.vortex_scalar.specs.Made.{typed}

-- the kind of whole numbers of a type, and u8 of another type
abbrev pub kind_in : Term → PType
kind_in (primitive k n) = ptype_of k
kind_in _ = kind.U8

-- the number of the second kind that has the bits of the first; null stays
abbrev pub same_bits : PType → PType → Row → Row
same_bits k l (whole_row z) = whole_row (number_with_bits (format_of l) (bits_of (format_of k) z))
same_bits k l r = r

-- the type of this kind with the same flag, and the row with the same bits
abbrev pub reinterpreted : PType → ScalarTerm → ScalarTerm
reinterpreted l s =
    typed (primitive (whole_kind l) (nullable s.dtype)) (same_bits (kind_in s.dtype) l s.row)
