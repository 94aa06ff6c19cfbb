-- The kinds of whole numbers as those of the terms of types: `whole_kind`, `ptype_of`.
use Rattle.vortex_terms.specs.Term.{WholeKind}
use Rattle.vortex_terms.specs.Term as term
use Rattle.vortex_number.specs.declared.ptype.PType.{PType}
use Rattle.vortex_number.specs.declared.ptype.PType.TheVariants.{U8, U16, U32, U64, I8, I16, I32}
use Rattle.vortex_number.specs.declared.ptype.PType.TheVariants.{I64}

-- the kind in a term
abbrev pub whole_kind : PType → WholeKind
whole_kind U8 = term.unsigned_8
whole_kind U16 = term.unsigned_16
whole_kind U32 = term.unsigned_32
whole_kind U64 = term.unsigned_64
whole_kind I8 = term.signed_8
whole_kind I16 = term.signed_16
whole_kind I32 = term.signed_32
whole_kind I64 = term.signed_64

-- the kind that is this one in a term
abbrev pub ptype_of : WholeKind → PType
ptype_of term.unsigned_8 = U8
ptype_of term.unsigned_16 = U16
ptype_of term.unsigned_32 = U32
ptype_of term.unsigned_64 = U64
ptype_of term.signed_8 = I8
ptype_of term.signed_16 = I16
ptype_of term.signed_32 = I32
ptype_of term.signed_64 = I64
