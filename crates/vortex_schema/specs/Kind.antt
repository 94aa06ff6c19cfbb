-- The kinds of types, as the code names them.
use Rattle.std.specs.Prelude.{ℕ, Bool, true, false, Option, Some, None, ◌==◌, if◌then◌else◌}
use Rattle.vortex_terms.specs.Term.{Term, null, boolean, primitive, decimal, utf8, binary, structure, list, extension, fixed_size_list}
use Rattle.vortex_schema.specs.declared.kind.TypeKind.{TypeKind}
use Rattle.vortex_schema.specs.declared.kind.TypeKind.TheVariants as kinds

-- the kind of a type
abbrev pub kind_of : Term → TypeKind
kind_of null = kinds.Null
kind_of (boolean n) = kinds.Bool
kind_of (primitive k n) = kinds.Primitive
kind_of (decimal p s n) = kinds.Decimal
kind_of (utf8 n) = kinds.Utf8
kind_of (binary n) = kinds.Binary
kind_of (structure fs n) = kinds.Struct
kind_of (list t n) = kinds.List
kind_of (extension id t m) = kinds.Extension
kind_of (fixed_size_list t k n) = kinds.FixedSizeList

-- the kind with a number
abbrev pub kind_from : ℕ → Option TypeKind
kind_from n =
    if n == 1 then Some kinds.Null else (if n == 2 then Some kinds.Bool else (if n == 3 then Some kinds.Primitive
    else (if n == 4 then Some kinds.Decimal else (if n == 5 then Some kinds.Utf8 else (if n == 6 then Some kinds.Binary
    else (if n == 7 then Some kinds.Struct else (if n == 8 then Some kinds.List else (if n == 9 then Some kinds.Extension
    else (if n == 10 then Some kinds.FixedSizeList else None)))))))))

-- whether it is the kind of extensions
abbrev pub is_extension_kind : TypeKind → Bool
is_extension_kind kinds.Extension = true
is_extension_kind _ = false
