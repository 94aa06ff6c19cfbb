-- Whether two types are equal, as a test.
use Rattle.std.specs.Prelude.{Bool, true, false, ◌&&◌, nat_eq}
use Rattle.std.specs.Bool.{beq}
use Rattle.std.specs.Ordering.{int_eq}
use Rattle.std.specs.Option.{option_eq}
use Rattle.std.specs.Str.{bytes_eq}
use Rattle.vortex_terms.specs.Term.{WholeKind, Term, null, boolean, primitive, decimal, utf8, binary, structure, list, extension, fixed_size_list, Fields, no_fields, field}
use Rattle.vortex_terms.specs.Types.{bare}
use Rattle.vortex_terms.specs.TermCode.{kind_number}

-- whether two kinds are equal
abbrev pub kind_eq : WholeKind → WholeKind → Bool
kind_eq k l = nat_eq (kind_number k) (kind_number l)

-- whether two types, or two lists of fields, are equal
abbrev mutual
  pub term_eq : Term → Term → Bool
  term_eq null null = true
  term_eq (boolean n) (boolean m) = beq n m
  term_eq (primitive k n) (primitive l m) = kind_eq k l && beq n m
  term_eq (decimal p s n) (decimal q r m) = nat_eq p q && int_eq s r && beq n m
  term_eq (utf8 n) (utf8 m) = beq n m
  term_eq (binary n) (binary m) = beq n m
  term_eq (structure fs n) (structure gs m) = beq n m && fields_eq fs gs
  term_eq (list t n) (list u m) = beq n m && term_eq t u
  term_eq (extension id t m) (extension jd u l) =
      bytes_eq id jd && option_eq bytes_eq m l && term_eq t u
  term_eq (fixed_size_list t k n) (fixed_size_list u l m) = beq n m && nat_eq k l && term_eq t u
  term_eq _ _ = false

  pub fields_eq : Fields → Fields → Bool
  fields_eq no_fields no_fields = true
  fields_eq (field x t fs) (field y u gs) = bytes_eq x y && term_eq t u && fields_eq fs gs
  fields_eq _ _ = false

-- whether two types are the same apart from nullability
abbrev pub is_same : Term → Term → Bool
is_same t u = term_eq (bare t) (bare u)
