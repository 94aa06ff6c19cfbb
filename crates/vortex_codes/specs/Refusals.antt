-- Why a table refuses a key: `IsOfSize`.
use Rattle.vortex_codes.specs.declared.error.DictError.{DictError}
use Rattle.vortex_codes.specs.declared.error.DictError.TheVariants.{CannotEncode, TypeMismatch}
use Rattle.vortex_codes.specs.declared.error.DictError.TheVariants.{NotAll, CastRefused, TooLarge}
use Rattle.vortex_codes.specs.declared.error.DictError.TheVariants.{OutOfMemory}

-- the bytes of the keys would be too many, or memory ran out
abbrev pub IsOfSize : DictError → Type 0
IsOfSize TooLarge = Unit {0}
IsOfSize OutOfMemory = Unit {0}
IsOfSize CannotEncode = ⊥
IsOfSize TypeMismatch = ⊥
IsOfSize (NotAll encoded rows) = ⊥
IsOfSize (CastRefused row) = ⊥
