-- What is made of parts, and why not.
--     made_extension     an extension type
--     made_fields        the fields of a struct
use Rattle.std.specs.Prelude.{ℕ, nat_eq, if◌then◌else◌, List, length, Option, Result, Ok, Err}
use Rattle.vortex_terms.specs.Term.{Term, Fields}
use Rattle.vortex_terms.specs.Types.{is_extension, fields_from}
use Rattle.vortex_names.specs.declared.error.DTypeError.{DTypeError}
use Rattle.vortex_names.specs.declared.error.DTypeError.TheVariants as error
use Rattle.vortex_types.specs.ExtTerm.{ExtTerm}

-- the extension type of an id, which may not be stored as an extension
abbrev pub made_extension : List ℕ → Term → Option (List ℕ) → Result ExtTerm DTypeError
made_extension id t m =
    if is_extension t then Err error.ExtensionStorage
    else Ok (record { id = id; storage = t; metadata = m })

-- the fields of as many names as types
abbrev pub made_fields : List (List ℕ) → List Term → Result Fields DTypeError
made_fields names types =
    if nat_eq (length names) (length types) then Ok (fields_from names types)
    else Err error.LengthMismatch
