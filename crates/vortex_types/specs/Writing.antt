-- What is written for a type: `Writes`, and as a Protocol Buffers message: `WritesMessage`.
use Rattle.std.specs.Prelude.{◌≡◌, ◌⊎◌, ℕ, Result, Ok, Err, Some}
use Rattle.std.specs.Global.{Vec}
use Rattle.vortex_buffer.specs.Buffer.{Buffer}
use Rattle.vortex_flat.specs.Layout.{layout_of}
use Rattle.vortex_terms.specs.Term.{Term}
use Rattle.vortex_terms.specs.Types.{Bounded}
use Rattle.vortex_schema.specs.TypeTree.{tree_of_type}
use Rattle.vortex_proto.specs.TypeBytes.{type_bytes}
use Rattle.vortex_names.specs.declared.error.DTypeError.{DTypeError}
use Rattle.vortex_names.specs.declared.error.DTypeError.TheVariants as error

-- the bytes are the layout of the type's tree, and TooLarge comes exactly where the type is outside
-- the limits, unless memory ran out
abbrev pub Writes : Result Buffer DTypeError → Term → Type 0
Writes (Ok b) t = (layout_of (tree_of_type t) ≡ Some b.bytes) × (b.exponent ≡ 0) × Bounded t
Writes (Err e) t = (e ≡ error.OutOfMemory) ⊎ ((e ≡ error.TooLarge) × ¬ Bounded t)

-- The bytes are the message of the type. TooLarge comes exactly where the type is outside the limits,
-- unless memory ran out.
abbrev pub WritesMessage : Result (Vec ℕ) DTypeError → Term → Type 0
WritesMessage (Ok v) t = (v.items ≡ type_bytes t) × Bounded t
WritesMessage (Err e) t = (e ≡ error.OutOfMemory) ⊎ ((e ≡ error.TooLarge) × ¬ Bounded t)
