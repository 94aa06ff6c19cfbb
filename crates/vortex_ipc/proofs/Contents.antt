-- What a message holds, by its kind.
use Rattle.std.proofs.Common.{◌≡◌, ℕ, List, refl}
use Rattle.vortex_stream.specs.Header.{Content, array_content, buffer_content, type_content, kind_of}
use Rattle.vortex_stream.specs.declared.kind.MessageKind.TheVariants as kinds

array_no_type : kinds.Array ≡ kinds.DType → ⊥
array_no_type e = cc

buffer_no_type : kinds.Buffer ≡ kinds.DType → ⊥
buffer_no_type e = cc

buffer_no_array : kinds.Buffer ≡ kinds.Array → ⊥
buffer_no_array e = cc

type_no_array : kinds.DType ≡ kinds.Array → ⊥
type_no_array e = cc

array_no_buffer : kinds.Array ≡ kinds.Buffer → ⊥
array_no_buffer e = cc

type_no_buffer : kinds.DType ≡ kinds.Buffer → ⊥
type_no_buffer e = cc

pub type_from : (c : Content) → kind_of c ≡ kinds.DType → c ≡ type_content
type_from (array_content rows names) e = absurd (array_no_type e)
type_from (buffer_content exponent) e = absurd (buffer_no_type e)
type_from type_content e = refl

pub array_from : (c : Content) → kind_of c ≡ kinds.Array → (rows : ℕ) × (names : List (List ℕ)) × (c ≡ array_content rows names)
array_from (array_content rows names) e = (rows, names, refl)
array_from (buffer_content exponent) e = absurd (buffer_no_array e)
array_from type_content e = absurd (type_no_array e)

pub buffer_from : (c : Content) → kind_of c ≡ kinds.Buffer → (exponent : ℕ) × (c ≡ buffer_content exponent)
buffer_from (array_content rows names) e = absurd (array_no_buffer e)
buffer_from (buffer_content exponent) e = (exponent, refl)
buffer_from type_content e = absurd (type_no_buffer e)
