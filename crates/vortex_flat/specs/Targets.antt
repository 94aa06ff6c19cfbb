-- What the fields of a table are, and what its offsets lead to (FlatBuffers binary format).
use Rattle.std.specs.Prelude.{ℕ, ◌+◌, ◌*◌, List, length, take, drop, Option, Some, None, ℤ, nat_le, if◌then◌else◌}
use Rattle.std.specs.Option.{option_map}
use Rattle.std.specs.Str.{is_utf8}
use Rattle.vortex_flat.specs.Numbers.{number, signed_8}
use Rattle.vortex_prelude.specs.Absent.{or_else}
use Rattle.vortex_prelude.specs.Chain.{◌>>=◌}
use Rattle.vortex_flat.specs.Table.{root_at, table_at, field_at}

-- f of a field that is there
abbrev pub if_present : {A B : Type 0} → Option (Option A) → (A → Option B) → Option (Option B)
if_present None f = None
if_present (Some None) f = Some None
if_present (Some (Some x)) f = option_map Some (f x)

-- the number of w bytes that field k is
abbrev pub number_field : List ℕ → ℕ → ℕ → ℕ → Option (Option ℕ)
number_field b p k w = if_present (field_at b p k w) (λ i. number b i w)

-- the signed byte that field k is
abbrev pub signed_field : List ℕ → ℕ → ℕ → Option (Option ℤ)
signed_field b p k = if_present (field_at b p k 1) (signed_8 b)

-- the place that the offset at place i leads to: it counts from its own
abbrev pub follow : List ℕ → ℕ → Option ℕ
follow b i = option_map (λ distance. i + distance) (number b i 4)

-- the place that a field's offset leads to
abbrev pub target_field : List ℕ → ℕ → ℕ → Option (Option ℕ)
target_field b p k = if_present (field_at b p k 4) (follow b)

-- the place of a table, where one stands there
abbrev pub table_place : List ℕ → ℕ → Option ℕ
table_place b p = option_map (λ t. t.place) (table_at b p)

-- the place of the root
abbrev pub root_place : List ℕ → Option ℕ
root_place b = option_map (λ t. t.place) (root_at b)

-- the place of the table that a field's offset leads to
abbrev pub table_field : List ℕ → ℕ → ℕ → Option (Option ℕ)
table_field b p k = if_present (target_field b p k) (table_place b)

-- a vector: the place of its first element, the width of each, and how many there are
pub record VectorShape : Type 0 where
  pub first : ℕ
  pub width : ℕ
  pub count : ℕ

-- the vector at place p, all of whose elements lie in the buffer
unfoldable pub vector_at : List ℕ → ℕ → ℕ → Option VectorShape
vector_at b p w = do
  n ← number b p 4
  if nat_le (p + 4 + w * n) (length b)
      then Some (record { first = p + 4; width = w; count = n }) else None

-- the vector of width w that a field's offset leads to
abbrev pub vector_field : List ℕ → ℕ → ℕ → ℕ → Option (Option VectorShape)
vector_field b p k w = if_present (target_field b p k) (λ i. vector_at b i w)

-- the vector, and where it is absent one of that width without elements
abbrev pub or_empty : ℕ → Option (Option VectorShape) → Option VectorShape
or_empty w field = or_else (record { first = 0; width = w; count = 0 }) field

-- the place of element i
abbrev pub element : VectorShape → ℕ → ℕ
element v i = v.first + v.width * i

-- the bytes of the vector of width 1 at place p
abbrev pub bytes_at : List ℕ → ℕ → Option (List ℕ)
bytes_at b p = option_map (λ v. take v.count (drop v.first b)) (vector_at b p 1)

-- the bytes of the vector of width 1 at place p, where they are UTF-8
abbrev pub text_at : List ℕ → ℕ → Option (List ℕ)
text_at b p = bytes_at b p >>= λ text. if is_utf8 text then Some text else None

-- the bytes that a field's offset leads to
abbrev pub bytes_field : List ℕ → ℕ → ℕ → Option (Option (List ℕ))
bytes_field b p k = if_present (target_field b p k) (bytes_at b)

-- the text that a field's offset leads to
abbrev pub text_field : List ℕ → ℕ → ℕ → Option (Option (List ℕ))
text_field b p k = if_present (target_field b p k) (text_at b)

-- the place of the table that element i of a vector of offsets leads to
abbrev pub table_element : List ℕ → VectorShape → ℕ → Option ℕ
table_element b v i = follow b (element v i) >>= table_place b

-- the text that element i of a vector of offsets leads to
abbrev pub text_element : List ℕ → VectorShape → ℕ → Option (List ℕ)
text_element b v i = follow b (element v i) >>= text_at b

-- a table as a reader holds it: the buffer, and the place in it
pub record TableView : Type 0 where
  pub buffer : List ℕ
  pub place : ℕ

-- a vector as a reader holds it: the buffer, and where in it
pub record VectorView : Type 0 where
  pub buffer : List ℕ
  pub shape : VectorShape

-- the table at a place of a buffer
abbrev pub table_view : List ℕ → ℕ → TableView
table_view b p = record { buffer = b; place = p }

-- the vector of that shape in a buffer
abbrev pub vector_view : List ℕ → VectorShape → VectorView
vector_view b v = record { buffer = b; shape = v }
