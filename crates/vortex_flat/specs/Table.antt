-- Tables and their fields (FlatBuffers binary format; no alignment is asked).
use Rattle.std.specs.Prelude.{Bool, ℕ, ◌+◌, ◌*◌, ◌%◌, ◌&&◌, ◌==◌, List, length, Option, Some, None, pos, ◌-ℤ◌, nat_le, if◌then◌else◌}
use Rattle.vortex_prelude.specs.Chain.{◌>>=◌}
use Rattle.vortex_flat.specs.Numbers.{number, signed_32, natural}

-- a table: its place, that of its vtable, the vtable's size, and the size of its inline part
pub record TableShape : Type 0 where
  pub place : ℕ
  pub vtable : ℕ
  pub vtable_size : ℕ
  pub inline_size : ℕ

-- the sizes are such as the format has, and both parts lie in a buffer of that length
abbrev pub fits : TableShape → ℕ → Bool
fits t len =
    (t.vtable_size % 2 == 0) && nat_le 4 t.vtable_size && nat_le (t.vtable + t.vtable_size) len
    && nat_le 4 t.inline_size && nat_le (t.place + t.inline_size) len

-- The table at place p: four signed bytes tell how far before it the vtable stands, which begins
-- with its own size and the size of the inline part.
unfoldable pub table_at : List ℕ → ℕ → Option TableShape
table_at b p = do
  back ← signed_32 b p
  v ← natural (pos p -ℤ back)
  vtable_size ← number b v 2
  inline_size ← number b (v + 2) 2
  let t : TableShape =
      record { place = p; vtable = v; vtable_size = vtable_size; inline_size = inline_size }
  if fits t (length b) then Some t else None

-- the table that a buffer begins with the place of
abbrev pub root_at : List ℕ → Option TableShape
root_at b = number b 0 4 >>= table_at b

-- Where field k, of w bytes, lies in a table: nowhere, which is no fault, where the vtable has no
-- entry for it or has 0; else at its entry's distance from the table, within the inline part.
unfoldable pub field_in : List ℕ → TableShape → ℕ → ℕ → Option (Option ℕ)
field_in b t k w =
    if nat_le t.vtable_size (4 + 2 * k) then Some None else (do
      entry ← number b (t.vtable + 4 + 2 * k) 2
      if entry == 0 then Some None
          else (if nat_le 4 entry && nat_le (entry + w) t.inline_size
          then Some (Some (t.place + entry)) else None))

-- where field k, of w bytes, lies in the table at place p
abbrev pub field_at : List ℕ → ℕ → ℕ → ℕ → Option (Option ℕ)
field_at b p k w = table_at b p >>= λ t. field_in b t k w
