-- A flat buffer as bytes, written by hand: its root table has field 0, the byte 255; field 1, the number 513 of two bytes;
-- field 2, a vector of the bytes 7 and 9; and field 3, which is absent.
use Rattle.std.specs.Prelude.{ℕ, List, [], ◌∷◌}

-- four bytes and what follows
abbrev four_bytes : ℕ → ℕ → ℕ → ℕ → List ℕ → List ℕ
four_bytes a b c d rest = a ∷ b ∷ c ∷ d ∷ rest

abbrev pub worked_buffer : List ℕ
worked_buffer =
    -- the root stands at 16; its vtable has 12 bytes, its inline part 16
    four_bytes 16 0 0 0 (four_bytes 12 0 16 0
    -- field 0 lies at 14, field 1 at 12, field 2 at 8, and field 3 nowhere
    (four_bytes 14 0 12 0 (four_bytes 8 0 0 0
    -- the table: its vtable stands 12 before it, and field 2 leads 8 further on
    (four_bytes 12 0 0 0 (four_bytes 0 0 0 0 (four_bytes 8 0 0 0 (four_bytes 1 2 255 0
    -- the vector
    (four_bytes 2 0 0 0 (four_bytes 7 9 0 0 [])))))))))
