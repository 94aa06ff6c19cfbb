-- Bounds of bytes.
--     byte_lower_bound n bytes    the first n of them
--     byte_upper_bound n bytes    at most n bytes: themselves; and else their first n, raised, if these can be
use Rattle.std.specs.Prelude.{ℕ, suc, List, [], ◌∷◌, Option, Some, None, length, take, map, nat_le, nat_lt, if◌then◌else◌}
use Rattle.std.specs.Option.{option_map, option_or}

abbrev pub byte_lower_bound : ℕ → List ℕ → List ℕ
byte_lower_bound n bytes = take n bytes

-- the last byte below 255 is one higher, and each one after it 0
unfoldable pub raised_bytes : List ℕ → Option (List ℕ)
raised_bytes [] = None
raised_bytes (byte ∷ bytes) =
    option_or (option_map (λ raised. byte ∷ raised) (raised_bytes bytes))
    (if nat_lt byte 255 then Some (suc byte ∷ map (λ _. 0) bytes) else None)

abbrev pub byte_upper_bound : ℕ → List ℕ → Option (List ℕ)
byte_upper_bound n bytes = if nat_le (length bytes) n then Some bytes else raised_bytes (take n bytes)
