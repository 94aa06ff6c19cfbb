-- Whether offsets part so many bytes or elements: `offsets_part`.
use Rattle.std.specs.Prelude.{◌&&◌, ℕ, List, Bool, length, nat_le}
use Rattle.vortex_terms.specs.FromColumns.{last_from}
use Rattle.vortex_node_rows.specs.Buffers.{never_fall}

-- there is an offset, none is below the one before it, and the last is at most the end
abbrev pub offsets_part : List ℕ → ℕ → Bool
offsets_part os end = nat_le 1 (length os) && never_fall os && nat_le (last_from 0 os) end
