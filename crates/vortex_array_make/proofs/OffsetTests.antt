-- Offsets that are tested.
use Rattle.std.proofs.Common.{◌≡◌, ◌≤◌, ℕ, List, Bool, true, false, length, refl, arith}
use Rattle.std.specs.Prelude.{◌&&◌, nat_le}
use Rattle.vortex_terms.specs.FromColumns.{last_from}
use Rattle.vortex_node_rows.specs.Buffers.{never_fall}
use Rattle.vortex_leaves.specs.OffsetTest.{offsets_part}
use Rattle.vortex_leaves.specs.Texts.{AreOffsets}
use Rattle.vortex_array_make.specs.MadeNested.{list_count}

both : (a b : Bool) → a && b ≡ true → (a ≡ true) × (b ≡ true)
both true true h = (refl, refl)
both true false h = absurd (cc)
both false b h = absurd (cc)

is_least : (a b : ℕ) → nat_le a b ≡ true → a ≤ b
is_least a b h = grind (arith, h)

-- what the test finds
pub tested_are : (end : ℕ) (os : List ℕ) → offsets_part os end ≡ true → AreOffsets (list_count os) end os
tested_are end os h =
    let last = both (nat_le 1 (length os) && never_fall os) (nat_le (last_from 0 os) end) h in
    let first = both (nat_le 1 (length os)) (never_fall os) last.0 in
    let some : 1 ≤ length os = is_least 1 (length os) first.0 in
    record {
      count = omega (arith, some);
      rise = first.1;
      within = is_least (last_from 0 os) end last.1;
    }
