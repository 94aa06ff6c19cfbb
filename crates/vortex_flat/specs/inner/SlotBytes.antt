-- What one slot adds to a layout.
use Rattle.std.specs.Prelude.{ℕ, ◌≤◌, ◌<◌, ◌^◌, Bool, true, FitsSigned, ◌+◌, ◌-◌, ◌*◌, ◌==◌, ◌&&◌, min, List, [], ◌∷◌, Option, Some, None, if◌then◌else◌}
use Rattle.std.specs.Int.{w8, cast_unsigned}
use Rattle.vortex_flat.specs.declared.width_counts.WidthCounts.{WidthCounts}
use Rattle.vortex_flat.specs.declared.places.SlotPlaces.{SlotPlaces}
use Rattle.vortex_flat.specs.Reads.{InRange}
use Rattle.vortex_flat.specs.declared.extent.Extent.{Extent}
use Rattle.vortex_flat.specs.declared.item.Slot.{Slot}
use Rattle.vortex_flat.specs.declared.item.Slot.TheVariants as slots
use Rattle.vortex_flat.specs.declared.extent.TheConstants.{LIMIT}
use Rattle.vortex_flat.specs.Tree.{Wide, one, two, four, eight, wide, SlotTrees}
use Rattle.vortex_flat.specs.Item.{tree_of}
use Rattle.vortex_flat.specs.Layout.{low_first, is_wide, count_of, Places, after, bytes_of, head, size_of, tables_fit}

-- the counts with one more slot
abbrev pub counts_after : WidthCounts → Option Slot → WidthCounts
counts_after c None = c
counts_after c (Some (slots.U8 n)) = record c { ones = c.ones + 1 }
counts_after c (Some (slots.I8 z)) = record c { ones = c.ones + 1 }
counts_after c (Some (slots.U16 n)) = record c { twos = c.twos + 1 }
counts_after c (Some (slots.U32 n)) = record c { fours = c.fours + 1 }
counts_after c (Some (slots.U64 n)) = record c { eights = c.eights + 1 }
counts_after c (Some (slots.Item t)) = record c { fours = c.fours + 1 }

-- the size of the inline part
abbrev pub inline_of_counts : WidthCounts → ℕ
inline_of_counts c =
    (if c.eights == 0 then 4 else 8) + 8 * c.eights + 4 * c.fours + 2 * c.twos + c.ones

-- the extent with what hangs on one more slot
abbrev pub extent_after : Extent → Option Slot → Extent
extent_after e (Some (slots.Item t)) = record {
  size = min (e.size + min (size_of (tree_of t)) LIMIT) LIMIT;
  fits = e.fits && tables_fit (tree_of t);
}
extent_after e _ = e

-- the bytes that a slot adds to the numbers of a width
abbrev pub number_bytes : Wide → Option Slot → List ℕ
number_bytes w None = []
number_bytes w (Some (slots.U8 n)) = if is_wide one w then low_first 1 n else []
number_bytes w (Some (slots.I8 z)) = if is_wide one w then cast_unsigned w8 z ∷ [] else []
number_bytes w (Some (slots.U16 n)) = if is_wide two w then low_first 2 n else []
number_bytes w (Some (slots.U32 n)) = if is_wide four w then low_first 4 n else []
number_bytes w (Some (slots.U64 n)) = if is_wide eight w then low_first 8 n else []
number_bytes w (Some (slots.Item t)) = []

-- the places as the code keeps them
abbrev pub places_of : SlotPlaces → Places
places_of p = record { eights = p.eights; fours = p.fours; twos = p.twos; ones = p.ones }

-- the places before the first slot, by how many slots have each width
abbrev pub places_of_counts : WidthCounts → Places
places_of_counts c = record {
  eights = if c.eights == 0 then 4 else 8;
  fours = (if c.eights == 0 then 4 else 8) + 8 * c.eights;
  twos = (if c.eights == 0 then 4 else 8) + 8 * c.eights + 4 * c.fours;
  ones = (if c.eights == 0 then 4 else 8) + 8 * c.eights + 4 * c.fours + 2 * c.twos;
}

-- the entry of a slot in the vtable, 0 where it is absent
abbrev pub entry_of : Option Slot → Places → ℕ
entry_of None p = 0
entry_of (Some (slots.U8 n)) p = p.ones
entry_of (Some (slots.I8 z)) p = p.ones
entry_of (Some (slots.U16 n)) p = p.twos
entry_of (Some (slots.U32 n)) p = p.fours
entry_of (Some (slots.U64 n)) p = p.eights
entry_of (Some (slots.Item t)) p = p.fours

-- the places after a slot
abbrev pub places_after : Option Slot → Places → Places
places_after None p = p
places_after (Some (slots.U8 n)) p = after p one
places_after (Some (slots.I8 z)) p = after p one
places_after (Some (slots.U16 n)) p = after p two
places_after (Some (slots.U32 n)) p = after p four
places_after (Some (slots.U64 n)) p = after p eight
places_after (Some (slots.Item t)) p = after p four

-- all slots get a place in an inline part of at most limit bytes
pub record HaveRoom (p : Places) (s : SlotTrees) (limit : ℕ) : Type 0 where
  pub eights : p.eights + 8 * count_of eight s ≤ limit
  pub fours : p.fours + 4 * count_of four s ≤ limit
  pub twos : p.twos + 2 * count_of two s ≤ limit
  pub ones : p.ones + count_of one s ≤ limit

-- the four bytes that a slot adds at place p, where the next target's first byte will be at q
abbrev pub four_bytes : Option Slot → ℕ → ℕ → List ℕ
four_bytes (Some (slots.U32 n)) p q = low_first 4 n
four_bytes (Some (slots.Item t)) p q = low_first 4 (q + head (tree_of t) - p)
four_bytes _ p q = []

-- the place for the next slot of four bytes, after a slot
abbrev pub four_place : Option Slot → ℕ → ℕ
four_place (Some (slots.U32 n)) p = p + 4
four_place (Some (slots.Item t)) p = p + 4
four_place _ p = p

-- the size of a slot's target with all that hangs on it
abbrev pub target_size : Option Slot → ℕ
target_size (Some (slots.Item t)) = size_of (tree_of t)
target_size _ = 0

-- a slot's target keeps to the sizes of tables
abbrev pub target_fits : Option Slot → Bool
target_fits (Some (slots.Item t)) = tables_fit (tree_of t)
target_fits _ = true

-- the bytes of a slot's target with all that hangs on it
abbrev pub target_bytes : Option Slot → List ℕ
target_bytes (Some (slots.Item t)) = bytes_of (tree_of t)
target_bytes _ = []

-- a slot's number is such as its width holds, and its target's are
abbrev pub SlotInRange : Option Slot → Type 0
SlotInRange None = Unit {0}
SlotInRange (Some (slots.U8 n)) = n < 2 ^ (8 * wide one)
SlotInRange (Some (slots.I8 z)) = FitsSigned w8 z
SlotInRange (Some (slots.U16 n)) = n < 2 ^ (8 * wide two)
SlotInRange (Some (slots.U32 n)) = n < 2 ^ (8 * wide four)
SlotInRange (Some (slots.U64 n)) = n < 2 ^ (8 * wide eight)
SlotInRange (Some (slots.Item t)) = InRange (tree_of t)
