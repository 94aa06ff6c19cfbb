-- The one layout. Sizes and places come first, as running sums, and then the bytes.
use Rattle.std.specs.Prelude.{ℕ, suc, ◌+◌, ◌-◌, ◌*◌, ◌%◌, ◌==◌, ◌&&◌, Bool, true, List, [], ◌∷◌, ◌++◌, length, replicate, Option, Some, None, nat_le, if◌then◌else◌}
use Rattle.std.specs.Int.{w8, bytes_low_first, cast_unsigned}
use Rattle.vortex_flat.specs.declared.extent.TheConstants.{LARGEST_PART}
use Rattle.vortex_flat.specs.Tree.{Wide, one, two, four, eight, wide, Tree, table, offsets, bytes, text, numbers, records, SlotTrees, no_slots, absent, number_slot, signed_slot, target_slot, Trees, no_trees, tree, slot_count, tree_count}

-- the w bytes of n, the lowest first
abbrev pub low_first : ℕ → ℕ → List ℕ
low_first w n = bytes_low_first 0 w n

-- how far it is from n to the next multiple of 8
abbrev pub gap : ℕ → ℕ
gap n = (8 - n % 8) % 8

-- the next multiple of 8 from n on
abbrev pub round_up : ℕ → ℕ
round_up n = n + gap n

-- the bytes with zeros up to the next multiple of 8
abbrev pub padded : List ℕ → List ℕ
padded xs = xs ++ replicate (gap (length xs)) 0

-- whether two widths are the same
abbrev pub is_wide : Wide → Wide → Bool
is_wide v w = wide v == wide w

-- how many slots have a width; an offset has four bytes
abbrev pub count_of : Wide → SlotTrees → ℕ
count_of w no_slots = 0
count_of w (absent s) = count_of w s
count_of w (number_slot v n s) = if is_wide v w then suc (count_of w s) else count_of w s
count_of w (signed_slot z s) = if is_wide one w then suc (count_of w s) else count_of w s
count_of w (target_slot t s) = if is_wide four w then suc (count_of w s) else count_of w s

-- the size of the vtable
abbrev pub vtable_size : SlotTrees → ℕ
vtable_size s = 4 + 2 * slot_count s

-- Where in a table the next slot of each width goes: the widest come first, from place 4, or 8
-- where there is one of 8 bytes.
pub record Places : Type 0 where
  pub eights : ℕ
  pub fours : ℕ
  pub twos : ℕ
  pub ones : ℕ

-- where in a table the first slot goes
abbrev pub first_eight : SlotTrees → ℕ
first_eight s = if count_of eight s == 0 then 4 else 8

-- where in a table the first slot of each width goes
abbrev pub first_places : SlotTrees → Places
first_places s = record {
  eights = first_eight s;
  fours = first_eight s + 8 * count_of eight s;
  twos = first_eight s + 8 * count_of eight s + 4 * count_of four s;
  ones = first_eight s + 8 * count_of eight s + 4 * count_of four s + 2 * count_of two s;
}

-- the size of the inline part
abbrev pub inline_size : SlotTrees → ℕ
inline_size s =
    first_eight s + 8 * count_of eight s + 4 * count_of four s + 2 * count_of two s + count_of one s

-- where in a table the next slot of a width goes
abbrev pub place_of : Places → Wide → ℕ
place_of p one = p.ones
place_of p two = p.twos
place_of p four = p.fours
place_of p eight = p.eights

-- the places after one slot of a width
abbrev pub after : Places → Wide → Places
after p one = record p { ones = p.ones + 1 }
after p two = record p { twos = p.twos + 2 }
after p four = record p { fours = p.fours + 4 }
after p eight = record p { eights = p.eights + 8 }

-- the entries of the vtable, where these are the places of the next slots
abbrev pub entries : SlotTrees → Places → List ℕ
entries no_slots p = []
entries (absent s) p = low_first 2 0 ++ entries s p
entries (number_slot w n s) p = low_first 2 (place_of p w) ++ entries s (after p w)
entries (signed_slot z s) p = low_first 2 p.ones ++ entries s (after p one)
entries (target_slot t s) p = low_first 2 p.fours ++ entries s (after p four)

-- how far behind its first byte the place of a tree is: a table stands behind its vtable
abbrev pub head : Tree → ℕ
head (table s) = round_up (vtable_size s)
head (offsets ts) = 0
head (bytes xs) = 0
head (text xs) = 0
head (numbers xs) = 0
head (records xs) = 0

-- the size of a tree without what hangs on it
abbrev pub own_size : Tree → ℕ
own_size (table s) = round_up (vtable_size s) + round_up (inline_size s)
own_size (offsets ts) = round_up (4 + 4 * tree_count ts)
own_size (bytes xs) = round_up (4 + length xs)
own_size (text xs) = round_up (5 + length xs)
own_size (numbers xs) = round_up (4 + 4 * length xs)
own_size (records xs) = round_up (4 + 8 * length xs)

abbrev mutual
  -- the size of a tree with all that hangs on it
  pub size_of : Tree → ℕ
  size_of (table s) = own_size (table s) + targets_size s
  size_of (offsets ts) = own_size (offsets ts) + trees_size ts
  size_of (bytes xs) = own_size (bytes xs)
  size_of (text xs) = own_size (text xs)
  size_of (numbers xs) = own_size (numbers xs)
  size_of (records xs) = own_size (records xs)

  -- the size of all that hangs on slots
  pub targets_size : SlotTrees → ℕ
  targets_size no_slots = 0
  targets_size (absent s) = targets_size s
  targets_size (number_slot w n s) = targets_size s
  targets_size (signed_slot z s) = targets_size s
  targets_size (target_slot t s) = size_of t + targets_size s

  -- the size of all that the offsets of a vector lead to
  pub trees_size : Trees → ℕ
  trees_size no_trees = 0
  trees_size (tree t ts) = size_of t + trees_size ts

-- the bytes of the numbers of a width, in the order of their slots
abbrev pub slots_of : Wide → SlotTrees → List ℕ
slots_of w no_slots = []
slots_of w (absent s) = slots_of w s
slots_of w (number_slot v n s) =
    if is_wide v w then low_first (wide v) n ++ slots_of w s else slots_of w s
slots_of w (signed_slot z s) =
    if is_wide one w then cast_unsigned w8 z ∷ slots_of w s else slots_of w s
slots_of w (target_slot t s) = slots_of w s

-- The numbers of four bytes and the offsets. The first stands at p, and the first target's first
-- byte will be at q.
abbrev pub fours_of : SlotTrees → ℕ → ℕ → List ℕ
fours_of no_slots p q = []
fours_of (absent s) p q = fours_of s p q
fours_of (number_slot v n s) p q =
    if is_wide v four then low_first 4 n ++ fours_of s (p + 4) q else fours_of s p q
fours_of (signed_slot z s) p q = fours_of s p q
fours_of (target_slot t s) p q = low_first 4 (q + head t - p) ++ fours_of s (p + 4) (q + size_of t)

-- The offsets of a vector. The first stands at p, and the first target's first byte will be at q.
abbrev pub offsets_of : Trees → ℕ → ℕ → List ℕ
offsets_of no_trees p q = []
offsets_of (tree t ts) p q = low_first 4 (q + head t - p) ++ offsets_of ts (p + 4) (q + size_of t)

-- the vtable: its own size, that of the inline part, and the entries
abbrev pub vtable_of : SlotTrees → List ℕ
vtable_of s =
    low_first 2 (vtable_size s) ++ low_first 2 (inline_size s) ++ entries s (first_places s)

-- the inline part: the distance from the vtable, and then the slots, the widest first
abbrev pub inline_of : SlotTrees → List ℕ
inline_of s =
    low_first 4 (head (table s)) ++ replicate (first_eight s - 4) 0 ++ slots_of eight s
    ++ fours_of s (head (table s) + (first_places s).fours) (own_size (table s))
    ++ slots_of two s ++ slots_of one s

-- the numbers of a vector, w bytes each
abbrev pub numbers_of : ℕ → List ℕ → List ℕ
numbers_of w [] = []
numbers_of w (n ∷ ns) = low_first w n ++ numbers_of w ns

-- the bytes of a tree without what hangs on it
abbrev pub own_bytes : Tree → List ℕ
own_bytes (table s) = padded (vtable_of s) ++ padded (inline_of s)
own_bytes (offsets ts) =
    padded (low_first 4 (tree_count ts) ++ offsets_of ts 4 (own_size (offsets ts)))
own_bytes (bytes xs) = padded (low_first 4 (length xs) ++ xs)
own_bytes (text xs) = padded (low_first 4 (length xs) ++ xs ++ 0 ∷ [])
own_bytes (numbers xs) = padded (low_first 4 (length xs) ++ numbers_of 4 xs)
own_bytes (records xs) = padded (low_first 4 (length xs) ++ numbers_of 8 xs)

abbrev mutual
  -- the bytes of a tree, and then of what hangs on it, target by target
  pub bytes_of : Tree → List ℕ
  bytes_of (table s) = own_bytes (table s) ++ targets_bytes s
  bytes_of (offsets ts) = own_bytes (offsets ts) ++ trees_bytes ts
  bytes_of (bytes xs) = own_bytes (bytes xs)
  bytes_of (text xs) = own_bytes (text xs)
  bytes_of (numbers xs) = own_bytes (numbers xs)
  bytes_of (records xs) = own_bytes (records xs)

  -- the bytes of all that hangs on slots
  pub targets_bytes : SlotTrees → List ℕ
  targets_bytes no_slots = []
  targets_bytes (absent s) = targets_bytes s
  targets_bytes (number_slot w n s) = targets_bytes s
  targets_bytes (signed_slot z s) = targets_bytes s
  targets_bytes (target_slot t s) = bytes_of t ++ targets_bytes s

  -- the bytes of all that the offsets of a vector lead to
  pub trees_bytes : Trees → List ℕ
  trees_bytes no_trees = []
  trees_bytes (tree t ts) = bytes_of t ++ trees_bytes ts

abbrev mutual
  -- whether each table of a tree keeps to the largest sizes that a vtable can tell
  pub tables_fit : Tree → Bool
  tables_fit (table s) =
      nat_le (vtable_size s) LARGEST_PART && nat_le (inline_size s) LARGEST_PART && targets_fit s
  tables_fit (offsets ts) = trees_fit ts
  tables_fit (bytes xs) = true
  tables_fit (text xs) = true
  tables_fit (numbers xs) = true
  tables_fit (records xs) = true

  -- whether each table that hangs on slots keeps to these sizes
  pub targets_fit : SlotTrees → Bool
  targets_fit no_slots = true
  targets_fit (absent s) = targets_fit s
  targets_fit (number_slot w n s) = targets_fit s
  targets_fit (signed_slot z s) = targets_fit s
  targets_fit (target_slot t s) = tables_fit t && targets_fit s

  -- whether each table that the offsets of a vector lead to keeps to these sizes
  pub trees_fit : Trees → Bool
  trees_fit no_trees = true
  trees_fit (tree t ts) = tables_fit t && trees_fit ts

-- the place of the root, and then the root from byte 8 on
abbrev pub whole_of : Tree → List ℕ
whole_of t = low_first 4 (8 + head t) ++ low_first 4 0 ++ bytes_of t

-- The layout of a tree, where its tables fit and its bytes are no more than an offset can tell.
unfoldable pub layout_of : Tree → Option (List ℕ)
layout_of t =
    if tables_fit t && nat_le (8 + size_of t) 4_294_967_295 then Some (whole_of t) else None
