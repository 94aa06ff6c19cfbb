-- Which rows are picked, and where what is in them lies.
--     places_in       the places of the rows that are picked, in order
--     ArePicks        what is picked is of so many rows
--     RefusesPick     why rows are not picked
--     ColumnMuch, AnyMuch, ContentMuch, TextsMuch, ListsMuch      what is at places is too much
--     start_in        where what is in a row starts
--     AreParts        what is in so many rows lies one behind the other
use Rattle.std.specs.Prelude.{◌≡◌, ◌≤◌, ◌<◌, ◌*◌, ◌-◌, ◌⊎◌, ℕ, suc, List, [], ◌∷◌, map, length, slice_index_or}
use Rattle.std.specs.List.{AllByRecursion, flat_map, sum_by}
use Rattle.vortex_mask.specs.Truths.{places_of}
use Rattle.vortex_terms.specs.Term.{Term}
use Rattle.vortex_terms.specs.Row.{bytes_row}
use Rattle.vortex_terms.specs.Fits.{Fits}
use Rattle.vortex_terms.specs.Parts.{byte_count, inner_rows}
use Rattle.vortex_terms.specs.FromColumns.{list_rows, masked}
use Rattle.vortex_node_rows.specs.RowsOf.{most_rows, Validity}
use Rattle.vortex_leaves.specs.Texts.{TextBytes, text_pieces}
use Rattle.vortex_array_data.specs.Column.{Column}
use Rattle.vortex_array_data.specs.Content.{content_rows}
use Rattle.vortex_array_data.specs.Taken.{HoldsMuch, MayPass}
use Rattle.vortex_array_data.specs.declared.held.Content.{Content}
use Rattle.vortex_array_data.specs.declared.error.ArrayError.{ArrayError}
use Rattle.vortex_array_data.specs.declared.error.ArrayError.TheVariants.{OutOfMemory, TooLarge}
use Rattle.vortex_array_data.specs.declared.pick_rows.Picks.{Picks}
use Rattle.vortex_array_data.specs.declared.pick_rows.Picks.TheVariants.{Range, Mask, Places}
use Rattle.vortex_array_data.specs.declared.pick_parts.Parts.{Parts}
use Rattle.vortex_array_data.specs.declared.pick_parts.Parts.TheVariants.{Between, Even}
use Rattle.vortex_array_data.specs.inner.Picked.{from_on, picked}
use Rattle.vortex_array_data.specs.inner.Spans.{AreStarts}

-- the places of the rows that are picked, in order
abbrev pub places_in : Picks → List ℕ
places_in (Range from to) = from_on (to - from) from
places_in (Mask m) = places_of m.now
places_in (Places ps) = ps.now

-- what is picked is of n rows
abbrev pub ArePicks : ℕ → Picks → Type 0
ArePicks n (Range from to) = (from ≤ to) × (to ≤ n)
ArePicks n (Mask m) = length m.now ≡ n
ArePicks n (Places ps) = AllByRecursion (λ p. p < n) ps.now

-- only at places may it be too much, of which P says so
abbrev pub PicksMuch : Picks → (List ℕ → Type 0) → Type 0
PicksMuch (Range from to) P = ⊥
PicksMuch (Mask m) P = ⊥
PicksMuch (Places ps) P = MayPass ps.now × P ps.now

-- memory lacks, or it is too much
abbrev pub RefusesPick : Picks → (List ℕ → Type 0) → ArrayError → Type 0
RefusesPick picks P e = (e ≡ OutOfMemory) ⊎ ((e ≡ TooLarge) × PicksMuch picks P)

-- the rows of a column at these places are too much
abbrev pub ColumnMuch : Column → List ℕ → Type 0
ColumnMuch c ps = HoldsMuch c.dtype (picked ps c.rows)

-- those of one of the columns, which fit its type
abbrev pub AnyMuch : List Column → List ℕ → Type 0
AnyMuch [] ps = ⊥
AnyMuch (c ∷ cs) ps = (AllByRecursion (Fits c.dtype) c.rows × ColumnMuch c ps) ⊎ AnyMuch cs ps

-- n rows as they are held, and a mask
abbrev pub ContentMuch : Term → ℕ → Validity → Content → List ℕ → Type 0
ContentMuch t n v c ps = HoldsMuch t (picked ps (masked v (content_rows c t n)))

-- texts under a mask have too many bytes
abbrev pub TextsMuch : Validity → TextBytes → List ℕ → Type 0
TextsMuch v a ps = most_rows < sum_by byte_count (picked ps (masked v (map bytes_row (text_pieces a))))

-- the elements of lists under a mask are too much
abbrev pub ListsMuch : Validity → List ℕ → Column → List ℕ → Type 0
ListsMuch v offsets es ps =
    HoldsMuch es.dtype (flat_map inner_rows (picked ps (masked v (list_rows offsets es.rows))))

-- where what is in a row starts
abbrev pub start_in : Parts → ℕ → ℕ
start_in (Between offsets) i = slice_index_or offsets.now i 0
start_in (Even size) i = i * size

-- there are offsets for n rows
abbrev pub HasRows : Parts → ℕ → Type 0
HasRows (Between offsets) n = length offsets.now ≡ suc n
HasRows (Even size) n = Unit {0}

-- what is in n rows lies one behind the other, up to an end
pub record AreParts (parts : Parts) (n end : ℕ) : Type 0 where
  pub starts : AreStarts (start_in parts) n end
  pub rows : HasRows parts n
