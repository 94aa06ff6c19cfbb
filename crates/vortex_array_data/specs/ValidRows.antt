-- Which rows are not null.
--     valid_rows     a truth value for each row
--     met            truth values that are false where a mask is
--     valid_at       the truth value of a mask at a place
use Rattle.std.specs.Prelude.{ℕ, List, Bool, true, false, not, Some, None, map, slice_index_or}
use Rattle.vortex_terms.specs.Row.{Row, is_null}
use Rattle.vortex_mask.specs.Truths.{both}
use Rattle.vortex_node_rows.specs.RowsOf.{Validity}

-- for each row whether it is not null
abbrev pub valid_rows : List Row → List Bool
valid_rows rs = map (λ r. not (is_null r)) rs

-- the truth values, false where the mask is
abbrev pub met : Validity → List Bool → List Bool
met None bs = bs
met (Some m) bs = both m bs

-- what a mask says of the row at a place
abbrev pub valid_at : Validity → ℕ → Bool
valid_at None i = true
valid_at (Some m) i = slice_index_or m i false
