-- What the constructors of arrays without children make, and why they refuse.
--     leaf_column               rows in an encoding, null where a mask is false
--     leaf_refusal              n rows and a mask under a type
--     texts_refusal             pieces between offsets, texts or bytes by the type
--     constant_refusal          n rows of one scalar, or of nulls
use Rattle.std.specs.Prelude.{ℕ, ◌-◌, not, Bool, true, false, List, [], ◌∷◌, Option, None, length}
use Rattle.vortex_terms.specs.Term.{Term, null, utf8, binary}
use Rattle.vortex_terms.specs.Types.{nullable}
use Rattle.vortex_terms.specs.Row.{Row, null_row, copies}
use Rattle.vortex_terms.specs.FromColumns.{masked, pieces}
use Rattle.vortex_scalar.specs.ScalarTerm.{ScalarTerm}
use Rattle.vortex_node_rows.specs.declared.encoding.Encoding.{Encoding}
use Rattle.vortex_node_rows.specs.declared.encoding.Encoding.TheVariants as encoding
use Rattle.vortex_node_rows.specs.Leaves.{are_texts}
use Rattle.vortex_node_rows.specs.RowsOf.{Validity}
use Rattle.vortex_leaves.specs.OffsetTest.{offsets_part}
use Rattle.vortex_array_data.specs.ArrayNode.{array_node}
use Rattle.vortex_array_data.specs.Column.{Column}
use Rattle.vortex_array_data.specs.Content.{mask_nodes}
use Rattle.vortex_array_data.specs.Makes.{first_refusal, too_many, mask_differs, mask_hides}
use Rattle.vortex_array_data.specs.declared.error.ArrayError.{ArrayError}
use Rattle.vortex_array_data.specs.declared.error.ArrayError.TheVariants.{LengthMismatch, TooLarge, TypeMismatch}

-- the rows in this encoding, null where the mask is false
abbrev pub leaf_column : Term → Encoding → Validity → List Row → Column
leaf_column t e v rs = record {
  dtype = t;
  rows = masked v rs;
  node = array_node e (length rs) (mask_nodes (length rs) v);
}

-- n rows under a type that is nullable or not
abbrev pub leaf_refusal : ℕ → Bool → Validity → Option ArrayError
leaf_refusal n nl v = first_refusal (
    (too_many n, TooLarge) ∷ (mask_differs n v, LengthMismatch) ∷ (mask_hides nl v, TypeMismatch) ∷ []
    )

-- ---- texts and bytes

-- how many pieces are between offsets
abbrev pub piece_count : List ℕ → ℕ
piece_count os = length os - 1

-- the type is that of texts, and pieces that are not null are UTF-8, or it is that of bytes
abbrev pub takes_pieces : Term → Validity → List (List ℕ) → Bool
takes_pieces (utf8 nl) v ps = are_texts v ps
takes_pieces (binary nl) v ps = true
takes_pieces _ v ps = false

abbrev pub texts_refusal : List ℕ → List ℕ → Term → Validity → Option ArrayError
texts_refusal os bytes t v = first_refusal (
    (too_many (piece_count os), TooLarge)
    ∷ (not (offsets_part os (length bytes)), LengthMismatch)
    ∷ (mask_differs (piece_count os) v, LengthMismatch)
    ∷ (mask_hides (nullable t) v, TypeMismatch)
    ∷ (not (takes_pieces t v (pieces os bytes)), TypeMismatch) ∷ []
    )

-- ---- constants

abbrev pub constant_refusal : ℕ → Option ArrayError
constant_refusal n = first_refusal ((too_many n, TooLarge) ∷ [])

-- n rows that are each the scalar's
abbrev pub made_constant : ScalarTerm → ℕ → Column
made_constant s n = leaf_column s.dtype encoding.Constant None (copies n s.row)

-- n nulls
abbrev pub made_nulls : ℕ → Column
made_nulls n = leaf_column null encoding.Null None (copies n null_row)
