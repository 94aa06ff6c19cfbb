-- What the constructors of arrays that hold others make of them, and why they refuse.
--     lists_refusal, made_lists                lists between offsets
--     fixed_lists_refusal, made_fixed_lists    n lists of k elements each
--     structs_refusal, made_structs            n structs of named fields
--     extensions_refusal, made_extensions      extensions over their storage
use Rattle.std.specs.Prelude.{ℕ, ◌*◌, ◌-◌, ◌==◌, ◌||◌, not, Bool, List, [], ◌∷◌, Option, map, length}
use Rattle.std.specs.List.{list_any}
use Rattle.vortex_terms.specs.Term.{list, fixed_size_list, structure}
use Rattle.vortex_terms.specs.Types.{fields_from}
use Rattle.vortex_terms.specs.Row.{list_row, rows_from}
use Rattle.vortex_terms.specs.Equality.{term_eq}
use Rattle.vortex_terms.specs.FromColumns.{masked, list_rows, struct_rows}
use Rattle.vortex_types.specs.ExtTerm.{ExtTerm, ext_type}
use Rattle.vortex_node_rows.specs.declared.encoding.Encoding.TheVariants as encoding
use Rattle.vortex_node_rows.specs.Pieces.{chunks}
use Rattle.vortex_node_rows.specs.RowsOf.{Validity}
use Rattle.vortex_leaves.specs.OffsetTest.{offsets_part}
use Rattle.vortex_array_data.specs.ArrayNode.{array_node, no_array_nodes, array_child, array_nodes_before}
use Rattle.vortex_array_data.specs.Column.{Column}
use Rattle.vortex_array_data.specs.Content.{column_nodes, column_rows, mask_nodes}
use Rattle.vortex_array_data.specs.Makes.{first_refusal, mask_differs, mask_hides, too_many}
use Rattle.vortex_array_data.specs.declared.error.ArrayError.{ArrayError}
use Rattle.vortex_array_data.specs.declared.error.ArrayError.TheVariants.{LengthMismatch, TooLarge, TypeMismatch}

-- how many lists are between offsets
abbrev pub list_count : List ℕ → ℕ
list_count os = length os - 1

-- the rows are not n
abbrev pub is_not_long : ℕ → Column → Bool
is_not_long n a = not (length a.rows == n)

-- ---- lists between offsets

abbrev pub lists_refusal : Column → List ℕ → Bool → Validity → Option ArrayError
lists_refusal elements os nl v = first_refusal (
    (too_many (list_count os), TooLarge)
    ∷ (mask_differs (list_count os) v || not (offsets_part os (length elements.rows)), LengthMismatch)
    ∷ (mask_hides nl v, TypeMismatch) ∷ []
    )

abbrev pub made_lists : Column → List ℕ → Bool → Validity → Column
made_lists elements os nl v = record {
  dtype = list elements.dtype nl;
  rows = masked v (list_rows os elements.rows);
  node = array_node encoding.List (list_count os) (array_child elements.node (mask_nodes (list_count os) v));
}

-- ---- n lists of k elements each

abbrev pub fixed_lists_refusal : Column → ℕ → ℕ → Bool → Validity → Option ArrayError
fixed_lists_refusal elements k n nl v = first_refusal (
    (too_many n, TooLarge)
    ∷ (mask_differs n v || is_not_long (n * k) elements, LengthMismatch)
    ∷ (mask_hides nl v, TypeMismatch) ∷ []
    )

abbrev pub made_fixed_lists : Column → ℕ → ℕ → Bool → Validity → Column
made_fixed_lists elements k n nl v = record {
  dtype = fixed_size_list elements.dtype k nl;
  rows = masked v (map (λ rs. list_row (rows_from rs)) (chunks k n elements.rows));
  node = array_node encoding.FixedSizeList n (array_child elements.node (mask_nodes n v));
}

-- ---- n structs of named fields

abbrev pub structs_refusal : List (List ℕ) → List Column → ℕ → Bool → Validity → Option ArrayError
structs_refusal names fields n nl v = first_refusal (
    (too_many n, TooLarge)
    ∷ (
      mask_differs n v || not (length names == length fields) || list_any (is_not_long n) fields,
      LengthMismatch,
    )
    ∷ (mask_hides nl v, TypeMismatch) ∷ []
    )

abbrev pub made_structs : List (List ℕ) → List Column → ℕ → Bool → Validity → Column
made_structs names fields n nl v = record {
  dtype = structure (fields_from names (map (λ f. f.dtype) fields)) nl;
  rows = masked v (struct_rows n (column_rows fields));
  node = array_node encoding.Struct n (array_nodes_before (column_nodes fields) (mask_nodes n v));
}

-- ---- extensions over their storage

abbrev pub extensions_refusal : ExtTerm → Column → Option ArrayError
extensions_refusal ext storage =
    first_refusal ((not (term_eq storage.dtype ext.storage), TypeMismatch) ∷ [])

abbrev pub made_extensions : ExtTerm → Column → Column
made_extensions ext storage = record {
  dtype = ext_type ext;
  rows = storage.rows;
  node = array_node encoding.Ext (length storage.rows) (array_child storage.node no_array_nodes);
}
