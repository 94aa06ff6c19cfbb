-- What is picked of lists and of arrays: the elements at places, in order.
--     picked                the elements at places
--     from_on               places that follow one another
--     is_plain_content      no constant stands in how rows are held
--     shown_places          those at which no mask hides a row
--     IsPickedColumn        the rows at places, under the same type
--     ArePickedBelow        rows at places, but for those that are null
--     IsPickedTexts         the texts at places
--     IsPickedLists         the lists at places, by their offsets and elements
--     IsPickedContent       the same of how rows are held
use Rattle.std.specs.Prelude.{◌≡◌, ℕ, zero, suc, List, [], ◌∷◌, Bool, true, if◌then◌else◌, Some, None, map, length}
use Rattle.vortex_terms.specs.Term.{Term}
use Rattle.vortex_terms.specs.Row.{Row, bytes_row}
use Rattle.vortex_terms.specs.FromColumns.{list_rows, masked}
use Rattle.vortex_node_rows.specs.RowsOf.{Validity}
use Rattle.vortex_leaves.specs.Selected.{is_shown}
use Rattle.vortex_leaves.specs.Texts.{AreOffsets, TextBytes, text_pieces}
use Rattle.vortex_array_data.specs.ArrayNode.{no_array_nodes, array_nodes_before}
use Rattle.vortex_array_data.specs.Constants.{is_canonical, are_canonical}
use Rattle.vortex_array_data.specs.Column.{Column}
use Rattle.vortex_array_data.specs.Content.{column_nodes, content_node, content_rows, IsShaped}
use Rattle.vortex_array_data.specs.declared.held.Content.{Content}

-- the element at a place, before others
abbrev pub at_onto : {A : Type 0} → List A → ℕ → List A → List A
at_onto [] i ys = ys
at_onto (x ∷ xs) zero ys = x ∷ ys
at_onto (x ∷ xs) (suc i) ys = at_onto xs i ys

-- the elements at places
abbrev pub picked : {A : Type 0} → List ℕ → List A → List A
picked [] xs = []
picked (i ∷ is) xs = at_onto xs i (picked is xs)

-- so many places from a on
abbrev pub from_on : ℕ → ℕ → List ℕ
from_on zero a = []
from_on (suc k) a = a ∷ from_on k (suc a)

-- the places at which no mask hides a row
abbrev pub shown_places : Validity → List ℕ → List ℕ
shown_places v [] = []
shown_places v (p ∷ ps) = if is_shown v p then p ∷ shown_places v ps else shown_places v ps

-- the truth values at places, where there are any
abbrev pub picked_validity : List ℕ → Validity → Validity
picked_validity ps None = None
picked_validity ps (Some m) = Some (picked ps m)

-- no constant stands in what holds the rows
abbrev pub is_plain_content : Content → Bool
is_plain_content c = is_canonical (content_node c 0 no_array_nodes)

abbrev pub are_plain_columns : List Column → Bool
are_plain_columns cs = are_canonical (array_nodes_before (column_nodes cs) no_array_nodes)

-- the rows at places, under the same type, and without constants where there were none
pub record IsPickedColumn (ps : List ℕ) (old new : Column) : Type 0 where
  pub dtype : new.dtype ≡ old.dtype
  pub rows : new.rows ≡ picked ps old.rows
  pub canonical : is_canonical old.node ≡ true → is_canonical new.node ≡ true

-- each column of the second list is picked of the one of the first
abbrev pub ArePickedColumns : List ℕ → List Column → List Column → Type 0
ArePickedColumns ps [] [] = Unit {0}
ArePickedColumns ps (c ∷ cs) (d ∷ ds) = IsPickedColumn ps c d × ArePickedColumns ps cs ds
ArePickedColumns ps _ _ = ⊥

-- a mask is picked of the other, where there is one
abbrev pub IsPickedMask : List ℕ → Validity → Validity → Type 0
IsPickedMask ps None None = Unit {0}
IsPickedMask ps (Some m) (Some k) = k ≡ picked ps m
IsPickedMask ps _ _ = ⊥

-- rows at places, where those are null that a mask hides: what stands below a null is free
abbrev pub ArePickedBelow : List ℕ → Validity → List Row → List Row → Type 0
ArePickedBelow ps v old new = masked (picked_validity ps v) new ≡ picked ps (masked v old)

-- the texts at places
pub record IsPickedTexts (ps : List ℕ) (v : Validity) (old new : TextBytes) : Type 0 where
  pub count : length (text_pieces new) ≡ length ps
  pub same : ArePickedBelow ps v (map bytes_row (text_pieces old)) (map bytes_row (text_pieces new))

-- offsets and elements of the lists at places
pub record IsPickedLists (ps : List ℕ) (v : Validity) (offsets : List ℕ) (old : Column) (new : List ℕ) (es : Column) : Type 0 where
  pub shape : AreOffsets (length ps) (length es.rows) new
  pub same : ArePickedBelow ps v (list_rows offsets old.rows) (list_rows new es.rows)
  pub dtype : es.dtype ≡ old.dtype
  pub canonical : is_canonical old.node ≡ true → is_canonical es.node ≡ true

-- rows at places, held under the same type
pub record IsPickedContent (t : Term) (ps : List ℕ) (n : ℕ) (v : Validity) (old new : Content) : Type 0 where
  pub shape : IsShaped new t (length ps)
  pub rows : ArePickedBelow ps v (content_rows old t n) (content_rows new t (length ps))
  pub canonical : is_plain_content old ≡ true → is_plain_content new ≡ true
