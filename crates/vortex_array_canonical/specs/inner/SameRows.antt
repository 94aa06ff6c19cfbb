-- The same rows, held without constants.
--     IsSameContent          the same content, shared
--     IsCanonicalContent     the same rows under a mask, without constants where the content is none itself
--     AreCanonicalOf         the same of columns
--     RefusesContent, RefusesColumns     why there are none
--     AreShownLists          lists whose elements are those that are shown
--     IsRepeated             a value in so many rows, null where a mask is false
--     each_row               what is at each row, by its mask
--     choices_of, places_of_mask   the value and null, and which of them each row is
use Rattle.std.specs.Prelude.{◌≡◌, ◌⊎◌, ℕ, List, [], ◌∷◌, Bool, true, false, Some, None, map, length, replicate, if◌then◌else◌}
use Rattle.std.specs.List.{AllByRecursion, flat_map}
use Rattle.vortex_terms.specs.Term.{Term}
use Rattle.vortex_terms.specs.Row.{Row, copies}
use Rattle.vortex_terms.specs.Fits.{Fits}
use Rattle.vortex_terms.specs.Parts.{inner_rows}
use Rattle.vortex_terms.specs.FromColumns.{masked, list_rows}
use Rattle.vortex_scalar_value.specs.Value.{ValueTerm, null_value}
use Rattle.vortex_value_rows.specs.RowOf.{row_under}
use Rattle.vortex_node_rows.specs.RowsOf.{Validity}
use Rattle.vortex_leaves.specs.Texts.{AreOffsets}
use Rattle.vortex_array_canonical.specs.Canonical.{IsCanonicalOf}
use Rattle.vortex_array_data.specs.Constants.{is_canonical}
use Rattle.vortex_array_data.specs.Column.{Column}
use Rattle.vortex_array_data.specs.Content.{content_rows, IsShaped}
use Rattle.vortex_array_data.specs.Taken.{HoldsMuch}
use Rattle.vortex_array_data.specs.declared.error.ArrayError.{ArrayError}
use Rattle.vortex_array_data.specs.declared.error.ArrayError.TheVariants.{OutOfMemory, TooLarge}
use Rattle.vortex_array_data.specs.declared.held.Content.{Content}
use Rattle.vortex_array_data.specs.declared.held.Content.TheVariants.{Constant}
use Rattle.vortex_array_data.specs.inner.Picked.{are_plain_columns, is_plain_content}

abbrev pub is_constant_content : Content → Bool
is_constant_content (Constant v) = true
is_constant_content _ = false

pub record IsSameContent (t : Term) (n : ℕ) (old new : Content) : Type 0 where
  pub shape : IsShaped new t n
  pub rows : content_rows new t n ≡ content_rows old t n
  pub canonical : is_plain_content old ≡ true → is_plain_content new ≡ true

pub record IsCanonicalContent (t : Term) (n : ℕ) (v : Validity) (old new : Content) : Type 0 where
  pub shape : IsShaped new t n
  pub rows : masked v (content_rows new t n) ≡ masked v (content_rows old t n)
  pub canonical : is_constant_content old ≡ false → is_plain_content new ≡ true

abbrev pub AreCanonicalOf : List Column → List Column → Type 0
AreCanonicalOf [] [] = Unit {0}
AreCanonicalOf (c ∷ cs) (d ∷ ds) = IsCanonicalOf c d × AreCanonicalOf cs ds
AreCanonicalOf _ _ = ⊥

-- memory lacks, or there is a constant, and the rows under the mask are too much
abbrev pub RefusesContent : Term → ℕ → Validity → Content → ArrayError → Type 0
RefusesContent t n v c e =
    (e ≡ OutOfMemory)
    ⊎ ((e ≡ TooLarge) × ((is_plain_content c ≡ false) × HoldsMuch t (masked v (content_rows c t n))))

-- the rows of one of the columns, which fit its type, are too much
abbrev pub AnyHoldsMuch : List Column → Type 0
AnyHoldsMuch [] = ⊥
AnyHoldsMuch (c ∷ cs) = (AllByRecursion (Fits c.dtype) c.rows × HoldsMuch c.dtype c.rows) ⊎ AnyHoldsMuch cs

abbrev pub RefusesColumns : List Column → ArrayError → Type 0
RefusesColumns cs e = (e ≡ OutOfMemory) ⊎ ((e ≡ TooLarge) × ((are_plain_columns cs ≡ false) × AnyHoldsMuch cs))

-- ---- lists

-- the rows in lists under a mask
abbrev pub shown_inside : Validity → List ℕ → List Row → List Row
shown_inside v offsets es = flat_map inner_rows (masked v (list_rows offsets es))

-- the same n lists under a mask, with no elements but those that are shown
pub record AreShownLists (n : ℕ) (v : Validity) (offsets : List ℕ) (old : Column) (new : List ℕ) (es : Column) : Type 0 where
  pub shape : AreOffsets n (length es.rows) new
  pub same : masked v (list_rows new es.rows) ≡ masked v (list_rows offsets old.rows)
  pub dtype : es.dtype ≡ old.dtype
  pub inside : es.rows ≡ shown_inside v offsets old.rows

-- the same with elements that hold no constants
pub record AreCanonicalLists (n : ℕ) (v : Validity) (offsets : List ℕ) (old : Column) (new : List ℕ) (es : Column) : Type 0 where
  pub shape : AreOffsets n (length es.rows) new
  pub same : masked v (list_rows new es.rows) ≡ masked v (list_rows offsets old.rows)
  pub dtype : es.dtype ≡ old.dtype
  pub canonical : is_canonical es.node ≡ true

-- memory lacks, or there is a constant, and the elements that are shown are too much
abbrev pub RefusesLists : Validity → List ℕ → Column → ArrayError → Type 0
RefusesLists v offsets es e =
    (e ≡ OutOfMemory)
    ⊎ ((e ≡ TooLarge) × ((is_canonical es.node ≡ false) × HoldsMuch es.dtype (shown_inside v offsets es.rows)))

-- ---- a value in all rows

pub record IsRepeated (t : Term) (v : ValueTerm) (m : Validity) (n : ℕ) (a : Column) : Type 0 where
  pub dtype : a.dtype ≡ t
  pub rows : a.rows ≡ masked m (copies n (row_under t v))
  pub canonical : is_canonical a.node ≡ true

-- what is at each of n rows, by whether it is hidden
abbrev pub each_row : {A : Type 0} → (Bool → A) → ℕ → Validity → List A
each_row f n None = replicate n (f true)
each_row f n (Some m) = map f m

-- the value, and null where there is a mask
abbrev pub choices_of : ValueTerm → Validity → List ValueTerm
choices_of v None = v ∷ []
choices_of v (Some m) = v ∷ (null_value ∷ [])

-- place 0, and place 1 where the mask is false
abbrev pub place_of : Bool → ℕ
place_of valid = if valid then 0 else 1

abbrev pub places_of_mask : ℕ → Validity → List ℕ
places_of_mask n m = each_row place_of n m

-- the value, and null where the mask is false
abbrev pub value_where : ValueTerm → Bool → ValueTerm
value_where v valid = if valid then v else null_value

abbrev pub values_of_mask : ValueTerm → ℕ → Validity → List ValueTerm
values_of_mask v n m = each_row (value_where v) n m
