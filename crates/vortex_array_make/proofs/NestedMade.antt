-- What constructors of nested arrays answer: the refusals by their tests, and the columns under the mask that is kept.
use Rattle.std.proofs.Common.{◌≡◌, ◌≤◌, ◌*◌, eq-eqb, ◌∙◌, ℕ, List, ◌∷◌, [], Bool, true, false, Option, Some, None, map, length, refl, arith, ap}
use Rattle.std.specs.Prelude.{◌||◌, ◌==◌, not}
use Rattle.std.specs.List.{AllByRecursion, list_any}
use Rattle.std.proofs.lemmas.Bool.{le-leb}
use Rattle.std.proofs.lemmas.List.{length-map}
use Rattle.vortex_terms.specs.Term.{list, fixed_size_list, structure}
use Rattle.vortex_terms.specs.Types.{fields_from}
use Rattle.vortex_terms.specs.Row.{list_row, rows_from}
use Rattle.vortex_terms.specs.FromColumns.{list_rows, struct_rows, pieces, inside_structs}
use Rattle.vortex_terms.specs.FromColumnLaws.{length-inside_structs}
use Rattle.vortex_node_rows.specs.Pieces.{chunks}
use Rattle.vortex_node_rows.specs.RowsOf.{Validity, most_rows}
use Rattle.vortex_node_rows.proofs.Texts.{length-pieces}
use Rattle.vortex_node_rows.proofs.Lists.{length-chunks}
use Rattle.vortex_node_rows.specs.declared.encoding.Encoding.TheVariants as encoding
use Rattle.vortex_array_data.specs.ArrayNode.{array_node, array_child, array_nodes_before}
use Rattle.vortex_leaves.specs.OffsetTest.{offsets_part}
use Rattle.vortex_array_data.specs.Column.{Column}
use Rattle.vortex_array_data.specs.Content.{column_nodes, column_rows}
use Rattle.vortex_array_data.specs.Makes.{first_refusal, mask_differs, too_many}
use Rattle.vortex_array_make.specs.MadeNested.{fixed_lists_refusal, is_not_long, list_count, lists_refusal, made_fixed_lists, made_lists, made_structs, structs_refusal}
use Rattle.vortex_array_data.specs.inner.Masks.{IsTaken, mask_tests}
use Rattle.vortex_array_data.specs.declared.error.ArrayError.{ArrayError}
use Rattle.vortex_array_data.specs.declared.error.ArrayError.TheVariants.{LengthMismatch, TooLarge, TypeMismatch}
use Rattle.vortex_array_make.proofs.NestedRows.{are_long}
use Rattle.vortex_array_make.proofs.OffsetTests.{tested_are}

-- ---- refusals

-- the tests of n rows, of lengths, and of the mask under the type
abbrev pub tests : Bool → Bool → Bool → Option ArrayError
tests a b c = first_refusal ((a, TooLarge) ∷ (b, LengthMismatch) ∷ (c, TypeMismatch) ∷ [])

pub too_large : (a b c : Bool) → a ≡ true → tests a b c ≡ Some TooLarge
too_large a b c h = rw h refl

pub wrong_length : (a b c : Bool) → a ≡ false → b ≡ true → tests a b c ≡ Some LengthMismatch
wrong_length a b c h k = rw (h, k) refl

pub no_refusal : (a b c : Bool) → a ≡ false → b ≡ false → c ≡ false → tests a b c ≡ None
no_refusal a b c h k l = rw (h, k, l) refl

-- where no other length is wrong, the mask is what refuses
pub by_mask : (a b d c : Bool) (e : ArrayError) → a ≡ false → b ≡ d
    → first_refusal ((d, LengthMismatch) ∷ (c, TypeMismatch) ∷ []) ≡ Some e → tests a b c ≡ Some e
by_mask a b d c e h k f = rw (h, k) f

or_false : (d x : Bool) → x ≡ false → d || x ≡ d
or_false d x h = rw h (by d)
  where
    by : (d : Bool) → d || false ≡ d
    by true = refl
    by false = refl

or_true : (d x : Bool) → x ≡ true → d || x ≡ true
or_true d x h = rw h (by d)
  where
    by : (d : Bool) → d || true ≡ true
    by true = refl
    by false = refl

pub not_many : (n : ℕ) → n ≤ most_rows → too_many n ≡ false
not_many n h = ap not (le-leb n most_rows h)

pub is_as_long : (n : ℕ) (a : Column) → length a.rows ≡ n → is_not_long n a ≡ false
is_as_long n a h = ap not (eq-eqb (length a.rows) n h)

-- a test that is false, turned over
turned : (x y : Bool) → x ≡ y → not x ≡ not y
turned x y h = ap not h

-- ---- lists between offsets

pub lists_too_large : (a : Column) (os : List ℕ) (nl : Bool) (v : Validity) → too_many (list_count os) ≡ true
    → lists_refusal a os nl v ≡ Some TooLarge
lists_too_large a os nl v h = too_large _ _ _ h

pub lists_wrong : (a : Column) (os : List ℕ) (nl : Bool) (v : Validity) → too_many (list_count os) ≡ false
    → offsets_part os (length a.rows) ≡ false → lists_refusal a os nl v ≡ Some LengthMismatch
lists_wrong a os nl v few h =
    wrong_length _ _ _ few (or_true _ (not (offsets_part os (length a.rows))) (turned _ false h))

pub lists_masked : (a : Column) (os : List ℕ) (nl : Bool) (v : Validity) (e : ArrayError)
    → too_many (list_count os) ≡ false → offsets_part os (length a.rows) ≡ true
    → first_refusal (mask_tests (list_count os) nl v) ≡ Some e → lists_refusal a os nl v ≡ Some e
lists_masked a os nl v e few h f =
    by_mask _ _ _ _ e few (or_false _ (not (offsets_part os (length a.rows))) (turned _ true h)) f

pub lists_are_made : (made a : Column) (os copy : List ℕ) (nl : Bool) (given v : Validity) → copy ≡ os
    → too_many (list_count os) ≡ false → offsets_part os (length a.rows) ≡ true
    → IsTaken (list_count os) nl given v → made ≡ made_lists a copy nl v
    → (lists_refusal a os nl given ≡ None) × (made ≡ made_lists a os nl given)
lists_are_made made a os copy nl given v same few h taken is = (
  no_refusal _ _ _ few (or_false _ (not (offsets_part os (length a.rows))) (turned _ true h) ∙ taken.differs) taken.hides,
  is ∙ ap (λ l. made_lists a l nl v) same ∙ shown,
)
  where
    long : length (list_rows os a.rows) ≡ list_count os
    long =
        length-map (pieces os a.rows) _
        ∙ length-pieces (list_count os) os a.rows (tested_are (length a.rows) os h).count

    shown : made_lists a os nl v ≡ made_lists a os nl given
    shown = λ i. record {
      dtype = list a.dtype nl;
      rows = taken.shown (list_rows os a.rows) long i;
      node = array_node encoding.List (list_count os) (array_child a.node (taken.nodes i));
    }

-- ---- n lists of k elements each

pub fixed_too_large : (a : Column) (k n : ℕ) (nl : Bool) (v : Validity) → too_many n ≡ true
    → fixed_lists_refusal a k n nl v ≡ Some TooLarge
fixed_too_large a k n nl v h = too_large _ _ _ h

pub fixed_wrong : (a : Column) (k n : ℕ) (nl : Bool) (v : Validity) → too_many n ≡ false
    → is_not_long (n * k) a ≡ true → fixed_lists_refusal a k n nl v ≡ Some LengthMismatch
fixed_wrong a k n nl v few h = wrong_length _ _ _ few (or_true _ (is_not_long (n * k) a) h)

pub fixed_masked : (a : Column) (k n : ℕ) (nl : Bool) (v : Validity) (e : ArrayError) → too_many n ≡ false
    → is_not_long (n * k) a ≡ false → first_refusal (mask_tests n nl v) ≡ Some e
    → fixed_lists_refusal a k n nl v ≡ Some e
fixed_masked a k n nl v e few h f = by_mask _ _ _ _ e few (or_false _ (is_not_long (n * k) a) h) f

pub fixed_are_made : (made a : Column) (k n : ℕ) (nl : Bool) (given v : Validity) → too_many n ≡ false
    → is_not_long (n * k) a ≡ false → IsTaken n nl given v → made ≡ made_fixed_lists a k n nl v
    → (fixed_lists_refusal a k n nl given ≡ None) × (made ≡ made_fixed_lists a k n nl given)
fixed_are_made made a k n nl given v few h taken is = (
  no_refusal _ _ _ few (or_false _ (is_not_long (n * k) a) h ∙ taken.differs) taken.hides,
  is ∙ shown,
)
  where
    shown : made_fixed_lists a k n nl v ≡ made_fixed_lists a k n nl given
    shown = λ i. record {
      dtype = fixed_size_list a.dtype k nl;
      rows = taken.shown (map (λ rs. list_row (rows_from rs)) (chunks k n a.rows))
          (length-map (chunks k n a.rows) _ ∙ length-chunks k n a.rows) i;
      node = array_node encoding.FixedSizeList n (array_child a.node (taken.nodes i));
    }

-- ---- structs

pub structs_too_large : (names : List (List ℕ)) (cs : List Column) (n : ℕ) (nl : Bool) (v : Validity)
    → too_many n ≡ true → structs_refusal names cs n nl v ≡ Some TooLarge
structs_too_large names cs n nl v h = too_large _ _ _ h

-- another number of names, or a field of another length
pub structs_wrong_names : (names : List (List ℕ)) (cs : List Column) (n : ℕ) (nl : Bool) (v : Validity)
    → too_many n ≡ false → (length names == length cs) ≡ false → structs_refusal names cs n nl v ≡ Some LengthMismatch
structs_wrong_names names cs n nl v few h =
    wrong_length _ _ _ few (ap (λ (b : Bool). b || list_any (is_not_long n) cs)
    (or_true (mask_differs n v) (not (length names == length cs)) (turned _ false h)))

pub structs_wrong_field : (names : List (List ℕ)) (cs : List Column) (n : ℕ) (nl : Bool) (v : Validity)
    → too_many n ≡ false → list_any (is_not_long n) cs ≡ true → structs_refusal names cs n nl v ≡ Some LengthMismatch
structs_wrong_field names cs n nl v few h =
    wrong_length _ _ _ few (or_true (mask_differs n v || not (length names == length cs)) (list_any (is_not_long n) cs) h)

-- the test of lengths, where names and fields pass it
lengths : (names : List (List ℕ)) (cs : List Column) (n : ℕ) (v : Validity) → (length names == length cs) ≡ true
    → list_any (is_not_long n) cs ≡ false
    → mask_differs n v || not (length names == length cs) || list_any (is_not_long n) cs ≡ mask_differs n v
lengths names cs n v h k =
    or_false (mask_differs n v || not (length names == length cs)) (list_any (is_not_long n) cs) k
    ∙ or_false (mask_differs n v) (not (length names == length cs)) (turned _ true h)

pub structs_masked : (names : List (List ℕ)) (cs : List Column) (n : ℕ) (nl : Bool) (v : Validity) (e : ArrayError)
    → too_many n ≡ false → (length names == length cs) ≡ true → list_any (is_not_long n) cs ≡ false
    → first_refusal (mask_tests n nl v) ≡ Some e → structs_refusal names cs n nl v ≡ Some e
structs_masked names cs n nl v e few h k f = by_mask _ _ _ _ e few (lengths names cs n v h k) f

-- fields of which none has another length
pub all_long : (n : ℕ) (cs : List Column) → list_any (is_not_long n) cs ≡ false
    → AllByRecursion (λ (f : Column). length f.rows ≡ n) cs
all_long n [] h = tt
all_long n (c ∷ cs) h =
    let found = neither (is_not_long n c) (list_any (is_not_long n) cs) h in
    (is_long (length c.rows) n found.0, all_long n cs found.1)
  where
    neither : (a b : Bool) → a || b ≡ false → (a ≡ false) × (b ≡ false)
    neither true b h = absurd (cc)
    neither false b h = (refl, h)

    is_long : (k n : ℕ) → not (k == n) ≡ false → k ≡ n
    is_long k n h = grind (arith, h)

pub structs_are_made : (made : Column) (names : List (List ℕ)) (cs : List Column) (n : ℕ) (nl : Bool)
    (given v : Validity) → too_many n ≡ false → (length names == length cs) ≡ true
    → list_any (is_not_long n) cs ≡ false → IsTaken n nl given v → made ≡ made_structs names cs n nl v
    → (structs_refusal names cs n nl given ≡ None) × (made ≡ made_structs names cs n nl given)
structs_are_made made names cs n nl given v few h k taken is = (
  no_refusal _ _ _ few (lengths names cs n given h k ∙ taken.differs) taken.hides,
  is ∙ shown,
)
  where
    long : length (struct_rows n (column_rows cs)) ≡ n
    long =
        length-map (inside_structs n (column_rows cs)) list_row
        ∙ length-inside_structs n (column_rows cs) (are_long n cs (all_long n cs k))

    shown : made_structs names cs n nl v ≡ made_structs names cs n nl given
    shown = λ i. record {
      dtype = structure (fields_from names (map (λ (f : Column). f.dtype) cs)) nl;
      rows = taken.shown (struct_rows n (column_rows cs)) long i;
      node = array_node encoding.Struct n (array_nodes_before (column_nodes cs) (taken.nodes i));
    }
