-- Values whose rows are too much for an array.
use Rattle.std.proofs.Common.{◌≡◌, ◌<◌, ◌+◌, ◌*◌, ◌∙◌, inl, inr, ℕ, zero, suc, Option, List, [], ◌∷◌, ◌++◌, Bool, true, false, Some, None, map, length, take, drop, get_or, refl, sym, ap, subst, true≢false, arith, length-append}
use Rattle.std.specs.Prelude.{if◌then◌else◌, ◌&&◌, not}
use Rattle.std.specs.Option.{IsSome, unwrap_or}
use Rattle.std.specs.List.{AllByRecursion, flat_map, list_any, sum, sum_by}
use Rattle.std.proofs.lemmas.List.{length-map, map-append}
use Rattle.std.proofs.lemmas.List.Sums.{sum_by-cons}
use Rattle.vortex_prelude.specs.Chain.{◌>>=◌}
use Rattle.vortex_terms.specs.Term.{Term, null, boolean, primitive, decimal, utf8, binary, structure, list, extension, fixed_size_list, Fields, no_fields, field}
use Rattle.vortex_terms.specs.Types.{field_at}
use Rattle.vortex_terms.specs.Nullability.{with_nullability}
use Rattle.vortex_terms.specs.Default.{default_row}
use Rattle.vortex_terms.specs.Row.{Row, null_row, bytes_row, list_row, row, rows_from}
use Rattle.vortex_terms.specs.RowLaws.{row_list-from}
use Rattle.vortex_terms.specs.Fits.{Fits}
use Rattle.vortex_terms.specs.Tests.{is_fitting}
use Rattle.vortex_terms.specs.Parts.{byte_count, inner_rows}
use Rattle.vortex_terms.specs.FromColumns.{zip_map, masked, inside_structs, struct_rows}
use Rattle.vortex_scalar_value.specs.Value.{ValueTerm, null_value, truth_value, whole_value, decimal_value, bytes_value, text_value, list_value, is_null_value}
use Rattle.vortex_value_rows.specs.RowOf.{row_of, row_under}
use Rattle.vortex_node_rows.specs.Pieces.{chunks}
use Rattle.vortex_node_rows.specs.RowsOf.{most_rows, Validity}
use Rattle.vortex_leaves.proofs.Joined.{sized_large, AreJoinedAt}
use Rattle.vortex_array_data.specs.Taken.{AreRows, FieldsHoldMuch, HoldsMuch}
use Rattle.vortex_array_data.specs.declared.error.ArrayError.{ArrayError}
use Rattle.vortex_array_plain.specs.PlainValues.{bytes_in, filled, first_in, is_valued, part_in, takes_mask, value_columns, values_in, AllFit, FitsValue, IsDefault, RefusesFields, RefusesPlain, RefusesSizes}
use Rattle.vortex_array_data.proofs.Holding.{many_hold}
use Rattle.vortex_array_data.proofs.PickedParts.{even_joined, even_length}
use Rattle.vortex_array_plain.proofs.PlainContents.{binary_under, text_under}
use Rattle.vortex_array_plain.proofs.ValueFits.{filled_rows, map_fit, or_first, or_second, rows_fit_all}
use Rattle.vortex_array_plain.proofs.ValueLists.{all_drops, all_inside_fit, even_inside, firsts, fixed_lists_fit, fixed_under, inside_rows, list_of, list_under, mapped, mapped_rows, none_inside, one_inside, parts_fit, rows_at, rows_joined, struct_under}

-- ---- sizes

same_sizes : (ks : List ℕ) → map (λ (n : ℕ). n) ks ≡ ks
same_sizes [] = refl
same_sizes (k ∷ ks) = ap (λ (l : List ℕ). k ∷ l) (same_sizes ks)

-- where one more size passes, all of them do
pub sizes_pass : (sizes : List ℕ) (i : ℕ) (os : List ℕ) (end : ℕ) → AreJoinedAt (λ n. n) (take i sizes) os end
    → i < length sizes → most_rows < end + get_or sizes i 0 → most_rows < sum sizes
sizes_pass sizes i os end h l m =
    omega (
      arith,
      sized_large (λ n. n) sizes i (get_or sizes i 0) os end (get_or sizes i 0) (suc most_rows) h l refl refl (omega (arith, m)),
      ap sum (same_sizes sizes),
    )

-- ---- texts and bytes

bytes_within : (vs : List ValueTerm)
    → sum_by byte_count (map (λ v. bytes_row (bytes_in v)) vs) ≡ sum (map (λ v. length (bytes_in v)) vs)
bytes_within [] = refl
bytes_within (v ∷ vs) =
    omega (
      arith,
      sum_by-cons byte_count (bytes_row (bytes_in v)) (map (λ v. bytes_row (bytes_in v)) vs),
      sum_by-cons (λ x. x) (length (bytes_in v)) (map (λ v. length (bytes_in v)) vs),
      bytes_within vs,
    )

bytes_many : (vs : List ValueTerm) (rs : List Row) → map (λ v. bytes_row (bytes_in v)) vs ≡ rs
    → most_rows < sum (map (λ v. length (bytes_in v)) vs) → most_rows < sum_by byte_count rs
bytes_many vs rs e l = omega (arith, l, bytes_within vs, ap (sum_by byte_count) e)

pub texts_refused : (vs : List ValueTerm) (nl : Bool) (e : ArrayError) → nl ≡ false → AllFit (utf8 nl) vs
    → RefusesSizes (map (λ v. length (bytes_in v)) vs) e → RefusesPlain (utf8 nl) vs e
texts_refused vs nl e z h (inl m) = inl m
texts_refused vs nl e z h (inr m) =
    let fit : AllFit (utf8 false) vs = subst (λ (b : Bool). AllFit (utf8 b) vs) z h in
    inr (
      m.0,
      subst (λ (b : Bool). HoldsMuch (utf8 b) (map (row_under (utf8 b)) vs)) (sym z)
          (inr (bytes_many vs (map (row_under (utf8 false)) vs) (map_fit (utf8 false) (λ v. bytes_row (bytes_in v)) vs text_under fit) m.1)),
    )

pub bytes_refused : (vs : List ValueTerm) (nl : Bool) (e : ArrayError) → nl ≡ false → AllFit (binary nl) vs
    → RefusesSizes (map (λ v. length (bytes_in v)) vs) e → RefusesPlain (binary nl) vs e
bytes_refused vs nl e z h (inl m) = inl m
bytes_refused vs nl e z h (inr m) =
    let fit : AllFit (binary false) vs = subst (λ (b : Bool). AllFit (binary b) vs) z h in
    inr (
      m.0,
      subst (λ (b : Bool). HoldsMuch (binary b) (map (row_under (binary b)) vs)) (sym z)
          (inr (bytes_many vs (map (row_under (binary false)) vs) (map_fit (binary false) (λ v. bytes_row (bytes_in v)) vs binary_under fit) m.1)),
    )

-- ---- lists

rows_within : (t : Term) (vs : List ValueTerm)
    → length (map (row_under t) (flat_map values_in vs)) ≡ sum (map (λ v. length (values_in v)) vs)
rows_within t [] = refl
rows_within t (v ∷ vs) =
    let parts : map (row_under t) (flat_map values_in (v ∷ vs)) ≡ map (row_under t) (values_in v) ++ map (row_under t) (flat_map values_in vs) =
    map-append (row_under t) (values_in v) (flat_map values_in vs) in
    omega (
      arith,
      ap length parts,
      length-append (map (row_under t) (values_in v)) (map (row_under t) (flat_map values_in vs)),
      length-map (values_in v) (row_under t),
      rows_within t vs,
      sum_by-cons (λ x. x) (length (values_in v)) (map (λ v. length (values_in v)) vs),
    )

-- elements that are too many together
pub sizes_refused : (t : Term) (vs : List ValueTerm) (e : ArrayError) → RefusesSizes (map (λ v. length (values_in v)) vs) e
    → RefusesPlain t (flat_map values_in vs) e
sizes_refused t vs e (inl m) = inl m
sizes_refused t vs e (inr m) =
    inr (m.0, many_hold t (map (row_under t) (flat_map values_in vs)) (omega (arith, m.1, rows_within t vs)))

pub inside_many : (t : Term) (vs : List ValueTerm) → most_rows < length vs → HoldsMuch t (map (row_under t) vs)
inside_many t vs l = many_hold t (map (row_under t) vs) (omega (arith, l, length-map vs (row_under t)))

inner_of : (t : Term) (vs : List ValueTerm)
    → flat_map inner_rows (map (λ v. list_of t (values_in v)) vs) ≡ map (row_under t) (flat_map values_in vs)
inner_of t [] = refl
inner_of t (v ∷ vs) =
    ap (λ (l : List Row). l ++ flat_map inner_rows (map (λ v. list_of t (values_in v)) vs)) (row_list-from (map (row_under t) (values_in v)))
    ∙ ap (λ (l : List Row). map (row_under t) (values_in v) ++ l) (inner_of t vs)
    ∙ sym (map-append (row_under t) (values_in v) (flat_map values_in vs))

pub lists_refused : (t : Term) (vs : List ValueTerm) (nl : Bool) (e : ArrayError) → nl ≡ false → AllFit (list t nl) vs
    → RefusesPlain t (flat_map values_in vs) e → RefusesPlain (list t nl) vs e
lists_refused t vs nl e z h (inl m) = inl m
lists_refused t vs nl e z h (inr m) =
    let fit : AllFit (list t false) vs = subst (λ (b : Bool). AllFit (list t b) vs) z h in
    let rows : flat_map inner_rows (map (row_under (list t false)) vs) ≡ map (row_under t) (flat_map values_in vs) =
    ap (flat_map inner_rows) (sym (map_fit (list t false) (λ v. list_of t (values_in v)) vs (list_under t) fit)) ∙ inner_of t vs in
    inr (
      m.0,
      subst (λ (b : Bool). HoldsMuch (list t b) (map (row_under (list t b)) vs)) (sym z)
          (inr (subst (HoldsMuch t) (sym rows) m.1)),
    )

-- ---- lists of one size

pub fixed_long : (t : Term) (k : ℕ) (vs : List ValueTerm) (nl : Bool) → nl ≡ false → AllFit (fixed_size_list t k nl) vs
    → length (flat_map values_in vs) ≡ length vs * k
fixed_long t k vs nl z h =
    let fit : AllFit (fixed_size_list t k false) vs = subst (λ (b : Bool). AllFit (fixed_size_list t k b) vs) z h in
    let ps : List (List Row) = inside_rows t vs in
    let count : length ps ≡ length vs = length-map vs (λ v. map (row_under t) (values_in v)) in
    sym (length-map (flat_map values_in vs) (row_under t)) ∙ ap length (rows_joined t vs)
    ∙ even_length k ps (even_inside t k vs fit) ∙ ap (λ j. j * k) count

fixed_rows : (t : Term) (k : ℕ) (vs : List ValueTerm) → AllFit (fixed_size_list t k false) vs
    → map (λ rs. list_row (rows_from rs)) (chunks k (length vs) (map (row_under t) (flat_map values_in vs)))
    ≡ map (row_under (fixed_size_list t k false)) vs
fixed_rows t k vs fit =
    let ps : List (List Row) = inside_rows t vs in
    let g : List Row → Row = λ rs. list_row (rows_from rs) in
    let count : length ps ≡ length vs = length-map vs (λ v. map (row_under t) (values_in v)) in
    ap (λ l. map g (chunks k (length vs) l)) (rows_joined t vs)
    ∙ ap (λ j. map g (chunks k j (flat_map (λ (p : List Row). p) ps))) (sym count)
    ∙ ap (map g) (even_joined k ps (even_inside t k vs fit)) ∙ mapped (λ v. map (row_under t) (values_in v)) g vs
    ∙ map_fit (fixed_size_list t k false) (λ v. list_of t (values_in v)) vs (fixed_under t k) fit

fixed_much : (t : Term) (k : ℕ) (vs : List ValueTerm) → AllFit (fixed_size_list t k false) vs
    → HoldsMuch t (map (row_under t) (flat_map values_in vs))
    → HoldsMuch (fixed_size_list t k false) (map (row_under (fixed_size_list t k false)) vs)
fixed_much t k vs fit much =
    let rs : List Row = map (row_under (fixed_size_list t k false)) vs in
    let es : List Row = map (row_under t) (flat_map values_in vs) in
    let count : length rs ≡ length vs = length-map vs (row_under (fixed_size_list t k false)) in
    let long : length es ≡ length rs * k =
    length-map (flat_map values_in vs) (row_under t) ∙ fixed_long t k vs false refl fit ∙ ap (λ j. j * k) (sym count) in
    let inside : AllFit t (flat_map values_in vs) = all_inside_fit t vs (fixed_lists_fit t k false vs refl fit) in
    inr (
      None,
      (
        es,
        (
          sym (fixed_rows t k vs fit) ∙ ap (λ j. map (λ rs. list_row (rows_from rs)) (chunks k j es)) (sym count),
          (long, rows_fit_all t (flat_map values_in vs) inside),
          much,
        ),
      ),
    )

pub fixed_refused : (t : Term) (k : ℕ) (vs : List ValueTerm) (nl : Bool) (e : ArrayError) → nl ≡ false
    → AllFit (fixed_size_list t k nl) vs → RefusesPlain t (flat_map values_in vs) e → RefusesPlain (fixed_size_list t k nl) vs e
fixed_refused t k vs nl e z h (inl m) = inl m
fixed_refused t k vs nl e z h (inr m) = inr (
  m.0,
  subst (λ (b : Bool). HoldsMuch (fixed_size_list t k b) (map (row_under (fixed_size_list t k b)) vs)) (sym z)
      (fixed_much t k vs (subst (λ (b : Bool). AllFit (fixed_size_list t k b) vs) z h) m.1),
)

-- ---- structs

values_inside : (fs : Fields) (ls : List (List ValueTerm)) → inside_structs (length ls) (value_columns fs ls) ≡ map (rows_at fs) ls
values_inside no_fields ls = none_inside ls
values_inside (field x t fs) ls =
    let rest : inside_structs (length ls) (value_columns fs (map (drop 1) ls)) ≡ map (rows_at fs) (map (drop 1) ls) =
    ap (λ j. inside_structs j (value_columns fs (map (drop 1) ls))) (sym (length-map ls (drop 1))) ∙ values_inside fs (map (drop 1) ls) in
    ap (zip_map row (map (row_under t) (map first_in ls))) rest ∙ one_inside x t fs ls

structs_much : (fs : Fields) (vs : List ValueTerm) → AllFit (structure fs false) vs
    → FieldsHoldMuch (length (map values_in vs)) fs (value_columns fs (map values_in vs))
    → HoldsMuch (structure fs false) (map (row_under (structure fs false)) vs)
structs_much fs vs fit much =
    let ls : List (List ValueTerm) = map values_in vs in
    let rs : List Row = map (row_under (structure fs false)) vs in
    let count : length ls ≡ length rs = length-map vs values_in ∙ sym (length-map vs (row_under (structure fs false))) in
    let rows : struct_rows (length ls) (value_columns fs ls) ≡ rs =
    ap (map list_row) (values_inside fs ls) ∙ mapped_rows values_in (rows_at fs) vs
    ∙ map_fit (structure fs false) (λ v. list_row (rows_at fs (values_in v))) vs (struct_under fs) fit in
    inr (
      None,
      (
        value_columns fs ls,
        (
          sym rows ∙ ap (λ n. struct_rows n (value_columns fs ls)) count,
          subst (λ n. FieldsHoldMuch n fs (value_columns fs ls)) count much,
        ),
      ),
    )

pub structs_refused : (fs : Fields) (vs : List ValueTerm) (nl : Bool) (e : ArrayError) → nl ≡ false → AllFit (structure fs nl) vs
    → RefusesFields fs (map values_in vs) e → RefusesPlain (structure fs nl) vs e
structs_refused fs vs nl e z h (inl m) = inl m
structs_refused fs vs nl e z h (inr m) = inr (
  m.0,
  subst (λ (b : Bool). HoldsMuch (structure fs b) (map (row_under (structure fs b)) vs)) (sym z)
      (structs_much fs vs (subst (λ (b : Bool). AllFit (structure fs b) vs) z h) m.1),
)

drop_next : (i : ℕ) (l : List ValueTerm) → drop i (drop 1 l) ≡ drop (suc i) l
drop_next zero [] = refl
drop_next (suc i) [] = refl
drop_next i (v ∷ l) = refl

drops_next : (i : ℕ) (ls : List (List ValueTerm)) → map (drop i) (map (drop 1) ls) ≡ map (drop (suc i)) ls
drops_next i [] = refl
drops_next i (l ∷ ls) = λ j. drop_next i l j ∷ drops_next i ls j

-- the rows at a place are those of one of the columns
column_much : (fs : Fields) (i : ℕ) (t : Term) (n : ℕ) (ls : List (List ValueTerm)) → Some t ≡ field_at fs i → length ls ≡ n
    → AllByRecursion (Fits t) (map (row_under t) (map first_in (map (drop i) ls)))
    → HoldsMuch t (map (row_under t) (map first_in (map (drop i) ls))) → FieldsHoldMuch n fs (value_columns fs ls)
column_much no_fields i t n ls e l fit much = absurd (cc)
column_much (field x u fs) zero t n ls e l fit much =
    let same : t ≡ u = unwrapped t u e in
    let here : map (drop 0) ls ≡ ls = all_drops ls in
    inl (
      (
        length-map (map first_in ls) (row_under u) ∙ length-map ls first_in ∙ l,
        subst (λ (u : Term). AllByRecursion (Fits u) (map (row_under u) (map first_in ls))) same
            (subst (λ (m : List (List ValueTerm)). AllByRecursion (Fits t) (map (row_under t) (map first_in m))) here fit),
      ),
      subst (λ (u : Term). HoldsMuch u (map (row_under u) (map first_in ls))) same
          (subst (λ (m : List (List ValueTerm)). HoldsMuch t (map (row_under t) (map first_in m))) here much),
    )
  where
    unwrapped : (t u : Term) → Some t ≡ Some u → t ≡ u
    unwrapped t u e = cc
column_much (field x u fs) (suc i) t n ls e l fit much =
    let next : map (drop (suc i)) ls ≡ map (drop i) (map (drop 1) ls) = sym (drops_next i ls) in
    inr (column_much fs i t n (map (drop 1) ls) e (length-map ls (drop 1) ∙ l)
    (subst (λ (m : List (List ValueTerm)). AllByRecursion (Fits t) (map (row_under t) (map first_in m))) next fit)
    (subst (λ (m : List (List ValueTerm)). HoldsMuch t (map (row_under t) (map first_in m))) next much))

pub field_refused : (fs : Fields) (i : ℕ) (t : Term) (vs ws : List ValueTerm) (e : ArrayError) → Some t ≡ field_at fs i
    → AllFit (structure fs false) vs → ws ≡ map (part_in i) vs → RefusesPlain t ws e → RefusesFields fs (map values_in vs) e
field_refused fs i t vs ws e is h same (inl m) = inl m
field_refused fs i t vs ws e is h same (inr m) =
    let ls : List (List ValueTerm) = map values_in vs in
    let at : ws ≡ map first_in (map (drop i) ls) = same ∙ sym (firsts i vs) in
    let fit : AllByRecursion (Fits t) (map (row_under t) (map first_in (map (drop i) ls))) =
    rows_fit_all t (map first_in (map (drop i) ls))
    (subst (AllFit t) (sym (firsts i vs)) (parts_fit fs i t vs is h)) in
    inr (m.0, column_much fs i t (length ls) ls is refl fit (subst (λ (l : List ValueTerm). HoldsMuch t (map (row_under t) l)) at m.1))

-- ---- nulls

-- a mask over a mask
twice : (m k : List Bool) (rs : List Row) → masked (Some m) (masked (Some k) rs) ≡ masked (Some (zip_map (λ a b. a && b) m k)) rs
twice [] k rs = refl
twice (a ∷ m) [] rs = refl
twice (a ∷ m) (b ∷ k) [] = refl
twice (a ∷ m) (b ∷ k) (r ∷ rs) = λ i. hid a b r i ∷ twice m k rs i
  where
    hid : (a b : Bool) (r : Row) → (if a then (if b then r else null_row) else null_row) ≡ (if (a && b) then r else null_row)
    hid true b r = refl
    hid false b r = refl

abbrev both_masks : List Bool → Validity → Validity
both_masks m None = Some m
both_masks m (Some k) = Some (zip_map (λ a b. a && b) m k)

masked_twice : (m : List Bool) (v : Validity) (rs : List Row) → masked (Some m) (masked v rs) ≡ masked (both_masks m v) rs
masked_twice m None rs = refl
masked_twice m (Some k) rs = twice m k rs

-- what is hidden has no bytes and no elements of its own
abbrev AreEmpty : Term → List Bool → List Row → Type 0
AreEmpty (utf8 nl) m rs = sum_by byte_count rs ≡ sum_by byte_count (masked (Some m) rs)
AreEmpty (binary nl) m rs = sum_by byte_count rs ≡ sum_by byte_count (masked (Some m) rs)
AreEmpty (list t nl) m rs = flat_map inner_rows rs ≡ flat_map inner_rows (masked (Some m) rs)
AreEmpty _ m rs = Unit {0}

hidden_much : (t : Term) (m : List Bool) (rs : List Row) → takes_mask t ≡ true → length (masked (Some m) rs) ≡ length rs
    → AreEmpty t m rs → HoldsMuch (with_nullability t false) rs → HoldsMuch t (masked (Some m) rs)
hidden_much null m rs k l e h = absurd (true≢false (sym k))
hidden_much (boolean n) m rs k l e h = omega (arith, l, h)
hidden_much (primitive j n) m rs k l e h = omega (arith, l, h)
hidden_much (decimal p s n) m rs k l e h = omega (arith, l, h)
hidden_much (utf8 n) m rs k l e (inl h) = inl (omega (arith, l, h))
hidden_much (utf8 n) m rs k l e (inr h) = inr (omega (arith, e, h))
hidden_much (binary n) m rs k l e (inl h) = inl (omega (arith, l, h))
hidden_much (binary n) m rs k l e (inr h) = inr (omega (arith, e, h))
hidden_much (structure fs n) m rs k l e (inl h) = inl (omega (arith, l, h))
hidden_much (structure fs n) m rs k l e (inr h) = inr (
  both_masks m h.0,
  (
    h.1.0,
    (
      ap (masked (Some m)) h.1.1.0 ∙ masked_twice m h.0 (struct_rows (length rs) h.1.0)
          ∙ ap (λ j. masked (both_masks m h.0) (struct_rows j h.1.0)) (sym l),
      subst (λ j. FieldsHoldMuch j fs h.1.0) (sym l) h.1.1.1,
    ),
  ),
)
hidden_much (list t n) m rs k l e (inl h) = inl (omega (arith, l, h))
hidden_much (list t n) m rs k l e (inr h) = inr (subst (HoldsMuch t) e h)
hidden_much (extension id t x) m rs k l e h = absurd (true≢false (sym k))
hidden_much (fixed_size_list t j n) m rs k l e (inl h) = inl (omega (arith, l, h))
hidden_much (fixed_size_list t j n) m rs k l e (inr h) = inr (
  both_masks m h.0,
  (
    h.1.0,
    (
      ap (masked (Some m)) h.1.1.0 ∙ masked_twice m h.0 (map (λ rs. list_row (rows_from rs)) (chunks j (length rs) h.1.0))
          ∙ ap (λ i. masked (both_masks m h.0) (map (λ rs. list_row (rows_from rs)) (chunks j i h.1.0))) (sym l),
      subst (λ i. AreRows (i * j) t h.1.0) (sym l) h.1.1.1,
      h.1.1.2,
    ),
  ),
)

-- ---- values in place of nulls

is_default : (t : Term) (o : Option Row) (r : Row) → (o >>= λ r. if is_fitting t r then Some r else None) ≡ Some r
    → unwrap_or o null_row ≡ r
is_default t None r e = absurd (none_some r e)
  where
    none_some : (r : Row) → None ≡ Some r → ⊥
    none_some r e = cc
is_default t (Some s) r e = by (is_fitting t s) e
  where
    by : (b : Bool) → (if b then Some s else None) ≡ Some r → s ≡ r
    by true e = cc
    by false e = absurd (cc)

pub default_under : (t : Term) (d : ValueTerm) → IsDefault t d → row_under t d ≡ default_row t
default_under t d h = is_default t (row_of t d) (default_row t) h

pub default_fits : (t : Term) (d : ValueTerm) → IsDefault t d → FitsValue t d
default_fits t d h = subst (λ (o : Option Row). IsSome o) (sym h) refl

filled_null : (d v : ValueTerm) → is_valued v ≡ false → filled d v ≡ d
filled_null d null_value e = refl
filled_null d (truth_value b) e = absurd (true≢false e)
filled_null d (whole_value k z) e = absurd (true≢false e)
filled_null d (decimal_value w z) e = absurd (true≢false e)
filled_null d (bytes_value bs) e = absurd (true≢false e)
filled_null d (text_value bs) e = absurd (true≢false e)
filled_null d (list_value vs) e = absurd (true≢false e)

is_null : (v : ValueTerm) → is_valued v ≡ false → is_null_value v ≡ true
is_null v e = by (is_null_value v) e
  where
    by : (b : Bool) → not b ≡ false → b ≡ true
    by true e = refl
    by false e = sym e

-- f is the same of a row that is hidden
hidden_by : {A : Type 0} (f : Row → A) (b : Bool) (r : Row) → (b ≡ false → f r ≡ f null_row) → f r ≡ f (if b then r else null_row)
hidden_by f true r e = refl
hidden_by f false r e = e refl

hidden_value : {A : Type 0} (f : Row → A) (u : Term) (d v : ValueTerm) → (is_null_value v ≡ true → f (row_under u d) ≡ f null_row)
    → f (row_under u (filled d v)) ≡ f (if is_valued v then row_under u (filled d v) else null_row)
hidden_value f u d v e =
    hidden_by f (is_valued v) (row_under u (filled d v))
    (λ n. ap (λ (w : ValueTerm). f (row_under u w)) (filled_null d v n) ∙ e (is_null v n))

bytes_hidden : (u : Term) (d : ValueTerm) (vs : List ValueTerm) → (list_any is_null_value vs ≡ true → byte_count (row_under u d) ≡ 0)
    → sum_by byte_count (map (row_under u) (map (filled d) vs))
    ≡ sum_by byte_count (masked (Some (map is_valued vs)) (map (row_under u) (map (filled d) vs)))
bytes_hidden u d [] e = refl
bytes_hidden u d (v ∷ vs) e =
    omega (
      arith,
      sum_by-cons byte_count (row_under u (filled d v)) (map (row_under u) (map (filled d) vs)),
      sum_by-cons byte_count (if is_valued v then row_under u (filled d v) else null_row)
          (masked (Some (map is_valued vs)) (map (row_under u) (map (filled d) vs))),
      hidden_value byte_count u d v (λ n. e (or_first (is_null_value v) (list_any is_null_value vs) n)),
      bytes_hidden u d vs (λ n. e (or_second (is_null_value v) (list_any is_null_value vs) n)),
    )

inner_hidden : (u : Term) (d : ValueTerm) (vs : List ValueTerm) → (list_any is_null_value vs ≡ true → inner_rows (row_under u d) ≡ [])
    → flat_map inner_rows (map (row_under u) (map (filled d) vs))
    ≡ flat_map inner_rows (masked (Some (map is_valued vs)) (map (row_under u) (map (filled d) vs)))
inner_hidden u d [] e = refl
inner_hidden u d (v ∷ vs) e =
    let first : inner_rows (row_under u (filled d v)) ≡ inner_rows (if is_valued v then row_under u (filled d v) else null_row) =
    hidden_value inner_rows u d v (λ n. e (or_first (is_null_value v) (list_any is_null_value vs) n)) in
    ap (λ (l : List Row). l ++ flat_map inner_rows (map (row_under u) (map (filled d) vs))) first
    ∙ ap (λ (l : List Row). inner_rows (if is_valued v then row_under u (filled d v) else null_row) ++ l)
    (inner_hidden u d vs (λ n. e (or_second (is_null_value v) (list_any is_null_value vs) n)))

values_hidden : (t : Term) (d : ValueTerm) (vs : List ValueTerm)
    → (list_any is_null_value vs ≡ true → row_under (with_nullability t false) d ≡ default_row (with_nullability t false))
    → AreEmpty t (map is_valued vs) (map (row_under (with_nullability t false)) (map (filled d) vs))
values_hidden null d vs e = tt
values_hidden (boolean n) d vs e = tt
values_hidden (primitive j n) d vs e = tt
values_hidden (decimal p s n) d vs e = tt
values_hidden (utf8 n) d vs e = bytes_hidden (utf8 false) d vs (λ n. ap byte_count (e n))
values_hidden (binary n) d vs e = bytes_hidden (binary false) d vs (λ n. ap byte_count (e n))
values_hidden (structure fs n) d vs e = tt
values_hidden (list t n) d vs e = inner_hidden (list t false) d vs (λ n. ap inner_rows (e n))
values_hidden (extension id t x) d vs e = tt
values_hidden (fixed_size_list t j n) d vs e = tt

hidden_long : (d : ValueTerm) (u : Term) (vs : List ValueTerm)
    → length (masked (Some (map is_valued vs)) (map (row_under u) (map (filled d) vs))) ≡ length (map (row_under u) (map (filled d) vs))
hidden_long d u [] = refl
hidden_long d u (v ∷ vs) = ap suc (hidden_long d u vs)

filled_much : (t : Term) (d : ValueTerm) (vs : List ValueTerm) → takes_mask t ≡ true
    → (list_any is_null_value vs ≡ true → IsDefault (with_nullability t false) d)
    → HoldsMuch (with_nullability t false) (map (row_under (with_nullability t false)) (map (filled d) vs))
    → HoldsMuch t (map (row_under t) vs)
filled_much t d vs k e h =
    let u : Term = with_nullability t false in
    subst (HoldsMuch t) (filled_rows t d vs)
    (hidden_much t (map is_valued vs) (map (row_under u) (map (filled d) vs)) k (hidden_long d u vs)
    (values_hidden t d vs (λ n. default_under u d (e n))) h)

-- where u is the type without nulls, and ws are the values that are put in place of nulls
pub held_refused : (t u : Term) (d : ValueTerm) (vs ws : List ValueTerm) (e : ArrayError) → takes_mask t ≡ true
    → u ≡ with_nullability t false → ws ≡ map (filled d) vs → (list_any is_null_value vs ≡ true → IsDefault u d)
    → RefusesPlain u ws e → RefusesPlain t vs e
held_refused t u d vs ws e k s f h (inl m) = inl m
held_refused t u d vs ws e k s f h (inr m) =
    let much : HoldsMuch (with_nullability t false) (map (row_under (with_nullability t false)) (map (filled d) vs)) =
    subst (λ (l : List ValueTerm). HoldsMuch (with_nullability t false) (map (row_under (with_nullability t false)) l)) f
    (subst (λ (u : Term). HoldsMuch u (map (row_under u) ws)) s m.1) in
    inr (m.0, filled_much t d vs k (λ n. subst (λ (u : Term). IsDefault u d) s (h n)) much)
