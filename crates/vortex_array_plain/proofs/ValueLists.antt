-- Contents of values that hold values: lists, structs and extensions.
use Rattle.std.proofs.Common.{◌≡◌, ◌∙◌, ◌*◌, ◌+◌, ℕ, zero, suc, List, [], ◌∷◌, ◌++◌, Bool, true, false, Option, Some, None, map, length, replicate, drop, get_or, refl, sym, ap, subst, true≢false, arith, Vec, Global}
use Rattle.std.specs.declared.rc.Rc.{Rc}
use Rattle.std.specs.Prelude.{if◌then◌else◌, ◌&&◌, nat_eq}
use Rattle.std.specs.Option.{IsSome, option_map, unwrap_or}
use Rattle.std.specs.List.{AllByRecursion, flat_map}
use Rattle.std.proofs.lemmas.Bool.{eqb-true}
use Rattle.std.proofs.lemmas.List.{append-nil, append_assoc, drop-drop, get_or-drop, length-map, map-append}
use Rattle.vortex_prelude.specs.Chain.{◌>>=◌}
use Rattle.vortex_terms.specs.Term.{Term, structure, list, extension, fixed_size_list, Fields, no_fields, field}
use Rattle.vortex_terms.specs.Types.{field_at, field_count}
use Rattle.vortex_terms.specs.Row.{Row, null_row, list_row, Rows, no_rows, row, row_count, rows_from}
use Rattle.vortex_terms.specs.RowListLaws.{row_count-from}
use Rattle.vortex_terms.specs.FromColumns.{zip_map, pieces, inside_structs}
use Rattle.vortex_terms.specs.Tests.{is_fitting, are_fitting, rows_all}
use Rattle.vortex_types.proofs.Fields.{fields_drop, drop_all}
use Rattle.vortex_scalar_value.specs.Value.{ValueTerm, null_value, truth_value, whole_value, decimal_value, bytes_value, text_value, list_value, ValueTerms, no_values, value, value_list}
use Rattle.vortex_value_rows.specs.RowOf.{row_of, row_under, row_before, rows_by, field_rows}
use Rattle.vortex_node_rows.specs.Pieces.{chunks}
use Rattle.vortex_leaves.specs.Selected.{joined_offsets}
use Rattle.vortex_leaves.specs.Texts.{AreOffsets}
use Rattle.vortex_leaves.proofs.Joined.{joined_are_offsets, length-joined, pieces_joined}
use Rattle.vortex_array_data.specs.declared.held.Content.TheVariants.{Lists, FixedLists, Structs, Storage}
use Rattle.vortex_array_data.specs.Column.{Column}
use Rattle.vortex_array_data.specs.Content.{column_rows, AreFields}
use Rattle.vortex_array_data.specs.inner.Picked.{are_plain_columns}
use Rattle.vortex_array_plain.specs.PlainValues.{first_in, part_in, values_in, AllFit, ArePlain, FitsValue, IsPlain, IsPlainContent}
use Rattle.vortex_array_data.proofs.PickedParts.{Even, even_joined, even_length}
use Rattle.vortex_array_data.proofs.PlainNodes.{both_true, first_true, second_true}
use Rattle.vortex_array_plain.proofs.ValueFits.{map_fit, all_more, row_fitting, value_fits}

-- ---- rows inside lists

before : (o : Option Row) (os : Option Rows) (rs : Rows) → IsSome (row_before o os) → (IsSome os → os ≡ Some rs)
    → row_before o os ≡ Some (row (unwrap_or o null_row) rs)
before (Some r) (Some qs) rs h k = ap (row_before (Some r)) (k refl)
before (Some r) None rs h k = absurd (true≢false (sym h))
before None (Some qs) rs h k = absurd (true≢false (sym h))
before None None rs h k = absurd (true≢false (sym h))

heads : (o : Option Row) (os : Option Rows) → IsSome (row_before o os) → (o ≡ Some (unwrap_or o null_row)) × IsSome os
heads (Some r) (Some qs) h = (refl, refl)
heads (Some r) None h = absurd (true≢false (sym h))
heads None (Some qs) h = absurd (true≢false (sym h))
heads None None h = absurd (true≢false (sym h))

listed : (u : Term) (o : Option Rows) → IsSome (option_map list_row o >>= λ r. if is_fitting u r then Some r else None) → IsSome o
listed u (Some rs) h = refl
listed u None h = h

rows_there : (t : Term) (ws : ValueTerms) → IsSome (rows_by (row_of t) ws)
    → rows_by (row_of t) ws ≡ Some (rows_from (map (row_under t) (value_list ws)))
rows_there t no_values h = refl
rows_there t (value v vs) h =
    before (row_of t v) (rows_by (row_of t) vs) (rows_from (map (row_under t) (value_list vs))) h (rows_there t vs)

inside_fit : (t : Term) (ws : ValueTerms) → IsSome (rows_by (row_of t) ws)
    → rows_all (is_fitting t) (rows_from (map (row_under t) (value_list ws))) ≡ true → AllFit t (value_list ws)
inside_fit t no_values h k = tt
inside_fit t (value v vs) h k =
    let p = heads (row_of t v) (rows_by (row_of t) vs) h in
    let rest : Rows = rows_from (map (row_under t) (value_list vs)) in (
      value_fits t v (row_under t v) p.0 (first_true (is_fitting t (row_under t v)) (rows_all (is_fitting t) rest) k),
      inside_fit t vs p.1 (second_true (is_fitting t (row_under t v)) (rows_all (is_fitting t) rest) k),
    )

-- the row of a list
abbrev pub list_of : Term → List ValueTerm → Row
list_of t vs = list_row (rows_from (map (row_under t) vs))

listed_row : (t : Term) (o : Option Rows) (rs : Rows) → o ≡ Some rs → list_row rs ≡ unwrap_or (option_map list_row o) null_row
listed_row t o rs e = ap (λ (o : Option Rows). unwrap_or (option_map list_row o) null_row) (sym e)

pub list_under : (t : Term) (v : ValueTerm) → FitsValue (list t false) v → list_of t (values_in v) ≡ row_under (list t false) v
list_under t (list_value ws) h =
    listed_row t (rows_by (row_of t) ws) (rows_from (map (row_under t) (value_list ws)))
    (rows_there t ws (listed (list t false) (rows_by (row_of t) ws) h))
list_under t null_value h = absurd (true≢false (sym h))
list_under t (truth_value b) h = absurd (true≢false (sym h))
list_under t (whole_value k z) h = absurd (true≢false (sym h))
list_under t (decimal_value w z) h = absurd (true≢false (sym h))
list_under t (bytes_value bs) h = absurd (true≢false (sym h))
list_under t (text_value bs) h = absurd (true≢false (sym h))

list_fits : (t : Term) (v : ValueTerm) → FitsValue (list t false) v → AllFit t (values_in v)
list_fits t (list_value ws) h =
    inside_fit t ws (listed (list t false) (rows_by (row_of t) ws) h)
    (subst (λ (r : Row). is_fitting (list t false) r ≡ true) (sym (list_under t (list_value ws) h))
    (row_fitting (list t false) (list_value ws) h))
list_fits t null_value h = absurd (true≢false (sym h))
list_fits t (truth_value b) h = tt
list_fits t (whole_value k z) h = tt
list_fits t (decimal_value w z) h = tt
list_fits t (bytes_value bs) h = tt
list_fits t (text_value bs) h = tt

pub lists_fit : (t : Term) (nl : Bool) (vs : List ValueTerm) → nl ≡ false → AllFit (list t nl) vs
    → AllByRecursion (λ v. AllFit t (values_in v)) vs
lists_fit t nl vs z h =
    all_more (FitsValue (list t false)) (λ v. AllFit t (values_in v)) vs (list_fits t) (subst (λ (b : Bool). AllFit (list t b) vs) z h)

fit_before : (t : Term) (ws vs : List ValueTerm) → AllFit t ws → AllFit t vs → AllFit t (ws ++ vs)
fit_before t [] vs h k = k
fit_before t (w ∷ ws) vs h k = (h.0, fit_before t ws vs h.1 k)

pub all_inside_fit : (t : Term) (vs : List ValueTerm) → AllByRecursion (λ v. AllFit t (values_in v)) vs → AllFit t (flat_map values_in vs)
all_inside_fit t [] h = tt
all_inside_fit t (v ∷ vs) h = fit_before t (values_in v) (flat_map values_in vs) h.0 (all_inside_fit t vs h.1)

pub fixed_under : (t : Term) (k : ℕ) (v : ValueTerm) → FitsValue (fixed_size_list t k false) v
    → list_of t (values_in v) ≡ row_under (fixed_size_list t k false) v
fixed_under t k (list_value ws) h =
    listed_row t (rows_by (row_of t) ws) (rows_from (map (row_under t) (value_list ws)))
    (rows_there t ws (listed (fixed_size_list t k false) (rows_by (row_of t) ws) h))
fixed_under t k null_value h = absurd (true≢false (sym h))
fixed_under t k (truth_value b) h = absurd (true≢false (sym h))
fixed_under t k (whole_value l z) h = absurd (true≢false (sym h))
fixed_under t k (decimal_value w z) h = absurd (true≢false (sym h))
fixed_under t k (bytes_value bs) h = absurd (true≢false (sym h))
fixed_under t k (text_value bs) h = absurd (true≢false (sym h))

-- as many values as the size says, each of which fits
record IsFixed (t : Term) (k : ℕ) (v : ValueTerm) : Type 0 where
  fit : AllFit t (values_in v)
  long : length (map (row_under t) (values_in v)) ≡ k

fixed_fits : (t : Term) (k : ℕ) (v : ValueTerm) → FitsValue (fixed_size_list t k false) v → IsFixed t k v
fixed_fits t k (list_value ws) h =
    let rs : Rows = rows_from (map (row_under t) (value_list ws)) in
    let fit : (nat_eq (row_count rs) k && rows_all (is_fitting t) rs) ≡ true =
    subst (λ (r : Row). is_fitting (fixed_size_list t k false) r ≡ true) (sym (fixed_under t k (list_value ws) h))
    (row_fitting (fixed_size_list t k false) (list_value ws) h) in
    record {
      fit = inside_fit t ws (listed (fixed_size_list t k false) (rows_by (row_of t) ws) h)
          (second_true (nat_eq (row_count rs) k) (rows_all (is_fitting t) rs) fit);
      long = sym (row_count-from (map (row_under t) (value_list ws)))
          ∙ eqb-true (row_count rs) k (first_true (nat_eq (row_count rs) k) (rows_all (is_fitting t) rs) fit);
    }
fixed_fits t k null_value h = absurd (true≢false (sym h))
fixed_fits t k (truth_value b) h = absurd (true≢false (sym h))
fixed_fits t k (whole_value l z) h = absurd (true≢false (sym h))
fixed_fits t k (decimal_value w z) h = absurd (true≢false (sym h))
fixed_fits t k (bytes_value bs) h = absurd (true≢false (sym h))
fixed_fits t k (text_value bs) h = absurd (true≢false (sym h))

pub fixed_lists_fit : (t : Term) (k : ℕ) (nl : Bool) (vs : List ValueTerm) → nl ≡ false → AllFit (fixed_size_list t k nl) vs
    → AllByRecursion (λ v. AllFit t (values_in v)) vs
fixed_lists_fit t k nl vs z h =
    all_more (FitsValue (fixed_size_list t k false)) (λ v. AllFit t (values_in v)) vs (λ v f. (fixed_fits t k v f).fit)
    (subst (λ (b : Bool). AllFit (fixed_size_list t k b) vs) z h)

-- ---- lists

-- the rows in each list
abbrev pub inside_rows : Term → List ValueTerm → List (List Row)
inside_rows t vs = map (λ v. map (row_under t) (values_in v)) vs

pub rows_joined : (t : Term) (vs : List ValueTerm) → map (row_under t) (flat_map values_in vs) ≡ flat_map (λ p. p) (inside_rows t vs)
rows_joined t [] = refl
rows_joined t (v ∷ vs) =
    map-append (row_under t) (values_in v) (flat_map values_in vs)
    ∙ ap (λ (l : List Row). map (row_under t) (values_in v) ++ l) (rows_joined t vs)

sizes_inside : (t : Term) (vs : List ValueTerm) → map length (inside_rows t vs) ≡ map (λ v. length (values_in v)) vs
sizes_inside t [] = refl
sizes_inside t (v ∷ vs) = λ i. length-map (values_in v) (row_under t) i ∷ sizes_inside t vs i

pub mapped : {A : Type 0} (f : ValueTerm → A) (g : A → Row) (vs : List ValueTerm) → map g (map f vs) ≡ map (λ v. g (f v)) vs
mapped f g [] = refl
mapped f g (v ∷ vs) = λ i. g (f v) ∷ mapped f g vs i

pub lists_content : (t : Term) (vs : List ValueTerm) (os : List ℕ) (es : Rc Column Global) (nl : Bool) → nl ≡ false
    → AllFit (list t nl) vs → os ≡ joined_offsets (map (λ v. length (values_in v)) vs)
    → IsPlain t (flat_map values_in vs) es.value → IsPlainContent (list t nl) vs (Lists os es)
lists_content t vs os es nl z h e p =
    let ps : List (List Row) = inside_rows t vs in
    let g : List Row → Row = λ rs. list_row (rows_from rs) in
    let all : es.value.rows ≡ flat_map (λ p. p) ps = p.rows ∙ rows_joined t vs in
    let from : os ≡ joined_offsets (map length ps) = e ∙ ap joined_offsets (sym (sizes_inside t vs)) in
    let count : length (map (λ (l : List Row). length l) ps) ≡ length vs =
    ap length (sizes_inside t vs) ∙ length-map vs (λ v. length (values_in v)) in
    let shape : AreOffsets (length (map (λ (l : List Row). length l) ps)) (length es.value.rows) os =
    rw from (joined_are_offsets (map length ps) (length es.value.rows) (omega (arith, ap length all, length-joined ps))) in
    record {
      shape = (p.dtype, subst (λ j. AreOffsets j (length es.value.rows) os) count shape);
      rows = ap (λ l. map g (pieces l es.value.rows)) from ∙ ap (λ l. map g (pieces (joined_offsets (map length ps)) l)) all
          ∙ ap (map g) (pieces_joined ps) ∙ mapped (λ v. map (row_under t) (values_in v)) g vs
          ∙ subst (λ (b : Bool). map (λ v. list_of t (values_in v)) vs ≡ map (row_under (list t b)) vs) (sym z)
          (map_fit (list t false) (λ v. list_of t (values_in v)) vs (list_under t) (subst (λ (b : Bool). AllFit (list t b) vs) z h));
      canonical = both_true _ true p.canonical refl;
    }

pub even_inside : (t : Term) (k : ℕ) (vs : List ValueTerm) → AllFit (fixed_size_list t k false) vs → Even k (inside_rows t vs)
even_inside t k [] h = tt
even_inside t k (v ∷ vs) h = ((fixed_fits t k v h.0).long, even_inside t k vs h.1)

pub fixed_content : (t : Term) (k : ℕ) (vs : List ValueTerm) (es : Rc Column Global) (nl : Bool) → nl ≡ false
    → AllFit (fixed_size_list t k nl) vs → IsPlain t (flat_map values_in vs) es.value
    → IsPlainContent (fixed_size_list t k nl) vs (FixedLists k es)
fixed_content t k vs es nl z h p =
    let ps : List (List Row) = inside_rows t vs in
    let g : List Row → Row = λ rs. list_row (rows_from rs) in
    let fit : AllFit (fixed_size_list t k false) vs = subst (λ (b : Bool). AllFit (fixed_size_list t k b) vs) z h in
    let even : Even k ps = even_inside t k vs fit in
    let all : es.value.rows ≡ flat_map (λ p. p) ps = p.rows ∙ rows_joined t vs in
    let count : length ps ≡ length vs = length-map vs (λ v. map (row_under t) (values_in v)) in
    record {
      shape = (refl, (p.dtype, ap length all ∙ even_length k ps even ∙ ap (λ j. j * k) count));
      rows = ap (λ l. map g (chunks k (length vs) l)) all ∙ ap (λ j. map g (chunks k j (flat_map (λ (p : List Row). p) ps))) (sym count)
          ∙ ap (map g) (even_joined k ps even) ∙ mapped (λ v. map (row_under t) (values_in v)) g vs
          ∙ subst (λ (b : Bool). map (λ v. list_of t (values_in v)) vs ≡ map (row_under (fixed_size_list t k b)) vs) (sym z)
          (map_fit (fixed_size_list t k false) (λ v. list_of t (values_in v)) vs (fixed_under t k) fit);
      canonical = both_true _ true p.canonical refl;
    }

-- ---- extensions

pub storage_content : (id : List ℕ) (t : Term) (x : Option (List ℕ)) (vs : List ValueTerm) (es : Rc Column Global)
    → IsPlain t vs es.value → IsPlainContent (extension id t x) vs (Storage es)
storage_content id t x vs es p = record {
  shape = (p.dtype, ap length p.rows ∙ length-map vs (row_under t));
  rows = p.rows;
  canonical = both_true _ true p.canonical refl;
}

-- ---- structs

-- the row of each field, of the values inside a struct
abbrev pub rows_at : Fields → List ValueTerm → Rows
rows_at no_fields vs = no_rows
rows_at (field x t fs) vs = row (row_under t (first_in vs)) (rows_at fs (drop 1 vs))

fields_there : (fs : Fields) (ws : ValueTerms) → IsSome (field_rows fs ws) → field_rows fs ws ≡ Some (rows_at fs (value_list ws))
fields_there no_fields no_values h = refl
fields_there (field x t fs) (value v vs) h =
    before (row_of t v) (field_rows fs vs) (rows_at fs (value_list vs)) h (fields_there fs vs)
fields_there no_fields (value v vs) h = absurd (true≢false (sym h))
fields_there (field x t fs) no_values h = absurd (true≢false (sym h))

pub struct_under : (fs : Fields) (v : ValueTerm) → FitsValue (structure fs false) v
    → list_row (rows_at fs (values_in v)) ≡ row_under (structure fs false) v
struct_under fs (list_value ws) h =
    ap (λ (o : Option Rows). unwrap_or (option_map list_row o) null_row)
    (sym (fields_there fs ws (listed (structure fs false) (field_rows fs ws) h)))
struct_under fs null_value h = absurd (true≢false (sym h))
struct_under fs (truth_value b) h = absurd (true≢false (sym h))
struct_under fs (whole_value k z) h = absurd (true≢false (sym h))
struct_under fs (decimal_value w z) h = absurd (true≢false (sym h))
struct_under fs (bytes_value bs) h = absurd (true≢false (sym h))
struct_under fs (text_value bs) h = absurd (true≢false (sym h))

field_fits : (fs : Fields) (i : ℕ) (t : Term) (ws : ValueTerms) → Some t ≡ field_at fs i → IsSome (field_rows fs ws)
    → are_fitting fs (rows_at fs (value_list ws)) ≡ true → FitsValue t (get_or (value_list ws) i null_value)
field_fits no_fields i t ws e h k = absurd (cc)
field_fits (field x u fs) i t no_values e h k = absurd (true≢false (sym h))
field_fits (field x u fs) zero t (value v vs) e h k =
    let p = heads (row_of u v) (field_rows fs vs) h in
    subst (λ (t : Term). FitsValue t v) (same e)
    (value_fits u v (row_under u v) p.0 (first_true (is_fitting u (row_under u v)) (are_fitting fs (rows_at fs (value_list vs))) k))
  where
    same : {a b : Term} → Some a ≡ Some b → b ≡ a
    same e = cc
field_fits (field x u fs) (suc i) t (value v vs) e h k =
    let p = heads (row_of u v) (field_rows fs vs) h in
    field_fits fs i t vs e p.1 (second_true (is_fitting u (row_under u v)) (are_fitting fs (rows_at fs (value_list vs))) k)

part_fits : (fs : Fields) (i : ℕ) (t : Term) (v : ValueTerm) → Some t ≡ field_at fs i → FitsValue (structure fs false) v
    → FitsValue t (part_in i v)
part_fits fs i t (list_value ws) e h =
    field_fits fs i t ws e (listed (structure fs false) (field_rows fs ws) h)
    (subst (λ (r : Row). is_fitting (structure fs false) r ≡ true) (sym (struct_under fs (list_value ws) h))
    (row_fitting (structure fs false) (list_value ws) h))
part_fits fs i t null_value e h = absurd (true≢false (sym h))
part_fits fs i t (truth_value b) e h = absurd (true≢false (sym h))
part_fits fs i t (whole_value k z) e h = absurd (true≢false (sym h))
part_fits fs i t (decimal_value w z) e h = absurd (true≢false (sym h))
part_fits fs i t (bytes_value bs) e h = absurd (true≢false (sym h))
part_fits fs i t (text_value bs) e h = absurd (true≢false (sym h))

pub parts_fit : (fs : Fields) (i : ℕ) (t : Term) (vs : List ValueTerm) → Some t ≡ field_at fs i → AllFit (structure fs false) vs
    → AllFit t (map (part_in i) vs)
parts_fit fs i t [] e h = tt
parts_fit fs i t (v ∷ vs) e h = (part_fits fs i t v e h.0, parts_fit fs i t vs e h.1)

-- ---- columns of structs

pub none_inside : (ls : List (List ValueTerm)) → replicate (length ls) no_rows ≡ map (λ (l : List ValueTerm). no_rows) ls
none_inside [] = refl
none_inside (l ∷ ls) = ap (λ (rs : List Rows). no_rows ∷ rs) (none_inside ls)

pub one_inside : (x : List ℕ) (t : Term) (fs : Fields) (ls : List (List ValueTerm))
    → zip_map row (map (row_under t) (map first_in ls)) (map (rows_at fs) (map (drop 1) ls)) ≡ map (rows_at (field x t fs)) ls
one_inside x t fs [] = refl
one_inside x t fs (l ∷ ls) = ap (λ (rs : List Rows). row (row_under t (first_in l)) (rows_at fs (drop 1 l)) ∷ rs) (one_inside x t fs ls)

plain_inside : (fs : Fields) (ls : List (List ValueTerm)) (cs : List Column) → ArePlain fs ls cs
    → inside_structs (length ls) (column_rows cs) ≡ map (rows_at fs) ls
plain_inside no_fields ls [] h = none_inside ls
plain_inside (field x t fs) ls (c ∷ cs) h =
    let rest : inside_structs (length ls) (column_rows cs) ≡ map (rows_at fs) (map (drop 1) ls) =
    ap (λ j. inside_structs j (column_rows cs)) (sym (length-map ls (drop 1))) ∙ plain_inside fs (map (drop 1) ls) cs h.1 in
    ap (λ (rs : List Row). zip_map row rs (inside_structs (length ls) (column_rows cs))) h.0.rows
    ∙ ap (zip_map row (map (row_under t) (map first_in ls))) rest ∙ one_inside x t fs ls
plain_inside no_fields ls (c ∷ cs) h = absurd h
plain_inside (field x t fs) ls [] h = absurd h

plain_shape : (fs : Fields) (ls : List (List ValueTerm)) (cs : List Column) → ArePlain fs ls cs → AreFields (length ls) fs cs
plain_shape no_fields ls [] h = tt
plain_shape (field x t fs) ls (c ∷ cs) h = (
  (h.0.dtype, ap length h.0.rows ∙ length-map (map first_in ls) (row_under t) ∙ length-map ls first_in),
  subst (λ n. AreFields n fs cs) (length-map ls (drop 1)) (plain_shape fs (map (drop 1) ls) cs h.1),
)
plain_shape no_fields ls (c ∷ cs) h = absurd h
plain_shape (field x t fs) ls [] h = absurd h

plain_columns : (fs : Fields) (ls : List (List ValueTerm)) (cs : List Column) → ArePlain fs ls cs → are_plain_columns cs ≡ true
plain_columns no_fields ls [] h = refl
plain_columns (field x t fs) ls (c ∷ cs) h = both_true _ (are_plain_columns cs) h.0.canonical (plain_columns fs (map (drop 1) ls) cs h.1)
plain_columns no_fields ls (c ∷ cs) h = absurd h
plain_columns (field x t fs) ls [] h = absurd h

pub mapped_rows : (f : ValueTerm → List ValueTerm) (g : List ValueTerm → Rows) (vs : List ValueTerm)
    → map list_row (map g (map f vs)) ≡ map (λ v. list_row (g (f v))) vs
mapped_rows f g [] = refl
mapped_rows f g (v ∷ vs) = ap (λ (l : List Row). list_row (g (f v)) ∷ l) (mapped_rows f g vs)

pub structs_content : (fs : Fields) (vs : List ValueTerm) (a : Vec Column Global) (nl : Bool) → nl ≡ false
    → AllFit (structure fs nl) vs → ArePlain fs (map values_in vs) a.items → IsPlainContent (structure fs nl) vs (Structs a)
structs_content fs vs a nl z h p =
    let ls : List (List ValueTerm) = map values_in vs in
    let count : length ls ≡ length vs = length-map vs values_in in
    record {
      shape = subst (λ n. AreFields n fs a.items) count (plain_shape fs ls a.items p);
      rows = ap (λ n. map list_row (inside_structs n (column_rows a.items))) (sym count)
          ∙ ap (map list_row) (plain_inside fs ls a.items p) ∙ mapped_rows values_in (rows_at fs) vs
          ∙ subst (λ (b : Bool). map (λ v. list_row (rows_at fs (values_in v))) vs ≡ map (row_under (structure fs b)) vs) (sym z)
          (map_fit (structure fs false) (λ v. list_row (rows_at fs (values_in v))) vs (struct_under fs)
          (subst (λ (b : Bool). AllFit (structure fs b) vs) z h));
      canonical = plain_columns fs ls a.items p;
    }

-- ---- the loop over fields

-- columns of the fields so far, and those of the others, are those of all
abbrev pub ColumnsSoFar : Fields → List (List ValueTerm) → ℕ → List Column → Type 0
ColumnsSoFar fs ls i cs = (ds : List Column) → ArePlain (fields_drop i fs) (map (drop i) ls) ds → ArePlain fs ls (cs ++ ds)

field_step : (fs : Fields) (i : ℕ) (t : Term) → Some t ≡ field_at fs i
    → (x : List ℕ) × (fields_drop i fs ≡ field x t (fields_drop (suc i) fs))
field_step no_fields i t e = absurd (cc)
field_step (field x u fs) zero t e = (x, ap (λ (u : Term). field x u fs) (same u t e))
  where
    same : (u t : Term) → Some t ≡ Some u → u ≡ t
    same u t e = cc
field_step (field x u fs) (suc i) t e = field_step fs i t e

pub firsts : (i : ℕ) (vs : List ValueTerm) → map first_in (map (drop i) (map values_in vs)) ≡ map (part_in i) vs
firsts i [] = refl
firsts i (v ∷ vs) =
    let at : i + 0 ≡ i = omega arith in
    λ j. (get_or-drop i (values_in v) 0 null_value ∙ ap (λ k. get_or (values_in v) k null_value) at) j ∷ firsts i vs j

drops : (i : ℕ) (ls : List (List ValueTerm)) → map (drop 1) (map (drop i) ls) ≡ map (drop (suc i)) ls
drops i [] = refl
drops i (l ∷ ls) =
    let at : i + 1 ≡ suc i = omega arith in
    λ j. (drop-drop 1 i l ∙ ap (λ k. drop k l) at) j ∷ drops i ls j

pub all_drops : (ls : List (List ValueTerm)) → map (drop 0) ls ≡ ls
all_drops [] = refl
all_drops (l ∷ ls) = ap (λ (m : List (List ValueTerm)). l ∷ m) (all_drops ls)

pub columns_none : (fs : Fields) (ls : List (List ValueTerm)) (cs : List Column) → cs ≡ [] → ColumnsSoFar fs ls 0 cs
columns_none fs ls cs e ds h =
    subst (λ (l : List Column). ArePlain fs ls (l ++ ds)) (sym e) (subst (λ (m : List (List ValueTerm)). ArePlain fs m ds) (all_drops ls) h)

pub columns_more : (fs : Fields) (vs : List ValueTerm) (i : ℕ) (t : Term) (cs new : List Column) (c : Column)
    → ColumnsSoFar fs (map values_in vs) i cs → Some t ≡ field_at fs i → IsPlain t (map (part_in i) vs) c → new ≡ cs ++ (c ∷ [])
    → ColumnsSoFar fs (map values_in vs) (i + 1) new
columns_more fs vs i t cs new c h e p is ds k =
    let ls : List (List ValueTerm) = map values_in vs in
    let step = field_step fs i t e in
    let next : i + 1 ≡ suc i = omega arith in
    let rest : ArePlain (fields_drop (suc i) fs) (map (drop 1) (map (drop i) ls)) ds =
    subst (λ (m : List (List ValueTerm)). ArePlain (fields_drop (suc i) fs) m ds) (sym (drops i ls))
    (subst (λ j. ArePlain (fields_drop j fs) (map (drop j) ls) ds) next k) in
    let first : IsPlain t (map first_in (map (drop i) ls)) c = subst (λ (l : List ValueTerm). IsPlain t l c) (sym (firsts i vs)) p in
    subst (λ (l : List Column). ArePlain fs ls (l ++ ds)) (sym is)
    (subst (ArePlain fs ls) (sym (append_assoc cs (c ∷ []) ds))
    (h (c ∷ ds) (subst (λ (gs : Fields). ArePlain gs (map (drop i) ls) (c ∷ ds)) (sym step.1) (first, rest))))

pub columns_all : (fs : Fields) (ls : List (List ValueTerm)) (i : ℕ) (cs : List Column) → ColumnsSoFar fs ls i cs
    → field_count fs ≡ i → ArePlain fs ls cs
columns_all fs ls i cs h e =
    subst (ArePlain fs ls) (append-nil cs)
    (h [] (subst (λ (gs : Fields). ArePlain gs (map (drop i) ls) []) (sym (drop_all fs i e)) tt))
