-- The rows inside structs, by their places.
use Rattle.std.proofs.Common.{◌≡◌, ◌∙◌, ℕ, zero, suc, List, [], ◌∷◌, Option, Some, None, length, refl, sym, ap}
use Rattle.std.specs.Prelude.{slice_get}
use Rattle.std.specs.Option.{option_map}
use Rattle.std.proofs.lemmas.Option.{slice_get-map}
use Rattle.vortex_terms.specs.Term.{Fields, no_fields, field}
use Rattle.vortex_terms.specs.Types.{types_of}
use Rattle.vortex_terms.specs.Row.{Row, list_row, Rows, row, row_at}
use Rattle.vortex_terms.specs.FromColumns.{zip_map, inside_structs, struct_rows}
use Rattle.vortex_array_data.specs.Column.{Column}
use Rattle.vortex_array_data.specs.Content.{AreFields}

none_some : {A : Type 0} (x : A) → None ≡ Some x → ⊥
none_some x e = cc

same : {A : Type 0} (x y : A) → Some x ≡ Some y → x ≡ y
same x y e = cc

-- ---- structs

pub zip_at : (d : List Row) (below : List Rows) (j : ℕ) (rs : Rows) → slice_get (zip_map row d below) j ≡ Some rs
    → (q : Row) × ((b : Rows) × ((slice_get d j ≡ Some q) × ((slice_get below j ≡ Some b) × (row q b ≡ rs))))
zip_at [] below j rs e = absurd (none_some rs e)
zip_at (q ∷ d) [] j rs e = absurd (none_some rs e)
zip_at (q ∷ d) (b ∷ below) zero rs e = (q, (b, (refl, (refl, same (row q b) rs e))))
zip_at (q ∷ d) (b ∷ below) (suc j) rs e = zip_at d below j rs e

-- the row inside struct j at a place, by the columns
inside_at : (n : ℕ) (columns : List (List Row)) (j : ℕ) (rs : Rows)
    → slice_get (inside_structs n columns) j ≡ Some rs
    → (i : ℕ) (c : List Row) → slice_get columns i ≡ Some c → row_at rs i ≡ slice_get c j
inside_at n [] j rs e i c f = absurd (none_some c f)
inside_at n (d ∷ columns) j rs e zero c f =
    let z = zip_at d (inside_structs n columns) j rs e in
    ap (λ (r : Rows). row_at r 0) (sym z.1.1.1.1) ∙ sym z.1.1.0 ∙ ap (λ (l : List Row). slice_get l j) (same d c f)
inside_at n (d ∷ columns) j rs e (suc i) c f =
    let z = zip_at d (inside_structs n columns) j rs e in
    ap (λ (r : Rows). row_at r (suc i)) (sym z.1.1.1.1) ∙ inside_at n columns j z.1.0 z.1.1.1.0 i c f

unlisted : (o : Option Rows) (rs : Rows) → option_map list_row o ≡ Some (list_row rs) → o ≡ Some rs
unlisted None rs e = absurd (cc)
unlisted (Some x) rs e = cc

pub inside_struct : (n : ℕ) (columns : List (List Row)) (j : ℕ) (rs : Rows)
    → slice_get (struct_rows n columns) j ≡ Some (list_row rs) → slice_get (inside_structs n columns) j ≡ Some rs
inside_struct n columns j rs e =
    unlisted (slice_get (inside_structs n columns) j) rs (sym (slice_get-map list_row (inside_structs n columns) j) ∙ e)

pub struct_part : (n : ℕ) (columns : List (List Row)) (j : ℕ) (rs : Rows)
    → slice_get (struct_rows n columns) j ≡ Some (list_row rs)
    → (i : ℕ) (c : List Row) → slice_get columns i ≡ Some c → row_at rs i ≡ slice_get c j
struct_part n columns j rs e i c f = inside_at n columns j rs (inside_struct n columns j rs e) i c f

-- a column of a field
pub field_column : (n : ℕ) (fs : Fields) (cs : List Column) (i : ℕ) (c : Column) → AreFields n fs cs
    → slice_get cs i ≡ Some c → (slice_get (types_of fs) i ≡ Some c.dtype) × (length c.rows ≡ n)
field_column n no_fields [] i c h e = absurd (none_some c e)
field_column n no_fields (d ∷ cs) i c h e = absurd h
field_column n (field x t fs) [] i c h e = absurd h
field_column n (field x t fs) (d ∷ cs) zero c h e =
    let is : d ≡ c = same d c e in
    (ap Some (sym h.0.0) ∙ ap (λ (a : Column). Some a.dtype) is, ap (λ (a : Column). length a.rows) (sym is) ∙ h.0.1)
field_column n (field x t fs) (d ∷ cs) (suc i) c h e = field_column n fs cs i c h.1 e

pub fields_count : (n : ℕ) (fs : Fields) (cs : List Column) → AreFields n fs cs → length (types_of fs) ≡ length cs
fields_count n no_fields [] h = refl
fields_count n no_fields (d ∷ cs) h = absurd h
fields_count n (field x t fs) [] h = absurd h
fields_count n (field x t fs) (d ∷ cs) h = ap suc (fields_count n fs cs h.1)
