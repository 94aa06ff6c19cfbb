-- Structs: as many as asked for, and they fit where the rows of each field do.
use Rattle.std.proofs.Common.{◌≡◌, ℕ, zero, suc, List, [], ◌∷◌, Bool, Option, Some, None, map, length, replicate, refl, sym, ap, ◌∙◌, subst}
use Rattle.std.specs.List.{AllByRecursion}
use Rattle.std.proofs.lemmas.List.{length-map}
use Rattle.vortex_terms.specs.Term.{Term, Fields, no_fields, field, structure}
use Rattle.vortex_terms.specs.Row.{Row, Rows, no_rows, row, list_row}
use Rattle.vortex_terms.specs.Fits.{Fits, FitsFields}
use Rattle.vortex_terms.specs.FromColumns.{zip_map, inside_structs, struct_rows, masked, AreLong}
use Rattle.vortex_terms.specs.FromColumnLaws.{length-inside_structs}
use Rattle.vortex_node_rows.specs.RowsOf.{Validity, structs}
use Rattle.vortex_node_rows.proofs.Options.{some_same, none_some}
use Rattle.vortex_node_rows.proofs.Masks.{IsMask, length-masked, masked_fit}

-- a column for each field, whose rows fit its type
abbrev pub ColumnsFit : Fields → List (List Row) → Type 0
ColumnsFit no_fields [] = Unit {0}
ColumnsFit (field x t fs) (c ∷ columns) = AllByRecursion (Fits t) c × ColumnsFit fs columns
ColumnsFit _ _ = ⊥

structs_found : (n : ℕ) (bs : List (List ℕ)) (found : Option (List (List Row) × Validity)) (rs : List Row)
    → structs n bs found ≡ Some rs
    → (parts : List (List Row) × Validity) × (found ≡ Some parts) × (masked parts.1 (struct_rows n parts.0) ≡ rs)
unfolding structs
structs_found n [] (Some parts) rs e = (parts, refl, some_same _ rs e)
structs_found n [] None rs e = absurd (none_some rs e)
structs_found n (b ∷ bs) found rs e = absurd (none_some rs e)

pub structs_count : (n : ℕ) (nl : Bool) (bs : List (List ℕ)) (found : Option (List (List Row) × Validity))
    (rs : List Row) → ((p : List (List Row) × Validity) → found ≡ Some p → AreLong n p.0 × IsMask n nl p.1)
    → structs n bs found ≡ Some rs → length rs ≡ n
structs_count n nl bs found rs k e =
    let f = structs_found n bs found rs e in
    let known = k f.0 f.1 in
    ap length (sym f.2)
    ∙ length-masked n nl f.0.1 (struct_rows n f.0.0) known.1
    (length-map (inside_structs n f.0.0) list_row ∙ length-inside_structs n f.0.0 known.0)

empty_fit : (n : ℕ) → AllByRecursion (FitsFields no_fields) (replicate n no_rows)
empty_fit zero = tt
empty_fit (suc n) = (tt, empty_fit n)

zip_fit : (x : List ℕ) (t : Term) (fs : Fields) (rs : List Row) (qs : List Rows) → AllByRecursion (Fits t) rs
    → AllByRecursion (FitsFields fs) qs → AllByRecursion (FitsFields (field x t fs)) (zip_map row rs qs)
zip_fit x t fs [] qs h k = tt
zip_fit x t fs (r ∷ rs) [] h k = tt
zip_fit x t fs (r ∷ rs) (q ∷ qs) h k = ((h.0, k.0), zip_fit x t fs rs qs h.1 k.1)

inside_fit : (n : ℕ) (fs : Fields) (columns : List (List Row)) → ColumnsFit fs columns
    → AllByRecursion (FitsFields fs) (inside_structs n columns)
inside_fit n no_fields [] h = empty_fit n
inside_fit n no_fields (c ∷ columns) h = absurd h
inside_fit n (field x t fs) [] h = absurd h
inside_fit n (field x t fs) (c ∷ columns) h =
    zip_fit x t fs c (inside_structs n columns) h.0 (inside_fit n fs columns h.1)

listed_fit : (fs : Fields) (nl : Bool) (qs : List Rows) → AllByRecursion (FitsFields fs) qs
    → AllByRecursion (Fits (structure fs nl)) (map list_row qs)
listed_fit fs nl [] h = tt
listed_fit fs nl (q ∷ qs) h = (h.0, listed_fit fs nl qs h.1)

pub structs_fit : (fs : Fields) (n : ℕ) (nl : Bool) (bs : List (List ℕ))
    (found : Option (List (List Row) × Validity)) (rs : List Row)
    → ((p : List (List Row) × Validity) → found ≡ Some p → AreLong n p.0 × IsMask n nl p.1)
    → ((p : List (List Row) × Validity) → found ≡ Some p → ColumnsFit fs p.0)
    → structs n bs found ≡ Some rs → AllByRecursion (Fits (structure fs nl)) rs
structs_fit fs n nl bs found rs k h e =
    let f = structs_found n bs found rs e in
    subst (AllByRecursion (Fits (structure fs nl))) f.2
    (masked_fit (Fits (structure fs nl)) n nl f.0.1 (struct_rows n f.0.0) (λ z. z) (k f.0 f.1).1
    (listed_fit fs nl (inside_structs n f.0.0) (inside_fit n fs f.0.0 (h f.0 f.1))))
