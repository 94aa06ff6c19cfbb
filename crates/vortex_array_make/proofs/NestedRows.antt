-- Arrays that are made of others hold as many rows as they are to, and these fit.
use Rattle.std.proofs.Common.{◌≡◌, ◌*◌, ◌-◌, ◌∙◌, ℕ, List, [], ◌∷◌, Bool, Some, map, length, take, drop, refl, sym, ap, subst, arith, Vec, Global}
use Rattle.std.specs.declared.rc.Rc.{Rc}
use Rattle.std.specs.List.{AllByRecursion}
use Rattle.std.proofs.lemmas.List.{length-map}
use Rattle.std.proofs.lemmas.List.Elements.{All-take, All-drop, All-from_recursion, recursion_from_All}
use Rattle.vortex_terms.specs.Term.{Term, structure, list, fixed_size_list, Fields}
use Rattle.vortex_terms.specs.Types.{fields_from}
use Rattle.vortex_terms.specs.Row.{Row, list_row, rows_from}
use Rattle.vortex_terms.specs.RowLaws.{AllRows-from}
use Rattle.vortex_terms.specs.Fits.{Fits}
use Rattle.vortex_terms.specs.FromColumns.{masked, pieces, list_rows, struct_rows, inside_structs, AreLong}
use Rattle.vortex_terms.specs.FromColumnLaws.{length-inside_structs}
use Rattle.vortex_node_rows.specs.Pieces.{chunks}
use Rattle.vortex_node_rows.specs.RowsOf.{Validity, Parts, fixed_lists, structs}
use Rattle.vortex_node_rows.proofs.Options.{some_same}
use Rattle.vortex_node_rows.proofs.Masks.{length-masked, masked_fit}
use Rattle.vortex_node_rows.proofs.Texts.{length-pieces, pieces_all}
use Rattle.vortex_node_rows.proofs.Lists.{length-chunks, fixed_fit}
use Rattle.vortex_node_rows.proofs.Structs.{ColumnsFit, structs_fit}
use Rattle.vortex_leaves.specs.Texts.{AreOffsets}
use Rattle.vortex_array_data.specs.ArrayNode.{ArrayNode}
use Rattle.vortex_array_data.specs.Column.{Column, Holds}
use Rattle.vortex_array_data.specs.Content.{content_rows, column_rows, is_maskable, AreFields, IsMask, IsShaped}
use Rattle.vortex_array_data.specs.declared.held.Content.{Content}
use Rattle.vortex_array_data.specs.declared.held.Content.TheVariants.{Lists, FixedLists, Structs}

-- what is asked of rows that are held under a type
pub record AreHeld (t : Term) (n : ℕ) (v : Validity) (c : Content) : Type 0 where
  pub shape : IsShaped c t n
  pub mask : IsMask n (is_maskable t) v
  pub count : n ≡ length (masked v (content_rows c t n))
  pub fit : AllByRecursion (Fits t) (masked v (content_rows c t n))

-- a column by its parts
pub column_is : (a : Column) (t : Term) (rs : List Row) (x : ArrayNode) → a.dtype ≡ t → a.rows ≡ rs → a.node ≡ x
    → ◌≡◌ {A = Column} a (record { dtype = t; rows = rs; node = x })
column_is a t rs x d r e = λ i. record { dtype = d i; rows = r i; node = e i }

-- ---- lists between offsets

listed_fit : (t : Term) (nl : Bool) (pss : List (List Row)) → AllByRecursion (AllByRecursion (Fits t)) pss
    → AllByRecursion (Fits (list t nl)) (map (λ rs. list_row (rows_from rs)) pss)
listed_fit t nl [] h = tt
listed_fit t nl (ps ∷ pss) h = (AllRows-from (Fits t) ps h.0, listed_fit t nl pss h.1)

range_fit : (t : Term) (rs : List Row) (a b : ℕ) → AllByRecursion (Fits t) rs
    → AllByRecursion (Fits t) (take (b - a) (drop a rs))
range_fit t rs a b h =
    recursion_from_All (Fits t) (take (b - a) (drop a rs)) (All-take (Fits t) (b - a) (drop a rs) (All-drop (Fits t) a rs
    (All-from_recursion (Fits t) rs h)))

lists_fit : (t : Term) (nl : Bool) (os : List ℕ) (rs : List Row) → AllByRecursion (Fits t) rs
    → AllByRecursion (Fits (list t nl)) (list_rows os rs)
lists_fit t nl os rs h =
    listed_fit t nl (pieces os rs) (pieces_all (AllByRecursion (Fits t)) os rs (λ a b. range_fit t rs a b h))

own_lists : (n : ℕ) (os : List ℕ) (nl : Bool) (v : Validity) (es : Rc Column Global)
    → AreOffsets n (length es.value.rows) os → IsMask n nl v → AllByRecursion (Fits es.value.dtype) es.value.rows
    → AreHeld (list es.value.dtype nl) n v (Lists os es)
own_lists n os nl v es h m fit = record {
  shape = (refl, h);
  mask = m;
  count = sym (length-masked n nl v (list_rows os es.value.rows) m (length-map (pieces os es.value.rows) _
      ∙ length-pieces n os es.value.rows h.count));
  fit = masked_fit (Fits (list es.value.dtype nl)) n nl v (list_rows os es.value.rows) (λ z. z) m
      (lists_fit es.value.dtype nl os es.value.rows fit);
}

-- the lists of elements that are shared
pub lists_held : (t : Term) (n : ℕ) (os : List ℕ) (nl : Bool) (v : Validity) (a : Column) (es : Rc Column Global)
    → t ≡ list a.dtype nl → es.value ≡ a → AreOffsets n (length a.rows) os → IsMask n nl v → Holds a
    → AreHeld t n v (Lists os es)
lists_held t n os nl v a es e is h m fit =
    subst (λ (u : Term). AreHeld u n v (Lists os es)) (ap (λ (c : Column). list c.dtype nl) is ∙ sym e)
    (own_lists n os nl v es (subst (λ (c : Column). AreOffsets n (length c.rows) os) (sym is) h) m
    (subst (λ (c : Column). AllByRecursion (Fits c.dtype) c.rows) (sym is) fit.fit))

-- ---- lists of one size

-- elements, and the mask of the lists
abbrev parts_of : List Row → Validity → Parts
parts_of rs v = (rs, v)

sized_fit : (t : Term) (k n : ℕ) (nl : Bool) (v : Validity) (rs : List Row) → length rs ≡ n * k → IsMask n nl v
    → AllByRecursion (Fits t) rs
    → AllByRecursion (Fits (fixed_size_list t k nl)) (masked v (map (λ rs. list_row (rows_from rs)) (chunks k n rs)))
unfolding fixed_lists
sized_fit t k n nl v rs l m h =
    fixed_fit t k n nl [] (Some (parts_of rs v)) (masked v (map (λ rs. list_row (rows_from rs)) (chunks k n rs)))
    (λ p e. subst (λ (p : Parts). (length p.0 ≡ n * k) × IsMask n nl p.1) (some_same (parts_of rs v) p e) (l, m))
    (λ p e. subst (λ (p : Parts). AllByRecursion (Fits t) p.0) (some_same (parts_of rs v) p e) h) refl

own_fixed : (n k : ℕ) (nl : Bool) (v : Validity) (es : Rc Column Global)
    → length es.value.rows ≡ n * k → IsMask n nl v → AllByRecursion (Fits es.value.dtype) es.value.rows
    → AreHeld (fixed_size_list es.value.dtype k nl) n v (FixedLists k es)
own_fixed n k nl v es h m fit = record {
  shape = (refl, (refl, h));
  mask = m;
  count = sym (length-masked n nl v (map (λ rs. list_row (rows_from rs)) (chunks k n es.value.rows)) m
      (length-map (chunks k n es.value.rows) _ ∙ length-chunks k n es.value.rows));
  fit = sized_fit es.value.dtype k n nl v es.value.rows h m fit;
}

pub fixed_held : (t : Term) (n k : ℕ) (nl : Bool) (v : Validity) (a : Column) (es : Rc Column Global)
    → t ≡ fixed_size_list a.dtype k nl → es.value ≡ a → length a.rows ≡ n * k → IsMask n nl v → Holds a
    → AreHeld t n v (FixedLists k es)
fixed_held t n k nl v a es e is h m fit =
    subst (λ (u : Term). AreHeld u n v (FixedLists k es)) (ap (λ (c : Column). fixed_size_list c.dtype k nl) is ∙ sym e)
    (own_fixed n k nl v es (ap (λ (c : Column). length c.rows) is ∙ h) m
    (subst (λ (c : Column). AllByRecursion (Fits c.dtype) c.rows) (sym is) fit.fit))

-- ---- structs

-- the fields of these names
abbrev pub named : List (List ℕ) → List Column → Fields
named names cs = fields_from names (map (λ (f : Column). f.dtype) cs)

are_fields : (n : ℕ) (names : List (List ℕ)) (cs : List Column) → length names ≡ length cs
    → AllByRecursion (λ (f : Column). length f.rows ≡ n) cs → AreFields n (named names cs) cs
are_fields n [] [] e h = tt
are_fields n [] (c ∷ cs) e h = absurd (omega (arith, e))
are_fields n (x ∷ names) [] e h = absurd (omega (arith, e))
are_fields n (x ∷ names) (c ∷ cs) e h = ((refl, h.0), are_fields n names cs (omega (arith, e)) h.1)

pub are_long : (n : ℕ) (cs : List Column) → AllByRecursion (λ (f : Column). length f.rows ≡ n) cs → AreLong n (column_rows cs)
are_long n [] h = tt
are_long n (c ∷ cs) h = (h.0, are_long n cs h.1)

columns_fit : (names : List (List ℕ)) (cs : List Column) → length names ≡ length cs → AllByRecursion Holds cs
    → ColumnsFit (named names cs) (column_rows cs)
columns_fit [] [] e h = tt
columns_fit [] (c ∷ cs) e h = absurd (omega (arith, e))
columns_fit (x ∷ names) [] e h = absurd (omega (arith, e))
columns_fit (x ∷ names) (c ∷ cs) e h = (h.0.fit, columns_fit names cs (omega (arith, e)) h.1)

-- columns, and the mask of the structs
abbrev columns_of : List (List Row) → Validity → List (List Row) × Validity
columns_of rss v = (rss, v)

all_fit : (fs : Fields) (n : ℕ) (nl : Bool) (v : Validity) (rss : List (List Row)) → AreLong n rss → IsMask n nl v
    → ColumnsFit fs rss → AllByRecursion (Fits (structure fs nl)) (masked v (struct_rows n rss))
unfolding structs
all_fit fs n nl v rss l m h =
    structs_fit fs n nl [] (Some (columns_of rss v)) (masked v (struct_rows n rss))
    (λ p e. subst (λ (p : List (List Row) × Validity). AreLong n p.0 × IsMask n nl p.1) (some_same (columns_of rss v) p e)
    (l, m))
    (λ p e. subst (λ (p : List (List Row) × Validity). ColumnsFit fs p.0) (some_same (columns_of rss v) p e) h) refl

own_structs : (n : ℕ) (names : List (List ℕ)) (nl : Bool) (v : Validity) (fields : Vec Column Global)
    → length names ≡ length fields.items → AllByRecursion (λ (f : Column). length f.rows ≡ n) fields.items
    → IsMask n nl v → AllByRecursion Holds fields.items
    → AreHeld (structure (named names fields.items) nl) n v (Structs fields)
own_structs n names nl v fields e l m fit =
    let long = are_long n fields.items l in
    record {
      shape = are_fields n names fields.items e l;
      mask = m;
      count = sym (length-masked n nl v (struct_rows n (column_rows fields.items)) m
          (length-map (inside_structs n (column_rows fields.items)) list_row
          ∙ length-inside_structs n (column_rows fields.items) long));
      fit = all_fit (named names fields.items) n nl v (column_rows fields.items) long m
          (columns_fit names fields.items e fit);
    }

pub structs_held : (t : Term) (n : ℕ) (names : List (List ℕ)) (nl : Bool) (v : Validity) (fields : Vec Column Global)
    → t ≡ structure (named names fields.items) nl → length names ≡ length fields.items
    → AllByRecursion (λ (f : Column). length f.rows ≡ n) fields.items → IsMask n nl v
    → AllByRecursion Holds fields.items → AreHeld t n v (Structs fields)
structs_held t n names nl v fields is e l m fit =
    subst (λ (u : Term). AreHeld u n v (Structs fields)) (sym is) (own_structs n names nl v fields e l m fit)
