-- What an array is seen as, by how it is held.
use Rattle.std.proofs.Common.{◌≡◌, ◌<◌, ◌∙◌, ℕ, List, Bool, true, false, Some, None, length, replicate, refl, sym, ap, subst, arith, true≢false}
use Rattle.std.specs.Prelude.{slice_get, IfSome, IfOk, Result, Ok, Err}
use Rattle.vortex_terms.specs.Term.{Term}
use Rattle.vortex_terms.specs.Row.{null_row}
use Rattle.vortex_types.specs.DTypes.{term_of}
use Rattle.vortex_node_rows.specs.RowsOf.{Validity}
use Rattle.vortex_array_data.specs.Column.{Column}
use Rattle.vortex_array_data.specs.Content.{content_rows, column_of, IsArray, IsMask, is_maskable}
use Rattle.vortex_array_data.specs.declared.error.ArrayError.{ArrayError}
use Rattle.vortex_array_data.specs.ValidRows.{valid_rows, met, valid_at}
use Rattle.vortex_array_data.specs.declared.held.Content.{Content}
use Rattle.vortex_array_data.specs.declared.held.Content.TheVariants.{Nulls, Truths, Numbers, Decimals, Texts, Lists, FixedLists, Structs, Storage, Constant}
use Rattle.vortex_array_data.specs.declared.held.Array.TheInside.{Inside}
use Rattle.vortex_array_data.proofs.ValidLists.{HasCount, AllValid, mapped_valid, masked_valid, masked_null, valid_place, null_place, copies_null}

-- ---- masks

mask_count : (n : ℕ) (b : Bool) (v : Validity) → IsMask n b v → HasCount n v
mask_count n b None h = tt
mask_count n b (Some m) h = h.0

pub held_count : (a : Inside) → IsArray a → HasCount a.len a.held.validity
held_count a h = mask_count a.len (is_maskable (term_of a.dtype)) a.held.validity h.mask

mask_covers : (v : Validity) (n i k : ℕ) → HasCount n v → n ≡ k → i < k → IfSome v (λ m. i < length m)
mask_covers None n i k h e below = tt
mask_covers (Some m) n i k h e below = omega (arith, h, e, below)

pub covers : (a : Inside) (i : ℕ) (c : Column) → IsArray a → column_of a ≡ c → i < length c.rows
    → IfSome a.held.validity (λ m. i < length m)
covers a i c h is below =
    mask_covers a.held.validity a.len i (length c.rows) (held_count a h)
    (h.count ∙ ap (λ (c : Column). length c.rows) is) below

mask_meets : (v : Validity) (n k : ℕ) (bs : List Bool) → HasCount n v → length bs ≡ n
    → IfSome v (λ m. length m ≡ length bs)
mask_meets None n k bs h e = tt
mask_meets (Some m) n k bs h e = h ∙ sym e

pub meets : (a : Inside) (bs : List Bool) → IsArray a → length bs ≡ a.len
    → IfSome a.held.validity (λ m. length m ≡ length bs)
meets a bs h e = mask_meets a.held.validity a.len 0 bs (held_count a h) e

-- ---- which rows are null

-- no row of the content is null, whatever stands in it
abbrev pub never_null : Content → Bool
never_null Nulls = false
never_null (Truths m) = true
never_null (Numbers a) = true
never_null (Decimals a) = true
never_null (Texts a) = true
never_null (Lists os es) = true
never_null (FixedLists k es) = true
never_null (Structs fields) = true
never_null (Storage a) = false
never_null (Constant v) = false

pub content_valid : (c : Content) (t : Term) (n : ℕ) → never_null c ≡ true → AllValid (content_rows c t n)
content_valid Nulls t n h = absurd (true≢false (sym h))
content_valid (Truths m) t n h = mapped_valid _ _ (λ x. refl)
content_valid (Numbers a) t n h = mapped_valid _ _ (λ x. refl)
content_valid (Decimals a) t n h = mapped_valid _ _ (λ x. refl)
content_valid (Texts a) t n h = mapped_valid _ _ (λ x. refl)
content_valid (Lists os es) t n h = mapped_valid _ _ (λ x. refl)
content_valid (FixedLists k es) t n h = mapped_valid _ _ (λ x. refl)
content_valid (Structs fields) t n h = mapped_valid _ _ (λ x. refl)
content_valid (Storage a) t n h = absurd (true≢false (sym h))
content_valid (Constant v) t n h = absurd (true≢false (sym h))

-- no row of the content is null
abbrev pub all_valid : Content → Term → ℕ → Type 0
all_valid c t n = AllValid (content_rows c t n)

pub valid_is : (a : Inside) (i : ℕ) (c : Column) (b : Bool) → IsArray a → column_of a ≡ c
    → all_valid a.held.content (term_of a.dtype) a.len → i < length c.rows → b ≡ valid_at a.held.validity i
    → slice_get (valid_rows c.rows) i ≡ Some b
valid_is a i c b h is all below e =
    let count : a.len ≡ length c.rows = h.count ∙ ap (λ (c : Column). length c.rows) is in
    ap (λ (c : Column). slice_get (valid_rows c.rows) i) (sym is)
    ∙ valid_place a.held.validity a.len i (content_rows a.held.content (term_of a.dtype) a.len) (held_count a h) h.count
    all (omega (arith, below, count)) ∙ ap Some (sym e)

pub valid_mask : (a : Inside) (c : Column) (m : List Bool) → IsArray a → column_of a ≡ c
    → all_valid a.held.content (term_of a.dtype) a.len → m ≡ met a.held.validity (replicate a.len true)
    → m ≡ valid_rows c.rows
valid_mask a c m h is all e =
    e ∙ masked_valid a.held.validity a.len (content_rows a.held.content (term_of a.dtype) a.len) (held_count a h) h.count
    all ∙ ap (λ (c : Column). valid_rows c.rows) is

pub valid_met : (a : Inside) (c : Column) (r : Result (List Bool) ArrayError) (bs : List Bool) → IsArray a → column_of a ≡ c
    → all_valid a.held.content (term_of a.dtype) a.len → bs ≡ replicate a.len true
    → IfOk r (λ m. m ≡ met a.held.validity bs) → IfOk r (λ m. m ≡ valid_rows c.rows)
valid_met a c (Ok m) bs h is all e k = valid_mask a c m h is all (k ∙ ap (met a.held.validity) e)
valid_met a c (Err x) bs h is all e k = tt

-- ---- rows that are all null

abbrev pub all_null : Content → Term → ℕ → Type 0
all_null c t n = valid_rows (content_rows c t n) ≡ replicate n false

pub null_is : (a : Inside) (i : ℕ) (c : Column) → IsArray a → column_of a ≡ c
    → all_null a.held.content (term_of a.dtype) a.len → i < length c.rows → slice_get (valid_rows c.rows) i ≡ Some false
null_is a i c h is all below =
    let count : a.len ≡ length c.rows = h.count ∙ ap (λ (c : Column). length c.rows) is in
    ap (λ (c : Column). slice_get (valid_rows c.rows) i) (sym is)
    ∙ null_place a.held.validity a.len i (content_rows a.held.content (term_of a.dtype) a.len) (held_count a h) all
    (omega (arith, below, count))

pub null_mask : (a : Inside) (c : Column) → IsArray a → column_of a ≡ c
    → all_null a.held.content (term_of a.dtype) a.len → replicate a.len false ≡ valid_rows c.rows
null_mask a c h is all =
    masked_null a.held.validity a.len (content_rows a.held.content (term_of a.dtype) a.len) (held_count a h) all
    ∙ ap (λ (c : Column). valid_rows c.rows) is

pub nulls_are : (a : Inside) → a.held.content ≡ Nulls → all_null a.held.content (term_of a.dtype) a.len
nulls_are a e = subst (λ (c : Content). all_null c (term_of a.dtype) a.len) (sym e) (copies_null a.len null_row refl)
