-- Rows under a mask, at a place.
use Rattle.std.specs.Prelude.{slice_get, if◌then◌else◌, IfSome}
use Rattle.std.proofs.Common.{◌≡◌, ◌∙◌, ◌<◌, ℕ, zero, suc, ℤ, List, [], ◌∷◌, Bool, true, false, Some, None, length, refl, sym, ap, subst, true≢false}
use Rattle.std.specs.Ordering.{int_cmp}
use Rattle.std.proofs.lemmas.Option.{get_or_from_slice_get}
use Rattle.vortex_terms.specs.FromColumns.{masked}
use Rattle.vortex_terms.specs.Row.{Row, null_row, whole_row}
use Rattle.vortex_terms.specs.Term.{Term, null, boolean, primitive, decimal, utf8, binary, structure, list, extension, fixed_size_list}
use Rattle.vortex_types.specs.DTypes.{term_of}
use Rattle.vortex_leaves.specs.Numbers.{NumberBytes, number_rows}
use Rattle.vortex_value.specs.Operator.{bears}
use Rattle.vortex_value.specs.declared.operator.Operator.{Operator}
use Rattle.vortex_node_rows.specs.RowsOf.{Validity}
use Rattle.vortex_array_data.specs.Column.{Column}
use Rattle.vortex_array_data.specs.Content.{column_of, content_rows, IsArray, IsShaped}
use Rattle.vortex_array_data.specs.ValidRows.{valid_at}
use Rattle.vortex_array_data.specs.declared.held.Array.TheInside.{Inside}
use Rattle.vortex_array_data.specs.declared.held.Content.{Content}
use Rattle.vortex_array_data.specs.declared.held.Content.TheVariants.{Numbers}
use Rattle.vortex_array_compare.specs.inner.ComparedRows.{row_in, row_truth}
use Rattle.vortex_array_data.proofs.HeldRows.{held_count}
use Rattle.vortex_array_data.proofs.ValidLists.{HasCount, shown_place}

pub hidden_in : (v : Validity) (rs : List Row) (i : ℕ) → valid_at v i ≡ false → row_in (masked v rs) i ≡ null_row
hidden_in None rs i h = absurd (true≢false h)
hidden_in (Some m) rs i h = by m rs i h
  where
    by : (m : List Bool) (rs : List Row) (i : ℕ) → valid_at (Some m) i ≡ false → row_in (masked (Some m) rs) i ≡ null_row
    by [] rs i h = refl
    by (b ∷ m) [] i h = refl
    by (b ∷ m) (r ∷ rs) zero h = ap (λ (c : Bool). if c then r else null_row) h
    by (b ∷ m) (r ∷ rs) (suc i) h = by m rs i h

pub shown_in : (v : Validity) (rs : List Row) (i : ℕ) (r : Row) → IfSome v (λ m. i < length m) → valid_at v i ≡ true
    → slice_get rs i ≡ Some r → row_in (masked v rs) i ≡ r
shown_in None rs i r below valid e = get_or_from_slice_get rs i r null_row e
shown_in (Some m) rs i r below valid e =
    get_or_from_slice_get (masked (Some m) rs) i r null_row (shown_place (Some m) rs (length m) i r refl below valid e)

pub hidden_number : (o : Operator) (y : ℤ) (v : Validity) (rs : List Row) (i : ℕ) → valid_at v i ≡ false
    → false ≡ row_truth o (whole_row y) (row_in (masked v rs) i)
hidden_number o y v rs i h = ap (λ (r : Row). row_truth o (whole_row y) r) (sym (hidden_in v rs i h))

pub shown_number : (o : Operator) (v : Validity) (rs : List Row) (i : ℕ) (x y : ℤ) (b : Bool)
    → IfSome v (λ m. i < length m) → valid_at v i ≡ true → slice_get rs i ≡ Some (whole_row x)
    → b ≡ bears o (int_cmp x y) → b ≡ row_truth o (whole_row y) (row_in (masked v rs) i)
shown_number o v rs i x y b below valid e is =
    is ∙ ap (λ (r : Row). row_truth o (whole_row y) r) (sym (shown_in v rs i (whole_row x) below valid e))

-- ---- an array of numbers

numbers_count : (b : NumberBytes) (t : Term) (n : ℕ) → IsShaped (Numbers b) t n → b.count ≡ n
numbers_count b null n h = absurd h
numbers_count b (boolean nl) n h = absurd h
numbers_count b (primitive k nl) n h = h.1
numbers_count b (decimal pr sc nl) n h = absurd h
numbers_count b (utf8 nl) n h = absurd h
numbers_count b (binary nl) n h = absurd h
numbers_count b (structure fs nl) n h = absurd h
numbers_count b (list u nl) n h = absurd h
numbers_count b (extension id u y) n h = absurd h
numbers_count b (fixed_size_list u size nl) n h = absurd h

numbers_rows : (a : Inside) (c : Column) (b : NumberBytes) → column_of a ≡ c → a.held.content ≡ Numbers b
    → masked a.held.validity (number_rows b) ≡ c.rows
numbers_rows a c b is e =
    ap (λ (x : Content). masked a.held.validity (content_rows x (term_of a.dtype) a.len)) (sym e)
    ∙ ap (λ (c : Column). c.rows) is

numbers_many : (a : Inside) (b : NumberBytes) → IsArray a → a.held.content ≡ Numbers b → b.count ≡ a.len
numbers_many a b h e =
    numbers_count b (term_of a.dtype) a.len (subst (λ (x : Content). IsShaped x (term_of a.dtype) a.len) e h.shape)

pub mask_many : (v : Validity) (n k : ℕ) → HasCount n v → k ≡ n → IfSome v (λ m. length m ≡ k)
mask_many None n k h e = tt
mask_many (Some m) n k h e = h ∙ sym e

pub numbers_mask : (a : Inside) (b : NumberBytes) → IsArray a → a.held.content ≡ Numbers b
    → IfSome a.held.validity (λ m. length m ≡ b.count)
numbers_mask a b h e = mask_many a.held.validity a.len b.count (held_count a h) (numbers_many a b h e)

pub numbers_long : (a : Inside) (c : Column) (b : NumberBytes) → IsArray a → column_of a ≡ c → a.held.content ≡ Numbers b
    → length (masked a.held.validity (number_rows b)) ≡ b.count
numbers_long a c b h is e =
    ap length (numbers_rows a c b is e) ∙ sym (numbers_all a c b h is e)
  where
    numbers_all : (a : Inside) (c : Column) (b : NumberBytes) → IsArray a → column_of a ≡ c → a.held.content ≡ Numbers b
        → b.count ≡ length c.rows
    numbers_all a c b h is e = numbers_many a b h e ∙ h.count ∙ ap (λ (c : Column). length c.rows) is
