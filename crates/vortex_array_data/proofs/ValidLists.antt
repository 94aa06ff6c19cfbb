-- Which rows of a list are null, under a mask and without one.
use Rattle.std.proofs.Common.{◌≡◌, ◌≤◌, ◌<◌, ◌∙◌, ℕ, zero, suc, List, [], ◌∷◌, Bool, true, false, Some, None, map, length, replicate, refl, sym, ap, arith}
use Rattle.std.specs.Prelude.{not, slice_get, if◌then◌else◌}
use Rattle.std.proofs.lemmas.List.{length-replicate, get_or-replicate}
use Rattle.std.proofs.lemmas.Option.{slice_get-get_or}
use Rattle.vortex_terms.specs.Row.{Row, null_row, is_null, copies}
use Rattle.vortex_terms.specs.FromColumns.{masked, zip_map}
use Rattle.vortex_mask.specs.Truths.{both}
use Rattle.vortex_node_rows.specs.RowsOf.{Validity}
use Rattle.vortex_array_data.specs.ValidRows.{valid_rows, met, valid_at}

-- a mask of so many, where there is one
abbrev pub HasCount : ℕ → Validity → Type 0
HasCount n None = Unit {0}
HasCount n (Some m) = length m ≡ n

-- no row is null
abbrev pub AllValid : List Row → Type 0
AllValid rs = valid_rows rs ≡ replicate (length rs) true

-- ---- masks over rows

zipped : (m : List Bool) (rs : List Row) → valid_rows (zip_map (λ b r. if b then r else null_row) m rs) ≡ both m (valid_rows rs)
zipped [] rs = refl
zipped (b ∷ m) [] = refl
zipped (true ∷ m) (r ∷ rs) = ap (λ (l : List Bool). not (is_null r) ∷ l) (zipped m rs)
zipped (false ∷ m) (r ∷ rs) = ap (λ (l : List Bool). false ∷ l) (zipped m rs)

pub valid_masked : (v : Validity) (rs : List Row) → valid_rows (masked v rs) ≡ met v (valid_rows rs)
valid_masked None rs = refl
valid_masked (Some m) rs = zipped m rs

both_true : (m : List Bool) (k : ℕ) → length m ≤ k → both m (replicate k true) ≡ m
both_true [] k h = refl
both_true (b ∷ m) zero h = absurd (omega (arith, h))
both_true (true ∷ m) (suc k) h = ap (λ (l : List Bool). true ∷ l) (both_true m k (omega (arith, h)))
both_true (false ∷ m) (suc k) h = ap (λ (l : List Bool). false ∷ l) (both_true m k (omega (arith, h)))

both_false : (m : List Bool) (k : ℕ) → length m ≡ k → both m (replicate k false) ≡ replicate k false
both_false [] zero h = refl
both_false [] (suc k) h = absurd (omega (arith, h))
both_false (b ∷ m) zero h = absurd (omega (arith, h))
both_false (true ∷ m) (suc k) h = ap (λ (l : List Bool). false ∷ l) (both_false m k (omega (arith, h)))
both_false (false ∷ m) (suc k) h = ap (λ (l : List Bool). false ∷ l) (both_false m k (omega (arith, h)))

zip_count : (m : List Bool) (rs : List Row) (n : ℕ) → length m ≡ n
    → n ≡ length (zip_map (λ b r. if b then r else null_row) m rs) → length m ≤ length rs
zip_count [] rs n h e = omega arith
zip_count (b ∷ m) [] n h e = absurd (omega (arith, h, e))
zip_count (b ∷ m) (r ∷ rs) zero h e = absurd (omega (arith, h))
zip_count (b ∷ m) (r ∷ rs) (suc n) h e = omega (arith, zip_count m rs n (omega (arith, h)) (omega (arith, e)))

-- rows of which none is null are null where the mask is false
pub masked_valid : (v : Validity) (n : ℕ) (rs : List Row) → HasCount n v → n ≡ length (masked v rs) → AllValid rs
    → met v (replicate n true) ≡ valid_rows (masked v rs)
masked_valid None n rs h e all = ap (λ (k : ℕ). replicate k true) e ∙ sym all
masked_valid (Some m) n rs h e all =
    both_true m n (omega (arith, h)) ∙ sym (zipped m rs ∙ ap (both m) all
    ∙ both_true m (length rs) (zip_count m rs n h e))

-- rows that are all null are so under any mask
pub masked_null : (v : Validity) (n : ℕ) (rs : List Row) → HasCount n v → valid_rows rs ≡ replicate n false
    → replicate n false ≡ valid_rows (masked v rs)
masked_null None n rs h all = sym all
masked_null (Some m) n rs h all = sym (zipped m rs ∙ ap (both m) all ∙ both_false m n h)

-- ---- at a place

met_at : (v : Validity) (n i : ℕ) → HasCount n v → i < n → slice_get (met v (replicate n true)) i ≡ Some (valid_at v i)
met_at None n i h below =
    slice_get-get_or (replicate n true) i false (omega (arith, below, length-replicate n true))
    ∙ ap Some (get_or-replicate n i true false below)
met_at (Some m) n i h below =
    ap (λ (l : List Bool). slice_get l i) (both_true m n (omega (arith, h)))
    ∙ slice_get-get_or m i false (omega (arith, h, below))

pub valid_place : (v : Validity) (n i : ℕ) (rs : List Row) → HasCount n v → n ≡ length (masked v rs) → AllValid rs
    → i < n → slice_get (valid_rows (masked v rs)) i ≡ Some (valid_at v i)
valid_place v n i rs h e all below =
    ap (λ (l : List Bool). slice_get l i) (sym (masked_valid v n rs h e all)) ∙ met_at v n i h below

pub null_place : (v : Validity) (n i : ℕ) (rs : List Row) → HasCount n v → valid_rows rs ≡ replicate n false
    → i < n → slice_get (valid_rows (masked v rs)) i ≡ Some false
null_place v n i rs h all below =
    ap (λ (l : List Bool). slice_get l i) (sym (masked_null v n rs h all))
    ∙ slice_get-get_or (replicate n false) i false (omega (arith, below, length-replicate n false))
    ∙ ap Some (get_or-replicate n i false false below)

-- a place of a mask that covers the rows
pub mask_place : (m : List Bool) (n i k : ℕ) → length m ≡ n → n ≡ k → i < k → i < length m
mask_place m n i k h e below = omega (arith, h, e, below)

-- ---- rows that are made from others

pub mapped_valid : {A : Type 0} (f : A → Row) (xs : List A) → ((x : A) → is_null (f x) ≡ false) → AllValid (map f xs)
mapped_valid f [] h = refl
mapped_valid f (x ∷ xs) h =
    ap (λ (b : Bool). not b ∷ valid_rows (map f xs)) (h x) ∙ ap (λ (l : List Bool). true ∷ l) (mapped_valid f xs h)

pub valid_copies : (n : ℕ) (r : Row) → valid_rows (copies n r) ≡ replicate n (not (is_null r))
unfolding copies
valid_copies zero r = refl
valid_copies (suc n) r = ap (λ (l : List Bool). not (is_null r) ∷ l) (valid_copies n r)

copies_count : (n : ℕ) (r : Row) → length (copies n r) ≡ n
unfolding copies
copies_count n r = length-replicate n r

pub copies_valid : (n : ℕ) (r : Row) → is_null r ≡ false → AllValid (copies n r)
copies_valid n r h =
    valid_copies n r ∙ ap (λ (b : Bool). replicate n (not b)) h ∙ ap (λ (k : ℕ). replicate k true) (sym (copies_count n r))

pub copies_null : (n : ℕ) (r : Row) → is_null r ≡ true → valid_rows (copies n r) ≡ replicate n false
copies_null n r h = valid_copies n r ∙ ap (λ (b : Bool). replicate n (not b)) h

-- ---- a row that is masked, and one that is not

none_some : {A : Type 0} (x : A) → None ≡ Some x → ⊥
none_some x e = cc

pub shown_place : (v : Validity) (rs : List Row) (n i : ℕ) (r : Row) → HasCount n v → i < n → valid_at v i ≡ true
    → slice_get rs i ≡ Some r → slice_get (masked v rs) i ≡ Some r
shown_place None rs n i r h below valid e = e
shown_place (Some m) rs n i r h below valid e = zip_place m rs i r (omega (arith, h, below)) valid e
  where
    zip_place : (m : List Bool) (rs : List Row) (i : ℕ) (r : Row) → i < length m → valid_at (Some m) i ≡ true
        → slice_get rs i ≡ Some r → slice_get (zip_map (λ b r. if b then r else null_row) m rs) i ≡ Some r
    zip_place [] rs i r below valid e = absurd (omega (arith, below))
    zip_place (b ∷ m) [] i r below valid e = absurd (none_some r e)
    zip_place (b ∷ m) (q ∷ rs) zero r below valid e = ap (λ (c : Bool). Some (if c then q else null_row)) valid ∙ e
    zip_place (b ∷ m) (q ∷ rs) (suc i) r below valid e = zip_place m rs i r (omega (arith, below)) valid e

pub hidden_place : (v : Validity) (rs : List Row) (n i : ℕ) → HasCount n v → n ≡ length (masked v rs) → i < n
    → valid_at v i ≡ false → slice_get (masked v rs) i ≡ Some null_row
hidden_place None rs n i h e below valid = absurd (cc)
hidden_place (Some m) rs n i h e below valid = zip_place m rs i (omega (arith, e, below)) valid
  where
    zip_place : (m : List Bool) (rs : List Row) (i : ℕ) → i < length (masked (Some m) rs)
        → valid_at (Some m) i ≡ false → slice_get (masked (Some m) rs) i ≡ Some null_row
    zip_place [] rs i below valid = absurd (omega (arith, below))
    zip_place (b ∷ m) [] i below valid = absurd (omega (arith, below))
    zip_place (b ∷ m) (q ∷ rs) zero below valid = ap (λ (c : Bool). Some (if c then q else null_row)) valid
    zip_place (b ∷ m) (q ∷ rs) (suc i) below valid = zip_place m rs i (omega (arith, below)) valid

-- a row that is not null is one of the rows under the mask
pub under_mask : (v : Validity) (rs : List Row) (i : ℕ) (r : Row) → slice_get (masked v rs) i ≡ Some r
    → is_null r ≡ false → slice_get rs i ≡ Some r
under_mask None rs i r e h = e
under_mask (Some m) rs i r e h = zip_place m rs i e
  where
    at_first : (b : Bool) (q : Row) → Some (if b then q else null_row) ≡ Some r → Some q ≡ Some r
    at_first true q e = e
    at_first false q e = absurd (cc)

    zip_place : (m : List Bool) (rs : List Row) (i : ℕ) → slice_get (masked (Some m) rs) i ≡ Some r
        → slice_get rs i ≡ Some r
    zip_place [] rs i e = absurd (none_some r e)
    zip_place (b ∷ m) [] i e = absurd (none_some r e)
    zip_place (b ∷ m) (q ∷ rs) zero e = at_first b q e
    zip_place (b ∷ m) (q ∷ rs) (suc i) e = zip_place m rs i e
