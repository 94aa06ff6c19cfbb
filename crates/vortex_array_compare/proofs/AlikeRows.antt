-- Which rows of an array are all one row.
use Rattle.std.specs.Prelude.{not, ◌||◌, if◌then◌else◌}
use Rattle.std.proofs.Common.{◌≡◌, ◌∙◌, ◌+◌, ◌*◌, ℕ, zero, suc, List, [], ◌∷◌, Bool, true, false, Some, None, map, length, replicate, take, drop, refl, sym, ap, subst, arith, true≢false}
use Rattle.std.proofs.lemmas.List.{length-replicate}
use Rattle.std.specs.List.{list_all}
use Rattle.vortex_terms.specs.FromColumns.{masked, zip_map, inside_structs, struct_rows}
use Rattle.vortex_terms.specs.Row.{Row, null_row, truth_row, list_row, no_rows, row, rows_from, copies}
use Rattle.vortex_terms.specs.Term.{Term}
use Rattle.vortex_types.specs.DTypes.{term_of}
use Rattle.vortex_scalar_value.specs.Value.{ValueTerm}
use Rattle.vortex_value_rows.specs.RowOf.{row_under}
use Rattle.vortex_node_rows.specs.Pieces.{chunks}
use Rattle.vortex_node_rows.specs.RowsOf.{Validity}
use Rattle.vortex_array_data.specs.Column.{Column}
use Rattle.vortex_array_data.specs.Content.{column_of, column_rows, content_rows, IsShaped}
use Rattle.vortex_array_data.specs.declared.held.Content.{Content}
use Rattle.vortex_array_data.specs.declared.held.Content.TheVariants.{Nulls, Truths, Constant}
use Rattle.vortex_array_data.specs.declared.held.Array.TheInside.{Inside}
use Rattle.vortex_array_compare.specs.inner.AlikeRows.{are_even, is_even, AllAlike, AreAlike}
use Rattle.vortex_array_data.proofs.HeldValues.{fixed_in, fixed_are}

-- ---- lists of one element

abbrev Alike : {A : Type 0} → List A → Type 0
Alike {A = A} xs = (n : ℕ) × ((x : A) × (xs ≡ replicate n x))

are_alike : (rs : List Row) → Alike rs → AreAlike rs
unfolding copies
are_alike rs h =
    (h.1.0, h.1.1 ∙ ap (λ (k : ℕ). replicate k h.1.0) (sym (length-replicate h.0 h.1.0) ∙ ap length (sym h.1.1)))

as_alike : (rs : List Row) → AreAlike rs → Alike rs
unfolding copies
as_alike rs h = (length rs, (h.0, h.1))

copies_alike : (n : ℕ) (r : Row) → AreAlike (copies n r)
unfolding copies
copies_alike n r = are_alike (replicate n r) (n, (r, refl))

zip_copies : {A B C : Type 0} (f : A → B → C) (a b : ℕ) (x : A) (y : B)
    → (n : ℕ) × (zip_map f (replicate a x) (replicate b y) ≡ replicate n (f x y))
zip_copies f zero b x y = (0, refl)
zip_copies f (suc a) zero x y = (0, refl)
zip_copies {C = C} f (suc a) (suc b) x y =
    let rest = zip_copies f a b x y in
    (suc rest.0, ap (λ (l : List C). f x y ∷ l) rest.1)

zip_alike : {A B C : Type 0} (f : A → B → C) (xs : List A) (ys : List B) → Alike xs → Alike ys → Alike (zip_map f xs ys)
zip_alike f xs ys h k =
    let both = zip_copies f h.0 k.0 h.1.0 k.1.0 in
    (both.0, (f h.1.0 k.1.0, (λ i. zip_map f (h.1.1 i) (k.1.1 i)) ∙ both.1))

map_copies : {A B : Type 0} (f : A → B) (n : ℕ) (x : A) → map f (replicate n x) ≡ replicate n (f x)
map_copies f zero x = refl
map_copies {B = B} f (suc n) x = ap (λ (l : List B). f x ∷ l) (map_copies f n x)

map_alike : {A B : Type 0} (f : A → B) (xs : List A) → Alike xs → Alike (map f xs)
map_alike {A = A} f xs h = (h.0, (f h.1.0, ap (map f) h.1.1 ∙ map_copies f h.0 h.1.0))

-- ---- masks

trues : (m : List Bool) → list_all (λ b. b) m ≡ true → m ≡ replicate (length m) true
trues [] h = refl
trues (true ∷ m) h = ap (λ (l : List Bool). true ∷ l) (trues m h)
trues (false ∷ m) h = absurd (true≢false (sym h))

falses : (m : List Bool) → list_all not m ≡ true → m ≡ replicate (length m) false
falses [] h = refl
falses (true ∷ m) h = absurd (true≢false (sym h))
falses (false ∷ m) h = ap (λ (l : List Bool). false ∷ l) (falses m h)

even_alike : (m : List Bool) → are_even m ≡ true → Alike m
even_alike m h = by (list_all (λ b. b) m) refl
  where
    by : (c : Bool) → list_all (λ b. b) m ≡ c → Alike m
    by true e = (length m, (true, trues m e))
    by false e = (length m, (false, falses m (ap (λ (c : Bool). c || list_all not m) (sym e) ∙ h)))

masked_alike : (v : Validity) (rs : List Row) → is_even v ≡ true → Alike rs → Alike (masked v rs)
masked_alike None rs e h = h
masked_alike (Some m) rs e h = zip_alike (λ b r. if b then r else null_row) m rs (even_alike m e) h

-- ---- an array, by its content

pub held_alike : (a : Inside) (c : Column) (b : Bool) → column_of a ≡ c → b ≡ is_even a.held.validity → b ≡ true
    → AreAlike (content_rows a.held.content (term_of a.dtype) a.len) → AreAlike c.rows
held_alike a c b is e t h =
    subst (λ (x : Column). AreAlike x.rows) is
    (are_alike (column_of a).rows
    (masked_alike a.held.validity (content_rows a.held.content (term_of a.dtype) a.len) (sym e ∙ t)
    (as_alike (content_rows a.held.content (term_of a.dtype) a.len) h)))

pub nulls_alike : (c : Content) (t : Term) (n : ℕ) → c ≡ Nulls → AreAlike (content_rows c t n)
nulls_alike c t n e = subst (λ (x : Content). AreAlike (content_rows x t n)) (sym e) (copies_alike n null_row)

pub constant_alike : (c : Content) (t : Term) (n : ℕ) (v : ValueTerm) → c ≡ Constant v → AreAlike (content_rows c t n)
constant_alike c t n v e =
    subst (λ (x : Content). AreAlike (content_rows x t n)) (sym e) (copies_alike n (row_under t v))

pub truths_alike : (c : Content) (t : Term) (n : ℕ) (m : List Bool) → c ≡ Truths m → are_even m ≡ true
    → AreAlike (content_rows c t n)
truths_alike c t n m e h =
    subst (λ (x : Content). AreAlike (content_rows x t n)) (sym e)
    (are_alike (map truth_row m) (map_alike truth_row m (even_alike m h)))

pub storage_alike : (c : Content) (t : Term) (n : ℕ) (rs : List Row) → content_rows c t n ≡ rs → AreAlike rs
    → AreAlike (content_rows c t n)
storage_alike c t n rs e h = subst AreAlike (sym e) h

take_copies : {A : Type 0} (k m n : ℕ) (x : A) → n ≡ k + m → take k (replicate n x) ≡ replicate k x
take_copies zero m n x e = refl
take_copies (suc k) m zero x e = absurd (omega (arith, e))
take_copies {A = A} (suc k) m (suc n) x e = ap (λ (l : List A). x ∷ l) (take_copies k m n x (omega (arith, e)))

drop_copies : {A : Type 0} (k m n : ℕ) (x : A) → n ≡ k + m → drop k (replicate n x) ≡ replicate m x
drop_copies zero m n x e =
    let same : n ≡ m = omega (arith, e) in
    ap (λ (j : ℕ). replicate j x) same
drop_copies (suc k) m zero x e = absurd (omega (arith, e))
drop_copies (suc k) m (suc n) x e = drop_copies k m n x (omega (arith, e))

chunk_copies : (k n : ℕ) (r : Row) → chunks k n (replicate (n * k) r) ≡ replicate n (replicate k r)
chunk_copies k zero r = refl
chunk_copies k (suc n) r =
    let more : suc n * k ≡ k + n * k = omega arith in
    (λ i. take_copies k (n * k) (suc n * k) r more i ∷ chunks k n (drop_copies k (n * k) (suc n * k) r more i))
    ∙ ap (λ (l : List (List Row)). replicate k r ∷ l) (chunk_copies k n r)

chunks_alike : (k n : ℕ) (rs : List Row) → length rs ≡ n * k → AreAlike rs → Alike (chunks k n rs)
unfolding copies
chunks_alike k n rs e h =
    (n, (replicate k h.0, ap (chunks k n) (h.1 ∙ ap (λ (m : ℕ). replicate m h.0) e) ∙ chunk_copies k n h.0))

pub fixed_alike : (c : Content) (t : Term) (n : ℕ) (p : ℕ × Column) → fixed_in c ≡ Some p → IsShaped c t n
    → AreAlike p.1.rows → AreAlike (content_rows c t n)
fixed_alike c t n p e shape h =
    let known = fixed_are n p c t e shape in
    subst AreAlike (sym known.rows)
    (are_alike (map (λ rs. list_row (rows_from rs)) (chunks p.0 n p.1.rows))
    (map_alike (λ rs. list_row (rows_from rs)) (chunks p.0 n p.1.rows) (chunks_alike p.0 n p.1.rows known.count h)))

inside_alike : (n : ℕ) (cs : List Column) → AllAlike cs → Alike (inside_structs n (column_rows cs))
inside_alike n [] h = (n, (no_rows, refl))
inside_alike n (c ∷ cs) h =
    zip_alike row c.rows (inside_structs n (column_rows cs)) (as_alike c.rows h.0) (inside_alike n cs h.1)

pub structs_alike : (n : ℕ) (cs : List Column) → AllAlike cs → AreAlike (struct_rows n (column_rows cs))
structs_alike n cs h =
    are_alike (struct_rows n (column_rows cs))
    (map_alike list_row (inside_structs n (column_rows cs)) (inside_alike n cs h))
