-- Rows that are masked are as many as before, and fit where null does.
use Rattle.std.proofs.Common.{◌≡◌, ℕ, suc, List, [], ◌∷◌, Bool, true, false, IsTrue, Option, Some, None, length, refl, sym, ap, ◌∙◌, subst, arith}
use Rattle.std.specs.List.{AllByRecursion}
use Rattle.vortex_terms.specs.Row.{Row, null_row}
use Rattle.vortex_terms.specs.FromColumns.{zip_map, masked}
use Rattle.vortex_node_rows.specs.RowsOf.{Validity, masked_rows}
use Rattle.vortex_node_rows.proofs.Options.{some_same, none_some}

-- a mask of n rows is there only where rows may be null
abbrev pub IsMask : ℕ → Bool → Validity → Type 0
IsMask n nl None = Unit {0}
IsMask n nl (Some m) = (length m ≡ n) × IsTrue nl

pub length-zip_map : {A B C : Type 0} (f : A → B → C) (xs : List A) (ys : List B) → length xs ≡ length ys
    → length (zip_map f xs ys) ≡ length ys
length-zip_map f [] [] e = refl
length-zip_map f (x ∷ xs) (y ∷ ys) e = ap suc (length-zip_map f xs ys (omega (arith, e)))
length-zip_map f [] (y ∷ ys) e = absurd (omega (arith, e))
length-zip_map f (x ∷ xs) [] e = absurd (omega (arith, e))

pub length-masked : (n : ℕ) (nl : Bool) (v : Validity) (rs : List Row) → IsMask n nl v → length rs ≡ n
    → length (masked v rs) ≡ n
length-masked n nl None rs h e = e
length-masked n nl (Some m) rs h e = length-zip_map _ m rs (h.0 ∙ sym e) ∙ e

null_or_fit : (P : Row → Type 0) (m : List Bool) (rs : List Row) → P null_row → AllByRecursion P rs
    → AllByRecursion P (masked (Some m) rs)
null_or_fit P [] rs z h = tt
null_or_fit P (b ∷ m) [] z h = tt
null_or_fit P (true ∷ m) (r ∷ rs) z h = (h.0, null_or_fit P m rs z h.1)
null_or_fit P (false ∷ m) (r ∷ rs) z h = (z, null_or_fit P m rs z h.1)

pub masked_fit : (P : Row → Type 0) (n : ℕ) (nl : Bool) (v : Validity) (rs : List Row) → (IsTrue nl → P null_row)
    → IsMask n nl v → AllByRecursion P rs → AllByRecursion P (masked v rs)
masked_fit P n nl None rs z h f = f
masked_fit P n nl (Some m) rs z h f = null_or_fit P m rs (z h.1) f

pub masked_rows_count : (n : ℕ) (nl : Bool) (found : Option (List Row)) (v : Option Validity) (rs : List Row)
    → ((r : List Row) → found ≡ Some r → length r ≡ n) → ((m : Validity) → v ≡ Some m → IsMask n nl m)
    → masked_rows found v ≡ Some rs → length rs ≡ n
unfolding masked_rows
masked_rows_count n nl None v rs h k e = absurd (none_some rs e)
masked_rows_count n nl (Some r) None rs h k e = absurd (none_some rs e)
masked_rows_count n nl (Some r) (Some m) rs h k e =
    ap length (sym (some_same (masked m r) rs e)) ∙ length-masked n nl m r (k m refl) (h r refl)

pub masked_rows_fit : (P : Row → Type 0) (n : ℕ) (nl : Bool) (found : Option (List Row)) (v : Option Validity)
    (rs : List Row) → (IsTrue nl → P null_row) → ((r : List Row) → found ≡ Some r → AllByRecursion P r)
    → ((m : Validity) → v ≡ Some m → IsMask n nl m) → masked_rows found v ≡ Some rs → AllByRecursion P rs
unfolding masked_rows
masked_rows_fit P n nl None v rs z h k e = absurd (none_some rs e)
masked_rows_fit P n nl (Some r) None rs z h k e = absurd (none_some rs e)
masked_rows_fit P n nl (Some r) (Some m) rs z h k e =
    subst (AllByRecursion P) (some_same (masked m r) rs e) (masked_fit P n nl m r z (k m refl) (h r refl))
