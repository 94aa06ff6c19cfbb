-- The values inside a list or a struct, cast one after the other.
use Rattle.std.proofs.Common.{◌≡◌, ℕ, zero, suc, ◌+◌, Bool, List, [], ◌∷◌, ◌++◌, length, Option, Some, None, Result, Ok, Err, refl, sym, ap, subst, ◌∙◌, arith, add-one, append_assoc, inl, inr}
use Rattle.std.specs.Prelude.{slice_get, drop, IfOk, IsOkUnless}
use Rattle.std.specs.Option.{option_map, IsSome}
use Rattle.std.proofs.lemmas.List.{drop_all}
use Rattle.std.proofs.lemmas.Bool.{eq-eqb, ne_eqb}
use Rattle.vortex_terms.specs.Term.{Term, structure, list, fixed_size_list, Fields, no_fields, field}
use Rattle.vortex_terms.specs.Types.{field_at, field_count}
use Rattle.vortex_terms.specs.Row.{Row, list_row, Rows, no_rows, row}
use Rattle.vortex_scalar_value.specs.Value.{ValueTerm, null_value, truth_value, whole_value, decimal_value, bytes_value, text_value, list_value, no_values, values_from}
use Rattle.vortex_scalar_value.specs.declared.error.ScalarError.{ScalarError}
use Rattle.vortex_scalar_value.specs.declared.error.ScalarError.TheVariants as error
use Rattle.vortex_value_rows.specs.RowOf.{row_of, row_under, row_before}
use Rattle.vortex_value_rows.specs.Inside.{InTerm, every, each, in_at, in_drop, in_rows, fields_drop}
use Rattle.vortex_value_rows.specs.HeldRow.{rows_under}
use Rattle.vortex_value_rows.proofs.Insides.{rows_step}
use Rattle.vortex_value_rows.proofs.Walks.{Step, step, rows_from, HasRows, count}
use Rattle.vortex_cast.specs.Cast.{cast_of, rows_cast, fields_cast, row_first, listed, list_cast, struct_cast}
use Rattle.vortex_cast.specs.Answers.{IsCast}
use Rattle.vortex_cast.proofs.Stored.{cast_as}
use Rattle.vortex_cast.specs.inner.Steps.{in_row, ArePaired, in_cast}

some_same : {A : Type 0} (x y : A) → Some x ≡ Some y → x ≡ y
some_same x y e = cc

never_some : {A : Type 0} (x : A) → None ≡ Some x → ⊥
never_some x e = cc

-- the row of a value that was cast
pub record Found (f : ValueTerm → Option Row) (w : ValueTerm) (wanted : Result Row ScalarError) : Type 0 where
  pub here : Row
  pub is : wanted ≡ Ok here
  pub stands : f w ≡ Some here

cast_found : (f : ValueTerm → Option Row) (w : ValueTerm) (wanted : Result Row ScalarError) → IsCast f (Ok w) wanted → Found f w wanted
cast_found f w (Ok r) c = record { here = r; is = refl; stands = c }
cast_found f w (Err e) c = absurd c

-- ---- a step

-- the types of both at a place
pub other_part : (c d : InTerm) (i : ℕ) (t : Term) → ArePaired c d → in_at c i ≡ Some t → IsSome (in_at d i)
other_part (every t) (every u) i s p e = refl
other_part (each fs) (each gs) i s p e = by fs gs i p e
  where
    by : (fs gs : Fields) (i : ℕ) → field_count fs ≡ field_count gs → field_at fs i ≡ Some s → IsSome (field_at gs i)
    by no_fields gs i p e = absurd (never_some s e)
    by (field x t fs) no_fields i p e = absurd (omega (arith, p))
    by (field x t fs) (field y u gs) zero p e = refl
    by (field x t fs) (field y u gs) (suc i) p e = by fs gs i (omega (arith, p)) e
other_part (every t) (each gs) i s p e = absurd p
other_part (each fs) (every u) i s p e = absurd p

fields_step : (fs gs : Fields) (i : ℕ) (t u : Term) (r : Row) (rs : Rows) → field_at fs i ≡ Some t → field_at gs i ≡ Some u
    → fields_cast (fields_drop i fs) (row r rs) (fields_drop i gs) ≡ row_first (cast_of t r u) (fields_cast (fields_drop (suc i) fs) rs (fields_drop (suc i) gs))
fields_step no_fields gs i t u r rs e f = absurd (never_some t e)
fields_step (field x s fs) no_fields i t u r rs e f = absurd (never_some u f)
fields_step (field x s fs) (field y w gs) zero t u r rs e f =
    λ k. row_first (cast_of (some_same s t e k) r (some_same w u f k)) (fields_cast fs rs gs)
fields_step (field x s fs) (field y w gs) (suc i) t u r rs e f = fields_step fs gs i t u r rs e f

in_step : (c d : InTerm) (i : ℕ) (t u : Term) (r : Row) (rs : Rows) → ArePaired c d → in_at c i ≡ Some t → in_at d i ≡ Some u
    → in_cast (in_drop i c) (in_drop i d) (row r rs) ≡ row_first (cast_of t r u) (in_cast (in_drop (suc i) c) (in_drop (suc i) d) rs)
in_step (every s) (every w) i t u r rs p e f =
    let a = some_same s t e in
    let b = some_same w u f in
    λ k. row_first (cast_of (a k) r (b k)) (rows_cast (λ q. cast_of s q w) rs)
in_step (each fs) (each gs) i t u r rs p e f = fields_step fs gs i t u r rs e f
in_step (every s) (each gs) i t u r rs p e f = absurd p
in_step (each fs) (every w) i t u r rs p e f = absurd p

-- what the rows from a place on come to, and all
abbrev pub cast_from : InTerm → InTerm → List ValueTerm → ℕ → Result Rows ScalarError
cast_from c d xs i = in_cast (in_drop i c) (in_drop i d) (rows_from c xs i)

abbrev pub cast_all : InTerm → InTerm → List ValueTerm → Result Rows ScalarError
cast_all c d xs = in_cast c d (rows_under c (values_from xs))

-- the values have the rows of all
pub record AreCast (c d : InTerm) (xs ws : List ValueTerm) : Type 0 where
  pub rows : Rows
  pub is : cast_all c d xs ≡ Ok rows
  pub stand : in_rows d (values_from ws) ≡ Some rows

-- behind the values so far, what the rest comes to decides
pub record Goes (c d : InTerm) (xs : List ValueTerm) (i : ℕ) (out : List ValueTerm) : Type 0 where
  pub has : HasRows c xs i
  pub found : (ws : List ValueTerm) (rs : Rows) → cast_from c d xs i ≡ Ok rs → in_rows (in_drop i d) (values_from ws) ≡ Some rs → AreCast c d xs (out ++ ws)
  pub refused : (e : ScalarError) → cast_from c d xs i ≡ Err e → cast_all c d xs ≡ Err e

pub start : (c d : InTerm) (xs : List ValueTerm) → IsSome (in_rows c (values_from xs)) → Goes c d xs 0 []
start (every t) (every u) xs h = record { has = h; found = λ ws rs e f. record { rows = rs; is = e; stand = f }; refused = λ x e. e }
start (every t) (each gs) xs h = record { has = h; found = λ ws rs e f. record { rows = rs; is = e; stand = f }; refused = λ x e. e }
start (each fs) (every u) xs h = record { has = h; found = λ ws rs e f. record { rows = rs; is = e; stand = f }; refused = λ x e. e }
start (each fs) (each gs) xs h = record { has = h; found = λ ws rs e f. record { rows = rs; is = e; stand = f }; refused = λ x e. e }

-- the cast of the rest is that of a row, and of the rows behind it
next : (c d : InTerm) (xs : List ValueTerm) (i : ℕ) (t u : Term) (v : ValueTerm) → ArePaired c d → in_at c i ≡ Some t → in_at d i ≡ Some u → Step c xs i t v
    → cast_from c d xs i ≡ row_first (cast_of t (row_under t v) u) (cast_from c d xs (i + 1))
next c d xs i t u v p e f s =
    ap (in_cast (in_drop i c) (in_drop i d)) s.is
    ∙ subst (λ n. in_cast (in_drop i c) (in_drop i d) (row (row_under t v) (rows_from c xs (i + 1)))
    ≡ row_first (cast_of t (row_under t v) u) (in_cast (in_drop n c) (in_drop n d) (rows_from c xs (i + 1)))) (sym (add-one i))
    (in_step c d i t u (row_under t v) (rows_from c xs (i + 1)) p e f)

pub goes_on : (c d : InTerm) (xs out : List ValueTerm) (i : ℕ) (t u : Term) (v w : ValueTerm) → ArePaired c d → in_at c i ≡ Some t → in_at d i ≡ Some u → slice_get xs i ≡ Some v
    → IsCast (row_of u) (Ok w) (cast_of t (row_under t v) u) → Goes c d xs i out → Goes c d xs (i + 1) (out ++ w ∷ [])
goes_on c d xs out i t u v w p e f at cast g =
    let s = step c xs i t v e at g.has in
    let one = cast_found (row_of u) w (cast_of t (row_under t v) u) cast in
    let is : cast_from c d xs i ≡ row_first (Ok one.here) (cast_from c d xs (i + 1)) =
    next c d xs i t u v p e f s ∙ ap (λ a. row_first a (cast_from c d xs (i + 1))) one.is in
    record {
      has = s.rest;
      found = λ ws rs all stand.
          let rest : in_rows (in_drop i d) (values_from (w ∷ ws)) ≡ Some (row one.here rs) =
          rows_step d i u w (values_from ws) f ∙ λ k. row_before (one.stands k) (stand_at d i ws rs stand k) in
          subst (AreCast c d xs) (sym (append_assoc out (w ∷ []) ws))
          (g.found (w ∷ ws) (row one.here rs) (is ∙ ap (row_first (Ok one.here)) all) rest);
      refused = λ x none. g.refused x (is ∙ ap (row_first (Ok one.here)) none);
    }
  where
    stand_at : (d : InTerm) (i : ℕ) (ws : List ValueTerm) (rs : Rows) → in_rows (in_drop (i + 1) d) (values_from ws) ≡ Some rs → in_rows (in_drop (suc i) d) (values_from ws) ≡ Some rs
    stand_at d i ws rs h = subst (λ n. in_rows (in_drop n d) (values_from ws) ≡ Some rs) (add-one i) h

-- a part that is refused
pub refused_at : (c d : InTerm) (xs out : List ValueTerm) (i : ℕ) (t u : Term) (v : ValueTerm) (x : ScalarError) → ArePaired c d → in_at c i ≡ Some t → in_at d i ≡ Some u → slice_get xs i ≡ Some v
    → IsCast (row_of u) (Err x) (cast_of t (row_under t v) u) → Goes c d xs i out → IsCast (in_row d) (Err x) (listed (cast_all c d xs))
refused_at c d xs out i t u v x p e f at (inl memory) g = inl memory
refused_at c d xs out i t u v x p e f at (inr none) g =
    let s = step c xs i t v e at g.has in
    inr (ap listed (g.refused x (next c d xs i t u v p e f s ∙ ap (λ a. row_first a (cast_from c d xs (i + 1))) none)))

-- ---- the end

none_under : (c : InTerm) → rows_under c no_values ≡ no_rows
none_under (every t) = refl
none_under (each no_fields) = refl
none_under (each (field x t fs)) = refl

none_cast : (c d : InTerm) → in_cast c d no_rows ≡ Ok no_rows
none_cast (every t) (every u) = refl
none_cast (every t) (each gs) = refl
none_cast (each fs) (every u) = refl
none_cast (each no_fields) (each gs) = refl
none_cast (each (field x t fs)) (each no_fields) = refl
none_cast (each (field x t fs)) (each (field y u gs)) = refl

rest_some : (o : Option Row) (os : Option Rows) → IsSome (row_before o os) → IsSome os
rest_some (Some r) (Some rs) h = refl
rest_some (Some r) None h = absurd (cc)
rest_some None os h = absurd (cc)

fields_end : (fs gs : Fields) (xs : List ValueTerm) → field_count fs ≡ field_count gs → IsSome (in_rows (each fs) (values_from xs))
    → in_rows (each (fields_drop (length xs) gs)) no_values ≡ Some no_rows
fields_end no_fields no_fields [] p h = refl
fields_end no_fields no_fields (v ∷ xs) p h = absurd (cc)
fields_end no_fields (field y u gs) xs p h = absurd (omega (arith, p))
fields_end (field x t fs) no_fields xs p h = absurd (omega (arith, p))
fields_end (field x t fs) (field y u gs) [] p h = absurd (cc)
fields_end (field x t fs) (field y u gs) (v ∷ xs) p h =
    fields_end fs gs xs (omega (arith, p)) (rest_some (row_of t v) (in_rows (each fs) (values_from xs)) h)

none_left : (c d : InTerm) (xs : List ValueTerm) → ArePaired c d → IsSome (in_rows c (values_from xs)) → in_rows (in_drop (length xs) d) no_values ≡ Some no_rows
none_left (every t) (every u) xs p h = refl
none_left (each fs) (each gs) xs p h = fields_end fs gs xs p h
none_left (every t) (each gs) xs p h = absurd p
none_left (each fs) (every u) xs p h = absurd p

append_none : {A : Type 0} (xs : List A) → xs ++ [] ≡ xs
append_none [] = refl
append_none (x ∷ xs) = ap (λ ys. x ∷ ys) (append_none xs)

pub ends : (c d : InTerm) (xs out : List ValueTerm) (i : ℕ) → ArePaired c d → IsSome (in_rows c (values_from xs)) → i ≡ length xs → Goes c d xs i out → AreCast c d xs out
ends c d xs out i p h at g =
    let none : drop i xs ≡ [] = drop_all i xs (omega (arith, at)) in
    let all : cast_from c d xs i ≡ Ok no_rows =
    ap (λ ws. in_cast (in_drop i c) (in_drop i d) (rows_under (in_drop i c) (values_from ws))) none
    ∙ ap (in_cast (in_drop i c) (in_drop i d)) (none_under (in_drop i c))
    ∙ none_cast (in_drop i c) (in_drop i d) in
    let left : in_rows (in_drop i d) no_values ≡ Some no_rows = ap (λ n. in_rows (in_drop n d) no_values) at ∙ none_left c d xs p h in
    subst (AreCast c d xs) (append_none out) (g.found [] no_rows all left)

-- the list of the values
pub list_is_cast : (c d : InTerm) (xs out : List ValueTerm) (x : Result ValueTerm ScalarError) → IfOk x (λ v. v ≡ list_value (values_from out)) → IsOkUnless x error.OutOfMemory
    → AreCast c d xs out → IsCast (in_row d) x (listed (cast_all c d xs))
list_is_cast c d xs out (Ok v) is memory a =
    subst (λ w. IsCast (in_row d) (Ok v) (listed w)) (sym a.is) (ap (in_row d) is ∙ ap (option_map list_row) a.stand)
list_is_cast c d xs out (Err e) is memory a = inl memory

-- ---- lists and structs as values

in_struct : (gs : Fields) (n : Bool) (w : ValueTerm) (r : Row) → in_row (each gs) w ≡ Some r → row_of (structure gs n) w ≡ Some r
in_struct gs n (list_value vs) r e = e
in_struct gs n null_value r e = absurd (never_some r e)
in_struct gs n (truth_value b) r e = absurd (never_some r e)
in_struct gs n (whole_value k z) r e = absurd (never_some r e)
in_struct gs n (decimal_value k z) r e = absurd (never_some r e)
in_struct gs n (bytes_value bs) r e = absurd (never_some r e)
in_struct gs n (text_value bs) r e = absurd (never_some r e)

in_list : (o : Term) (n : Bool) (w : ValueTerm) (r : Row) → in_row (every o) w ≡ Some r → row_of (list o n) w ≡ Some r
in_list o n (list_value vs) r e = e
in_list o n null_value r e = absurd (never_some r e)
in_list o n (truth_value b) r e = absurd (never_some r e)
in_list o n (whole_value k z) r e = absurd (never_some r e)
in_list o n (decimal_value k z) r e = absurd (never_some r e)
in_list o n (bytes_value bs) r e = absurd (never_some r e)
in_list o n (text_value bs) r e = absurd (never_some r e)

in_sized : (o : Term) (k : ℕ) (n : Bool) (w : ValueTerm) (r : Row) → in_row (every o) w ≡ Some r → row_of (fixed_size_list o k n) w ≡ Some r
in_sized o k n (list_value vs) r e = e
in_sized o k n null_value r e = absurd (never_some r e)
in_sized o k n (truth_value b) r e = absurd (never_some r e)
in_sized o k n (whole_value l z) r e = absurd (never_some r e)
in_sized o k n (decimal_value l z) r e = absurd (never_some r e)
in_sized o k n (bytes_value bs) r e = absurd (never_some r e)
in_sized o k n (text_value bs) r e = absurd (never_some r e)

pub as_struct : (fs gs : Fields) (n : Bool) (u : Term) (rs : Rows) (x : Result ValueTerm ScalarError) → structure gs n ≡ u → field_count fs ≡ field_count gs
    → IsCast (in_row (each gs)) x (listed (in_cast (each fs) (each gs) rs)) → IsCast (row_of u) x (struct_cast (field_count fs) (fields_cast fs) (list_row rs) u)
as_struct fs gs n u rs x t p c =
    subst (λ v. IsCast (row_of v) x (struct_cast (field_count fs) (fields_cast fs) (list_row rs) v)) t
    (rw (eq-eqb _ _ p) (cast_as (in_row (each gs)) (row_of (structure gs n)) x _ (in_struct gs n) c))

pub other_fields : (fs gs : Fields) (n : Bool) (u : Term) (rs : Rows) → structure gs n ≡ u → (field_count fs ≡ field_count gs → ⊥)
    → struct_cast (field_count fs) (fields_cast fs) (list_row rs) u ≡ Err error.CastFields
other_fields fs gs n u rs t p =
    subst (λ v. struct_cast (field_count fs) (fields_cast fs) (list_row rs) v ≡ Err error.CastFields) t (rw (ne_eqb _ _ p) refl)

pub as_list : (t o : Term) (n : Bool) (u : Term) (rs : Rows) (x : Result ValueTerm ScalarError) → list o n ≡ u
    → IsCast (in_row (every o)) x (listed (in_cast (every t) (every o) rs)) → IsCast (row_of u) x (list_cast (cast_of t) (list_row rs) u)
as_list t o n u rs x e c =
    subst (λ v. IsCast (row_of v) x (list_cast (cast_of t) (list_row rs) v)) e (cast_as (in_row (every o)) (row_of (list o n)) x _ (in_list o n) c)

pub as_sized : (t o : Term) (k : ℕ) (n : Bool) (u : Term) (xs : List ValueTerm) (x : Result ValueTerm ScalarError) → fixed_size_list o k n ≡ u
    → IsSome (in_rows (every t) (values_from xs)) → length xs ≡ k
    → IsCast (in_row (every o)) x (listed (in_cast (every t) (every o) (rows_under (every t) (values_from xs))))
    → IsCast (row_of u) x (list_cast (cast_of t) (list_row (rows_under (every t) (values_from xs))) u)
as_sized t o k n u xs x e has size c =
    subst (λ v. IsCast (row_of v) x (list_cast (cast_of t) (list_row (rows_under (every t) (values_from xs))) v)) e
    (rw (eq-eqb _ _ (count (every t) xs has ∙ size)) (cast_as (in_row (every o)) (row_of (fixed_size_list o k n)) x _ (in_sized o k n) c))

pub other_size : (t o : Term) (k : ℕ) (n : Bool) (u : Term) (xs : List ValueTerm) → fixed_size_list o k n ≡ u
    → IsSome (in_rows (every t) (values_from xs)) → (length xs ≡ k → ⊥)
    → list_cast (cast_of t) (list_row (rows_under (every t) (values_from xs))) u ≡ Err error.CastLength
other_size t o k n u xs e has size =
    subst (λ v. list_cast (cast_of t) (list_row (rows_under (every t) (values_from xs))) v ≡ Err error.CastLength) e
    (rw (ne_eqb _ _ (λ same. size (sym (count (every t) xs has) ∙ same))) refl)
