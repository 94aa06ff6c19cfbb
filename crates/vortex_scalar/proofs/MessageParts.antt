-- What stands in the message of a scalar.
use Rattle.std.proofs.Common.{◌≡◌, ◌⊎◌, ℕ, ◌<◌, ◌≤◌, ◌^◌, List, ◌++◌, length, Some, Result, Ok, Err, refl, sym, ap, subst, ◌∙◌, inl, inr, arith}
use Rattle.std.specs.Prelude.{IfOk, IsOkUnless, IsSome, unwrap_or}
use Rattle.std.specs.Global.{Vec}
use Rattle.vortex_wire.specs.Inside.{message}
use Rattle.vortex_wire.specs.Field.{bytes_field}
use Rattle.vortex_wire.proofs.Options.{some_same}
use Rattle.vortex_wire.proofs.Pieces.{bytes-piece, first_of_two, last_of_two, message-held}
use Rattle.vortex_terms.specs.Term.{Term}
use Rattle.vortex_terms.specs.Types.{Bounded}
use Rattle.vortex_terms.specs.Row.{Row, null_row}
use Rattle.vortex_terms.specs.Fits.{Fits}
use Rattle.vortex_proto.specs.TypeMessage.{IsTypeMessage}
use Rattle.vortex_proto.specs.TypeBytes.{type_bytes}
use Rattle.vortex_proto.proofs.OneType.{one_type}
use Rattle.vortex_proto.proofs.TypeAgain.{bounded_again, bounded_fits}
use Rattle.vortex_scalar_value.specs.Value.{ValueTerm, value_levels}
use Rattle.vortex_scalar_value.specs.ValueMessage.{IsValueMessage}
use Rattle.vortex_scalar_value.specs.ValueBytes.{value_bytes, as_read}
use Rattle.vortex_scalar_value.specs.Held.{IsHeld}
use Rattle.vortex_scalar_value.proofs.Written.{value_written, levels_read}
use Rattle.vortex_scalar_value.proofs.Standing.{one_value}
use Rattle.vortex_scalar_value.specs.declared.error.ScalarError.{ScalarError}
use Rattle.vortex_scalar_value.specs.declared.error.ScalarError.TheVariants as error
use Rattle.vortex_value_rows.specs.RowOf.{row_of, fitting_row}
use Rattle.vortex_scalar.specs.ScalarTerm.{ScalarTerm}
use Rattle.vortex_scalar.specs.Made.{scalar_of}
use Rattle.vortex_scalar.specs.ScalarMessage.{HoldsType, HoldsValue, IsReadScalar, scalar_bytes, WritesScalar}
use Rattle.vortex_scalar.specs.declared.schema.TheConstants.{SCALAR_DTYPE, SCALAR_VALUE}
use Rattle.vortex_scalar.proofs.Rows.{fitted, row_is, row_fits}
use Rattle.vortex_scalar.proofs.MessageRows.{row_stays, row_levels}

-- ---- what is written is read

parts_there : (x y : List ℕ) → length x < 2 ^ 64 → length y < 2 ^ 64
    → (message SCALAR_DTYPE (bytes_field SCALAR_DTYPE x ++ bytes_field SCALAR_VALUE y) ≡ Some x)
    × (message SCALAR_VALUE (bytes_field SCALAR_DTYPE x ++ bytes_field SCALAR_VALUE y) ≡ Some y)
parts_there x y short brief =
    let first = bytes-piece SCALAR_DTYPE x (omega arith) (omega arith) short in
    let second = bytes-piece SCALAR_VALUE y (omega arith) (omega arith) brief in (
      message-held SCALAR_DTYPE _ x (first_of_two SCALAR_DTYPE SCALAR_VALUE _ _ _ _ first second refl),
      message-held SCALAR_VALUE _ y (last_of_two SCALAR_DTYPE SCALAR_VALUE _ _ _ _ first second refl),
    )

-- a value that has a row under a type within the limits
pub few_levels : (t : Term) (v : ValueTerm) (r : Row) → Bounded t → row_of t v ≡ Some r → value_levels v ≤ 128
few_levels t v r bounded here = omega (arith, bounded.few_levels, row_levels t v r here)

pub scalar_read : (s : ScalarTerm) (v : ValueTerm) → Bounded s.dtype → Fits s.dtype s.row → IsHeld v → row_of s.dtype v ≡ Some s.row → length (value_bytes v) < 2 ^ 64
    → IsReadScalar (Ok s) (scalar_bytes s.dtype v)
scalar_read s v bounded fits held here short =
    let parts = parts_there (type_bytes s.dtype) (value_bytes v) (omega (arith, bounded_fits s.dtype bounded)) short in
    let few : value_levels (as_read v) ≤ 128 = omega (arith, levels_read v, few_levels s.dtype v s.row bounded here) in (
      as_read v,
      (
        (type_bytes s.dtype, parts.0, bounded_again s.dtype bounded, bounded),
        (value_bytes v, parts.1, value_written v held short, few),
      ),
      row_stays s.dtype v s.row held here,
      fits,
    )

-- ---- one scalar

one_held_type : (b : List ℕ) (t u : Term) → HoldsType b t → HoldsType b u → t ≡ u
one_held_type b t u h k =
    one_type t u h.0 h.2 (subst (λ (part : List ℕ). IsTypeMessage part u) (some_same (message SCALAR_DTYPE b) k.0 h.0 k.1 h.1) k.2)

one_held_value : (b : List ℕ) (v w : ValueTerm) → HoldsValue b v → HoldsValue b w → v ≡ w
one_held_value b v w h k =
    one_value v w h.0 h.2 (subst (λ (part : List ℕ). IsValueMessage part w) (some_same (message SCALAR_VALUE b) k.0 h.0 k.1 h.1) k.2)

one_row : (t u : Term) (v w : ValueTerm) (r q : Row) → t ≡ u → v ≡ w → row_of t v ≡ Some r → row_of u w ≡ Some q → r ≡ q
one_row t u v w r q e h here there = some_same (row_of u w) r q (sym (λ i. row_of (e i) (h i)) ∙ here) there

same_scalar : (s u : ScalarTerm) → s.dtype ≡ u.dtype → s.row ≡ u.row → s ≡ u
same_scalar s u e h = λ i. record { dtype = e i; row = h i }

pub one_scalar : (s u : ScalarTerm) (b : List ℕ) → IsReadScalar (Ok s) b → IsReadScalar (Ok u) b → s ≡ u
one_scalar s u b h k =
    let types = one_held_type b s.dtype u.dtype h.1.0 k.1.0 in
    let values = one_held_value b h.0 k.0 h.1.1 k.1.1 in
    same_scalar s u types (one_row s.dtype u.dtype h.0 k.0 s.row u.row types values h.2 k.2)

-- ---- the answers of the code

-- a part that is not read
pub no_type : (b : List ℕ) (e : ScalarError) (result : Result ScalarTerm ScalarError)
    → (e ≡ error.OutOfMemory) ⊎ ((e ≡ error.Malformed) × ((t : Term) → HoldsType b t → ⊥)) → result ≡ Err e → IsReadScalar result b
no_type b e result h is = subst (λ (r : Result ScalarTerm ScalarError). IsReadScalar r b) (sym is) (by h)
  where
    by : (e ≡ error.OutOfMemory) ⊎ ((e ≡ error.Malformed) × ((t : Term) → HoldsType b t → ⊥)) → IsReadScalar (Err e) b
    by (inl memory) = inl memory
    by (inr none) = inr (inl (none.0, λ t v pair. none.1 t pair.0))

pub no_value : (b : List ℕ) (e : ScalarError) (result : Result ScalarTerm ScalarError)
    → (e ≡ error.OutOfMemory) ⊎ ((e ≡ error.Malformed) × ((v : ValueTerm) → HoldsValue b v → ⊥)) → result ≡ Err e → IsReadScalar result b
no_value b e result h is = subst (λ (r : Result ScalarTerm ScalarError). IsReadScalar r b) (sym is) (by h)
  where
    by : (e ≡ error.OutOfMemory) ⊎ ((e ≡ error.Malformed) × ((v : ValueTerm) → HoldsValue b v → ⊥)) → IsReadScalar (Err e) b
    by (inl memory) = inl memory
    by (inr none) = inr (inl (none.0, λ t v pair. none.1 v pair.1))

-- the value of a scalar whose type is within the limits
pub levels_fit : (t : Term) (v : ValueTerm) → IsSome (fitting_row t v) → Bounded t → value_levels v ≤ 128
levels_fit t v some bounded = few_levels t v (unwrap_or (fitting_row t v) null_row) bounded (fitted t v some).0

parts_written : (t : Term) (v : ValueTerm) (x y b : List ℕ) → x ≡ type_bytes t → y ≡ value_bytes v → b ≡ bytes_field SCALAR_DTYPE x ++ bytes_field SCALAR_VALUE y → b ≡ scalar_bytes t v
parts_written t v x y b e h is = is ∙ (λ i. bytes_field SCALAR_DTYPE (e i) ++ bytes_field SCALAR_VALUE (h i))

-- what is written of a type and a value
pub is_written : (t : Term) (v : ValueTerm) (s : ScalarTerm) (x y : List ℕ) (result : Result (Vec ℕ) ScalarError)
    → scalar_of t v ≡ s → IsSome (fitting_row t v) → (x ≡ type_bytes t) × Bounded t → y ≡ value_bytes v
    → IfOk result (λ b. b.items ≡ bytes_field SCALAR_DTYPE x ++ bytes_field SCALAR_VALUE y) → IsOkUnless result error.OutOfMemory
    → WritesScalar (λ b. b.items) result s
is_written t v s x y (Ok b) scalar some type held is ok =
    (subst (λ (z : ScalarTerm). Bounded z.dtype) scalar type.1, (v, row_is t v s some scalar, parts_written t v x y b.items type.0 held is ∙ ap (λ (z : ScalarTerm). scalar_bytes z.dtype v) scalar))
is_written t v s x y (Err e) scalar some type held is ok = inl ok

pub is_read : (t : Term) (v : ValueTerm) (s : ScalarTerm) (x y : List ℕ) (result : Result (Vec ℕ) ScalarError)
    → scalar_of t v ≡ s → IsSome (fitting_row t v) → (x ≡ type_bytes t) × Bounded t → y ≡ value_bytes v → IsHeld v → length y < 2 ^ 64
    → IfOk result (λ b. b.items ≡ bytes_field SCALAR_DTYPE x ++ bytes_field SCALAR_VALUE y)
    → IfOk result (λ b. IsReadScalar (Ok s) b.items)
is_read t v s x y (Ok b) scalar some type written held short is =
    subst (λ (bytes : List ℕ). IsReadScalar (Ok s) bytes)
    (sym (parts_written t v x y b.items type.0 written is ∙ ap (λ (z : ScalarTerm). scalar_bytes z.dtype v) scalar))
    (scalar_read s v (subst (λ (z : ScalarTerm). Bounded z.dtype) scalar type.1) (row_fits t v s some scalar) held (row_is t v s some scalar) (omega (arith, ap length written, short)))
is_read t v s x y (Err e) scalar some type written held short is = tt
