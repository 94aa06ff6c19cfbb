-- What is put before what is written.
use Rattle.std.proofs.Common.{◌≡◌, ℕ, zero, suc, ◌+◌, ◌-◌, ◌*◌, ◌%◌, ◌<◌, ◌≤◌, ◌^◌, List, [], ◌∷◌, ◌++◌, get_or, drop, length, Result, Ok, Err, IfOk, sym, ap, subst, ◌∙◌, append_assoc, arith, ℤ, of_z, to_z, FitsSigned}
use Rattle.std.specs.Int.{Width, w8, to_le_bytes}
use Rattle.std.proofs.Math.Facts.{Fits-lt-pow, Fits-of_z}
use Rattle.std.proofs.Math.Seq.{drop-cons}
use Rattle.std.proofs.lemmas.Int.{to_z-of_z}
use Rattle.std.proofs.lemmas.List.{append-nil}
use Rattle.vortex_number.specs.Format.{le_bytes}
use Rattle.vortex_wire.specs.Field.{bytes_field}
use Rattle.vortex_wire.specs.Inside.{headed}
use Rattle.vortex_wire.proofs.Headers.{headed_body}
use Rattle.vortex_value.specs.declared.decimal.DecimalValue.{DecimalValue}
use Rattle.vortex_value.specs.DecimalValue.{decimal_number, width_of}
use Rattle.vortex_scalar_value.specs.declared.error.ScalarError.{ScalarError}
use Rattle.vortex_scalar_value.specs.declared.schema.TheConstants.{BYTES, LIST, LIST_VALUES}
use Rattle.vortex_scalar_value.specs.Held.{IsHeld, AreHeld}
use Rattle.vortex_scalar_value.specs.Value.{ValueTerm, list_value, values_from}
use Rattle.vortex_scalar_value.specs.ValueMessage.{IsValueMessage}
use Rattle.vortex_scalar_value.proofs.Written.{value_written}
use Rattle.vortex_scalar_value.specs.ValueWeight.{value_weight, values_weight}
use Rattle.vortex_scalar_value.specs.ValueBytes.{as_read, decimal_bytes, value_bytes, values_bytes}

as_decimal : (r : Result (List ℕ) ScalarError) (out got : List ℕ) (d : DecimalValue) → got ≡ decimal_bytes (width_of d) (decimal_number d) → IfOk r (λ b. b ≡ bytes_field BYTES got ++ out)
    → IfOk r (λ b. b ≡ bytes_field BYTES (decimal_bytes (width_of d) (decimal_number d)) ++ out)
as_decimal r out got d e h = subst (λ bs. IfOk r (λ b. b ≡ bytes_field BYTES bs ++ out)) e h

-- what a signed number's bytes are, which passes as its bits and back
passed : (w : Width) (z : ℤ) (got : List ℕ) → FitsSigned w z → got ≡ to_le_bytes w (of_z w (to_z w (of_z w z))) → got ≡ le_bytes w (of_z w z)
unfolding le_bytes
passed w z got inside e = e ∙ ap (λ z. to_le_bytes w (of_z w z)) (to_z-of_z w z inside)

-- the bytes of a decimal
pub decimal_put : (r : Result (List ℕ) ScalarError) (out got : List ℕ) (d : DecimalValue) (w : Width) (z : ℤ) → FitsSigned w z → got ≡ to_le_bytes w (of_z w (to_z w (of_z w z))) → le_bytes w (of_z w z) ≡ decimal_bytes (width_of d) (decimal_number d)
    → IfOk r (λ b. b ≡ bytes_field BYTES got ++ out) → IfOk r (λ b. b ≡ bytes_field BYTES (decimal_bytes (width_of d) (decimal_number d)) ++ out)
decimal_put r out got d w z inside e is h = as_decimal r out got d (passed w z got inside e ∙ is) h

-- one byte
one_passed : (z : ℤ) (got : List ℕ) → FitsSigned w8 z → got ≡ of_z w8 (to_z w8 (of_z w8 z)) ∷ [] → got ≡ le_bytes w8 (of_z w8 z)
unfolding le_bytes
one_passed z got inside e =
    let byte : of_z w8 z < 2 ^ 8 = Fits-lt-pow (Fits-of_z {w = w8} {z = z} inside) in
    let same : of_z w8 z ≡ of_z w8 z % 256 = omega (arith, byte) in
    e ∙ ap (λ z. of_z w8 z ∷ []) (to_z-of_z w8 z inside) ∙ ap (λ n. n ∷ []) same

pub byte_put : (r : Result (List ℕ) ScalarError) (out got : List ℕ) (d : DecimalValue) (z : ℤ) → FitsSigned w8 z → got ≡ of_z w8 (to_z w8 (of_z w8 z)) ∷ [] → le_bytes w8 (of_z w8 z) ≡ decimal_bytes (width_of d) (decimal_number d)
    → IfOk r (λ b. b ≡ bytes_field BYTES got ++ out) → IfOk r (λ b. b ≡ bytes_field BYTES (decimal_bytes (width_of d) (decimal_number d)) ++ out)
byte_put r out got d z inside e is h = as_decimal r out got d (one_passed z got inside e ∙ is) h

-- ---- lists

-- what was written since is a field
field_put : (number : ℕ) (body old inside new : List ℕ) → inside ≡ body ++ old → new ≡ headed number (length old) inside → new ≡ bytes_field number body ++ old
field_put number body old inside new e h = h ∙ ap (headed number (length old)) e ∙ headed_body number body old

pub list_put : (r : Result (List ℕ) ScalarError) (v : ValueTerm) (vs : List ValueTerm) (out inside : List ℕ) (before : ℕ) → list_value (values_from vs) ≡ v → before ≡ length out → inside ≡ values_bytes (values_from vs) ++ out
    → IfOk r (λ b. b ≡ headed LIST before inside) → IfOk r (λ b. b ≡ value_bytes v ++ out)
list_put (Ok b) v vs out inside before is size e h =
    field_put LIST (values_bytes (values_from vs)) out inside b e (h ∙ ap (λ n. headed LIST n inside) size) ∙ ap (λ v. value_bytes v ++ out) is
list_put (Err e) v vs out inside before is size h k = k

get_lighter : (vs : List ValueTerm) (i : ℕ) (d : ValueTerm) → i < length vs → value_weight (get_or vs i d) < values_weight (values_from vs)
get_lighter [] i d lt = absurd (omega arith)
get_lighter (v ∷ vs) zero d lt = omega arith
get_lighter (v ∷ vs) (suc i) d lt = omega (arith, get_lighter vs i d (omega arith))

pub lighter : (vs : List ValueTerm) (i : ℕ) (d v : ValueTerm) → i < length vs → v ≡ get_or vs i d → 2 * value_weight v < 2 * values_weight (values_from vs) + 1
lighter vs i d v lt is =
    let less : value_weight v < values_weight (values_from vs) = subst (λ w. value_weight w < values_weight (values_from vs)) (sym is) (get_lighter vs i d lt) in
    omega (arith, less)

one_dropped : (vs : List ValueTerm) (n : ℕ) (d v : ValueTerm) → 0 < n → n ≤ length vs → v ≡ get_or vs (n - 1) d → drop (n - 1) vs ≡ v ∷ drop n vs
one_dropped vs n d v some within is =
    let next : suc (n - 1) ≡ n = omega (arith, some) in
    rw is (drop-cons vs (n - 1) d (omega (arith, some, within)) ∙ ap (λ k. get_or vs (n - 1) d ∷ drop k vs) next)

-- one value more, the last first
pub value_put : (vs : List ValueTerm) (n : ℕ) (d v : ValueTerm) (old inside new out : List ℕ) (before : ℕ) → 0 < n → n ≤ length vs → v ≡ get_or vs (n - 1) d → before ≡ length old
    → inside ≡ value_bytes v ++ old → new ≡ headed LIST_VALUES before inside → old ≡ values_bytes (values_from (drop n vs)) ++ out → new ≡ values_bytes (values_from (drop (n - 1) vs)) ++ out
value_put vs n d v old inside new out before some within is size e h so_far =
    let field = bytes_field LIST_VALUES (value_bytes v) in
    field_put LIST_VALUES (value_bytes v) old inside new e (h ∙ ap (λ n. headed LIST_VALUES n inside) size)
    ∙ ap (λ bs. field ++ bs) so_far
    ∙ sym (append_assoc field (values_bytes (values_from (drop n vs))) out)
    ∙ ap (λ ws. values_bytes (values_from ws) ++ out) (sym (one_dropped vs n d v some within is))

pub value_held : (vs : List ValueTerm) (n : ℕ) (d v : ValueTerm) → 0 < n → n ≤ length vs → v ≡ get_or vs (n - 1) d → IsHeld v → AreHeld (values_from (drop n vs)) → AreHeld (values_from (drop (n - 1) vs))
value_held vs n d v some within is one others = subst (λ ws. AreHeld (values_from ws)) (sym (one_dropped vs n d v some within is)) (one, others)

-- ---- the whole

pub is_message : (v : ValueTerm) (bytes message empty : List ℕ) → IsHeld v → length bytes < 2 ^ 64 → bytes ≡ message → message ≡ value_bytes v ++ empty → empty ≡ [] → IsValueMessage bytes (as_read v)
is_message v bytes message empty held short e h none =
    let whole : bytes ≡ value_bytes v = e ∙ h ∙ ap (λ bs. value_bytes v ++ bs) none ∙ append-nil (value_bytes v) in
    subst (λ bs. IsValueMessage bs (as_read v)) (sym whole) (value_written v held (subst (λ bs. length bs < 2 ^ 64) whole short))
