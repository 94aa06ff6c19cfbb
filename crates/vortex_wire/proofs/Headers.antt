-- What is written since some place becomes the bytes of a field.
use Rattle.std.proofs.Common.{◌≡◌, ℕ, ◌+◌, ◌-◌, ◌*◌, ◌≤◌, List, [], ◌∷◌, ◌++◌, length, take, refl, append_assoc, arith}
use Rattle.std.proofs.lemmas.List.{length-take, length-append, take_at, drop_at, take-append-drop}
use Rattle.vortex_wire.specs.Varint.{varint}
use Rattle.vortex_wire.specs.Field.{bytes_field}
use Rattle.vortex_wire.specs.Inside.{headed, text_field}

-- the body of a message that was written in front of what was there
pub headed_body : (number : ℕ) (body old : List ℕ) → headed number (length old) (body ++ old) ≡ bytes_field number body ++ old
unfolding headed
headed_body number body old =
    let size : length (body ++ old) - length old ≡ length body = omega (arith, length-append body old) in
    rw (size, take_at body old (length body) refl, drop_at body old (length body) refl) refl

-- a key and a length in front make the field
pub header_written : (number before : ℕ) (bytes : List ℕ) → before ≤ length bytes
    → headed number before bytes ≡ varint (number * 8 + 2) ++ (varint (length bytes - before) ++ bytes)
unfolding headed bytes_field
header_written number before bytes within =
    let size : length (take (length bytes - before) bytes) ≡ length bytes - before = omega (arith, length-take (length bytes - before) bytes) in
    let key : 8 * number + 2 ≡ number * 8 + 2 = omega arith in
    rw (size, key) (simp (append_assoc, take-append-drop))

-- ---- what is left out

pub no_text : (number : ℕ) (text : List ℕ) → length text ≡ 0 → text_field number text ≡ []
no_text number [] e = refl
no_text number (b ∷ bytes) e = absurd (omega (arith, e))

pub some_text : (number : ℕ) (text : List ℕ) → (length text ≡ 0 → ⊥) → text_field number text ≡ bytes_field number text
some_text number [] h = absurd (h refl)
some_text number (b ∷ bytes) h = refl
