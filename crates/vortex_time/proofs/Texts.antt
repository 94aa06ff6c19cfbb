-- A name of a zone that is a text, and one that is none.
use Rattle.std.proofs.Common.{◌≡◌, ℕ, List, Bool, true, false, refl, Result, Ok, Err}
use Rattle.std.specs.Prelude.{if◌then◌else◌}
use Rattle.std.specs.Str.{is_utf8, IsUtf8}
use Rattle.std.proofs.lemmas.Str.{IsUtf8-from_is_utf8, is_utf8-from_IsUtf8}
use Rattle.vortex_time.specs.declared.error.TemporalError.{TemporalError}
use Rattle.vortex_time.specs.declared.error.TemporalError.TheVariants.{BadZone}

is_false : (b : Bool) → (b ≡ true → ⊥) → b ≡ false
is_false true h = absurd (h refl)
is_false false h = refl

pub found : (bs t : List ℕ) → t ≡ bs → IsUtf8 bs → ◌≡◌ {A = Result (List ℕ) TemporalError} (Ok t) (if is_utf8 bs then Ok bs else Err BadZone)
found bs t e h = rw (is_utf8-from_IsUtf8 bs h, e) refl

pub refused : (bs : List ℕ) → (IsUtf8 bs → ⊥) → ◌≡◌ {A = Result (List ℕ) TemporalError} (Err BadZone) (if is_utf8 bs then Ok bs else Err BadZone)
refused bs h = rw (is_false (is_utf8 bs) (λ e. h (IsUtf8-from_is_utf8 bs e))) refl
