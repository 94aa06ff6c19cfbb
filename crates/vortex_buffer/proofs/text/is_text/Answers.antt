use Rattle.std.proofs.Common.{◌≡◌, refl, sym, Bool, true, false}
use Rattle.std.proofs.lemmas.Str.{IsUtf8-from_is_utf8, is_utf8-from_IsUtf8}
use Rattle.vortex_buffer.proofs.text.is_text.Goals as goal

is_false : (b : Bool) → (b ≡ true → ⊥) → false ≡ b
is_false true h = absurd (h refl)
is_false false h = refl

pub returns-in-Ok : goal.returns-in-Ok
returns-in-Ok c = sym (is_utf8-from_IsUtf8 _ c.in-Ok.ensures.cases.1)

pub returns-in-Err : goal.returns-in-Err
returns-in-Err c = is_false _ (λ e. c.in-Err.ensures.cases.0 (IsUtf8-from_is_utf8 _ e))
