-- The bytes of texts.
use Rattle.std.proofs.Common.{◌≡◌, Bool, Some, Result, Ok, Err, IsTrue, IsUtf8, sym, ap, subst, ◌∙◌}
use Rattle.std.specs.Prelude.{if◌then◌else◌, IfSome, unwrap_or}
use Rattle.std.specs.Option.{IsSome}
use Rattle.std.specs.Str.{is_utf8}
use Rattle.std.proofs.lemmas.Str.{is_utf8-from_IsUtf8}
use Rattle.std.proofs.lemmas.Bool.{false≢true}
use Rattle.vortex_terms.specs.Term.{Term, utf8}
use Rattle.vortex_terms.specs.Row.{Row, null_row}
use Rattle.vortex_terms.specs.Fits.{Fits}
use Rattle.vortex_types.specs.Predicates.{is_utf8 as is_text}
use Rattle.vortex_buffer.specs.Buffer.{Buffer}
use Rattle.vortex_buffer.specs.declared.error.BufferError.{BufferError}
use Rattle.vortex_buffer.specs.declared.error.BufferError.TheVariants as buffer_error
use Rattle.vortex_scalar_value.specs.Value.{ValueTerm, bytes_value, text_value}
use Rattle.vortex_value_rows.specs.RowOf.{row_of, fitting_row}
use Rattle.vortex_scalar.specs.ScalarTerm.{ScalarTerm}
use Rattle.vortex_scalar.specs.Made.{scalar_of}
use Rattle.vortex_scalar.specs.inner.Parts.{content}
use Rattle.vortex_scalar.proofs.PartLemmas.{some_same}
use Rattle.vortex_scalar.proofs.Rows.{fitted}

-- a text is not refused
pub text_taken : (b : Buffer) (e : BufferError) (r : Result Buffer BufferError) → IsUtf8 b.bytes
    → r ≡ (if is_utf8 b.bytes then Ok b else Err buffer_error.NotUtf8) → r ≡ Err e → ⊥
text_taken b e r h made refused =
    unlike b (sym (made ∙ ap (λ (t : Bool). if◌then◌else◌ {A = Result Buffer BufferError} t (Ok b) (Err buffer_error.NotUtf8)) (is_utf8-from_IsUtf8 b.bytes h)) ∙ refused)
  where
    unlike : (b : Buffer) → ◌≡◌ {A = Result Buffer BufferError} (Ok b) (Err e) → ⊥
    unlike b e = cc

text_by : (t : Term) (v : ValueTerm) (r : Row) → IsTrue (is_text t) → row_of t v ≡ Some r → Fits t r → IfSome (content v) IsUtf8
text_by (utf8 n) (bytes_value bs) r k e f = subst (λ z. Fits (utf8 n) z) (sym (some_same _ _ e)) f
text_by (utf8 n) (text_value bs) r k e f = subst (λ z. Fits (utf8 n) z) (sym (some_same _ _ e)) f
text_by (utf8 n) _ r k e f = tt
text_by _ v r k e f = absurd (false≢true k)

-- what a text's value holds is UTF-8
pub text_held : (t : Term) (v : ValueTerm) (s : ScalarTerm) → IsSome (fitting_row t v) → scalar_of t v ≡ s → IsTrue (is_text s.dtype) → IfSome (content v) IsUtf8
text_held t v s h e k =
    text_by t v (unwrap_or (fitting_row t v) null_row) (subst (λ (z : ScalarTerm). IsTrue (is_text z.dtype)) (sym e) k) (fitted t v h).0 (fitted t v h).1
