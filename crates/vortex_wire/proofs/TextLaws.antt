-- Texts that are found are UTF-8, and numbers of 32 bits are below 2 to the 32nd.
use Rattle.std.proofs.Common.{◌≡◌, ℕ, ◌%◌, ◌^◌, ◌<◌, Bool, true, false, List, [], ◌∷◌, Option, Some, None, refl, subst, ap, sym, ◌∙◌, arith}
use Rattle.std.specs.Prelude.{unwrap_or, IfSome, ◌&&◌}
use Rattle.std.specs.List.{list_all, last_or}
use Rattle.std.specs.Str.{is_utf8, IsUtf8}
use Rattle.std.proofs.lemmas.Str.{IsUtf8-from_is_utf8, IsUtf8-nil}
use Rattle.vortex_wire.specs.Message.{singular_varint, singular_u32}
use Rattle.vortex_wire.specs.Inside.{bytes_fields, texts, singular_text}
use Rattle.vortex_wire.proofs.Options.{bound, guarded, is_same}

pub both : (a c : Bool) → a && c ≡ true → (a ≡ true) × (c ≡ true)
both true c e = (refl, e)
both false c e = absurd cc

-- each of the texts is one
pub texts_are_texts : (number : ℕ) (b : List ℕ) (xs : List (List ℕ)) → texts number b ≡ Some xs → list_all is_utf8 xs ≡ true
unfolding texts
texts_are_texts number b xs e =
    let found = bound (bytes_fields number b) _ xs e in
    let same = guarded (list_all is_utf8 found.0) found.0 xs found.2 in
    ap (list_all is_utf8) (sym same.1) ∙ same.0

last_is_text : (before : Option (List ℕ)) (xs : List (List ℕ)) → IfSome before IsUtf8 → list_all is_utf8 xs ≡ true → IsUtf8 (unwrap_or (last_or before xs) [])
last_is_text None [] h e = IsUtf8-nil
last_is_text (Some x) [] h e = h
last_is_text before (x ∷ xs) h e =
    let parts = both (is_utf8 x) (list_all is_utf8 xs) e in
    last_is_text (Some x) xs (IsUtf8-from_is_utf8 x parts.0) parts.1

pub singular_is_text : (number : ℕ) (b x : List ℕ) → singular_text number b ≡ Some x → IsUtf8 x
unfolding singular_text
singular_is_text number b x e =
    let found = bound (texts number b) (λ found. Some (unwrap_or (last_or None found) [])) x e in
    subst IsUtf8 (is_same (unwrap_or (last_or None found.0) []) x found.2) (last_is_text None found.0 tt (texts_are_texts number b found.0 found.1))

pub u32_below : (number : ℕ) (b : List ℕ) (n : ℕ) → singular_u32 number b ≡ Some n → n < 2 ^ 32
unfolding singular_u32
u32_below number b n e =
    let found = bound (singular_varint number b) (λ found. Some (unwrap_or found 0 % 2 ^ 32)) n e in
    omega (arith, is_same (unwrap_or found.0 0 % 2 ^ 32) n found.2)
