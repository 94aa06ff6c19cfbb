-- What is shown of a number that an i64 can be.
use Rattle.std.proofs.Common.{◌≡◌, ℕ, ℤ, Bool, true, false, List, Option, Some, None, Ok, sym, ap, ◌∙◌}
use Rattle.std.specs.Prelude.{if◌then◌else◌}
use Rattle.std.proofs.lemmas.Option.{same_Some}
use Rattle.vortex_terms.specs.Term.{signed_64}
use Rattle.vortex_terms.specs.Tests.{is_in_range}
use Rattle.vortex_time.specs.Jiff.{civil_moment, civil_text}
use Rattle.vortex_time.specs.Moments.{unzoned_of}
use Rattle.vortex_time.specs.declared.values.CivilJiff.{CivilJiff}
use Rattle.vortex_scalar_text.specs.TemporalText.{text_if_ok, number_shown}
use Rattle.vortex_scalar_text.proofs.MomentTexts.{text_is}

by_test : (id : List ℕ) (m : Option (List ℕ)) (b : Bool) (z n : ℤ) (c : CivilJiff) → Some n ≡ (if b then Some z else None) → Ok (civil_moment c) ≡ unzoned_of id m n → Some (civil_text c) ≡ (if b then text_if_ok (unzoned_of id m z) else None)
by_test id m true z n c h k =
    ap Some (sym (text_is c)) ∙ ap text_if_ok k ∙ ap (λ x. text_if_ok (unzoned_of id m x)) (same_Some n z h)
by_test id m false z n c h k = absurd (cc)

-- the text of the moment that the number is
pub ranged : (id : List ℕ) (m : Option (List ℕ)) (z n : ℤ) (c : CivilJiff) → Some n ≡ (if is_in_range signed_64 z then Some z else None) → Ok (civil_moment c) ≡ unzoned_of id m n → Some (civil_text c) ≡ number_shown id m z
ranged id m z n c h k = by_test id m (is_in_range signed_64 z) z n c h k
