-- The storage of an extension with another flag.
use Rattle.std.proofs.Common.{◌≡◌, Bool, false, ap, ◌∙◌}
use Rattle.vortex_terms.specs.Term.{Term}
use Rattle.vortex_terms.specs.Types.{Legal, is_extension}
use Rattle.vortex_terms.specs.Nullability.{with_nullability}
use Rattle.vortex_terms.specs.NullabilityLaws.{is_extension-with}
use Rattle.vortex_types.specs.ExtTerm.{ExtTerm, ext_type}

-- it is no extension either
pub no_extension : (e : ExtTerm) (s t : Term) (m : Bool) → Legal (ext_type e) → s ≡ e.storage → t ≡ with_nullability s m → is_extension t ≡ false
no_extension e s t m legal stored flagged =
    ap is_extension flagged ∙ is_extension-with s m ∙ ap is_extension stored ∙ legal.2
