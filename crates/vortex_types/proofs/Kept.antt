-- Fields as they are kept.
use Rattle.std.proofs.Common.{◌≡◌, ℕ, List, length, IsUtf8}
use Rattle.std.specs.List.{All}
use Rattle.vortex_terms.specs.Term.{Term}
use Rattle.vortex_terms.specs.Types.{Legal, LegalFields, fields_from}
use Rattle.vortex_terms.specs.FieldLaws.{names_of-from, types_of-from, LegalFields-All}

-- fields of texts and legal types are legal
pub legal-from : (xs : List (List ℕ)) (ts : List Term) → length xs ≡ length ts → All IsUtf8 xs → All Legal ts → LegalFields (fields_from xs ts)
legal-from xs ts e names types =
    (LegalFields-All (fields_from xs ts)).1 (rw (names_of-from xs ts e) names, rw (types_of-from xs ts e) types)
