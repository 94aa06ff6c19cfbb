-- The mask that is kept of one that is given.
--     mask_tests     why it is refused
--     IsTaken        what is so of the one that is kept
--     TakesMask      what an answer says of it
use Rattle.std.specs.Prelude.{◌≡◌, ℕ, Bool, false, List, [], ◌∷◌, Some, Result, Ok, Err, length}
use Rattle.vortex_terms.specs.Row.{Row}
use Rattle.vortex_terms.specs.FromColumns.{masked}
use Rattle.vortex_node_rows.specs.RowsOf.{Validity}
use Rattle.vortex_array_data.specs.declared.error.ArrayError.{ArrayError}
use Rattle.vortex_array_data.specs.declared.error.ArrayError.TheVariants.{LengthMismatch, TypeMismatch}
use Rattle.vortex_array_data.specs.Content.{IsMask, mask_nodes}
use Rattle.vortex_array_data.specs.Makes.{first_refusal, mask_differs, mask_hides}

-- the tests of a mask of n under a type that is nullable or not
abbrev pub mask_tests : ℕ → Bool → Validity → List (Bool × ArrayError)
mask_tests n nl given =
    (mask_differs n given, LengthMismatch) ∷ (mask_hides nl given, TypeMismatch) ∷ []

-- nothing refuses the mask that is given, and what is kept shows the same rows in the same node
pub record IsTaken (n : ℕ) (nl : Bool) (given kept : Validity) : Type 0 where
  pub differs : mask_differs n given ≡ false
  pub hides : mask_hides nl given ≡ false
  pub mask : IsMask n nl kept
  pub shown : (rs : List Row) → length rs ≡ n → masked kept rs ≡ masked given rs
  pub nodes : mask_nodes n kept ≡ mask_nodes n given

-- the answer is such a mask, or the first cause
abbrev pub TakesMask : ℕ → Bool → Validity → Result Validity ArrayError → Type 0
TakesMask n nl given (Ok kept) = IsTaken n nl given kept
TakesMask n nl given (Err e) = first_refusal (mask_tests n nl given) ≡ Some e
