-- What a constructor answers.
--     first_refusal     the cause of the first test that refuses
--     Makes             the answer is the column, where no test refuses
--     too_many          the test of how many rows there are
--     mask_differs      the test of a mask's length
--     mask_hides        the test of a mask under a type
use Rattle.std.specs.Prelude.{◌≡◌, ◌⊎◌, ◌==◌, ◌&&◌, ℕ, not, nat_le, Bool, true, false, List, [], ◌∷◌, Option, Some, None, Result, Ok, Err, length}
use Rattle.vortex_node_rows.specs.RowsOf.{Validity, most_rows}
use Rattle.vortex_array_data.specs.declared.error.ArrayError.{ArrayError}
use Rattle.vortex_array_data.specs.declared.error.ArrayError.TheVariants.{OutOfMemory}
use Rattle.vortex_array_data.specs.Column.{Column}
use Rattle.vortex_array_data.specs.Content.{has_false}

-- of tests in their order, each with its cause, the cause of the first that is true
abbrev pub first_refusal : List (Bool × ArrayError) → Option ArrayError
first_refusal [] = None
first_refusal ((true, cause) ∷ tests) = Some cause
first_refusal ((false, cause) ∷ tests) = first_refusal tests

-- where nothing refuses the answer is the column, and else that refusal; memory may always lack
abbrev pub Makes : Result Column ArrayError → Option ArrayError → Column → Type 0
Makes (Ok a) refusal made = (refusal ≡ None) × (a ≡ made)
Makes (Err e) refusal made = (e ≡ OutOfMemory) ⊎ (refusal ≡ Some e)

-- more rows than an array may have
abbrev pub too_many : ℕ → Bool
too_many n = not (nat_le n most_rows)

-- a mask of another length than n
abbrev pub mask_differs : ℕ → Validity → Bool
mask_differs n None = false
mask_differs n (Some m) = not (length m == n)

-- a mask that is false somewhere, under a type that is not nullable
abbrev pub mask_hides : Bool → Validity → Bool
mask_hides nl None = false
mask_hides nl (Some m) = not nl && has_false m
