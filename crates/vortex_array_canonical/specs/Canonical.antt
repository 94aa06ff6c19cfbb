-- Arrays without constants.
--     IsCanonicalOf        the same type and rows, and no constant
--     RefusesCanonical     why there is no such array
use Rattle.std.specs.Prelude.{◌≡◌, ◌⊎◌, true, false}
use Rattle.vortex_array_data.specs.Column.{Column}
use Rattle.vortex_array_data.specs.Constants.{is_canonical}
use Rattle.vortex_array_data.specs.Taken.{HoldsMuch}
use Rattle.vortex_array_data.specs.declared.error.ArrayError.{ArrayError}
use Rattle.vortex_array_data.specs.declared.error.ArrayError.TheVariants.{OutOfMemory, TooLarge}

pub record IsCanonicalOf (old new : Column) : Type 0 where
  pub dtype : new.dtype ≡ old.dtype
  pub rows : new.rows ≡ old.rows
  pub canonical : is_canonical new.node ≡ true

-- memory lacks, or there is a constant, and the rows themselves are too much for an array
abbrev pub RefusesCanonical : Column → ArrayError → Type 0
RefusesCanonical a e =
    (e ≡ OutOfMemory) ⊎ ((e ≡ TooLarge) × ((is_canonical a.node ≡ false) × HoldsMuch a.dtype a.rows))
