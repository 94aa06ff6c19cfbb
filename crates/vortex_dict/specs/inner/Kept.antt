-- What an encoder keeps: `IsBytesDict`, `HasCodes`.
use Rattle.std.specs.Prelude.{◌≡◌, ℕ, ◌<◌, IsTrue, pos, List, length}
use Rattle.std.specs.List.{sum_by}
use Rattle.vortex_number.specs.Format.{Format, fits}
use Rattle.vortex_terms.specs.Row.{Row}
use Rattle.vortex_dict.specs.Limits.{counted}

-- the count is that of the keys' rows, and each place has a code
pub record IsBytesDict (code : Format) (rows : List Row) (count : ℕ) : Type 0 where
  pub count_is : count ≡ sum_by counted rows
  pub coded : (i : ℕ) → i < length rows → IsTrue (fits code (pos i))

-- each place has a code
abbrev pub HasCodes : Format → List Row → Type 0
HasCodes code rows = (i : ℕ) → i < length rows → IsTrue (fits code (pos i))
