-- What one row makes of the values, and its code: `EncodesValue`.
use Rattle.std.specs.Prelude.{◌≡◌, ℕ, Bool, not, ◌&&◌, ◌||◌, cond, List, [], ◌∷◌, ◌++◌, Option}
use Rattle.std.specs.Prelude.{Some, None}
use Rattle.vortex_terms.specs.Row.{Row}
use Rattle.vortex_terms.specs.Distinct.{first_place}
use Rattle.vortex_dict.specs.Encoding.{stands}

module _ (over : List Row → Row → Bool) where
  -- a row that is new and within the limits comes behind the values, and its code is its place
  -- there; a row that is new and over a limit has none
  pub record EncodesValue (values : List Row) (r : Row) (values' : List Row)
      (code : Option ℕ) : Type 0 where
    pub values_are : values' ≡ cond (stands r values || over values r) values (values ++ r ∷ [])
    pub code_is : code ≡ cond (not (stands r values) && over values r) None
        (Some (first_place r values))
