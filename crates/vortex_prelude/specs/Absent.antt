-- What an absent field of a flat buffer is read as. A field is nothing where it is malformed, and else absent or there.
use Rattle.std.specs.Prelude.{ℕ, Option, unwrap_or}
use Rattle.std.specs.Option.{option_map}

-- the field, and x where it is absent
abbrev pub or_else : {A : Type 0} → A → Option (Option A) → Option A
or_else x field = option_map (λ o. unwrap_or o x) field

-- an absent number is 0
abbrev pub or_zero : Option (Option ℕ) → Option ℕ
or_zero field = option_map (λ o. unwrap_or o 0) field
