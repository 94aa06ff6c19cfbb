-- Places in a list of keys that grows.
use Rattle.std.specs.Prelude.{ℕ, suc, Bool, cond, List, [], ◌∷◌, ◌++◌, length, Option, Some, None}
use Rattle.std.specs.Option.{is_some, unwrap_or, option_map}

module _ {K : Type 0} (same : K → K → Bool) where
  -- the place of the first key that is k
  abbrev pub place_of : K → List K → Option ℕ
  place_of k [] = None
  place_of k (x ∷ xs) = cond (same k x) (Some 0) (option_map suc (place_of k xs))

  -- the keys with one more, where it is new
  abbrev pub with_key : List K → K → List K
  with_key ks k = cond (is_some (place_of k ks)) ks (ks ++ k ∷ [])

  -- the place that the key has then
  abbrev pub code_in : List K → K → ℕ
  code_in ks k = unwrap_or (place_of k ks) (length ks)
