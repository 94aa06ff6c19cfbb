-- Values without repeats, and a map from each to its place: one by hashes, and one by their order
-- where there is one.
use Rattle.std.specs.Prelude.{◌≡◌, ℕ, ◌*◌, ◌^◌, ◌<◌, Bool, List, length, get_or, Option, Some, None}
use Rattle.std.specs.declared.cmp.Ordering.{Ordering}
use Rattle.std.specs.HashMap.{HashMap, get}
use Rattle.std.specs.BTreeMap.{BTreeMap, get as get_in_order}
use Rattle.std.specs.Option.{option_eq}
use Rattle.vortex_codes.specs.Places.{place_of}

module _ {T S : Type 0} (eq : T → T → Bool) (cmp : T → T → Ordering) where
  -- the place that the maps have for a value
  abbrev pub place_in : HashMap T ℕ S → Option (BTreeMap T ℕ) → T → Option ℕ
  place_in codes None value = get eq codes value
  place_in codes (Some ordered) value = get_in_order cmp ordered value

  -- the same of a value or null
  abbrev pub place_found : HashMap T ℕ S → Option (BTreeMap T ℕ) → Option ℕ → Option T → Option ℕ
  place_found codes ordered null None = null
  place_found codes ordered null (Some value) = place_in codes ordered value

  -- each value is found at its place, none stands twice, and at this width they have fewer than
  -- 2^32 bytes
  pub record HasPlaces (width : ℕ) (values : List (Option T)) (codes : HashMap T ℕ S)
      (ordered : Option (BTreeMap T ℕ)) (null : Option ℕ) : Type 0 where
    pub found : (v : Option T) → place_found codes ordered null v ≡ place_of (option_eq eq) v values
    pub apart : (c d : ℕ) → c < length values → d < length values
        → get_or values c None ≡ get_or values d None → c ≡ d
    pub few : length values < 2 ^ 32
    pub small : width * length values < 2 ^ 32
