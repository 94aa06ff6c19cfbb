-- The encodings of arrays (this project's own formats), by their names. src/schema.rt spells them.
use Rattle.std.specs.Prelude.{ℕ, Bool, List, [], ◌∷◌, bytes_eq}
use Rattle.std.specs.List.{list_any}
use Rattle.vortex_encodings.specs.declared.registry.ArrayRegistry.{ArrayRegistry}
use Rattle.vortex_encodings.specs.declared.registry.EncodingSet.{EncodingSet}
use Rattle.vortex_encodings.specs.declared.registry.EncodingSet.TheVariants.{Canonical}
use Rattle.vortex_encodings.specs.declared.schema.TheConstants.{NULL, BOOL, PRIMITIVE, DECIMAL, VARBIN, LIST, FIXED_SIZE_LIST, STRUCT, EXT, CONSTANT}

-- all encodings but that of dictionaries
abbrev pub canonical_names : List (List ℕ)
canonical_names =
    NULL.now ∷ BOOL.now ∷ PRIMITIVE.now ∷ DECIMAL.now ∷ VARBIN.now ∷ LIST.now
    ∷ FIXED_SIZE_LIST.now ∷ STRUCT.now ∷ EXT.now ∷ CONSTANT.now ∷ []

-- the names in a set of encodings
abbrev pub names_in : EncodingSet → List (List ℕ)
names_in Canonical = canonical_names

-- the names that a registry holds
abbrev pub names_of : ArrayRegistry → List (List ℕ)
names_of registry = names_in registry.set

-- whether a name is listed
abbrev pub is_listed : List (List ℕ) → List ℕ → Bool
is_listed names name = list_any (λ x. bytes_eq x name) names
