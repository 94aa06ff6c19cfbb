-- Which fields a mask selects, each told by the path to it.
--     selects            whether a mask selects what a path leads to
--     stepped            the mask as it is seen one step further in
--     starting_part      the step with which all that a mask selects begins
--     selects_all        whether a mask selects everything
--     Leads              whether what a mask selects may lie behind a step
--     IsStepInto         the masks select the same, seen from the first step and from behind it
use Rattle.std.specs.Prelude.{◌≡◌, Bool, true, false, ◌&&◌, nat_eq, List, [], ◌∷◌, length}
use Rattle.std.specs.Prelude.{Option, Result, Ok, Err}
use Rattle.vortex_terms.specs.Path.{PathPart, path_part_eq}
use Rattle.vortex_names.specs.declared.error.DTypeError.{DTypeError}
use Rattle.vortex_names.specs.declared.error.DTypeError.TheVariants as error
use Rattle.vortex_dtype.specs.Paths.{path_eq, first_part}
use Rattle.vortex_dtype.specs.declared.masks.FieldMask.{FieldMask}
use Rattle.vortex_dtype.specs.declared.masks.FieldMask.TheVariants.{All, Prefix, Exact}

-- whether a path begins with these steps
abbrev pub begins_with : List PathPart → List PathPart → Bool
begins_with [] path = true
begins_with (a ∷ front) [] = false
begins_with (a ∷ front) (b ∷ path) = path_part_eq a b && begins_with front path

-- whether the mask selects what the path leads to
abbrev pub selects : FieldMask → List PathPart → Bool
selects All path = true
selects (Prefix front) path = begins_with front path
selects (Exact only) path = path_eq only path

-- whether the mask selects everything
abbrev pub selects_all : FieldMask → Bool
selects_all All = true
selects_all (Prefix front) = nat_eq (length front) 0
selects_all (Exact only) = false

-- the mask one step further in
abbrev pub stepped : FieldMask → Result FieldMask DTypeError
stepped All = Ok All
stepped (Prefix []) = Ok All
stepped (Prefix (a ∷ [])) = Ok All
stepped (Prefix (a ∷ (b ∷ front))) = Ok (Prefix (b ∷ front))
stepped (Exact []) = Err error.ExactRoot
stepped (Exact (a ∷ only)) = Ok (Exact only)

-- the step with which all that the mask selects begins, where there is one
abbrev pub starting_part : FieldMask → Result (Option PathPart) DTypeError
starting_part All = Err error.AllMask
starting_part (Prefix front) = Ok (first_part front)
starting_part (Exact only) = Ok (first_part only)

-- what the mask selects may lie behind this step
abbrev pub Leads : FieldMask → PathPart → Type 0
Leads All part = Unit {0}
Leads (Prefix []) part = Unit {0}
Leads (Prefix (a ∷ front)) part = a ≡ part
Leads (Exact []) part = ⊥
Leads (Exact (a ∷ only)) part = a ≡ part

-- behind a step that leads there, the other selects what the mask does
abbrev pub IsStepInto : FieldMask → FieldMask → Type 0
IsStepInto mask inner =
    (part : PathPart) (path : List PathPart) → Leads mask part
    → selects inner path ≡ selects mask (part ∷ path)
