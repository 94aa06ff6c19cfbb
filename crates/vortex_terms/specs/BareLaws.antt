-- What being the same apart from nullability leaves equal, and what it does not.
--     bare-twice, bare-kept     a type without flags has none to lose, and keeps its measures
--     Same-number, Same-parts   types that are the same are of one kind, and their parts are the
--         same
--     Same-primitive, ..        and so are the numbers, names and bytes in them
use Rattle.std.specs.Prelude.{◌≡◌, ℕ, ℤ, Bool, false, List, [], map, Option, None, refl}
use Rattle.std.proofs.Common.{ap, sym, ◌∙◌}
use Rattle.vortex_terms.specs.Term.{WholeKind, Term, null, boolean, primitive, decimal, utf8, binary, structure, list, extension, fixed_size_list, Fields, no_fields, field}
use Rattle.vortex_terms.specs.Types.{bare, bare_fields, Same, part_types, names_of, type_number}
use Rattle.vortex_terms.specs.FieldLaws.{names_of-bare, types_of-bare}

mutual
  pub bare-twice : (t : Term) → bare (bare t) ≡ bare t
  bare-twice null = refl
  bare-twice (boolean n) = refl
  bare-twice (primitive k n) = refl
  bare-twice (decimal p s n) = refl
  bare-twice (utf8 n) = refl
  bare-twice (binary n) = refl
  bare-twice (structure fs n) = ap (λ gs. structure gs false) (bare_fields-twice fs)
  bare-twice (list t n) = ap (λ u. list u false) (bare-twice t)
  bare-twice (extension id t m) = ap (λ u. extension id u m) (bare-twice t)
  bare-twice (fixed_size_list t k n) = ap (λ u. fixed_size_list u k false) (bare-twice t)

  pub bare_fields-twice : (fs : Fields) → bare_fields (bare_fields fs) ≡ bare_fields fs
  bare_fields-twice no_fields = refl
  bare_fields-twice (field x t fs) = λ i. field x (bare-twice t i) (bare_fields-twice fs i)

-- the bare type is the same, so its kind is the type's
pub type_number-bare : (t : Term) → type_number (bare t) ≡ type_number t
type_number-bare null = refl
type_number-bare (boolean n) = refl
type_number-bare (primitive k n) = refl
type_number-bare (decimal p s n) = refl
type_number-bare (utf8 n) = refl
type_number-bare (binary n) = refl
type_number-bare (structure fs n) = refl
type_number-bare (list t n) = refl
type_number-bare (extension id t m) = refl
type_number-bare (fixed_size_list t k n) = refl

pub Same-number : (t u : Term) → Same t u → type_number t ≡ type_number u
Same-number t u h = sym (type_number-bare t) ∙ ap type_number h ∙ type_number-bare u

pub part_types-bare : (t : Term) → part_types (bare t) ≡ map bare (part_types t)
part_types-bare null = refl
part_types-bare (boolean n) = refl
part_types-bare (primitive k n) = refl
part_types-bare (decimal p s n) = refl
part_types-bare (utf8 n) = refl
part_types-bare (binary n) = refl
part_types-bare (structure fs n) = types_of-bare fs
part_types-bare (list t n) = refl
part_types-bare (extension id t m) = refl
part_types-bare (fixed_size_list t k n) = refl

-- the parts of types that are the same are the same
pub Same-parts : (t u : Term) → Same t u → map bare (part_types t) ≡ map bare (part_types u)
Same-parts t u h = sym (part_types-bare t) ∙ ap part_types h ∙ part_types-bare u

-- ---- what a type has beside its parts

abbrev kind_in : WholeKind → Term → WholeKind
kind_in d (primitive k n) = k
kind_in d _ = d

pub Same-primitive : (k l : WholeKind) (m n : Bool) → Same (primitive k m) (primitive l n) → k ≡ l
Same-primitive k l m n h = ap (kind_in k) h

abbrev digits_in : Term → ℕ
digits_in (decimal p s n) = p
digits_in (fixed_size_list t k n) = k
digits_in _ = 0

abbrev scale_in : ℤ → Term → ℤ
scale_in d (decimal p s n) = s
scale_in d _ = d

pub Same-decimal : (p q : ℕ) (s r : ℤ) (m n : Bool) → Same (decimal p s m) (decimal q r n)
    → (p ≡ q) × (s ≡ r)
Same-decimal p q s r m n h = (ap digits_in h, ap (scale_in s) h)

pub Same-size : (t u : Term) (k l : ℕ) (m n : Bool)
    → Same (fixed_size_list t k m) (fixed_size_list u l n) → k ≡ l
Same-size t u k l m n h = ap digits_in h

abbrev id_in : Term → List ℕ
id_in (extension id t m) = id
id_in _ = []

abbrev metadata_in : Term → Option (List ℕ)
metadata_in (extension id t m) = m
metadata_in _ = None

pub Same-extension : (x y : List ℕ) (t u : Term) (m n : Option (List ℕ))
    → Same (extension x t m) (extension y u n) → (x ≡ y) × (m ≡ n)
Same-extension x y t u m n h = (ap id_in h, ap metadata_in h)

abbrev names_in : Term → List (List ℕ)
names_in (structure fs n) = names_of fs
names_in _ = []

pub Same-names : (fs gs : Fields) (m n : Bool) → Same (structure fs m) (structure gs n)
    → names_of fs ≡ names_of gs
Same-names fs gs m n h = sym (names_of-bare fs) ∙ ap names_in h ∙ names_of-bare gs
