-- What is said of the steps of a path, from what is said of its selectors.
use Rattle.std.proofs.Common.{◌≡◌, ℕ, Bool, true, false, ◌&&◌, List, [], ◌∷◌, ◌++◌, refl, sym}
use Rattle.std.specs.Cmp.Lexicographic.{pointwise}
use Rattle.std.specs.Hash as fed
use Rattle.std.specs.Hash.{HashWrites, slice}
use Rattle.std.specs.List.{flat_map}
use Rattle.std.proofs.lemmas.List.{length-map}
use Rattle.vortex_terms.specs.Path.{by_name, element, path_part_eq}
use Rattle.vortex_names.specs.declared.selector.Field.{Field}
use Rattle.vortex_names.specs.declared.selector.Field.TheVariants as fields
use Rattle.vortex_dtype.specs.Paths.{part_of, parts_of, path_eq, part_writes, path_writes}

module _ (E : Field → Field → Bool)
    (both : (x y : List ℕ) → E (fields.Name x) (fields.Name y) ≡ path_part_eq (by_name x) (by_name y))
    (left : (x : List ℕ) → E (fields.Name x) fields.ElementType ≡ false)
    (right : (y : List ℕ) → E fields.ElementType (fields.Name y) ≡ false)
    (neither : E fields.ElementType fields.ElementType ≡ true) where
  one : (a b : Field) → E a b ≡ path_part_eq (part_of a) (part_of b)
  one (fields.Name x) (fields.Name y) = both x y
  one (fields.Name x) fields.ElementType = left x
  one fields.ElementType (fields.Name y) = right y
  one fields.ElementType fields.ElementType = neither

  pub equal_steps : (xs ys : List Field) → pointwise E xs ys ≡ path_eq (parts_of xs) (parts_of ys)
  equal_steps [] [] = refl
  equal_steps [] (y ∷ ys) = refl
  equal_steps (x ∷ xs) [] = refl
  equal_steps (x ∷ xs) (y ∷ ys) = λ i. one x y i && equal_steps xs ys i

module _ (F : Field → HashWrites)
    (named : (x : List ℕ) → F (fields.Name x) ≡ part_writes (by_name x))
    (unnamed : F fields.ElementType ≡ part_writes element) where
  of_one : (a : Field) → F a ≡ part_writes (part_of a)
  of_one (fields.Name x) = named x
  of_one fields.ElementType = unnamed

  of_each : (xs : List Field) → flat_map F xs ≡ flat_map part_writes (parts_of xs)
  of_each [] = refl
  of_each (x ∷ xs) = λ i. of_one x i ++ of_each xs i

  pub fed_steps : (xs : List Field) → slice F xs ≡ path_writes (parts_of xs)
  fed_steps xs = λ i. fed.usize (sym (length-map xs part_of) i) ++ of_each xs i
