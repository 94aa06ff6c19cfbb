-- What masks select, and what they do one step further in.
use Rattle.std.proofs.Common.{◌≡◌, Bool, true, false, ◌&&◌, List, [], ◌∷◌, length, nat_eq, ◌++◌, Ok, refl, sym, ap, ◌∙◌, true≢false}
use Rattle.std.specs.Prelude.{◌↔◌, Result}
use Rattle.std.specs.Cmp.Lexicographic.{pointwise_decides}
use Rattle.std.specs.Result.{is_ok, result_unwrap_or}
use Rattle.std.proofs.Math.Dec.{eqb-suc-zero}
use Rattle.vortex_terms.specs.Path.{PathPart, element, path_part_eq}
use Rattle.vortex_terms.specs.PathLaws.{path_part_eq-Decides}
use Rattle.vortex_names.specs.declared.error.DTypeError.{DTypeError}
use Rattle.vortex_dtype.specs.Paths.{path_eq}
use Rattle.vortex_dtype.specs.Masks.{IsStepInto, begins_with, selects, selects_all, stepped}
use Rattle.vortex_dtype.specs.declared.masks.FieldMask.{FieldMask}
use Rattle.vortex_dtype.specs.declared.masks.FieldMask.TheVariants.{All, Prefix, Exact}

pub begins_root : (front : List PathPart) → begins_with front [] ≡ nat_eq (length front) 0
begins_root [] = refl
begins_root (a ∷ front) = sym (eqb-suc-zero (length front))

pub only_root : (only : List PathPart) → path_eq only [] ≡ nat_eq (length only) 0
only_root [] = refl
only_root (a ∷ only) = sym (eqb-suc-zero (length only))

-- what is behind an equal step decides
behind : (a b : PathPart) (rest : Bool) → a ≡ b → rest ≡ (path_part_eq a b && rest)
behind a b rest e = sym (ap (λ (c : Bool). c && rest) ((path_part_eq-Decides a b).1 e))

same_mask : (a b : FieldMask) → ◌≡◌ {A = Result FieldMask DTypeError} (Ok a) (Ok b) → (path : List PathPart) → selects b path ≡ selects a path
same_mask a b e path = ap (λ r. selects (result_unwrap_or r a) path) (sym e)

pub stepped_into : (mask inner : FieldMask) → stepped mask ≡ Ok inner → IsStepInto mask inner
stepped_into All inner e part path f = same_mask All inner e path
stepped_into (Prefix []) inner e part path f = same_mask All inner e path
stepped_into (Prefix (a ∷ [])) inner e part path f = same_mask All inner e path ∙ behind a part true f
stepped_into (Prefix (a ∷ (b ∷ front))) inner e part path f =
    same_mask (Prefix (b ∷ front)) inner e path ∙ behind a part (begins_with (b ∷ front) path) f
stepped_into (Exact []) inner e part path f = absurd (true≢false (sym (ap is_ok e)))
stepped_into (Exact (a ∷ only)) inner e part path f =
    same_mask (Exact only) inner e path ∙ behind a part (path_eq only path) f

-- ---- which paths a mask selects

both_true : (a b : Bool) → (a && b) ≡ true → (a ≡ true) × (b ≡ true)
both_true true b h = (refl, h)
both_true false b h = absurd (true≢false (sym h))

begun : (front rest : List PathPart) → begins_with front (front ++ rest) ≡ true
begun [] rest = refl
begun (a ∷ front) rest = λ i. (path_part_eq-Decides a a).1 refl i && begun front rest i

rest_of : (front path : List PathPart) → begins_with front path ≡ true → (rest : List PathPart) × (path ≡ front ++ rest)
rest_of [] path h = (path, refl)
rest_of (a ∷ front) [] h = absurd (true≢false (sym h))
rest_of (a ∷ front) (b ∷ path) h =
    let parts = both_true (path_part_eq a b) (begins_with front path) h in
    let found = rest_of front path parts.1 in
    (found.0, λ i. (sym ((path_part_eq-Decides a b).0 parts.0)) i ∷ found.1 i)

pub prefix_selects : (front path : List PathPart) → (selects (Prefix front) path ≡ true) ↔ ((rest : List PathPart) × (path ≡ front ++ rest))
prefix_selects front path = (λ h. rest_of front path h, λ h. ap (begins_with front) h.1 ∙ begun front h.0)

pub exact_selects : (only path : List PathPart) → (selects (Exact only) path ≡ true) ↔ (path ≡ only)
exact_selects only path =
    (λ h. sym ((pointwise_decides path_part_eq-Decides only path).0 h), λ h. (pointwise_decides path_part_eq-Decides only path).1 (sym h))

pub all_selected : (mask : FieldMask) (b : Bool) → b ≡ selects_all mask
    → (b ≡ true → (path : List PathPart) → selects mask path ≡ true) × (((path : List PathPart) → selects mask path ≡ true) → b ≡ true)
all_selected mask b e = (λ h. (both mask).0 (sym e ∙ h), λ h. e ∙ (both mask).1 h)
  where
    never : {A : Type 0} → false ≡ true → A
    never h = absurd (true≢false (sym h))

    both : (mask : FieldMask) → (selects_all mask ≡ true → (path : List PathPart) → selects mask path ≡ true) × (((path : List PathPart) → selects mask path ≡ true) → selects_all mask ≡ true)
    both All = (λ h path. refl, λ h. refl)
    both (Prefix []) = (λ h path. refl, λ h. refl)
    both (Prefix (a ∷ front)) = (λ h. never (sym (eqb-suc-zero (length front)) ∙ h), λ h. never (h []))
    both (Exact []) = (λ h. never h, λ h. never (h (element ∷ [])))
    both (Exact (a ∷ only)) = (λ h. never h, λ h. never (h []))
