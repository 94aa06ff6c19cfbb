-- Types that are written.
use Rattle.std.proofs.Common.{◌≡◌, ℕ, zero, suc, ◌+◌, true, false, List, [], ◌∷◌, ◌++◌, Option, Some, None, refl, sym, ap, subst, ◌∙◌, arith, true≢false}
use Rattle.std.specs.Prelude.{slice_get, IsSome}
use Rattle.vortex_flat.specs.declared.item.Item.{Item}
use Rattle.vortex_flat.specs.Tree.{one, Tree, table, text, no_slots, number_slot, target_slot, Trees, no_trees, tree}
use Rattle.vortex_flat.specs.Item.{tree_of, trees_from}
use Rattle.vortex_flat.specs.Layout.{layout_of, whole_of}
use Rattle.vortex_flat.specs.Finish.{IsTable}
use Rattle.vortex_flat.specs.Targets.{root_place}
use Rattle.vortex_terms.specs.Term.{Term, null, boolean, primitive, decimal, utf8, binary, structure, list, extension, fixed_size_list, Fields, no_fields, field}
use Rattle.vortex_terms.specs.Types.{Bounded, Legal, is_within, type_number, names_of, field_at, field_count}
use Rattle.vortex_terms.specs.TermLaws.{is_within-Decides}
use Rattle.vortex_terms.specs.TermCode.{kind_number}
use Rattle.vortex_number.specs.PType.{ptype_number}
use Rattle.vortex_number.specs.WholeKind.{whole_kind}
use Rattle.vortex_number.specs.declared.ptype.PType.{PType}
use Rattle.vortex_number.specs.declared.ptype.PType.TheVariants as ptypes
use Rattle.vortex_schema.specs.TypeAt.{IsTypeAt, IsTypeIn}
use Rattle.vortex_schema.specs.TypeTree.{tree_of_type, name_trees, type_trees}
use Rattle.vortex_schema.proofs.Laid.{bounded_laid, laid_in}
use Rattle.vortex_schema.proofs.OneType.{one_type}
use Rattle.vortex_types.specs.inner.Slots.{body_slots}
use Rattle.vortex_types.proofs.Fields.{fields_drop, drop_all}

-- ---- what is written is read again

same_place : (o : Option ℕ) (p q : ℕ) → o ≡ Some p → o ≡ Some q → p ≡ q
same_place o p q e h = cc

-- one type stands in a buffer
pub one_type_in : (t u : Term) (b : List ℕ) → IsTypeIn b t → IsTypeIn b u → u ≡ t
one_type_in t u b h k = one_type u t b h.0 (subst (λ p. IsTypeAt b p u) (same_place (root_place b) k.0 h.0 k.1 h.1) k.2) h.2

pub written_again : (t : Term) → Bounded t → (b : List ℕ) × (layout_of (tree_of_type t) ≡ Some b) × IsTypeIn b t × ((u : Term) → IsTypeIn b u → u ≡ t)
written_again t bounded =
    let laid = bounded_laid t bounded in
    let stands = laid_in t (whole_of (tree_of_type t)) bounded laid in
    (whole_of (tree_of_type t), laid, stands, λ u k. one_type_in t u (whole_of (tree_of_type t)) stands k)

-- ---- trees

-- the tree of a type is a DType with the slots of its kind
pub tree_of_body : (t : Term) → table (number_slot one (type_number t) (target_slot (table (body_slots t)) no_slots)) ≡ tree_of_type t
tree_of_body null = refl
tree_of_body (boolean n) = refl
tree_of_body (primitive k n) = refl
tree_of_body (decimal s z n) = refl
tree_of_body (utf8 n) = refl
tree_of_body (binary n) = refl
tree_of_body (structure fs n) = refl
tree_of_body (list t n) = refl
tree_of_body (extension id t m) = refl
tree_of_body (fixed_size_list t k n) = refl

pub is_table : (t : Term) → IsTable (tree_of_type t)
is_table t = subst IsTable (tree_of_body t) tt

pub ptype_kind : (p : PType) → ptype_number p ≡ kind_number (whole_kind p)
ptype_kind ptypes.U8 = refl
ptype_kind ptypes.U16 = refl
ptype_kind ptypes.U32 = refl
ptype_kind ptypes.U64 = refl
ptype_kind ptypes.I8 = refl
ptype_kind ptypes.I16 = refl
ptype_kind ptypes.I32 = refl
ptype_kind ptypes.I64 = refl

-- trees and then others
abbrev pub trees_append : Trees → Trees → Trees
trees_append no_trees us = us
trees_append (tree t ts) us = tree t (trees_append ts us)

trees_append-none : (ts : Trees) → trees_append ts no_trees ≡ ts
trees_append-none no_trees = refl
trees_append-none (tree t ts) = ap (tree t) (trees_append-none ts)

-- one more item
one_more : (xs : List Item) (x : Item) (us : Trees) → trees_append (trees_from (xs ++ x ∷ [])) us ≡ trees_append (trees_from xs) (tree (tree_of x) us)
one_more [] x us = refl
one_more (y ∷ xs) x us = ap (tree (tree_of y)) (one_more xs x us)

first_name : (x y : List ℕ) (ts : Trees) → Some x ≡ Some y → tree (text x) ts ≡ tree (text y) ts
first_name x y ts e = cc

name_on : (fs : Fields) (i : ℕ) (x : List ℕ) → slice_get (names_of fs) i ≡ Some x → name_trees (fields_drop i fs) ≡ tree (text x) (name_trees (fields_drop (suc i) fs))
name_on no_fields i x e = absurd (cc)
name_on (field y t fs) zero x e = first_name y x (name_trees fs) e
name_on (field y t fs) (suc i) x e = name_on fs i x e

first_type : (t u : Term) (ts : Trees) → Some t ≡ Some u → tree (tree_of_type t) ts ≡ tree (tree_of_type u) ts
first_type t u ts e = cc

type_on : (fs : Fields) (i : ℕ) (t : Term) → field_at fs i ≡ Some t → type_trees (fields_drop i fs) ≡ tree (tree_of_type t) (type_trees (fields_drop (suc i) fs))
type_on no_fields i t e = absurd (cc)
type_on (field y u fs) zero t e = first_type u t (type_trees fs) e
type_on (field y u fs) (suc i) t e = type_on fs i t e

-- the items so far are the trees, but for those of the fields that are left
abbrev pub Lay : (Fields → Trees) → Fields → ℕ → List Item → Type 0
Lay trees_of fs i xs = trees_append (trees_from xs) (trees_of (fields_drop i fs)) ≡ trees_of fs

lay_one : (trees_of : Fields → Trees) (fs : Fields) (xs : List Item) (x : Item) (u : Tree) (i : ℕ) → trees_of (fields_drop i fs) ≡ tree u (trees_of (fields_drop (suc i) fs)) → tree_of x ≡ u → Lay trees_of fs i xs → Lay trees_of fs (i + 1) (xs ++ x ∷ [])
lay_one trees_of fs xs x u i first e h =
    let next : suc i ≡ i + 1 = omega arith in
    one_more xs x (trees_of (fields_drop (i + 1) fs))
    ∙ ap (λ (v : Tree). trees_append (trees_from xs) (tree v (trees_of (fields_drop (i + 1) fs)))) e
    ∙ ap (λ (j : ℕ). trees_append (trees_from xs) (tree u (trees_of (fields_drop j fs)))) (sym next)
    ∙ ap (trees_append (trees_from xs)) (sym first) ∙ h

pub names_on : (fs : Fields) (xs : List Item) (x : Item) (name : List ℕ) (i : ℕ) → slice_get (names_of fs) i ≡ Some name → tree_of x ≡ text name → Lay name_trees fs i xs → Lay name_trees fs (i + 1) (xs ++ x ∷ [])
names_on fs xs x name i names e h = lay_one name_trees fs xs x (text name) i (name_on fs i name names) e h

pub types_on : (fs : Fields) (xs : List Item) (x : Item) (t : Term) (i : ℕ) → field_at fs i ≡ Some t → tree_of x ≡ tree_of_type t → Lay type_trees fs i xs → Lay type_trees fs (i + 1) (xs ++ x ∷ [])
types_on fs xs x t i types e h = lay_one type_trees fs xs x (tree_of_type t) i (type_on fs i t types) e h

pub names_all : (fs : Fields) (xs : List Item) (i : ℕ) → field_count fs ≡ i → Lay name_trees fs i xs → trees_from xs ≡ name_trees fs
names_all fs xs i e h = sym (trees_append-none (trees_from xs)) ∙ ap (λ (gs : Fields). trees_append (trees_from xs) (name_trees gs)) (sym (drop_all fs i e)) ∙ h

pub types_all : (fs : Fields) (xs : List Item) (i : ℕ) → field_count fs ≡ i → Lay type_trees fs i xs → trees_from xs ≡ type_trees fs
types_all fs xs i e h = sym (trees_append-none (trees_from xs)) ∙ ap (λ (gs : Fields). trees_append (trees_from xs) (type_trees gs)) (sym (drop_all fs i e)) ∙ h

-- ---- the answer

-- a legal type that is not within the limits is not bounded
pub not_bounded : (t : Term) → Legal t → is_within t ≡ false → Bounded t → ⊥
not_bounded t legal e h = true≢false (sym ((is_within-Decides t legal).1 h) ∙ e)

pub is_bounded : (t : Term) → Legal t → is_within t ≡ true → Bounded t
is_bounded t legal e = (is_within-Decides t legal).0 e

-- the tree of a bounded type can be laid out
pub table_laid : (t : Term) (x : Tree) → x ≡ tree_of_type t → IsTable x
table_laid t x e = subst IsTable (sym e) (is_table t)

pub has_layout : (t : Term) (x : Tree) → x ≡ tree_of_type t → Bounded t → IsSome (layout_of x)
has_layout t x e bounded = some_there (layout_of x) (whole_of (tree_of_type t)) (ap layout_of e ∙ bounded_laid t bounded)
  where
    some_there : (o : Option (List ℕ)) (b : List ℕ) → o ≡ Some b → IsSome o
    some_there None b h = absurd (cc)
    some_there (Some c) b h = refl

-- the layout stands for the type
pub laid_stands : (t : Term) (b : List ℕ) → Bounded t → layout_of (tree_of_type t) ≡ Some b → IsTypeIn b t
laid_stands t b bounded e = laid_in t b bounded e
