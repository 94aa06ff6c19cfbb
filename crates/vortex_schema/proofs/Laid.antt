-- A type that is laid out stands in the bytes.
use Rattle.std.proofs.Common.{◌≡◌, ℕ, suc, ◌+◌, ◌-◌, ◌*◌, ◌^◌, ◌%◌, ◌<◌, ◌≤◌, Bool, true, false, cond, leb, List, length, Option, Some, None, ℤ, pos, negsuc, refl, ap, ◌∙◌, arith}
use Rattle.std.specs.Prelude.{◌==◌, FitsSigned, not}
use Rattle.std.specs.Int.{w8}
use Rattle.std.specs.Option.{option_map}
use Rattle.std.proofs.lemmas.Bool.{le-leb}
use Rattle.std.proofs.Math.Nat.{mod-lt}
use borrow.Author.Differences.{fits_in, le_T}
use Rattle.vortex_prelude.specs.Absent.{or_zero, or_else}
use Rattle.vortex_flat.specs.Table.{field_at}
use Rattle.vortex_flat.specs.Targets.{VectorShape, root_place, table_place, follow, bytes_field, bytes_at, if_present}
use Rattle.vortex_flat.specs.Tree.{one, four, offsets, text, SlotTrees, no_slots, number_slot, signed_slot, target_slot, tree_count}
use Rattle.vortex_flat.specs.Layout.{gap, size_of, trees_size, tables_fit, targets_fit, trees_fit, whole_of, layout_of}
use Rattle.vortex_flat.specs.Reads.{Reads, ReadsSlots, ReadsTrees, InRange, SlotsInRange, TreesInRange}
use Rattle.vortex_flat.specs.Finish.{IsTable}
use Rattle.vortex_flat.proofs.Finished.{again}
use Rattle.vortex_flat.proofs.ReadsLemmas.{table_field-at_target, text_field-at_target, bytes_field-at_target, vector_field-at_target, table_element-at_follow, text_element-at_follow}
use Rattle.vortex_terms.specs.Term.{WholeKind, unsigned_8, unsigned_16, unsigned_32, unsigned_64, signed_8, signed_16, signed_32, signed_64, Term, null, boolean, primitive, decimal, utf8, binary, structure, list, extension, fixed_size_list, Fields, no_fields, field}
use Rattle.vortex_terms.specs.TermCode.{kind_number}
use Rattle.vortex_terms.specs.Types.{Legal, LegalFields, IsDecimal, Bounded, nodes, text_length, fields_nodes, fields_text_length, field_count}
use Rattle.vortex_schema.specs.Schema.{flag}
use Rattle.vortex_schema.specs.declared.schema.TheConstants.{DTYPE_TABLE, STRUCT_NAMES, STRUCT_DTYPES, LIST_ELEMENT, EXTENSION_ID, EXTENSION_STORAGE, EXTENSION_METADATA, FIXED_ELEMENT}
use Rattle.vortex_schema.specs.TypeAt.{IsKindAt, IsTypeAt, AreFieldsAt, IsTypeIn}
use Rattle.vortex_schema.specs.TypeTree.{dtype_tree, flag_slot, metadata_slot, name_trees, tree_of_type, type_trees}

-- ---- a DType

-- a DType and its table, read
record ReadDType (b : List ℕ) (p : ℕ) (t : Term) (slots : SlotTrees) : Type 0 where
  place : ℕ
  kind : IsKindAt b p t place
  slots_read : ReadsSlots b place 0 slots

dtype_read : (b : List ℕ) (p : ℕ) (t : Term) (slots : SlotTrees) → Reads b p (dtype_tree t slots) → ReadDType b p t slots
dtype_read b p t slots h = record {
  place = h.1.1.0.0;
  kind = (ap or_zero h.1.0, table_field-at_target b p DTYPE_TABLE h.1.1.0.0 h.1.1.0.1 h.1.1.0.2.0);
  slots_read = h.1.1.0.2.1;
}

flag_read : (b : List ℕ) (q k : ℕ) (n : Bool) → ReadsSlots b q k (flag_slot n) → flag b q k ≡ Some n
flag_read b q k true h = ap (λ o. option_map (λ n. not (n == 0)) (or_zero o)) h.0
flag_read b q k false h = ap (λ o. option_map (λ n. not (n == 0)) (or_zero o)) h.0

number_read : (o : Option (Option ℕ)) (n : ℕ) → o ≡ Some (Some n) → or_zero o ≡ Some n
number_read o n e = ap or_zero e

scale_read : (o : Option (Option ℤ)) (z : ℤ) → o ≡ Some (Some z) → or_else (pos 0) o ≡ Some z
scale_read o z e = ap (or_else (pos 0)) e

-- the tree of a type is a table
place_read : (t : Term) (b : List ℕ) (p : ℕ) → Reads b p (tree_of_type t) → table_place b p ≡ Some p
place_read null b p h = h.0
place_read (boolean n) b p h = h.0
place_read (primitive k n) b p h = h.0
place_read (decimal s z n) b p h = h.0
place_read (utf8 n) b p h = h.0
place_read (binary n) b p h = h.0
place_read (structure fs n) b p h = h.0
place_read (list t n) b p h = h.0
place_read (extension id t m) b p h = h.0
place_read (fixed_size_list t k n) b p h = h.0

no_bytes : (b : List ℕ) (q k : ℕ) → field_at b q k 4 ≡ Some None → bytes_field b q k ≡ Some None
no_bytes b q k e = ap (λ o. if_present (if_present o (follow b)) (bytes_at b)) e

metadata_read : (b : List ℕ) (q k : ℕ) (m : Option (List ℕ)) → ReadsSlots b q k (metadata_slot m) → bytes_field b q k ≡ Some m
metadata_read b q k None h = no_bytes b q k (h.0 4)
metadata_read b q k (Some m) h = bytes_field-at_target b q k h.0.0 m h.0.1 h.0.2

count_names : (fs : Fields) → tree_count (name_trees fs) ≡ field_count fs
count_names no_fields = refl
count_names (field x t fs) = ap suc (count_names fs)

count_types : (fs : Fields) → tree_count (type_trees fs) ≡ field_count fs
count_types no_fields = refl
count_types (field x t fs) = ap suc (count_types fs)

mutual
  pub type_read : (t : Term) (b : List ℕ) (p : ℕ) → Reads b p (tree_of_type t) → IsTypeAt b p t
  type_read null b p h = let d = dtype_read b p null no_slots h in (d.place, d.kind)
  type_read (boolean n) b p h = let d = dtype_read b p (boolean n) (flag_slot n) h in (d.place, d.kind, flag_read b d.place 0 n d.slots_read)
  type_read (primitive k n) b p h =
      let d = dtype_read b p (primitive k n) (number_slot one (kind_number k) (flag_slot n)) h in
      (d.place, d.kind, number_read _ (kind_number k) d.slots_read.0, flag_read b d.place 1 n d.slots_read.1)
  type_read (decimal s z n) b p h =
      let d = dtype_read b p (decimal s z n) (number_slot one s (signed_slot z (flag_slot n))) h in
      (d.place, d.kind, number_read _ s d.slots_read.0, scale_read _ z d.slots_read.1.0, flag_read b d.place 2 n d.slots_read.1.1)
  type_read (utf8 n) b p h = let d = dtype_read b p (utf8 n) (flag_slot n) h in (d.place, d.kind, flag_read b d.place 0 n d.slots_read)
  type_read (binary n) b p h = let d = dtype_read b p (binary n) (flag_slot n) h in (d.place, d.kind, flag_read b d.place 0 n d.slots_read)
  type_read (structure fs n) b p h =
      let d = dtype_read b p (structure fs n) (target_slot (offsets (name_trees fs)) (target_slot (offsets (type_trees fs)) (flag_slot n))) h in
      let names = d.slots_read.0 in
      let types = d.slots_read.1.0 in (
        d.place,
        names.2.0,
        types.2.0,
        d.kind,
        vector_field-at_target b d.place STRUCT_NAMES names.0 4 names.2.0 names.1 names.2.1,
        names.2.2 ∙ count_names fs,
        vector_field-at_target b d.place STRUCT_DTYPES types.0 4 types.2.0 types.1 types.2.1,
        types.2.2 ∙ count_types fs,
        fields_read fs b names.2.0 types.2.0 0 names.2.3 types.2.3,
        flag_read b d.place 2 n d.slots_read.1.1,
      )
  type_read (list t n) b p h =
      let d = dtype_read b p (list t n) (target_slot (tree_of_type t) (flag_slot n)) h in
      let element = d.slots_read.0 in (
        d.place,
        element.0,
        d.kind,
        table_field-at_target b d.place LIST_ELEMENT element.0 element.1 (place_read t b element.0 element.2),
        type_read t b element.0 element.2,
        flag_read b d.place 1 n d.slots_read.1,
      )
  type_read (extension id t m) b p h =
      let d = dtype_read b p (extension id t m) (target_slot (text id) (target_slot (tree_of_type t) (metadata_slot m))) h in
      let name = d.slots_read.0 in
      let storage = d.slots_read.1.0 in (
        d.place,
        storage.0,
        d.kind,
        text_field-at_target b d.place EXTENSION_ID name.0 id name.1 name.2,
        table_field-at_target b d.place EXTENSION_STORAGE storage.0 storage.1 (place_read t b storage.0 storage.2),
        type_read t b storage.0 storage.2,
        metadata_read b d.place EXTENSION_METADATA m d.slots_read.1.1,
      )
  type_read (fixed_size_list t k n) b p h =
      let d = dtype_read b p (fixed_size_list t k n) (target_slot (tree_of_type t) (number_slot four k (flag_slot n))) h in
      let element = d.slots_read.0 in (
        d.place,
        element.0,
        d.kind,
        table_field-at_target b d.place FIXED_ELEMENT element.0 element.1 (place_read t b element.0 element.2),
        type_read t b element.0 element.2,
        number_read _ k d.slots_read.1.0,
        flag_read b d.place 2 n d.slots_read.1.1,
      )

  fields_read : (fs : Fields) (b : List ℕ) (names types : VectorShape) (i : ℕ) → ReadsTrees b names i (name_trees fs) → ReadsTrees b types i (type_trees fs) → AreFieldsAt b names types i fs
  fields_read no_fields b names types i h k = tt
  fields_read (field x t fs) b names types i h k = (
    text_element-at_follow b names i h.0.0 x h.0.1 h.0.2,
    (k.0.0, table_element-at_follow b types i k.0.0 k.0.1 (place_read t b k.0.0 k.0.2), type_read t b k.0.0 k.0.2),
    fields_read fs b names types (suc i) h.1 k.1,
  )

-- ---- numbers in range

flag-small : (n : Bool) → cond n 1 0 < 2 ^ 8
flag-small true = omega arith
flag-small false = omega arith

kind-small : (k : WholeKind) → kind_number k < 2 ^ 8
kind-small unsigned_8 = omega arith
kind-small unsigned_16 = omega arith
kind-small unsigned_32 = omega arith
kind-small unsigned_64 = omega arith
kind-small signed_8 = omega arith
kind-small signed_16 = omega arith
kind-small signed_32 = omega arith
kind-small signed_64 = omega arith

scale-small : (s : ℕ) (z : ℤ) → IsDecimal s z → FitsSigned w8 z
scale-small s z h = fits_in w8 z (omega (arith, le_T (negsuc 127) z h.2.le, le_T z (pos s) h.3.le, h.1))

flag-range : (n : Bool) → SlotsInRange (flag_slot n)
flag-range n = (flag-small n, tt)

metadata-range : (m : Option (List ℕ)) → SlotsInRange (metadata_slot m)
metadata-range None = tt
metadata-range (Some m) = (tt, tt)

names-range : (fs : Fields) → LegalFields fs → TreesInRange (name_trees fs)
names-range no_fields h = tt
names-range (field x t fs) h = (h.0, names-range fs h.2)

mutual
  pub type-range : (t : Term) → Legal t → InRange (tree_of_type t)
  type-range null h = (omega arith, (tt, tt))
  type-range (boolean n) h = (omega arith, (flag-range n, tt))
  type-range (primitive k n) h = (omega arith, ((kind-small k, flag-range n), tt))
  type-range (decimal s z n) h = (omega arith, ((omega (arith, h.1), (scale-small s z h, flag-range n)), tt))
  type-range (utf8 n) h = (omega arith, (flag-range n, tt))
  type-range (binary n) h = (omega arith, (flag-range n, tt))
  type-range (structure fs n) h = (omega arith, ((names-range fs h, (types-range fs h, flag-range n)), tt))
  type-range (list t n) h = (omega arith, ((type-range t h, flag-range n), tt))
  type-range (extension id t m) h = (omega arith, ((h.0, (type-range t h.3, metadata-range m)), tt))
  type-range (fixed_size_list t k n) h = (omega arith, ((type-range t h.1, (h.0, flag-range n)), tt))

  types-range : (fs : Fields) → LegalFields fs → TreesInRange (type_trees fs)
  types-range no_fields h = tt
  types-range (field x t fs) h = (type-range t h.1, types-range fs h.2)

type-table : (t : Term) → IsTable (tree_of_type t)
type-table null = tt
type-table (boolean n) = tt
type-table (primitive k n) = tt
type-table (decimal s z n) = tt
type-table (utf8 n) = tt
type-table (binary n) = tt
type-table (structure fs n) = tt
type-table (list t n) = tt
type-table (extension id t m) = tt
type-table (fixed_size_list t k n) = tt

-- the type stands at the root of its layout
pub record LaidAt (b : List ℕ) (t : Term) : Type 0 where
  pub root : ℕ
  pub root_is : root_place b ≡ Some root
  pub stands : IsTypeAt b root t

pub laid_at : (t : Term) (b : List ℕ) → Legal t → layout_of (tree_of_type t) ≡ Some b → LaidAt b t
laid_at t b legal e =
    let h = again (tree_of_type t) b (type-table t) (type-range t legal) e in
    record { root = h.0; root_is = h.1; stands = type_read t b h.0 h.2 }

pub laid_in : (t : Term) (b : List ℕ) → Bounded t → layout_of (tree_of_type t) ≡ Some b → IsTypeIn b t
laid_in t b bounded e = let l = laid_at t b bounded.legal e in (l.root, l.root_is, l.stands, bounded)

-- ---- sizes

metadata-fits : (m : Option (List ℕ)) → targets_fit (metadata_slot m) ≡ true
metadata-fits None = refl
metadata-fits (Some m) = refl

names-fit : (fs : Fields) → trees_fit (name_trees fs) ≡ true
names-fit no_fields = refl
names-fit (field x t fs) = names-fit fs

mutual
  pub type-fits : (t : Term) → tables_fit (tree_of_type t) ≡ true
  type-fits null = refl
  type-fits (boolean n) = refl
  type-fits (primitive k n) = refl
  type-fits (decimal s z n) = refl
  type-fits (utf8 n) = refl
  type-fits (binary n) = refl
  type-fits (structure fs n) = rw (names-fit fs, types-fit fs) refl
  type-fits (list t n) = rw (type-fits t) refl
  type-fits (extension id t None) = rw (type-fits t) refl
  type-fits (extension id t (Some m)) = rw (type-fits t) refl
  type-fits (fixed_size_list t k n) = rw (type-fits t) refl

  types-fit : (fs : Fields) → trees_fit (type_trees fs) ≡ true
  types-fit no_fields = refl
  types-fit (field x t fs) = rw (type-fits t, types-fit fs) refl

gap-small : (n : ℕ) → gap n < 8
gap-small n = mod-lt (8 - n % 8) (omega arith)

-- what hangs on the fields of a struct, with eight bytes for the offsets of each
mutual
  pub type-size : (t : Term) → size_of (tree_of_type t) + 20 ≤ 128 * nodes t + text_length t
  type-size null = omega arith
  type-size (boolean n) = omega arith
  type-size (primitive k n) = omega arith
  type-size (decimal s z n) = omega arith
  type-size (utf8 n) = omega arith
  type-size (binary n) = omega arith
  type-size (structure fs n) =
      let names = gap-small (4 + 4 * tree_count (name_trees fs)) in
      let types = gap-small (4 + 4 * tree_count (type_trees fs)) in
      omega (arith, names, types, count_names fs, count_types fs, fields-size fs)
  type-size (list t n) = omega (arith, type-size t)
  type-size (extension id t None) = omega (arith, gap-small (5 + length id), type-size t)
  type-size (extension id t (Some m)) = omega (arith, gap-small (5 + length id), gap-small (4 + length m), type-size t)
  type-size (fixed_size_list t k n) = omega (arith, type-size t)

  fields-size : (fs : Fields) → trees_size (name_trees fs) + trees_size (type_trees fs) + 8 * field_count fs ≤ 128 * fields_nodes fs + fields_text_length fs
  fields-size no_fields = omega arith
  fields-size (field x t fs) = omega (arith, gap-small (5 + length x), type-size t, fields-size fs)

-- a bounded type has a layout
pub bounded_laid : (t : Term) → Bounded t → layout_of (tree_of_type t) ≡ Some (whole_of (tree_of_type t))
unfolding layout_of
bounded_laid t bounded =
    let small : leb (8 + size_of (tree_of_type t)) 4294967295 ≡ true = le-leb _ _ (omega (arith, type-size t, bounded.few_nodes, bounded.little_text)) in
    rw (type-fits t, small) refl
