-- Room for types.
use Rattle.std.proofs.Common.{◌≡◌, ℕ, zero, suc, ◌+◌, ◌-◌, ◌<◌, ◌≤◌, Bool, true, false, List, length, Option, Some, None, refl, sym, ap, subst, arith}
use Rattle.std.specs.Prelude.{◌&&◌, is_some, nat_le, slice_get, max}
use Rattle.std.proofs.lemmas.Bool.{leb-true, le-leb}
use Rattle.vortex_terms.specs.Term.{Term, null, boolean, primitive, decimal, utf8, binary, structure, list, extension, fixed_size_list, Fields, no_fields, field}
use Rattle.vortex_terms.specs.Types.{levels, nodes, text_length, fields_levels, fields_nodes, fields_text_length, names_of, field_at, field_count, is_within, most_levels, most_nodes, most_text}
use Rattle.vortex_json.specs.declared.room.Room.{Room}
use Rattle.vortex_json.specs.inner.Room.{Leaves, TypeLeaves, FieldsLeave}
use Rattle.vortex_types.proofs.Fields.{fields_drop, drop_all}

-- ---- fields by place

pub no_name : (fs : Fields) (i : ℕ) → i < field_count fs → None ≡ slice_get (names_of fs) i → ⊥
no_name no_fields i h e = absurd (omega arith)
no_name (field x t fs) zero h e = absurd (cc)
no_name (field x t fs) (suc i) h e = no_name fs i (omega arith) e

pub no_type : (fs : Fields) (i : ℕ) → i < field_count fs → None ≡ field_at fs i → ⊥
no_type no_fields i h e = absurd (omega arith)
no_type (field x t fs) zero h e = absurd (cc)
no_type (field x t fs) (suc i) h e = no_type fs i (omega arith) e

same_first : (x y : List ℕ) (t u : Term) (fs : Fields) → Some x ≡ Some y → Some t ≡ Some u → field x t fs ≡ field y u fs
same_first x y t u fs e h = cc

pub drop_one : (fs : Fields) (i : ℕ) (x : List ℕ) (t : Term) → slice_get (names_of fs) i ≡ Some x → field_at fs i ≡ Some t → fields_drop i fs ≡ field x t (fields_drop (suc i) fs)
drop_one no_fields i x t e h = absurd (cc)
drop_one (field y u fs) zero x t e h = same_first y x u t fs e h
drop_one (field y u fs) (suc i) x t e h = drop_one fs i x t e h

-- ---- room

-- what is left after a node and a text before it
pub around : (d deep many long size : ℕ) (room inside : Room) (r : Option Room) → 0 < d → room.nodes ≡ 1 + inside.nodes → room.text ≡ size + inside.text → Leaves (d - 1) deep many long inside r → Leaves d (1 + deep) (1 + many) (size + long) room r
around d deep many long size room inside (Some rest) h n t l = (omega (arith, l.0), omega (arith, l.1), omega (arith, l.2))
around d deep many long size room inside None h n t l = λ a b c. l (omega arith) (omega arith) (omega arith)

pub no_level : (t : Term) → 0 < levels t
no_level null = omega arith
no_level (boolean n) = omega arith
no_level (primitive k n) = omega arith
no_level (decimal p s n) = omega arith
no_level (utf8 n) = omega arith
no_level (binary n) = omega arith
no_level (structure fs n) = omega arith
no_level (list t n) = omega arith
no_level (extension id t m) = omega arith
no_level (fixed_size_list t k n) = omega arith

pub no_node : (t : Term) → 0 < nodes t
no_node null = omega arith
no_node (boolean n) = omega arith
no_node (primitive k n) = omega arith
no_node (decimal p s n) = omega arith
no_node (utf8 n) = omega arith
no_node (binary n) = omega arith
no_node (structure fs n) = omega arith
no_node (list t n) = omega arith
no_node (extension id t m) = omega arith
no_node (fixed_size_list t k n) = omega arith

-- ---- fields

-- how the room of all the fields stands to that of those from a place on
pub record Goes (depth : ℕ) (fs : Fields) (i : ℕ) (room left : Room) : Type 0 where
  pub levels_hold : fields_levels fs ≤ max depth (fields_levels (fields_drop i fs))
  pub levels_fall : fields_levels (fields_drop i fs) ≤ fields_levels fs
  pub nodes_hold : fields_nodes fs + left.nodes ≡ fields_nodes (fields_drop i fs) + room.nodes
  pub text_holds : fields_text_length fs + left.text ≡ fields_text_length (fields_drop i fs) + room.text

pub goes_first : (depth : ℕ) (fs : Fields) (room : Room) → Goes depth fs 0 room room
goes_first depth fs room = record { levels_hold = omega arith; levels_fall = omega arith; nodes_hold = omega arith; text_holds = omega arith }

goes_field : (depth : ℕ) (fs rest_fs : Fields) (room left after_name rest : Room) (x : List ℕ) (t : Term) (i : ℕ) → fields_drop i fs ≡ field x t (fields_drop (suc i) fs) → Goes depth fs i room left → Leaves 0 0 0 (length x) left (Some after_name) → TypeLeaves depth t after_name (Some rest) → Goes depth fs (suc i) room rest
goes_field depth fs rest_fs room left after_name rest x t i e g name part =
    let deep : fields_levels (fields_drop i fs) ≡ max (levels t) (fields_levels (fields_drop (suc i) fs)) = ap fields_levels e in
    let many : fields_nodes (fields_drop i fs) ≡ nodes t + fields_nodes (fields_drop (suc i) fs) = ap fields_nodes e in
    let long : fields_text_length (fields_drop i fs) ≡ length x + text_length t + fields_text_length (fields_drop (suc i) fs) = ap fields_text_length e in
    record {
      levels_hold = omega (arith, deep, g.levels_hold, part.0);
      levels_fall = omega (arith, deep, g.levels_fall);
      nodes_hold = omega (arith, many, g.nodes_hold, name.1, part.1);
      text_holds = omega (arith, long, g.text_holds, name.2, part.2);
    }

pub goes_on : (depth : ℕ) (fs : Fields) (room left after_name rest : Room) (x : List ℕ) (t : Term) (i : ℕ) → slice_get (names_of fs) i ≡ Some x → field_at fs i ≡ Some t → Goes depth fs i room left → Leaves 0 0 0 (length x) left (Some after_name) → TypeLeaves depth t after_name (Some rest) → Goes depth fs (i + 1) room rest
goes_on depth fs room left after_name rest x t i names types g name part =
    let one : suc i ≡ i + 1 = omega arith in
    subst (λ j. Goes depth fs j room rest) one (goes_field depth fs no_fields room left after_name rest x t i (drop_one fs i x t names types) g name part)

long_name : (fs : Fields) (i : ℕ) (x : List ℕ) → slice_get (names_of fs) i ≡ Some x → length x ≤ fields_text_length (fields_drop i fs)
long_name no_fields i x e = absurd (cc)
long_name (field y t fs) zero x e = let same : length y ≡ length x = same_length y x e in omega arith
  where
    same_length : (y x : List ℕ) → Some y ≡ Some x → length y ≡ length x
    same_length y x e = cc
long_name (field y t fs) (suc i) x e = long_name fs i x e

-- there is no room for a name
pub ends_at_name : (depth : ℕ) (fs : Fields) (room left : Room) (x : List ℕ) (i : ℕ) → slice_get (names_of fs) i ≡ Some x → Goes depth fs i room left → Leaves 0 0 0 (length x) left None → FieldsLeave depth fs room None
ends_at_name depth fs room left x i names g name =
    λ a b c. name (omega arith) (omega arith) (omega (arith, long_name fs i x names, g.text_holds))

-- there is no room for a type
pub ends_at_type : (depth : ℕ) (fs : Fields) (room left after_name : Room) (x : List ℕ) (t : Term) (i : ℕ) → slice_get (names_of fs) i ≡ Some x → field_at fs i ≡ Some t → Goes depth fs i room left → Leaves 0 0 0 (length x) left (Some after_name) → TypeLeaves depth t after_name None → FieldsLeave depth fs room None
ends_at_type depth fs room left after_name x t i names types g name part =
    let e = drop_one fs i x t names types in
    let deep : fields_levels (fields_drop i fs) ≡ max (levels t) (fields_levels (fields_drop (suc i) fs)) = ap fields_levels e in
    let many : fields_nodes (fields_drop i fs) ≡ nodes t + fields_nodes (fields_drop (suc i) fs) = ap fields_nodes e in
    let long : fields_text_length (fields_drop i fs) ≡ length x + text_length t + fields_text_length (fields_drop (suc i) fs) = ap fields_text_length e in
    λ a b c. part (omega (arith, deep, g.levels_fall)) (omega (arith, many, g.nodes_hold, name.1)) (omega (arith, long, g.text_holds, name.2))

-- all fields were gone over
pub goes_all : (depth : ℕ) (fs : Fields) (room left : Room) (i : ℕ) → field_count fs ≡ i → Goes depth fs i room left → FieldsLeave depth fs room (Some left)
goes_all depth fs room left i e g =
    let none = drop_all fs i e in
    let deep : fields_levels (fields_drop i fs) ≡ 0 = ap fields_levels none in
    let many : fields_nodes (fields_drop i fs) ≡ 0 = ap fields_nodes none in
    let long : fields_text_length (fields_drop i fs) ≡ 0 = ap fields_text_length none in
    (omega (arith, deep, g.levels_hold), omega (arith, many, g.nodes_hold), omega (arith, long, g.text_holds))

-- ---- the limits

-- there is room for a whole type exactly where it is within the limits
pub within : (t : Term) (room : Room) (r : Option Room) → room.nodes ≡ most_nodes → room.text ≡ most_text → TypeLeaves most_levels t room r → is_some r ≡ is_within t
within t room (Some rest) n x l =
    let deep : nat_le (levels t) most_levels ≡ true = le-leb _ _ l.0 in
    let many : nat_le (nodes t) most_nodes ≡ true = le-leb _ _ (omega (arith, l.1)) in
    let long : nat_le (text_length t) most_text ≡ true = le-leb _ _ (omega (arith, l.2)) in
    sym (rw (deep, many, long) refl)
within t room None n x l = sym (by (nat_le (levels t) most_levels) refl (nat_le (nodes t) most_nodes) refl (nat_le (text_length t) most_text) refl)
  where
    by : (a : Bool) → nat_le (levels t) most_levels ≡ a → (b : Bool) → nat_le (nodes t) most_nodes ≡ b → (c : Bool) → nat_le (text_length t) most_text ≡ c → (a && b && c) ≡ false
    by true d true m true s = absurd (l (leb-true _ _ d) (omega (arith, leb-true _ _ m)) (omega (arith, leb-true _ _ s)))
    by true d true m false s = refl
    by true d false m true s = refl
    by true d false m false s = refl
    by false d true m true s = refl
    by false d true m false s = refl
    by false d false m true s = refl
    by false d false m false s = refl
