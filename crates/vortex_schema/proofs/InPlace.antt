-- A bounded type, read with its parts left where they stand.
use Rattle.std.proofs.Common.{◌≡◌, ℕ, zero, suc, ◌+◌, ◌-◌, ◌<◌, ◌≤◌, Bool, true, false, cond, eqb, List, length, Option, Some, None, refl, sym, ap, subst, ◌∙◌, arith}
use Rattle.std.specs.Prelude.{◌↔◌, is_some, option_and_then, slice_get, unwrap_or}
use Rattle.std.specs.Option.{option_map, option_map_or, option_flatten}
use Rattle.std.proofs.lemmas.Bool.{eqb-true}
use Rattle.vortex_flat.specs.Table.{TableShape, table_at, root_at}
use Rattle.vortex_flat.specs.Targets.{VectorShape, TableView, VectorView, table_view, vector_view, root_place, table_place, table_field, vector_field, text_field, bytes_field, table_element, text_element}
use Rattle.vortex_flat.proofs.TableLemmas.{stands}
use Rattle.vortex_schema.specs.declared.schema.TheConstants.{STRUCT_NAMES, STRUCT_DTYPES, STRUCT_NULLABLE, EXTENSION_ID, EXTENSION_STORAGE, EXTENSION_METADATA}
use Rattle.vortex_schema.specs.Schema.{flag}
use Rattle.vortex_terms.specs.Term.{Term, null, boolean, primitive, decimal, utf8, binary, structure, list, extension, fixed_size_list, Fields, no_fields, field}
use Rattle.vortex_terms.specs.Types.{IsBytes, Legal, LegalFields, Bounded, most_levels, most_nodes, most_text, levels, nodes, text_length, fields_levels, fields_nodes, fields_text_length, field_count, field_at, names_of}
use Rattle.vortex_schema.specs.declared.budget.Budget.{Budget}
use Rattle.vortex_schema.specs.TypeAt.{IsKindAt, IsTypeAt, AreFieldsAt, IsTypeIn}
use Rattle.vortex_schema.specs.Budget.{after_text}
use Rattle.vortex_schema.specs.Kind.{kind_of, is_extension_kind}
use Rattle.vortex_terms.specs.TestLaws.{is_decimal-Decides}
use Rattle.vortex_schema.specs.Reading.{Found, Reader, left_of, around, kind_at, named_type_at, fields_at, struct_at, storage_at, extension_at, body_at, dtype_at, type_at, whole, bounded_type_at, bounded_type_in}
use Rattle.vortex_schema.specs.inner.InPlace.{after_type, in_place, inside, found_in, fields_in}
use Rattle.vortex_schema.proofs.Options.{bound, mapped, refused, some_same, not_none}
use Rattle.vortex_schema.proofs.OneType.{one_type}
use Rattle.vortex_schema.proofs.Walking.{one_level}
use Rattle.vortex_schema.proofs.Found.{type_found}
use Rattle.vortex_schema.proofs.Standing.{after_fields, found_type, within, beside, dtype_there, primitive_there, decimal_there, list_there, fixed_there, storage_there, extension_there, struct_there, named_there, no_fields_there, more_fields_there, leaf_there, type_there}

-- ---- bounded types

pub bounded_there : (t : Term) (b : List ℕ) (p : ℕ) → IsTypeAt b p t → Bounded t → bounded_type_at b p ≡ Some t
unfolding bounded_type_at
bounded_there t b p s bounded = ap (option_map (λ (f : Found Term). f.found)) (type_there t b most_levels whole p s bounded.legal bounded.few_levels bounded.few_nodes bounded.little_text)

pub bounded_found : (t : Term) (b : List ℕ) (p : ℕ) → IsBytes b → bounded_type_at b p ≡ Some t → IsTypeAt b p t × Bounded t
unfolding bounded_type_at
bounded_found t b p bytes e =
    let m = mapped (λ (f : Found Term). f.found) (type_at b most_levels whole p) t e in
    let found = type_found b most_levels bytes whole p m.0 m.1 in
    (subst (IsTypeAt b p) m.2 found.stands, subst Bounded m.2 (record { legal = found.legal; few_levels = found.few_levels; few_nodes = omega (arith, found.nodes_taken); little_text = omega (arith, found.text_taken) }))

-- what is found is exactly what stands there
pub bounded_exactly : (t : Term) (b : List ℕ) (p : ℕ) → IsBytes b → (bounded_type_at b p ≡ Some t) ↔ (IsTypeAt b p t × Bounded t)
bounded_exactly t b p bytes = (bounded_found t b p bytes, λ h. bounded_there t b p h.0 h.1)

pub bounded_in : (t : Term) (b : List ℕ) → IsTypeIn b t → bounded_type_in b ≡ Some t
unfolding bounded_type_in
bounded_in t b h = ap (option_and_then (bounded_type_at b)) h.1 ∙ bounded_there t b h.0 h.2 h.3

pub found_in_root : (t : Term) (b : List ℕ) → IsBytes b → bounded_type_in b ≡ Some t → IsTypeIn b t
unfolding bounded_type_in
found_in_root t b bytes e =
    let p = bound (root_place b) (bounded_type_at b) t e in
    let h = bounded_found t b p.0 bytes p.2 in
    (p.0, p.1, h.0, h.1)

pub bounded_in_exactly : (t : Term) (b : List ℕ) → IsBytes b → (bounded_type_in b ≡ Some t) ↔ IsTypeIn b t
bounded_in_exactly t b bytes = (found_in_root t b bytes, bounded_in t b)

pub none_exactly : (b : List ℕ) (p : ℕ) → IsBytes b → (bounded_type_at b p ≡ None) ↔ ((t : Term) → IsTypeAt b p t → Bounded t → ⊥)
none_exactly b p bytes = (λ none t s l. not_none (bounded_type_at b p) none (ap is_some (bounded_there t b p s l)), λ h. by (bounded_type_at b p) (λ t e. let s = bounded_found t b p bytes e in h t s.0 s.1))
  where
    by : (o : Option Term) → ((t : Term) → o ≡ Some t → ⊥) → o ≡ None
    by None h = refl
    by (Some t) h = absurd (h t refl)

-- at most one type stands at the root
pub one_in : (t u : Term) (b : List ℕ) → IsTypeIn b t → IsTypeIn b u → t ≡ u
one_in t u b h k =
    let same = some_same (root_place b) h.0 k.0 h.1 k.1 in
    one_type t u b k.0 (subst (λ p. IsTypeAt b p t) same h.2) k.2

-- ---- fields in place

pub some_is : {A : Type 0} (o : Option A) → is_some o ≡ true → (x : A) × (o ≡ Some x)
some_is None e = absurd cc
some_is (Some x) e = (x, refl)

-- the field at a place
pub record FieldThere (b : List ℕ) (names types : VectorShape) (i : ℕ) (fs : Fields) (j : ℕ) : Type 0 where
  pub name : List ℕ
  pub place : ℕ
  pub dtype : Term
  pub name_is : text_element b names i ≡ Some name
  pub place_is : table_element b types i ≡ Some place
  pub dtype_is : bounded_type_at b place ≡ Some dtype
  pub name_at : slice_get (names_of fs) j ≡ Some name
  pub dtype_at : field_at fs j ≡ Some dtype

-- a field's name and type
record NamedThere (b : List ℕ) (names types : VectorShape) (i : ℕ) (f : Found (List ℕ × Term)) : Type 0 where
  place : ℕ
  name_is : text_element b names i ≡ Some f.found.0
  place_is : table_element b types i ≡ Some place
  dtype_is : bounded_type_at b place ≡ Some f.found.1

named : (b : List ℕ) (names types : VectorShape) (i : ℕ) (left : Budget) (f : Found (List ℕ × Term)) → named_type_at b (in_place b) names types i left ≡ Some f → NamedThere b names types i f
unfolding named_type_at
named b names types i left f e =
    let x = bound (text_element b names i) (λ x. option_and_then (λ rest. option_and_then (λ r. option_and_then (λ (g : Found Term). Some (record { found = (x, g.found); left = g.left })) (in_place b rest r)) (table_element b types i)) (after_text (length x) left)) f e in
    let rest = bound (after_text (length x.0) left) (λ rest. option_and_then (λ r. option_and_then (λ (g : Found Term). Some (record { found = (x.0, g.found); left = g.left })) (in_place b rest r)) (table_element b types i)) f x.2 in
    let r = bound (table_element b types i) (λ r. option_and_then (λ (g : Found Term). Some (record { found = (x.0, g.found); left = g.left })) (in_place b rest.0 r)) f rest.2 in
    let g = bound (in_place b rest.0 r.0) (λ (g : Found Term). Some (record { found = (x.0, g.found); left = g.left })) f r.2 in
    let t = mapped (λ t. record { found = t; left = after_type t rest.0 }) (bounded_type_at b r.0) g.0 g.1 in
    subst (NamedThere b names types i) (whole_of x.0 g.0 f g.2) (record {
      place = r.0;
      name_is = x.1;
      place_is = r.1;
      dtype_is = t.1 ∙ ap (λ (h : Found Term). Some h.found) t.2;
    })
  where
    whole_of : (x : List ℕ) (g : Found Term) (f : Found (List ℕ × Term)) → Some (record { found = (x, g.found); left = g.left }) ≡ Some f → record { found = (x, g.found); left = g.left } ≡ f
    whole_of x g f e = cc

some_fields : (f g : Found Fields) → Some f ≡ Some g → f ≡ g
some_fields f g e = cc

moved : (b : List ℕ) (names types : VectorShape) (i k : ℕ) (fs : Fields) (j : ℕ) → i ≡ k → FieldThere b names types i fs j → FieldThere b names types k fs j
moved b names types i k fs j e h = subst (λ n. FieldThere b names types n fs j) e h

later : (b : List ℕ) (names types : VectorShape) (i : ℕ) (x : List ℕ) (t : Term) (fs : Fields) (j : ℕ) → FieldThere b names types i fs j → FieldThere b names types i (field x t fs) (suc j)
later b names types i x t fs j h = record { name = h.name; place = h.place; dtype = h.dtype; name_is = h.name_is; place_is = h.place_is; dtype_is = h.dtype_is; name_at = h.name_at; dtype_at = h.dtype_at }

field_there : (b : List ℕ) (names types : VectorShape) (count i : ℕ) (left : Budget) (f : Found Fields) (j : ℕ) → fields_at b (in_place b) names types count i left ≡ Some f → j < count → FieldThere b names types (i + j) f.found j
unfolding fields_at
field_there b names types zero i left f j e lt = absurd (omega arith)
field_there b names types (suc count) i left f j e lt =
    let first = bound (named_type_at b (in_place b) names types i left) (λ (first : Found (List ℕ × Term)). option_and_then (λ (others : Found Fields). Some (record { found = field first.found.0 first.found.1 others.found; left = others.left })) (fields_at b (in_place b) names types count (i + 1) first.left)) f e in
    let others = bound (fields_at b (in_place b) names types count (i + 1) first.0.left) (λ (others : Found Fields). Some (record { found = field first.0.found.0 first.0.found.1 others.found; left = others.left })) f first.2 in
    let same = some_fields (record { found = field first.0.found.0 first.0.found.1 others.0.found; left = others.0.left }) f others.2 in
    subst (λ (g : Found Fields). FieldThere b names types (i + j) g.found j) same
    (by first.0 others.0 (named b names types i left first.0 first.1) j lt (λ k lt. field_there b names types count (i + 1) first.0.left others.0 k others.1 lt))
  where
    by : (first : Found (List ℕ × Term)) (others : Found Fields) → NamedThere b names types i first → (j : ℕ) → j < suc count → ((k : ℕ) → k < count → FieldThere b names types (i + 1 + k) others.found k) → FieldThere b names types (i + j) (field first.found.0 first.found.1 others.found) j
    by first others h zero lt rest = moved b names types i (i + 0) _ 0 (omega arith) (record { name = first.found.0; place = h.place; dtype = first.found.1; name_is = h.name_is; place_is = h.place_is; dtype_is = h.dtype_is; name_at = refl; dtype_at = refl })
    by first others h (suc k) lt rest = moved b names types (i + 1 + k) (i + suc k) _ (suc k) (omega arith) (later b names types (i + 1 + k) first.found.0 first.found.1 others.found k (rest k (omega (arith, lt))))

field_total : (b : List ℕ) (names types : VectorShape) (count i : ℕ) (left : Budget) (f : Found Fields) → fields_at b (in_place b) names types count i left ≡ Some f → field_count f.found ≡ count
unfolding fields_at
field_total b names types zero i left f e = sym (ap (λ (g : Found Fields). field_count g.found) (some_fields (record { found = no_fields; left = left }) f e))
field_total b names types (suc count) i left f e =
    let first = bound (named_type_at b (in_place b) names types i left) (λ (first : Found (List ℕ × Term)). option_and_then (λ (others : Found Fields). Some (record { found = field first.found.0 first.found.1 others.found; left = others.left })) (fields_at b (in_place b) names types count (i + 1) first.left)) f e in
    let others = bound (fields_at b (in_place b) names types count (i + 1) first.0.left) (λ (others : Found Fields). Some (record { found = field first.0.found.0 first.0.found.1 others.found; left = others.left })) f first.2 in
    let same = some_fields (record { found = field first.0.found.0 first.0.found.1 others.0.found; left = others.0.left }) f others.2 in
    sym (ap (λ (g : Found Fields). field_count g.found) same) ∙ ap suc (field_total b names types count (i + 1) first.0.left others.0 others.1)

-- the fields that two vectors lead to, by their places
pub fields_there_at : (b : List ℕ) (names types : VectorShape) (j : ℕ) → is_some (fields_in b names types) ≡ true → j < field_count (unwrap_or (fields_in b names types) no_fields) → FieldThere b names types j (unwrap_or (fields_in b names types) no_fields) j
unfolding fields_in
fields_there_at b names types j e lt =
    let fs = some_is (found_in (fields_at b (in_place b) names types names.count 0 inside)) e in
    let f = mapped (λ (g : Found Fields). g.found) (fields_at b (in_place b) names types names.count 0 inside) fs.0 fs.1 in
    let total = field_total b names types names.count 0 inside f.0 f.1 in
    let same : f.0.found ≡ unwrap_or (found_in (fields_at b (in_place b) names types names.count 0 inside)) no_fields = f.2 ∙ sym (ap (λ o. unwrap_or o no_fields) fs.1) in
    subst (λ gs. FieldThere b names types j gs j) same
    (moved b names types (0 + j) j f.0.found j (omega arith) (field_there b names types names.count 0 inside f.0 j f.1 (omega (arith, lt, total, ap field_count same))))

pub count_of : (b : List ℕ) (names types : VectorShape) → is_some (fields_in b names types) ≡ true → names.count ≡ field_count (unwrap_or (fields_in b names types) no_fields)
unfolding fields_in
count_of b names types e =
    let fs = some_is (found_in (fields_at b (in_place b) names types names.count 0 inside)) e in
    let f = mapped (λ (g : Found Fields). g.found) (fields_at b (in_place b) names types names.count 0 inside) fs.0 fs.1 in
    sym (field_total b names types names.count 0 inside f.0 f.1) ∙ ap field_count (f.2 ∙ sym (ap (λ o. unwrap_or o no_fields) fs.1))

-- ---- types in place

part_there : (b : List ℕ) (left : Budget) (p : ℕ) (t : Term) → IsTypeAt b p t → Legal t → levels t ≤ most_levels → nodes t ≤ most_nodes → text_length t ≤ most_text → in_place b left p ≡ found_type t left
part_there b left p t s legal lv nd tx = ap (option_map (λ t. record { found = t; left = after_type t left })) (bounded_there t b p s (record { legal = legal; few_levels = lv; few_nodes = nd; little_text = tx }))

fields_in_place : (fs : Fields) (b : List ℕ) (names types : VectorShape) (i : ℕ) (left : Budget) → AreFieldsAt b names types i fs → LegalFields fs → fields_levels fs ≤ most_levels → fields_nodes fs ≤ most_nodes → fields_text_length fs ≤ most_text → fields_text_length fs ≤ left.text
    → fields_at b (in_place b) names types (field_count fs) i left ≡ Some (record { found = fs; left = after_fields fs left })
fields_in_place no_fields b names types i left s legal lv nd tx room = no_fields_there b (in_place b) names types i left
fields_in_place (field x t fs) b names types i left s legal lv nd tx room =
    more_fields_there b (in_place b) names types i left x t fs
    (named_there b (in_place b) names types i left x s.1.0 t s.0 (omega (arith, room)) s.1.1 (part_there b (beside (length x) left) s.1.0 t s.1.2 legal.1 (omega (arith, lv)) (omega (arith, nd)) (omega (arith, tx))))
    (fields_in_place fs b names types (i + 1) (after_type t (beside (length x) left)) (subst (λ j. AreFieldsAt b names types j fs) (let next : suc i ≡ i + 1 = omega arith in next) s.2) legal.2 (omega (arith, lv)) (omega (arith, nd)) (omega (arith, tx)) (omega (arith, room)))

by_body : (b : List ℕ) (p q : ℕ) (t : Term) → IsKindAt b p t q → body_at b (in_place b) (kind_of t) (within whole) q ≡ found_type t whole → dtype_at b (in_place b) whole p ≡ found_type t whole
by_body b p q t kind e = dtype_there b (in_place b) whole p t q kind (omega arith) ∙ e

dtype_in_place : (t : Term) (b : List ℕ) (p : ℕ) → IsTypeAt b p t → Bounded t → dtype_at b (in_place b) whole p ≡ found_type t whole
dtype_in_place null b p s l = by_body b p s.0 null s.1 (leaf_there null whole refl refl)
dtype_in_place (boolean f) b p s l = by_body b p s.0 (boolean f) s.1 (rw s.2 (leaf_there (boolean f) whole refl refl))
dtype_in_place (primitive k f) b p s l = by_body b p s.0 (primitive k f) s.1 (rw (primitive_there b s.0 k f s.2 s.3) (leaf_there (primitive k f) whole refl refl))
dtype_in_place (decimal d z f) b p s l = by_body b p s.0 (decimal d z f) s.1 (rw (decimal_there b s.0 d z f s.2 s.3 s.4 ((is_decimal-Decides d z).1 l.legal)) (leaf_there (decimal d z f) whole refl refl))
dtype_in_place (utf8 f) b p s l = by_body b p s.0 (utf8 f) s.1 (rw s.2 (leaf_there (utf8 f) whole refl refl))
dtype_in_place (binary f) b p s l = by_body b p s.0 (binary f) s.1 (rw s.2 (leaf_there (binary f) whole refl refl))
dtype_in_place (structure fs f) b p s l =
    by_body b p s.0 (structure fs f) s.3 (struct_there b (in_place b) whole s.0 s.1 s.2 fs f s.4 s.5 s.6 s.7 s.9
    (fields_in_place fs b s.1 s.2 0 (within whole) s.8 l.legal (omega (arith, l.few_levels)) (omega (arith, l.few_nodes)) l.little_text l.little_text))
dtype_in_place (list t f) b p s l =
    by_body b p s.0 (list t f) s.2 (list_there b (in_place b) whole s.0 s.1 t f s.3 s.5
    (part_there b (within whole) s.1 t s.4 l.legal (omega (arith, l.few_levels)) (omega (arith, l.few_nodes)) l.little_text))
dtype_in_place (extension id t m) b p s l =
    by_body b p s.0 (extension id t m) s.2 (extension_there b (in_place b) whole s.0 s.1 id t m s.3 s.6 (storage_there b s.0 s.1 t s.4 s.5 l.legal.2) (omega (arith, l.little_text))
    (part_there b (beside (length id + option_map_or length m 0) (within whole)) s.1 t s.5 l.legal.3 (omega (arith, l.few_levels)) (omega (arith, l.few_nodes)) (omega (arith, l.little_text))))
dtype_in_place (fixed_size_list t k f) b p s l =
    by_body b p s.0 (fixed_size_list t k f) s.2 (fixed_there b (in_place b) whole s.0 s.1 t k f s.3 s.5 s.6
    (part_there b (within whole) s.1 t s.4 l.legal.1 (omega (arith, l.few_levels)) (omega (arith, l.few_nodes)) l.little_text))

-- what is found is found with its parts in place
pub found_in_place : (b : List ℕ) (p : ℕ) (t : Term) → IsBytes b → bounded_type_at b p ≡ Some t → dtype_at b (in_place b) whole p ≡ found_type t whole
found_in_place b p t bytes e = let h = bounded_found t b p bytes e in dtype_in_place t b p h.0 h.1

-- ---- tables

no_kind : (b : List ℕ) (p : ℕ) → table_at b p ≡ None → kind_at b p ≡ None
unfolding kind_at
no_kind b p e = rw e refl

no_dtype : (b : List ℕ) (read : Reader) (left : Budget) (p : ℕ) → table_at b p ≡ None → dtype_at b read left p ≡ None
unfolding dtype_at
no_dtype b read left p e = rw (no_kind b p e) refl

no_bounded : (b : List ℕ) (p : ℕ) → table_at b p ≡ None → bounded_type_at b p ≡ None
unfolding bounded_type_at
no_bounded b p e = ap (λ o. found_in o) (one_level b most_levels whole p (omega arith) ∙ no_dtype b (type_at b (most_levels - 1)) whole p e)

-- where no table stands, no type does
pub no_table : (b : List ℕ) (p : ℕ) → option_map (table_view b) (table_place b p) ≡ None → bounded_type_at b p ≡ None
no_table b p e = no_bounded b p (by (table_at b p) e)
  where
    by : (o : Option TableShape) → option_map (table_view b) (option_map (λ (t : TableShape). t.place) o) ≡ None → o ≡ None
    by None e = refl
    by (Some t) e = absurd cc

-- the table at a place
pub same_place : (b : List ℕ) (p : ℕ) (v : TableView) → option_map (table_view b) (table_place b p) ≡ Some v → (v.buffer ≡ b) × (v.place ≡ p)
same_place b p v e =
    let q = mapped (table_view b) (table_place b p) v e in
    let t = mapped (λ (t : TableShape). t.place) (table_at b p) q.0 q.1 in
    (sym (ap (λ (w : TableView). w.buffer) q.2), sym (ap (λ (w : TableView). w.place) q.2) ∙ sym t.2 ∙ (stands b p t.0 t.1).place)

there : (b : List ℕ) (p : ℕ) (v : TableView) (o : Option Budget) → option_map (table_view b) (table_place b p) ≡ Some v → left_of (type_at v.buffer most_levels whole v.place) ≡ o → left_of (type_at b most_levels whole p) ≡ o
there b p v o e h = let same = same_place b p v e in (λ i. left_of (type_at (sym same.0 i) most_levels whole (sym same.1 i))) ∙ h

pub walked : (b : List ℕ) (p : ℕ) (v : TableView) (l : Budget) → option_map (table_view b) (table_place b p) ≡ Some v → left_of (type_at v.buffer most_levels whole v.place) ≡ Some l → is_some (bounded_type_at b p) ≡ true
unfolding bounded_type_at
walked b p v l e h = by (type_at b most_levels whole p) (there b p v (Some l) e h)
  where
    by : (o : Option (Found Term)) → left_of o ≡ Some l → is_some (found_in o) ≡ true
    by None e = absurd cc
    by (Some f) e = refl

pub not_walked : (b : List ℕ) (p : ℕ) (v : TableView) → option_map (table_view b) (table_place b p) ≡ Some v → left_of (type_at v.buffer most_levels whole v.place) ≡ None → bounded_type_at b p ≡ None
unfolding bounded_type_at
not_walked b p v e h = by (type_at b most_levels whole p) (there b p v None e h)
  where
    by : (o : Option (Found Term)) → left_of o ≡ None → found_in o ≡ None
    by None e = refl
    by (Some f) e = absurd cc

pub no_root : (b : List ℕ) → option_map (λ (t : TableShape). table_view b t.place) (root_at b) ≡ None → bounded_type_in b ≡ None
unfolding bounded_type_in
no_root b e = by (root_at b) e
  where
    by : (o : Option TableShape) → option_map (λ (t : TableShape). table_view b t.place) o ≡ None → option_and_then (bounded_type_at b) (option_map (λ (t : TableShape). t.place) o) ≡ None
    by None e = refl
    by (Some t) e = absurd cc

pub root_is : (b : List ℕ) (v : TableView) → option_map (λ (t : TableShape). table_view b t.place) (root_at b) ≡ Some v → bounded_type_in b ≡ bounded_type_at b v.place
unfolding bounded_type_in
root_is b v e = by (root_at b) e
  where
    by : (o : Option TableShape) → option_map (λ (t : TableShape). table_view b t.place) o ≡ Some v → option_and_then (bounded_type_at b) (option_map (λ (t : TableShape). t.place) o) ≡ bounded_type_at b v.place
    by None e = absurd cc
    by (Some t) e = let same : table_view b t.place ≡ v = cc in ap (λ (w : TableView). bounded_type_at b w.place) same

-- a type that is known to stand there is one
pub known_table : (b : List ℕ) (p : ℕ) → is_some (bounded_type_at b p) ≡ true → option_map (table_view b) (table_place b p) ≡ None → ⊥
known_table b p h e = not_none (bounded_type_at b p) (no_table b p e) h

pub known_dtype : (b : List ℕ) (p : ℕ) → IsBytes b → is_some (bounded_type_at b p) ≡ true → is_some (dtype_at b (in_place b) whole p) ≡ true
known_dtype b p bytes h = let t = some_is (bounded_type_at b p) h in ap is_some (found_in_place b p t.0 bytes t.1)

pub known_type : (b : List ℕ) (p : ℕ) → IsBytes b → is_some (bounded_type_at b p) ≡ true → found_in (dtype_at b (in_place b) whole p) ≡ bounded_type_at b p
known_type b p bytes h = let t = some_is (bounded_type_at b p) h in ap (λ o. found_in o) (found_in_place b p t.0 bytes t.1) ∙ sym t.1

-- what is so where a type is known to stand
pub known_stands : (b : List ℕ) (p : ℕ) → IsBytes b → is_some (bounded_type_at b p) ≡ true → IsTypeAt b p (unwrap_or (bounded_type_at b p) null) × Bounded (unwrap_or (bounded_type_at b p) null)
known_stands b p bytes h =
    let t = some_is (bounded_type_at b p) h in
    bounded_found (unwrap_or (bounded_type_at b p) null) b p bytes (t.1 ∙ ap (λ o. Some (unwrap_or o null)) (sym t.1))

-- ---- a struct in place

-- the vector that a field leads to
pub vector_same : (b : List ℕ) (o : Option VectorShape) (v : VectorView) → option_map (vector_view b) o ≡ Some v → (v.buffer ≡ b) × (o ≡ Some v.shape)
vector_same b None v e = absurd cc
vector_same b (Some s) v e = let same : vector_view b s ≡ v = cc in (sym (ap (λ (w : VectorView). w.buffer) same), ap (λ (w : VectorView). Some w.shape) same)

pub record StructInPlace (b : List ℕ) (q : ℕ) (names types : VectorShape) (n : Bool) : Type 0 where
  pub counts : types.count ≡ names.count
  pub stand : is_some (fields_in b names types) ≡ true
  pub whole_is : found_in (struct_at b (in_place b) inside q) ≡ Some (structure (unwrap_or (fields_in b names types) no_fields) n)

-- a struct of the fields that were found
abbrev struct_of : Bool → Option (Found Fields) → Option (Found Term)
struct_of n fields = option_and_then (λ (fs : Found Fields). Some (record { found = structure fs.found n; left = fs.left })) fields

-- a struct of so many fields
abbrev struct_by : List ℕ → VectorShape → VectorShape → Bool → Option ℕ → Option (Found Term)
struct_by b names types n count = option_and_then (λ count. struct_of n (fields_at b (in_place b) names types count 0 inside)) count

struct_found_in : (n : Bool) (fields : Option (Found Fields)) → is_some (struct_of n fields) ≡ true → (is_some (found_in fields) ≡ true) × (found_in (struct_of n fields) ≡ Some (structure (unwrap_or (found_in fields) no_fields) n))
struct_found_in n None e = absurd cc
struct_found_in n (Some fs) e = (refl, refl)

struct_is : (b : List ℕ) (q : ℕ) (names types : VectorShape) (n : Bool) → option_flatten (vector_field b q STRUCT_NAMES 4) ≡ Some names → option_flatten (vector_field b q STRUCT_DTYPES 4) ≡ Some types → flag b q STRUCT_NULLABLE ≡ Some n
    → struct_at b (in_place b) inside q ≡ struct_by b names types n (cond (eqb names.count types.count) (Some names.count) None)
unfolding struct_at
struct_is b q names types n e h g = rw (e, h, g) refl

struct_none : (b : List ℕ) (names types : VectorShape) (n : Bool) (c : Bool) → is_some (struct_by b names types n (cond c (Some names.count) None)) ≡ true → (c ≡ true) × (is_some (struct_of n (fields_at b (in_place b) names types names.count 0 inside)) ≡ true)
struct_none b names types n true e = (refl, e)
struct_none b names types n false e = absurd cc

pub struct_in_place : (b : List ℕ) (q : ℕ) (names types : VectorShape) (n : Bool) → option_flatten (vector_field b q STRUCT_NAMES 4) ≡ Some names → option_flatten (vector_field b q STRUCT_DTYPES 4) ≡ Some types → flag b q STRUCT_NULLABLE ≡ Some n
    → is_some (struct_at b (in_place b) inside q) ≡ true → StructInPlace b q names types n
unfolding fields_in
struct_in_place b q names types n e h g known =
    let is = struct_is b q names types n e h g in
    let both = struct_none b names types n (eqb names.count types.count) (sym (ap (λ o. is_some o) is) ∙ known) in
    let fields = struct_found_in n (fields_at b (in_place b) names types names.count 0 inside) both.1 in
    record {
      counts = sym (eqb-true _ _ both.0);
      stand = fields.0;
      whole_is = ap (λ o. found_in o) is ∙ ap (λ c. found_in (struct_by b names types n (cond c (Some names.count) None))) both.0 ∙ fields.1;
    }

-- ---- an extension in place

pub record ExtensionInPlace (b : List ℕ) (q : ℕ) (id : List ℕ) (m : Option (List ℕ)) : Type 0 where
  pub place : ℕ
  pub storage : Term
  pub place_is : option_flatten (table_field b q EXTENSION_STORAGE) ≡ Some place
  pub storage_is : bounded_type_at b place ≡ Some storage
  pub whole_is : found_in (extension_at b (in_place b) inside q) ≡ Some (extension id storage m)

storage_place : (b : List ℕ) (q r : ℕ) → storage_at b q ≡ Some r → option_flatten (table_field b q EXTENSION_STORAGE) ≡ Some r
unfolding storage_at
storage_place b q r e =
    let s = bound (option_flatten (table_field b q EXTENSION_STORAGE)) (λ s. option_and_then (λ kind. cond (is_extension_kind kind) None (Some s)) (kind_at b s)) r e in
    let k = bound (kind_at b s.0) (λ kind. cond (is_extension_kind kind) None (Some s.0)) r s.2 in
    s.1 ∙ ap Some (refused (is_extension_kind k.0) s.0 r k.2).1

pub extension_in_place : (b : List ℕ) (q : ℕ) (id : List ℕ) (m : Option (List ℕ)) → option_flatten (text_field b q EXTENSION_ID) ≡ Some id → bytes_field b q EXTENSION_METADATA ≡ Some m → is_some (extension_at b (in_place b) inside q) ≡ true → ExtensionInPlace b q id m
unfolding extension_at
extension_in_place b q id m e h known =
    let extra = length id + option_map_or length m 0 in
    let form : Option Budget → Option (Found Term) = λ o. option_and_then (λ rest. option_and_then (λ r. around (λ t. extension id t m) (in_place b rest r)) (storage_at b q)) o in
    let whole_by : extension_at b (in_place b) inside q ≡ form (after_text extra inside) = rw (e, h) refl in
    let f = some_is (extension_at b (in_place b) inside q) known in
    let rest = bound (after_text extra inside) (λ rest. option_and_then (λ r. around (λ t. extension id t m) (in_place b rest r)) (storage_at b q)) f.0 (sym whole_by ∙ f.1) in
    let r = bound (storage_at b q) (λ r. around (λ t. extension id t m) (in_place b rest.0 r)) f.0 rest.2 in
    let g = mapped (λ (g : Found Term). record { found = extension id g.found m; left = g.left }) (in_place b rest.0 r.0) f.0 r.2 in
    let t = mapped (λ t. record { found = t; left = after_type t rest.0 }) (bounded_type_at b r.0) g.0 g.1 in
    record {
      place = r.0;
      storage = t.0;
      place_is = storage_place b q r.0 r.1;
      storage_is = t.1;
      whole_is = ap (λ o. found_in o) f.1 ∙ ap (λ (x : Found Term). Some x.found) (sym g.2) ∙ ap (λ (x : Found Term). Some (extension id x.found m)) (sym t.2);
    }

-- the table that a field leads to
pub place_same : (b : List ℕ) (o : Option ℕ) (r : ℕ) (v : TableView) → o ≡ Some r → option_map (table_view b) o ≡ Some v → v.place ≡ r
place_same b None r v e h = absurd cc
place_same b (Some s) r v e h =
    let same : table_view b s ≡ v = cc in
    let here : s ≡ r = cc in
    sym (ap (λ (w : TableView). w.place) same) ∙ here
