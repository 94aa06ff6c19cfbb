-- A node that is known to stand.
use Rattle.std.proofs.Common.{◌≡◌, ℕ, true, List, [], Option, Some, None, refl, sym, ap, ◌∙◌}
use Rattle.std.specs.Prelude.{is_some, unwrap_or, option_and_then}
use Rattle.std.specs.Option.{option_map}
use Rattle.vortex_prelude.specs.Absent.{or_zero, or_else}
use Rattle.vortex_flat.specs.Table.{TableShape, table_at, field_in}
use Rattle.vortex_flat.specs.Targets.{TableView, VectorView, VectorShape, vector_view, if_present, table_view, table_place, number_field, bytes_field, vector_field, or_empty}
use Rattle.vortex_flat.specs.Numbers.{number}
use Rattle.vortex_flat.proofs.TableLemmas.{stands}
use Rattle.vortex_body.specs.Body.{named_buffers}
use Rattle.vortex_body.specs.Reading.{Own, own_at}
use Rattle.vortex_body.specs.inner.Walked.{known_own}
use Rattle.vortex_body.specs.declared.schema.TheConstants.{NODE_ENCODING, NODE_METADATA, NODE_BUFFERS}
use Rattle.vortex_body.proofs.Found.{ByOwn, by_own}

mapped : {A B : Type 0} (f : A → B) (o : Option A) (y : B) → option_map f o ≡ Some y → (x : A) × (o ≡ Some x) × (f x ≡ y)
mapped f (Some x) y e = (x, refl, cc)
mapped f None y e = absurd cc

-- the table at a place
pub same_place : (b : List ℕ) (p : ℕ) (v : TableView) → option_map (table_view b) (table_place b p) ≡ Some v → (v.buffer ≡ b) × (v.place ≡ p)
same_place b p v e =
    let q = mapped (table_view b) (table_place b p) v e in
    let t = mapped (λ (t : TableShape). t.place) (table_at b p) q.0 q.1 in
    (sym (ap (λ (w : TableView). w.buffer) q.2), sym (ap (λ (w : TableView). w.place) q.2) ∙ sym t.2 ∙ (stands b p t.0 t.1).place)

some_or : (o : Option Own) (d : Own) → is_some o ≡ true → o ≡ Some (unwrap_or o d)
some_or None d e = absurd cc
some_or (Some x) d e = refl

known_is : (b : List ℕ) (buffers : List (List ℕ)) (p : ℕ) → is_some (own_at b buffers p) ≡ true → own_at b buffers p ≡ Some (known_own b buffers p)
known_is b buffers p h = some_or (own_at b buffers p) _ h

pub known_by : (b : List ℕ) (buffers : List (List ℕ)) (p : ℕ) → is_some (own_at b buffers p) ≡ true → ByOwn b buffers p (known_own b buffers p)
known_by b buffers p h = by_own b buffers p (known_own b buffers p) (known_is b buffers p h)

no_number : (b : List ℕ) (p k w : ℕ) (o : Option TableShape) → option_map (table_view b) (option_map (λ (t : TableShape). t.place) o) ≡ None → or_zero (if_present (option_and_then (λ t. field_in b t k w) o) (λ i. number b i w)) ≡ None
no_number b p k w None e = refl
no_number b p k w (Some t) e = absurd cc

none_some : {A : Type 0} (o : Option A) (x : A) → o ≡ None → o ≡ Some x → ⊥
none_some None x e h = cc
none_some (Some y) x e h = cc

-- a table stands there
pub known_table : (b : List ℕ) (buffers : List (List ℕ)) (p : ℕ) → is_some (own_at b buffers p) ≡ true → option_map (table_view b) (table_place b p) ≡ None → ⊥
known_table b buffers p h e =
    none_some (or_zero (number_field b p NODE_ENCODING 2)) (known_own b buffers p).encoding (no_number b p NODE_ENCODING 2 (table_at b p) e) (known_by b buffers p h).encoding_is

pub encoding_is : (b : List ℕ) (buffers : List (List ℕ)) (p : ℕ) → is_some (own_at b buffers p) ≡ true → or_zero (number_field b p NODE_ENCODING 2) ≡ Some (known_own b buffers p).encoding
encoding_is b buffers p h = (known_by b buffers p h).encoding_is

pub metadata_is : (b : List ℕ) (buffers : List (List ℕ)) (p : ℕ) → is_some (own_at b buffers p) ≡ true → or_else [] (bytes_field b p NODE_METADATA) ≡ Some (known_own b buffers p).metadata
metadata_is b buffers p h = (known_by b buffers p h).metadata_is

vector_none : (b : List ℕ) (o : Option VectorShape) (v : VectorShape) → option_map (vector_view b) o ≡ None → o ≡ Some v → ⊥
vector_none b None v e h = cc
vector_none b (Some w) v e h = cc

vector_same : (b c : List ℕ) (o : Option VectorShape) (v : VectorShape) (w : VectorView) → option_map (vector_view b) o ≡ Some w → o ≡ Some v → (w.buffer ≡ b) × (v ≡ w.shape)
vector_same b c None v w e h = absurd cc
vector_same b c (Some u) v w e h =
    let view : vector_view b u ≡ w = cc in
    let shape : u ≡ v = cc in
    (sym (ap (λ (x : VectorView). x.buffer) view), sym shape ∙ ap (λ (x : VectorView). x.shape) view)

pub no_places : (b : List ℕ) (buffers : List (List ℕ)) (p : ℕ) → is_some (own_at b buffers p) ≡ true → option_map (vector_view b) (or_empty 4 (vector_field b p NODE_BUFFERS 4)) ≡ None → ⊥
no_places b buffers p h e = let by = known_by b buffers p h in vector_none b (or_empty 4 (vector_field b p NODE_BUFFERS 4)) by.places e by.places_are

pub named_are : (b : List ℕ) (buffers : List (List ℕ)) (p : ℕ) (w : VectorView) → is_some (own_at b buffers p) ≡ true → option_map (vector_view b) (or_empty 4 (vector_field b p NODE_BUFFERS 4)) ≡ Some w → named_buffers b buffers w.shape ≡ Some (known_own b buffers p).buffers
named_are b buffers p w h e =
    let by = known_by b buffers p h in
    let same = vector_same b b (or_empty 4 (vector_field b p NODE_BUFFERS 4)) by.places w e by.places_are in
    ap (named_buffers b buffers) (sym same.1) ∙ by.named_are

pub no_encoding : (b : List ℕ) (buffers : List (List ℕ)) (p : ℕ) → is_some (own_at b buffers p) ≡ true → or_zero (number_field b p NODE_ENCODING 2) ≡ None → ⊥
no_encoding b buffers p h e = none_some (or_zero (number_field b p NODE_ENCODING 2)) (known_own b buffers p).encoding e (encoding_is b buffers p h)

pub no_metadata : (b : List ℕ) (buffers : List (List ℕ)) (p : ℕ) → is_some (own_at b buffers p) ≡ true → or_else [] (bytes_field b p NODE_METADATA) ≡ None → ⊥
no_metadata b buffers p h e = none_some (or_else [] (bytes_field b p NODE_METADATA)) (known_own b buffers p).metadata e (metadata_is b buffers p h)
