-- Values that are listed one after the other.
use Rattle.std.proofs.Common.{◌≡◌, ℕ, zero, suc, ◌+◌, ◌≤◌, ◌<◌, List, [], ◌∷◌, ◌++◌, get_or, drop, length, Some, refl, sym, ap, ◌∙◌, arith, add-one}
use Rattle.std.specs.Prelude.{slice_get, map}
use Rattle.std.proofs.Math.Seq.{drop-cons}
use Rattle.std.proofs.lemmas.List.{drop_all as drop_all_of}
use Rattle.serde_json.specs.Data.{Data, Items, no_items, item}
use Rattle.serde_json.specs.View.{view, items_view}
use Rattle.serde_json.specs.declared.value.Value.{Value}
use Rattle.vortex_terms.specs.Term.{Term, Fields, no_fields, field}
use Rattle.vortex_terms.specs.Types.{names_of, field_at, field_count}
use Rattle.vortex_types.proofs.Fields.{fields_drop, drop_all}
use Rattle.vortex_json.specs.Written.{each_json, json_of, owned_json, text_json, types_json}

-- items and then others
abbrev pub then : Items → Items → Items
then no_items es = es
then (item d ds) es = item d (then ds es)

then-none : (ds : Items) → then ds no_items ≡ ds
then-none no_items = refl
then-none (item d ds) = ap (item d) (then-none ds)

-- one more item
one_more : (vs : List Value) (v : Value) (ds : Items) → then (items_view (vs ++ v ∷ [])) ds ≡ then (items_view vs) (item (view v) ds)
one_more [] v ds = refl
one_more (w ∷ vs) v ds = ap (item (view w)) (one_more vs v ds)

-- ---- the fields of a struct

-- the values so far are the items, but for those of the fields that are left
abbrev pub Lay : (Fields → Items) → Fields → ℕ → List Value → Type 0
Lay items_of fs i vs = then (items_view vs) (items_of (fields_drop i fs)) ≡ items_of fs

lay_one : (items_of : Fields → Items) (fs : Fields) (vs : List Value) (v : Value) (d : Data) (i : ℕ) → items_of (fields_drop i fs) ≡ item d (items_of (fields_drop (suc i) fs)) → view v ≡ d → Lay items_of fs i vs → Lay items_of fs (i + 1) (vs ++ v ∷ [])
lay_one items_of fs vs v d i first e h =
    let next : suc i ≡ i + 1 = omega arith in
    one_more vs v (items_of (fields_drop (i + 1) fs))
    ∙ ap (λ (x : Data). then (items_view vs) (item x (items_of (fields_drop (i + 1) fs)))) e
    ∙ ap (λ (j : ℕ). then (items_view vs) (item d (items_of (fields_drop j fs)))) (sym next)
    ∙ ap (then (items_view vs)) (sym first) ∙ h

-- the names of fields, each as a value
abbrev pub names_json : Fields → Items
names_json fs = each_json text_json (names_of fs)

first_name : (x y : List ℕ) (ds : Items) → Some x ≡ Some y → item (text_json x) ds ≡ item (text_json y) ds
first_name x y ds e = cc

name_on : (fs : Fields) (i : ℕ) (x : List ℕ) → slice_get (names_of fs) i ≡ Some x → names_json (fields_drop i fs) ≡ item (text_json x) (names_json (fields_drop (suc i) fs))
name_on no_fields i x e = absurd (cc)
name_on (field y t fs) zero x e = first_name y x (names_json fs) e
name_on (field y t fs) (suc i) x e = name_on fs i x e

first_type : (t u : Term) (ds : Items) → Some t ≡ Some u → item (owned_json (json_of t)) ds ≡ item (owned_json (json_of u)) ds
first_type t u ds e = cc

type_on : (fs : Fields) (i : ℕ) (t : Term) → field_at fs i ≡ Some t → types_json (fields_drop i fs) ≡ item (owned_json (json_of t)) (types_json (fields_drop (suc i) fs))
type_on no_fields i t e = absurd (cc)
type_on (field y u fs) zero t e = first_type u t (types_json fs) e
type_on (field y u fs) (suc i) t e = type_on fs i t e

pub names_on : (fs : Fields) (vs : List Value) (v : Value) (x : List ℕ) (i : ℕ) → slice_get (names_of fs) i ≡ Some x → view v ≡ text_json x → Lay names_json fs i vs → Lay names_json fs (i + 1) (vs ++ v ∷ [])
names_on fs vs v x i names e h = lay_one names_json fs vs v (text_json x) i (name_on fs i x names) e h

pub types_on : (fs : Fields) (vs : List Value) (v : Value) (t : Term) (i : ℕ) → field_at fs i ≡ Some t → view v ≡ owned_json (json_of t) → Lay types_json fs i vs → Lay types_json fs (i + 1) (vs ++ v ∷ [])
types_on fs vs v t i types e h = lay_one types_json fs vs v (owned_json (json_of t)) i (type_on fs i t types) e h

pub names_all : (fs : Fields) (vs : List Value) (i : ℕ) → field_count fs ≡ i → Lay names_json fs i vs → items_view vs ≡ names_json fs
names_all fs vs i e h = sym (then-none (items_view vs)) ∙ ap (λ (gs : Fields). then (items_view vs) (names_json gs)) (sym (drop_all fs i e)) ∙ h

pub types_all : (fs : Fields) (vs : List Value) (i : ℕ) → field_count fs ≡ i → Lay types_json fs i vs → items_view vs ≡ types_json fs
types_all fs vs i e h = sym (then-none (items_view vs)) ∙ ap (λ (gs : Fields). then (items_view vs) (types_json gs)) (sym (drop_all fs i e)) ∙ h

-- ---- a list

-- the values so far are the items, but for what is left of the list
abbrev pub Written : {A : Type 0} → (A → Data) → List A → ℕ → List Value → Type 0
Written write xs i vs = then (items_view vs) (each_json write (drop i xs)) ≡ each_json write xs

pub written_on : {A : Type 0} → (write : A → Data) (xs : List A) (vs : List Value) (v : Value) (i : ℕ) (x : A) → i < length xs → view v ≡ write (get_or xs i x) → Written write xs i vs → Written write xs (i + 1) (vs ++ v ∷ [])
written_on {A} write xs vs v i x lt e h =
    let here : drop i xs ≡ get_or xs i x ∷ drop (i + 1) xs = rw add-one (drop-cons xs i x lt) in
    one_more vs v (each_json write (drop (i + 1) xs))
    ∙ ap (λ (d : Data). then (items_view vs) (item d (each_json write (drop (i + 1) xs)))) e
    ∙ sym (ap (λ (ys : List A). then (items_view vs) (each_json write ys)) here) ∙ h

pub written_all : {A : Type 0} → (write : A → Data) (xs : List A) (vs : List Value) (i : ℕ) → length xs ≤ i → Written write xs i vs → items_view vs ≡ each_json write xs
written_all {A} write xs vs i l h =
    sym (then-none (items_view vs)) ∙ sym (ap (λ (ys : List A). then (items_view vs) (each_json write ys)) (drop_all_of i xs l)) ∙ h

-- what each is seen as is written
pub each_seen : {A B : Type 0} → (see : A → B) (write : B → Data) (xs : List A) → each_json (λ x. write (see x)) xs ≡ each_json write (map see xs)
each_seen see write [] = refl
each_seen see write (x ∷ xs) = ap (item (write (see x))) (each_seen see write xs)
