-- Values taken apart.
use Rattle.std.proofs.Common.{◌≡◌, ℕ, List, [], ◌∷◌, length, get_or, Option, Some, None, String, Global, string_bytes, refl, sym, ap, ◌∙◌, arith}
use Rattle.std.specs.Prelude.{slice_get}
use Rattle.std.specs.Option.{option_map}
use Rattle.serde_json.specs.Data.{Data}
use Rattle.serde_json.specs.View.{view, items_view, members_view}
use Rattle.serde_json.specs.declared.value.Value.{Value}
use Rattle.vortex_terms.specs.Term.{WholeKind, unsigned_8, unsigned_16, unsigned_32, unsigned_64, signed_8, signed_16, signed_32, signed_64}
use Rattle.vortex_number.specs.declared.ptype.PType.{PType}
use Rattle.vortex_number.specs.WholeKind.{whole_kind, ptype_of}
use Rattle.vortex_json.specs.Found.{only_member, two_items, three_items}

abbrev Entry : Type 0
Entry = String Global × Value

-- an object has another number of members than one
pub other_members : (es : List Entry) → (length es ≡ 1 → ⊥) → None ≡ only_member (members_view es)
other_members [] h = refl
other_members (e ∷ []) h = absurd (h refl)
other_members (e ∷ f ∷ es) h = refl

-- an object has one member
pub one_member : (es : List Entry) (k : String Global) (v : Value) → length es ≡ 1 → slice_get es 0 ≡ Some (k, v) → Some (string_bytes k, view v) ≡ only_member (members_view es)
one_member [] k v h e = absurd (omega (arith, h))
one_member (x ∷ []) k v h e = ap (λ o. seen o) (sym e)
  where
    seen : Option Entry → Option (List ℕ × Data)
    seen None = None
    seen (Some x) = Some (string_bytes x.0, view x.1)
one_member (x ∷ y ∷ es) k v h e = absurd (omega (arith, h))

same_kind : (k : WholeKind) → whole_kind (ptype_of k) ≡ k
same_kind unsigned_8 = refl
same_kind unsigned_16 = refl
same_kind unsigned_32 = refl
same_kind unsigned_64 = refl
same_kind signed_8 = refl
same_kind signed_16 = refl
same_kind signed_32 = refl
same_kind signed_64 = refl

some_kind : (k : WholeKind) (p : PType) → Some p ≡ Some (ptype_of k) → Some k ≡ Some (whole_kind p)
some_kind k p e = ap (λ (l : WholeKind). Some l) (sym (same_kind k)) ∙ ap (option_map whole_kind) (sym e)

-- the kind of a term, of the one that was found
pub kind_back : (o : Option WholeKind) (p : PType) → Some p ≡ option_map ptype_of o → o ≡ Some (whole_kind p)
kind_back None p e = absurd (cc)
kind_back (Some k) p e = some_kind k p e

-- a list has another number of items than two, or has two
pub not_two : (vs : List Value) → (length vs ≡ 2 → ⊥) → None ≡ two_items (items_view vs)
not_two [] h = refl
not_two (v ∷ []) h = refl
not_two (v ∷ w ∷ []) h = absurd (h refl)
not_two (v ∷ w ∷ x ∷ vs) h = refl

pub both : (vs : List Value) (v w : Value) → length vs ≡ 2 → v ≡ get_or vs 0 v → w ≡ get_or vs 1 w → Some (view v, view w) ≡ two_items (items_view vs)
both [] v w h e f = absurd (omega (arith, h))
both (x ∷ []) v w h e f = absurd (omega (arith, h))
both (x ∷ y ∷ []) v w h e f = λ i. Some (view (e i), view (f i))
both (x ∷ y ∷ z ∷ vs) v w h e f = absurd (omega (arith, h))

-- the same of three
pub not_three : (vs : List Value) → (length vs ≡ 3 → ⊥) → None ≡ three_items (items_view vs)
not_three [] h = refl
not_three (v ∷ []) h = refl
not_three (v ∷ w ∷ []) h = refl
not_three (v ∷ w ∷ x ∷ []) h = absurd (h refl)
not_three (v ∷ w ∷ x ∷ y ∷ vs) h = refl

pub all_three : (vs : List Value) (v w x : Value) → length vs ≡ 3 → v ≡ get_or vs 0 v → w ≡ get_or vs 1 w → x ≡ get_or vs 2 x → Some (view v, view w, view x) ≡ three_items (items_view vs)
all_three [] v w x h e f g = absurd (omega (arith, h))
all_three (a ∷ []) v w x h e f g = absurd (omega (arith, h))
all_three (a ∷ b ∷ []) v w x h e f g = absurd (omega (arith, h))
all_three (a ∷ b ∷ d ∷ []) v w x h e f g = λ i. Some (view (e i), view (f i), view (g i))
all_three (a ∷ b ∷ d ∷ y ∷ vs) v w x h e f g = absurd (omega (arith, h))
