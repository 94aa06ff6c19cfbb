-- The value of a message is found, and so there is one at most.
use Rattle.std.proofs.Common.{◌≡◌, ℕ, zero, suc, ◌≤◌, max, List, [], ◌∷◌, Option, Some, None, refl, ap, arith}
use Rattle.std.specs.Str.{IsUtf8}
use Rattle.std.proofs.lemmas.Str.{is_utf8-from_IsUtf8}
use Rattle.vortex_wire.specs.Field.{Content, Varint, Bytes}
use Rattle.vortex_wire.specs.Inside.{bytes_fields}
use Rattle.vortex_terms.specs.Term.{unsigned_64, signed_64}
use Rattle.vortex_scalar_value.specs.Value.{ValueTerm, null_value, truth_value, whole_value, decimal_value, bytes_value, text_value, list_value, ValueTerms, no_values, value, value_levels, values_levels}
use Rattle.vortex_scalar_value.specs.ValueMessage.{IsMember, IsValueMessage, AreValueMessages}
use Rattle.vortex_scalar_value.specs.Reading.{Reader, values_in, list_in, text_in, member_value, member_in, value_of_message, value_in}
use Rattle.vortex_scalar_value.specs.declared.schema.TheConstants.{NULL, BOOL, INT64, UINT64, STRING, BYTES, LIST, LIST_VALUES}
use Rattle.vortex_scalar_value.proofs.Options.{some_same}
use Rattle.vortex_scalar_value.proofs.Found.{value_found}

pub some_level : (v : ValueTerm) → 1 ≤ value_levels v
some_level null_value = omega arith
some_level (truth_value t) = omega arith
some_level (whole_value k z) = omega arith
some_level (decimal_value w z) = omega arith
some_level (bytes_value bs) = omega arith
some_level (text_value bs) = omega arith
some_level (list_value vs) = omega arith

member_there : (n : ℕ) (b : List ℕ) (number : ℕ) (content : Content) (v : ValueTerm) → IsMember b number content → member_value (value_in n) number content ≡ Some v → value_in (suc n) b ≡ Some v
unfolding value_in value_of_message member_in
member_there n b number content v h e = rw h e

text_there : (bs : List ℕ) → IsUtf8 bs → text_in bs ≡ Some (text_value bs)
text_there bs h = rw (is_utf8-from_IsUtf8 bs h) refl

list_there : (read : Reader) (body : List ℕ) (parts : List (List ℕ)) (vs : ValueTerms) → bytes_fields LIST_VALUES body ≡ Some parts → values_in read parts ≡ Some vs → list_in read body ≡ Some (list_value vs)
unfolding list_in
list_there read body parts vs e h = rw e (rw h refl)

none_there : (read : Reader) → values_in read [] ≡ Some no_values
unfolding values_in
none_there read = refl

one_there : (read : Reader) (part : List ℕ) (parts : List (List ℕ)) (v : ValueTerm) (vs : ValueTerms) → read part ≡ Some v → values_in read parts ≡ Some vs → values_in read (part ∷ parts) ≡ Some (value v vs)
unfolding values_in
one_there read part parts v vs e h = rw e (rw h refl)

mutual
  pub value_there : (v : ValueTerm) (n : ℕ) (b : List ℕ) → IsValueMessage b v → value_levels v ≤ n → value_in n b ≡ Some v
  value_there v zero b h few = absurd (omega (arith, some_level v, few))
  value_there null_value (suc n) b h few = member_there n b NULL (Varint h.0) null_value h.1 refl
  value_there (truth_value t) (suc n) b h few = member_there n b BOOL (Varint h.0) (truth_value t) h.1 (ap (λ t. Some (truth_value t)) h.2)
  value_there (whole_value signed_64 z) (suc n) b h few = member_there n b INT64 (Varint h.0) (whole_value signed_64 z) h.1 (ap (λ z. Some (whole_value signed_64 z)) h.2)
  value_there (whole_value unsigned_64 z) (suc n) b h few = member_there n b UINT64 (Varint h.0) (whole_value unsigned_64 z) h.1 (ap (λ z. Some (whole_value unsigned_64 z)) h.2)
  value_there (whole_value _ z) (suc n) b h few = absurd h
  value_there (decimal_value w z) (suc n) b h few = absurd h
  value_there (text_value bs) (suc n) b h few = member_there n b STRING (Bytes bs) (text_value bs) h.0 (text_there bs h.1)
  value_there (bytes_value bs) (suc n) b h few = member_there n b BYTES (Bytes bs) (bytes_value bs) h refl
  value_there (list_value vs) (suc n) b h few =
      member_there n b LIST (Bytes h.0) (list_value vs) h.2
      (list_there (value_in n) h.0 h.1 vs h.3 (values_there vs n h.1 h.4 (omega (arith, few))))

  values_there : (vs : ValueTerms) (n : ℕ) (parts : List (List ℕ)) → AreValueMessages parts vs → values_levels vs ≤ n → values_in (value_in n) parts ≡ Some vs
  values_there no_values n [] h few = none_there (value_in n)
  values_there no_values n (part ∷ parts) h few = absurd h
  values_there (value v vs) n [] h few = absurd h
  values_there (value v vs) n (part ∷ parts) h few =
      one_there (value_in n) part parts v vs (value_there v n part h.0 (omega (arith, few))) (values_there vs n parts h.1 (omega (arith, few)))

-- a message is one of one value at most
pub one_value : (v w : ValueTerm) (b : List ℕ) → IsValueMessage b v → IsValueMessage b w → v ≡ w
one_value v w b h k =
    let n = max (value_levels v) (value_levels w) in
    some_same (value_in n b) v w (value_there v n b h (omega arith)) (value_there w n b k (omega arith))

-- ---- the reader finds exactly what stands

pub found_exactly : (v : ValueTerm) (n : ℕ) (b : List ℕ) → (value_in n b ≡ Some v → IsValueMessage b v × (value_levels v ≤ n)) × (IsValueMessage b v × (value_levels v ≤ n) → value_in n b ≡ Some v)
found_exactly v n b = (λ e. let f = value_found n b v e in (f.stands, f.few_levels), λ h. value_there v n b h.0 h.1)

not_both : {A : Type 0} (o : Option A) (x : A) → o ≡ None → o ≡ Some x → ⊥
not_both o x e h = absurd cc

pub none_stands : (n : ℕ) (b : List ℕ) → value_in n b ≡ None → (v : ValueTerm) → IsValueMessage b v → value_levels v ≤ n → ⊥
none_stands n b e v h few = not_both (value_in n b) v e (value_there v n b h few)

is_none : {A : Type 0} (o : Option A) → ((x : A) → o ≡ Some x → ⊥) → o ≡ None
is_none None h = refl
is_none (Some x) h = absurd (h x refl)

pub none_exactly : (n : ℕ) (b : List ℕ) → (value_in n b ≡ None → (v : ValueTerm) → IsValueMessage b v → value_levels v ≤ n → ⊥) × (((v : ValueTerm) → IsValueMessage b v → value_levels v ≤ n → ⊥) → value_in n b ≡ None)
none_exactly n b = (none_stands n b, λ h. is_none (value_in n b) (λ v e. let f = value_found n b v e in h v f.stands f.few_levels))
