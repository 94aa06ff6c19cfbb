-- What the reader of a message answers.
use Rattle.std.proofs.Common.{◌≡◌, ℕ, zero, suc, ◌-◌, List, Some, None, Result, Ok, Err, refl, sym, ap, subst, ◌∙◌, arith, ◌⊎◌, inl, inr}
use Rattle.std.specs.Prelude.{IsErrAnd}
use Rattle.vortex_wire.specs.declared.field.WireField.{WireField}
use Rattle.vortex_wire.specs.declared.field.WireValue.TheVariants as wire
use Rattle.vortex_wire.specs.Field.{Content, content_of, field_of}
use Rattle.vortex_scalar_value.specs.declared.error.ScalarError.{ScalarError}
use Rattle.vortex_scalar_value.specs.Value.{ValueTerm}
use Rattle.vortex_scalar_value.specs.Reading.{Reader, member_value, member_in, value_of_message, value_in}
use Rattle.vortex_scalar_value.specs.Standing.{most_levels, IsReadValue, Finds}
use Rattle.vortex_scalar_value.proofs.Found.{value_found}
use Rattle.vortex_scalar_value.proofs.Standing.{none_stands}

pub none_at_zero : (n : ℕ) (b : List ℕ) → n ≡ 0 → value_in n b ≡ None
unfolding value_in
none_at_zero zero b e = refl
none_at_zero (suc n) b e = absurd (omega arith)

one_step : (n m : ℕ) (b : List ℕ) → n ≡ suc m → value_in n b ≡ value_of_message (value_in m) b
unfolding value_in
one_step n m b e = ap (λ k. value_in k b) e

pub one_level_less : (r : Result ValueTerm ScalarError) (n : ℕ) (b : List ℕ) → (n ≡ 0 → ⊥) → Finds (λ v. v) r (value_of_message (value_in (n - 1)) b) → Finds (λ v. v) r (value_in n b)
one_level_less r n b some h = subst (Finds (λ v. v) r) (sym (one_step n (n - 1) b (omega (arith, some)))) h

-- what the member says
pub by_member : (r : Result ValueTerm ScalarError) (read : Reader) (b : List ℕ) (f : WireField) (content : Content) → member_in b ≡ Some (field_of f) → content_of f.value ≡ content → Finds (λ v. v) r (member_value read f.number content) → Finds (λ v. v) r (value_of_message read b)
unfolding value_of_message
by_member r read b f content e is h = rw e (rw is h)

-- there is no member
pub no_member : (r : Result ValueTerm ScalarError) (e : ScalarError) (read : Reader) (b : List ℕ) → IsErrAnd r (λ y. y ≡ e) → Finds field_of (Err e) (member_in b) → Finds (λ v. v) r (value_of_message read b)
unfolding value_of_message
no_member (Ok v) e read b is found = absurd is
no_member (Err y) e read b is (inl memory) = inl (is ∙ memory)
no_member (Err y) e read b is (inr none) = inr (is ∙ none.0, rw none.1 refl)

-- the member holds neither a varint nor bytes
pub other_member : (read : Reader) (b : List ℕ) (f : WireField) → member_in b ≡ Some (field_of f) → ((n : ℕ) × (f.value ≡ wire.Eight n)) ⊎ ((n : ℕ) × (f.value ≡ wire.Four n)) → value_of_message read b ≡ None
unfolding value_of_message
other_member read b f e (inl eight) = rw e (rw eight.1 refl)
other_member read b f e (inr four) = rw e (rw four.1 refl)

-- ---- the answer of the whole

pub is_read : (r : Result ValueTerm ScalarError) (b : List ℕ) → Finds (λ v. v) r (value_in most_levels b) → IsReadValue r b
is_read (Ok v) b e = let f = value_found most_levels b v e in (f.stands, f.few_levels)
is_read (Err e) b (inl memory) = inl memory
is_read (Err e) b (inr none) = inr (none.0, λ v h. none_stands most_levels b none.1 v h.0 h.1)
