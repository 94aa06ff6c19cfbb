-- Scalars are equal by an equivalence and compare by a partial order, and equal ones feed a hasher alike.
use Rattle.std.specs.Prelude.{◌≡◌, Bool, true, false, ◌&&◌, ◌++◌, if◌then◌else◌, Some, None}
use Rattle.std.specs.declared.cmp.Ordering.{Ordering}
use Rattle.std.specs.declared.cmp.Ordering.TheVariants.{Less, Equal, Greater}
use Rattle.std.specs.Bool.{Decides}
use Rattle.std.specs.Option.{option_map}
use Rattle.std.specs.Ordering.{is_eq, ordering_reverse}
use Rattle.std.specs.Cmp.{IsEquivalence, IsPartialOrder, decided, on_equiv, and_equiv}
use Rattle.std.specs.Hash as fed
use Rattle.std.specs.Hash.{Alike}
use Rattle.std.proofs.Common.{refl, ap}
use Rattle.std.proofs.lemmas.Option.{same_Some}
use Rattle.vortex_terms.specs.Types.{bare}
use Rattle.vortex_terms.specs.Equality.{is_same}
use Rattle.vortex_terms.specs.EqualityLaws.{term_eq-Decides, is_same-Decides}
use Rattle.vortex_terms.specs.BareLaws.{Same-number}
use Rattle.vortex_terms.specs.Order.{row_cmp, row_eq}
use Rattle.vortex_terms.specs.OrderLaws.{row_cmp_total, row_eq-Decides}
use Rattle.vortex_scalar.specs.ScalarTerm.{ScalarTerm}
use Rattle.vortex_scalar.specs.Compare.{scalar_eq, scalar_cmp}
use Rattle.vortex_value_rows.specs.HashInput.{row_writes}
use Rattle.vortex_scalar.specs.HashInput.{scalar_writes}

same_equivalence : IsEquivalence is_same
same_equivalence = on_equiv bare (decided _ term_eq-Decides)

pub scalar_equivalence : IsEquivalence scalar_eq
scalar_equivalence = and_equiv (on_equiv (λ (s : ScalarTerm). s.dtype) same_equivalence) (on_equiv (λ (s : ScalarTerm). s.row) (decided row_eq row_eq-Decides))

-- ---- the order

turned : (a b : Bool) (r q : Ordering) → a ≡ b → r ≡ ordering_reverse q
    → (if a then Some r else None) ≡ option_map ordering_reverse (if b then Some q else None)
turned true true r q e f = ap Some f
turned false false r q e f = refl
turned true false r q e f = absurd cc
turned false true r q e f = absurd cc

less : (a b c : Bool) (r q p : Ordering) → (a ≡ true → c ≡ b) → (r ≡ Less → q ≡ Less → p ≡ Less)
    → (if a then Some r else None) ≡ Some Less → (if b then Some q else None) ≡ Some Less
    → (if c then Some p else None) ≡ Some Less
less true true true r q p same along e f = ap Some (along (same_Some r Less e) (same_Some q Less f))
less true true false r q p same along e f = absurd (apart (same refl))
  where
    apart : false ≡ true → ⊥
    apart e = absurd cc
less true false c r q p same along e f = absurd cc
less false b c r q p same along e f = absurd cc

ties : (a : Bool) (r : Ordering) → Decides (a && is_eq r) ((if a then Some r else None) ≡ Some Equal)
ties true Less = (λ e. absurd cc, λ e. absurd cc)
ties true Equal = (λ e. refl, λ e. refl)
ties true Greater = (λ e. absurd cc, λ e. absurd cc)
ties false r = (λ e. absurd cc, λ e. absurd cc)

alike : (a b c : Bool) (r q p : Ordering) → (a ≡ true → c ≡ b) → (r ≡ Equal → p ≡ q) → (a && is_eq r) ≡ true
    → (if c then Some p else None) ≡ (if b then Some q else None)
alike true b c Equal q p same along e = λ i. if same refl i then Some (along refl i) else None
alike true b c Less q p same along e = absurd cc
alike true b c Greater q p same along e = absurd cc
alike false b c r q p same along e = absurd cc

pub scalar_order : IsPartialOrder scalar_eq scalar_cmp
scalar_order = record {
  antisymm = λ s t. turned _ _ _ _ (same_equivalence.symm s.dtype t.dtype) (row_cmp_total.antisymm s.row t.row);
  trans = λ s t u. less (is_same s.dtype t.dtype) (is_same t.dtype u.dtype) (is_same s.dtype u.dtype) (row_cmp s.row t.row) (row_cmp t.row u.row) (row_cmp s.row u.row)
      (λ e. same_equivalence.congr s.dtype t.dtype u.dtype e) (row_cmp_total.trans s.row t.row u.row);
  matches_eq = λ s t. ties (is_same s.dtype t.dtype) (row_cmp s.row t.row);
  congr = λ s t u. alike (is_same s.dtype t.dtype) (is_same t.dtype u.dtype) (is_same s.dtype u.dtype) (row_cmp s.row t.row) (row_cmp t.row u.row) (row_cmp s.row u.row)
      (λ e. same_equivalence.congr s.dtype t.dtype u.dtype e) (row_cmp_total.congr s.row t.row u.row);
}

-- ---- the hash

parts : (a b : Bool) → (a && b) ≡ true → (a ≡ true) × (b ≡ true)
parts true b e = (refl, e)
parts false b e = absurd cc

pub scalar_alike : Alike scalar_eq scalar_writes
scalar_alike = record {
  fed = λ s t e. let both = parts (is_same s.dtype t.dtype) (row_eq s.row t.row) e in
      λ i. fed.u8 (Same-number s.dtype t.dtype ((is_same-Decides s.dtype t.dtype).0 both.0) i) ++ row_writes ((row_eq-Decides s.row t.row).0 both.1 i);
}
