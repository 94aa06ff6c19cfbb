-- Views of truth values are of one type apart from nullability, so that their rows order them.
--     bool_row          the row of a view
use Rattle.std.specs.Prelude.{◌≡◌, true, ◌&&◌, if◌then◌else◌, Some, None, IsTrue}
use Rattle.std.specs.Ordering.{on, is_eq}
use Rattle.std.specs.Cmp.{IsTotalOrder}
use Rattle.std.proofs.Common.{refl, ap}
use Rattle.std.proofs.lemmas.Cmp.{on_total}
use Rattle.vortex_terms.specs.Term.{Term, boolean}
use Rattle.vortex_terms.specs.Row.{Row}
use Rattle.vortex_terms.specs.Equality.{is_same}
use Rattle.vortex_terms.specs.Order.{row_cmp}
use Rattle.vortex_terms.specs.OrderLaws.{row_cmp_total}
use Rattle.vortex_types.specs.DTypes.{term_of}
use Rattle.vortex_types.specs.Predicates.{is_boolean}
use Rattle.vortex_scalar.specs.declared.views.bool.BoolScalar.{BoolScalar}
use Rattle.vortex_scalar.specs.Compare.{scalar_eq, scalar_cmp}
use Rattle.vortex_scalar.specs.Views.{bool_term}

-- types of truth values are the same apart from nullability
pub booleans_same : (t u : Term) → IsTrue (is_boolean t) → IsTrue (is_boolean u) → is_same t u ≡ true
booleans_same (boolean n) (boolean m) a b = refl
booleans_same (boolean n) _ a b = absurd cc
booleans_same _ u a b = absurd cc

abbrev pub bool_row : BoolScalar → Row
bool_row s = (bool_term s).row

pub bool_total : IsTotalOrder (on bool_row row_cmp)
bool_total = on_total bool_row row_cmp_total

types_same : (x y : BoolScalar) → is_same (term_of x.dtype.now) (term_of y.dtype.now) ≡ true
types_same x y = booleans_same (term_of x.dtype.now) (term_of y.dtype.now) x.kind y.kind

pub bools_compare : (x y : BoolScalar) → on bool_term scalar_cmp x y ≡ Some (on bool_row row_cmp x y)
bools_compare x y = ap (λ b. if b then Some (on bool_row row_cmp x y) else None) (types_same x y)

pub bools_equal : (x y : BoolScalar) → on bool_term scalar_eq x y ≡ is_eq (on bool_row row_cmp x y)
bools_equal x y = ap (λ b. b && is_eq (on bool_row row_cmp x y)) (types_same x y)
