-- Views of texts are of one type apart from nullability, so that their rows order them, and so are those of bytes.
--     utf8_row, binary_row          the row of a view
use Rattle.std.specs.Prelude.{◌≡◌, Bool, true, ◌&&◌, if◌then◌else◌, Some, None, IsTrue}
use Rattle.std.specs.Ordering.{on, is_eq}
use Rattle.std.specs.Cmp.{IsTotalOrder}
use Rattle.std.proofs.Common.{refl, ap}
use Rattle.std.proofs.lemmas.Cmp.{on_total}
use Rattle.vortex_terms.specs.Term.{Term, utf8, binary}
use Rattle.vortex_terms.specs.Row.{Row}
use Rattle.vortex_terms.specs.Equality.{is_same}
use Rattle.vortex_terms.specs.Order.{row_cmp}
use Rattle.vortex_terms.specs.OrderLaws.{row_cmp_total}
use Rattle.vortex_types.specs.Predicates.{is_utf8, is_binary}
use Rattle.vortex_scalar.specs.declared.views.utf8.Utf8Scalar.{Utf8Scalar}
use Rattle.vortex_scalar.specs.declared.views.binary.BinaryScalar.{BinaryScalar}
use Rattle.vortex_scalar.specs.Compare.{scalar_eq, scalar_cmp}
use Rattle.vortex_scalar.specs.TextViews.{utf8_term, binary_term}

-- types of texts are the same apart from nullability
pub texts_same : (t u : Term) → IsTrue (is_utf8 t) → IsTrue (is_utf8 u) → is_same t u ≡ true
texts_same (utf8 n) (utf8 m) a b = refl
texts_same (utf8 n) _ a b = absurd cc
texts_same _ u a b = absurd cc

-- and so are types of bytes
pub binaries_same : (t u : Term) → IsTrue (is_binary t) → IsTrue (is_binary u) → is_same t u ≡ true
binaries_same (binary n) (binary m) a b = refl
binaries_same (binary n) _ a b = absurd cc
binaries_same _ u a b = absurd cc

abbrev pub utf8_row : Utf8Scalar → Row
utf8_row s = (utf8_term s).row

pub utf8_total : IsTotalOrder (on utf8_row row_cmp)
utf8_total = on_total utf8_row row_cmp_total

pub texts_compare : (x y : Utf8Scalar) → on utf8_term scalar_cmp x y ≡ Some (on utf8_row row_cmp x y)
texts_compare x y =
    ap (λ (b : Bool). if b then Some (on utf8_row row_cmp x y) else None) (texts_same (utf8_term x).dtype (utf8_term y).dtype x.kind y.kind)

pub texts_equal : (x y : Utf8Scalar) → on utf8_term scalar_eq x y ≡ is_eq (on utf8_row row_cmp x y)
texts_equal x y = ap (λ (b : Bool). b && is_eq (on utf8_row row_cmp x y)) (texts_same (utf8_term x).dtype (utf8_term y).dtype x.kind y.kind)

abbrev pub binary_row : BinaryScalar → Row
binary_row s = (binary_term s).row

pub binary_total : IsTotalOrder (on binary_row row_cmp)
binary_total = on_total binary_row row_cmp_total

pub binaries_compare : (x y : BinaryScalar) → on binary_term scalar_cmp x y ≡ Some (on binary_row row_cmp x y)
binaries_compare x y =
    ap (λ (b : Bool). if b then Some (on binary_row row_cmp x y) else None)
    (binaries_same (binary_term x).dtype (binary_term y).dtype x.kind y.kind)

pub binaries_equal : (x y : BinaryScalar) → on binary_term scalar_eq x y ≡ is_eq (on binary_row row_cmp x y)
binaries_equal x y =
    ap (λ (b : Bool). b && is_eq (on binary_row row_cmp x y)) (binaries_same (binary_term x).dtype (binary_term y).dtype x.kind y.kind)
