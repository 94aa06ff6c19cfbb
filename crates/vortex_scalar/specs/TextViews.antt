-- What a contract sees of a view of a text or of bytes: its type and its row.
use Rattle.vortex_scalar.specs.declared.views.utf8.Utf8Scalar.{Utf8Scalar}
use Rattle.vortex_scalar.specs.declared.views.binary.BinaryScalar.{BinaryScalar}
use Rattle.vortex_scalar.specs.ScalarTerm.{ScalarTerm}

abbrev pub utf8_term : Utf8Scalar → ScalarTerm
utf8_term s = s.held

abbrev pub binary_term : BinaryScalar → ScalarTerm
binary_term s = s.held
