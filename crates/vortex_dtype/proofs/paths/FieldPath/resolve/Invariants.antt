use Rattle.std.proofs.Common.{◌≡◌, drop}
use Rattle.vortex_terms.specs.Path.{resolved}
use Rattle.vortex_types.specs.DTypes.{term_of}
use Rattle.vortex_dtype.specs.Paths.{parts_of}
use Rattle.vortex_dtype.proofs.paths.FieldPath.resolve.Given as goal

abbrev pub invariant-loop-field : goal.invariant-loop-field
invariant-loop-field l = resolved (term_of l.inner) (parts_of (drop l.field-index l.field-items)) ≡ resolved (term_of l.dtype) l.self
