use Rattle.std.proofs.Common.{sym}
use Rattle.vortex_terms.specs.Term.{null}
use Rattle.vortex_terms.specs.Row.{null_row}
use Rattle.vortex_terms.specs.Fits.{Fits}
use Rattle.vortex_node_rows.proofs.Constants.{length-copies}
use Rattle.vortex_array_data.proofs.ConstantRows.{copies_fit}
use Rattle.vortex_array_canonical.proofs.canonical_values.nulls.Goals as goal

pub made-requires-clause-count : goal.made-requires-clause-count
made-requires-clause-count c = sym (length-copies c.args.n null_row)

pub made-requires-clause-fit : goal.made-requires-clause-fit
made-requires-clause-fit c = copies_fit (Fits null) c.args.n null_row tt
