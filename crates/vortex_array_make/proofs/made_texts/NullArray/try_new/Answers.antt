use Rattle.vortex_terms.specs.Term.{null}
use Rattle.vortex_terms.specs.Row.{null_row}
use Rattle.vortex_terms.specs.Fits.{Fits}
use Rattle.vortex_array_data.proofs.ConstantRows.{copies_fit}
use Rattle.vortex_array_make.proofs.MadeLeaves.{constants_many}
use Rattle.vortex_array_make.proofs.made_texts.NullArray.try_new.Goals as goal

pub made-requires-clause-count : goal.made-requires-clause-count
made-requires-clause-count c = constants_many c.args.len null_row

pub made-requires-clause-fit : goal.made-requires-clause-fit
made-requires-clause-fit c = copies_fit (Fits null) c.args.len null_row tt
