use Rattle.std.proofs.Common.{⊎_elim}
use Rattle.vortex_terms.specs.RowLaws.{Fits-null, Fits-form}
use Rattle.vortex_terms.proofs.rows.fitting_rows_have_the_form.Goals as goal

pub returns-clause-null_fits : goal.returns-clause-null_fits
returns-clause-null_fits c = Fits-null

pub returns-clause-form : goal.returns-clause-form
returns-clause-form c = λ t r f other. ⊎_elim (λ e. absurd (other e)) (λ e. e) (Fits-form t r f)
