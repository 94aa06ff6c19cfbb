use Rattle.std.proofs.Common.{◌+◌}
use Rattle.vortex_terms_check.specs.declared.plain.PlainType.{size-PlainType}
use Rattle.vortex_terms_check.specs.declared.plain.PlainFields.{size-PlainFields}
use Rattle.vortex_terms_check.specs.declared.plain.PlainRow.{size-PlainRow}
use Rattle.vortex_terms_check.specs.declared.plain.PlainRows.{size-PlainRows}
use Rattle.vortex_terms_check.proofs.rows.+fits.Given as goal

abbrev pub decreases-fits : goal.decreases-fits
decreases-fits l = size-PlainType l.t.now + size-PlainRow l.r.now

abbrev pub decreases-fits_fields : goal.decreases-fits_fields
decreases-fits_fields l = size-PlainFields l.fields.now + size-PlainRows l.rs.now

abbrev pub decreases-fits_all : goal.decreases-fits_all
decreases-fits_all l = size-PlainType l.t.now + size-PlainRows l.rs.now
