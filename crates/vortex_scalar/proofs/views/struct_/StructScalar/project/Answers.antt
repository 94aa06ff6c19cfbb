use Rattle.vortex_types.specs.DTypes.{term_of}
use Rattle.vortex_scalar.proofs.PartLemmas.{row_moved, fits_moved}
use Rattle.vortex_scalar.proofs.Projecting.{project_fits, project_is, struct_moved}
use Rattle.vortex_scalar.proofs.views.struct_.StructScalar.project.Goals as goal

pub new-requires : goal.new-requires
new-requires c =
    project_fits c.args.self.now c.args.projection.now c.value-value.result.now c.in_ok-value.value c.in_ok-fields.fields c.struct_fields.result.now
    c.struct_fields-2.result.now (term_of c.dtype.result.now) c.nullability.result (record {
      kind = struct_moved c.self.inside.fitting c.args.self.now c.self.view_is c.self.invariant;
      its_row = row_moved c.self.inside.fitting c.args.self.now c.value-value.result.now c.self.view_is c.value-value.ensures;
      it_fits = fits_moved c.self.inside.fitting c.args.self.now c.self.view_is c.law.ensures.fits;
      first = c.struct_fields.ensures;
      second = c.struct_fields-2.ensures;
      found = c.in_ok-fields.ensures;
      made = c.in_ok-value.ensures.value;
      whole = c.dtype.ensures;
      flag = c.nullability.ensures;
    })

pub returns : goal.returns
returns c =
    project_is c.args.self.now c.args.projection.now c.value-value.result.now c.in_ok-value.value c.in_ok-fields.fields c.struct_fields.result.now
    c.struct_fields-2.result.now (term_of c.dtype.result.now) c.nullability.result c.new.result (record {
      kind = struct_moved c.self.inside.fitting c.args.self.now c.self.view_is c.self.invariant;
      its_row = row_moved c.self.inside.fitting c.args.self.now c.value-value.result.now c.self.view_is c.value-value.ensures;
      it_fits = fits_moved c.self.inside.fitting c.args.self.now c.self.view_is c.law.ensures.fits;
      first = c.struct_fields.ensures;
      second = c.struct_fields-2.ensures;
      found = c.in_ok-fields.ensures;
      made = c.in_ok-value.ensures.value;
      whole = c.dtype.ensures;
      flag = c.nullability.ensures;
    }) c.new.ensures
