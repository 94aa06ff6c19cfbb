use Rattle.std.proofs.Common.{sym, ◌∙◌, arith}
use Rattle.std.specs.Option.{option_copied}
use Rattle.vortex_types.specs.Accessors.{fields_of}
use Rattle.vortex_types.specs.TypeRefs.{ref_term}
use Rattle.vortex_dtype.proofs.Walked.{place_start, place_step, place_end}
use Rattle.vortex_dtype.proofs.paths.first_of_name.Goals as goal

pub loop-i-init : goal.loop-i-init
loop-i-init c = place_start (fields_of (ref_term c.args.r)) c.args.name.now

pub returns-then-is_name : goal.returns-then-is_name
returns-then-is_name c =
    place_step (fields_of (ref_term c.args.r)) c.args.name.now c.loop-i.i (option_copied c.field_name.result) _ _
    c.field_name.ensures (sym c.if-is_name.true ∙ c.is_name.ensures) c.loop-i.invariant

pub loop-i-preserved : goal.loop-i-preserved
loop-i-preserved c =
    place_step (fields_of (ref_term c.args.r)) c.args.name.now c.loop-i.i (option_copied c.field_name.result) _ _
    c.field_name.ensures (sym c.if-is_name.false ∙ c.is_name.ensures) c.loop-i.invariant

pub returns : goal.returns
returns c =
    place_end (fields_of (ref_term c.args.r)) c.args.name.now c.loop-i.i _
    (omega (arith, c.loop-i-test.false, c.nfields-i-end.ensures)) c.loop-i.invariant
