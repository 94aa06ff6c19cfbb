use Rattle.std.proofs.Common.{sym, ◌∙◌, arith}
use Rattle.std.specs.Cmp.Lexicographic.{nat_list_eq_equiv}
use Rattle.vortex_schema.specs.Views.{fields_of}
use Rattle.vortex_dtype.proofs.Selected.{search_here, search_on, search_none}
use Rattle.vortex_dtype.proofs.viewed_fields.place_of.Goals as goal

pub returns-then-eq_str : goal.returns-then-eq_str
returns-then-eq_str c =
    search_here (fields_of c.args.fields.now) c.args.name.now c.name.result.now c.loop-i.i c.name.ensures (sym c.eq_str.ensures ∙ c.if-eq_str.true)
    (nat_list_eq_equiv.symm c.name.result.now c.args.name.now) c.loop-i.invariant

pub loop-i-preserved : goal.loop-i-preserved
loop-i-preserved c =
    search_on (fields_of c.args.fields.now) c.args.name.now c.name.result.now c.loop-i.i c.name.ensures (sym c.eq_str.ensures ∙ c.if-eq_str.false)
    (nat_list_eq_equiv.symm c.name.result.now c.args.name.now) c.loop-i.invariant

pub returns : goal.returns
returns c =
    search_none (fields_of c.args.fields.now) c.args.name.now c.loop-i.i (omega (arith, c.len-i-end.ensures)) c.loop-i.invariant
