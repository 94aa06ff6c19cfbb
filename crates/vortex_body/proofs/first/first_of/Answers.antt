use Rattle.std.proofs.Common.{arith}
use Rattle.vortex_body.proofs.Leading.{leads, vtable_within, entry_read, field_within, first_read, not_missing, target_within}
use Rattle.vortex_body.proofs.first.first_of.Goals as goal

pub overflow_add-vtable : goal.overflow_add-vtable
overflow_add-vtable c =
    let l = leads c.args.flat.now c.args.place c.args.places.now.shape c.requires.found c.requires.some in
    omega (arith, vtable_within c.args.flat.now c.args.place c.args.places.now.shape.first c.vtable_of-vtable.result l c.vtable_of-vtable.ensures)

pub overflow_add-vtable-2 : goal.overflow_add-vtable-2
overflow_add-vtable-2 c =
    let l = leads c.args.flat.now c.args.place c.args.places.now.shape c.requires.found c.requires.some in
    omega (arith, c.from.ensures, vtable_within c.args.flat.now c.args.place c.args.places.now.shape.first c.vtable_of-vtable.result l c.vtable_of-vtable.ensures)

pub u16_at-requires : goal.u16_at-requires
u16_at-requires c =
    let l = leads c.args.flat.now c.args.place c.args.places.now.shape c.requires.found c.requires.some in
    omega (arith, c.from.ensures, vtable_within c.args.flat.now c.args.place c.args.places.now.shape.first c.vtable_of-vtable.result l c.vtable_of-vtable.ensures)

pub overflow_add-field : goal.overflow_add-field
overflow_add-field c =
    let l = leads c.args.flat.now c.args.place c.args.places.now.shape c.requires.found c.requires.some in
    let entry = entry_read c.args.flat.now c.args.place c.args.places.now.shape.first c.vtable_of-vtable.result c.from-2.result l c.vtable_of-vtable.ensures c.u16_at.result c.from.result c.from-2.ensures c.u16_at.ensures c.from.ensures in
    omega (arith, field_within c.args.flat.now c.args.place c.args.places.now.shape.first c.from-2.result l entry)

pub overflow_add-result : goal.overflow_add-result
overflow_add-result c =
    let l = leads c.args.flat.now c.args.place c.args.places.now.shape c.requires.found c.requires.some in
    let entry = entry_read c.args.flat.now c.args.place c.args.places.now.shape.first c.vtable_of-vtable.result c.from-2.result l c.vtable_of-vtable.ensures c.u16_at.result c.from.result c.from-2.ensures c.u16_at.ensures c.from.ensures in
    omega (arith, target_within c.args.flat.now c.args.place c.args.places.now.shape.first c.from-2.result c.in-Ok.distance l entry c.in-Ok.ensures)

pub overflow_add-result-in-Ok : goal.overflow_add-result-in-Ok
overflow_add-result-in-Ok c =
    let l = leads c.args.flat.now c.args.place c.args.places.now.shape c.requires.found c.requires.some in
    let entry = entry_read c.args.flat.now c.args.place c.args.places.now.shape.first c.vtable_of-vtable.result c.from-2.result l c.vtable_of-vtable.ensures c.u16_at.result c.from.result c.from-2.ensures c.u16_at.ensures c.from.ensures in
    omega (arith, target_within c.args.flat.now c.args.place c.args.places.now.shape.first c.from-2.result c.in-Ok.distance l entry c.in-Ok.ensures)

pub unreachable-requires : goal.unreachable-requires
unreachable-requires c =
    let l = leads c.args.flat.now c.args.place c.args.places.now.shape c.requires.found c.requires.some in
    let entry = entry_read c.args.flat.now c.args.place c.args.places.now.shape.first c.vtable_of-vtable.result c.from-2.result l c.vtable_of-vtable.ensures c.u16_at.result c.from.result c.from-2.ensures c.u16_at.ensures c.from.ensures in
    not_missing c.args.flat.now c.args.place c.args.places.now.shape.first c.from-2.result l entry c.in-Err.ensures.1

pub returns : goal.returns
returns c =
    let l = leads c.args.flat.now c.args.place c.args.places.now.shape c.requires.found c.requires.some in
    let entry = entry_read c.args.flat.now c.args.place c.args.places.now.shape.first c.vtable_of-vtable.result c.from-2.result l c.vtable_of-vtable.ensures c.u16_at.result c.from.result c.from-2.ensures c.u16_at.ensures c.from.ensures in
    first_read c.args.flat.now c.args.place c.args.places.now.shape.first c.from-2.result c.in-Ok.distance l entry c.in-Ok.ensures
