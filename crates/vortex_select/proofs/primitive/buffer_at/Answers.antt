use Rattle.std.proofs.Common.{◌≡◌, ◌<◌, ◌-◌, ◌+◌, ℕ, take, drop, Option, Some, inl, inr, refl, sym, ap, ◌∙◌, arith, length-take}
use Rattle.std.proofs.lemmas.List.{drop-drop}
use Rattle.std.specs.Option.{option_copied, option_map}
use Rattle.vortex_flat.specs.Numbers.{number}
use Rattle.vortex_flat.specs.Targets.{element}
use Rattle.vortex_prelude.specs.Elements.{elements}
use Rattle.vortex_select.specs.Column.{BufferDescriptor, descriptor_of}
use Rattle.vortex_select.proofs.PrimitiveLoops.{picked_fail, picked_more, picked_now, picked_next, picked_end, picked_first, found_more, answers_found, FitsIn, its_buffer, behind}
use Rattle.vortex_select.proofs.primitive.buffer_at.Goals as goal
use Rattle.vortex_select.proofs.primitive.buffer_at.Goals.{then-compression-ne0-via-then-compression-ne0, then-compression-ne0-via-else-compression-ne0+then-rest-padding, then-i-wanted, else-i-wanted}

pub loop-i-init : goal.loop-i-init
loop-i-init c =
    let entry_at : ℕ → Option BufferDescriptor = λ j. option_map descriptor_of (number c.args.descriptors.now.buffer (element c.args.descriptors.now.shape j) 8) in
    record {
      picks = picked_first entry_at c.args.region.now c.args.descriptors.now.shape.count c.args.wanted;
      by = omega arith;
    }

pub returns-then-compression-ne0-clause-found : goal.returns-then-compression-ne0-clause-found
returns-then-compression-ne0-clause-found c =
    let entry_at : ℕ → Option BufferDescriptor = λ j. option_map descriptor_of (number c.args.descriptors.now.buffer (element c.args.descriptors.now.shape j) 8) in
    let n = c.args.descriptors.now.shape.count in
    let i = c.loop-i.i in
    let lt : i < n = omega arith in
    let next = picked_next entry_at (option_copied c.loop-i.found) c.loop-i.rest.now i n (c.args.wanted - i) (descriptor_of c.u64-entry.result) _ lt (ap (option_map descriptor_of) (sym c.u64-entry.ensures)) c.loop-i.invariant.picks in (
      refl,
      sym next ∙ picked_fail (option_copied c.loop-i.found) (descriptor_of c.u64-entry.result) c.loop-i.rest.now (elements entry_at (i + 1) (n - (i + 1))) (c.args.wanted - i)
          (elim c.then-compression-ne0.branch [
            | then-compression-ne0-via-then-compression-ne0 w ↦ inl w.if-compression-ne0.true
            | then-compression-ne0-via-else-compression-ne0+then-rest-padding w ↦ inr w.if-rest-padding.true
          ]),
    )

pub loop-i-preserved : goal.loop-i-preserved
loop-i-preserved c =
    let entry_at : ℕ → Option BufferDescriptor = λ j. option_map descriptor_of (number c.args.descriptors.now.buffer (element c.args.descriptors.now.shape j) 8) in
    let n = c.args.descriptors.now.shape.count in
    let i = c.loop-i.i in
    let entry = descriptor_of c.u64-entry.result in
    let rest = c.loop-i.rest.now in
    let lt : i < n = omega arith in
    let fits : FitsIn entry rest = (c.if-compression-ne0.false, c.if-rest-padding.false) in
    let next = picked_next entry_at (option_copied c.loop-i.found) rest i n (c.args.wanted - i) entry _ lt (ap (option_map descriptor_of) (sym c.u64-entry.ensures)) c.loop-i.invariant.picks in
    let after : c.split_at-in-loop-i.result.1.now ≡ behind entry rest = c.split_at-in-loop-i.ensures.back ∙ ap (drop (entry.length)) c.split_at.ensures.back ∙ drop-drop (entry.length) (entry.padding) rest in
    let buffer : c.split_at-in-loop-i.result.0.now ≡ its_buffer entry rest = c.split_at-in-loop-i.ensures.front ∙ ap (take (entry.length)) c.split_at.ensures.back in
    elim c.if-i-wanted.branch [
      | then-i-wanted w ↦
          (let found : option_copied c.if-i-wanted.found ≡ Some (its_buffer entry rest) = ap option_copied w.found-is ∙ ap Some buffer in
          record {
            picks = rw (found, after) (picked_now (option_copied c.loop-i.found) c.args.wanted i entry rest (elements entry_at (i + 1) (n - (i + 1))) _ w.if-i-wanted.true c.loop-i.invariant.by fits next);
            by = rw found (omega arith, omega (arith, length-take (entry.length) (drop (entry.padding) rest)));
          })
      | else-i-wanted w ↦
          (let found : option_copied c.if-i-wanted.found ≡ option_copied c.loop-i.found = ap option_copied w.found-is in
          record {
            picks = rw (found, after) (picked_more (option_copied c.loop-i.found) c.args.wanted i entry rest (elements entry_at (i + 1) (n - (i + 1))) _ w.if-i-wanted.false c.loop-i.invariant.by fits next);
            by = rw found (found_more (option_copied c.loop-i.found) c.args.wanted i w.if-i-wanted.false c.loop-i.invariant.by);
          })
    ]

pub returns-clause-found : goal.returns-clause-found
returns-clause-found c =
    let entry_at : ℕ → Option BufferDescriptor = λ j. option_map descriptor_of (number c.args.descriptors.now.buffer (element c.args.descriptors.now.shape j) 8) in
    let n = c.args.descriptors.now.shape.count in
    answers_found c.loop-i.found c.ok_or.result _ c.ok_or.ensures.value (picked_end entry_at (option_copied c.loop-i.found) c.loop-i.rest.now c.loop-i.i n (c.args.wanted - c.loop-i.i) _ (omega arith) c.loop-i.invariant.picks)
