use Rattle.std.proofs.Common.{ℕ, List, Option, ◌++◌, ap, sym, ◌∙◌, ◌+◌, ◌-◌, arith}
use Rattle.std.specs.Global.{Vec}
use Rattle.std.specs.Option.{option_map}
use Rattle.vortex_flat.specs.Numbers.{number}
use Rattle.vortex_flat.specs.Targets.{element}
use Rattle.vortex_prelude.specs.Elements.{elements}
use Rattle.vortex_body.specs.Body.{BufferDescriptor, descriptor_of}
use Rattle.vortex_body.specs.inner.Walked.{buffers_from}
use Rattle.vortex_body.proofs.Buffers.{all_cut, cut_refused, one_cut}
use Rattle.vortex_body.proofs.Making.{passes_on}
use Rattle.vortex_body.proofs.body.cut_buffers.Goals as goal

pub returns-in_err-buffer : goal.returns-in_err-buffer
returns-in_err-buffer c =
    let v = c.args.descriptors.now.shape in
    let f : ℕ → Option BufferDescriptor = λ j. option_map descriptor_of (number c.args.descriptors.now.buffer (element v j) 8) in
    passes_on (λ (buffers : Vec (List ℕ)). buffers.items) c.from_residual-in_err-buffer.result c.in_err-buffer.field-0.0 _ c.from_residual-in_err-buffer.ensures.1
    (cut_refused f c.loop-i.i v.count (descriptor_of c.u64.result) c.loop-i.buffers.items c.loop-i.rest c.in_err-buffer.field-0.0 _ (omega arith) (ap (option_map descriptor_of) (sym c.u64.ensures)) c.in_err-buffer.ensures c.loop-i.invariant)

pub loop-i-preserved : goal.loop-i-preserved
loop-i-preserved c =
    let v = c.args.descriptors.now.shape in
    let f : ℕ → Option BufferDescriptor = λ j. option_map descriptor_of (number c.args.descriptors.now.buffer (element v j) 8) in
    ap (λ xs. option_map (λ bs. xs ++ bs) (buffers_from c.in_ok-buffer.behind (elements f (c.loop-i.i + 1) (v.count - (c.loop-i.i + 1))))) c.in_ok-push.ensures.items
    ∙ one_cut f c.loop-i.i v.count (descriptor_of c.u64.result) c.loop-i.buffers.items c.loop-i.rest c.in_ok-buffer.buffer c.in_ok-buffer.behind _ (omega arith) (ap (option_map descriptor_of) (sym c.u64.ensures)) c.in_ok-buffer.ensures c.loop-i.invariant

pub returns : goal.returns
returns c =
    let v = c.args.descriptors.now.shape in
    let f : ℕ → Option BufferDescriptor = λ j. option_map descriptor_of (number c.args.descriptors.now.buffer (element v j) 8) in
    all_cut f c.loop-i.i v.count c.loop-i.buffers.items c.loop-i.rest _ (omega arith) c.loop-i.invariant
