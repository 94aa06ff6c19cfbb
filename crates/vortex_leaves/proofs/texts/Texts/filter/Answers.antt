use Rattle.std.proofs.Common.{rules, ◌≡◌, ◌+◌, ◌<◌, length, true, false, sym, ◌∙◌, arith}
use Rattle.vortex_leaves.specs.Texts.{text_pieces}
use Rattle.vortex_leaves.proofs.Pieces.{kept_room, kept_yes, kept_no, kept_made}
use Rattle.vortex_leaves.proofs.texts.Texts.filter.Goals as goal
use Rattle.vortex_leaves.proofs.texts.Texts.filter.Goals.{then-value+in_ok-extend_from_slice+in_ok-push, else-value}

pub as_offset-requires : goal.as_offset-requires
as_offset-requires c =
    let long : c.len.result ≡ length c.extend_from_slice.new.self.items = search rules in
    rw long (kept_room c.args.mask.now c.args.self.now.offsets c.args.self.now.bytes c.loop-i.i
    c.bounds-most.result.1 c.loop-i.offsets c.loop-i.bytes.items c.extend_from_slice.new.self.items c.piece.result.now
    c.loop-i.invariant c.law.ensures.offsets.rise c.piece.ensures (search rules) c.in_ok-extend_from_slice.ensures.items)

pub loop-i-preserved : goal.loop-i-preserved
loop-i-preserved c =
    let l : c.loop-i.i < length (text_pieces c.args.self.now) = search rules in
    let room : c.loop-i.i + 1 < length c.args.self.now.offsets = omega (arith, l, c.law.ensures.offsets.count) in
    elim c.if-value.branch [
      | then-value+in_ok-extend_from_slice+in_ok-push w ↦ rw (w.offsets-is, w.bytes-is) (kept_yes c.args.mask.now c.args.self.now.offsets c.args.self.now.bytes c.loop-i.i w.as_offset.result c.loop-i.offsets w.push.new.self c.loop-i.bytes.items w.extend_from_slice.new.self.items w.piece.result.now c.loop-i.invariant c.law.ensures.offsets.rise c.requires.same_len l (sym c.value.ensures ∙ w.if-value.true) w.piece.ensures w.in_ok-extend_from_slice.ensures.items (search rules) w.in_ok-push.ensures.pushed)
      | else-value w ↦ rw (w.offsets-is, w.bytes-is) (kept_no c.args.mask.now c.args.self.now.offsets c.args.self.now.bytes c.loop-i.i c.loop-i.offsets c.loop-i.bytes.items c.loop-i.invariant c.law.ensures.offsets.rise c.requires.same_len l (sym c.value.ensures ∙ w.if-value.false) room)
    ]

pub invariant_of-result : goal.invariant_of-result
invariant_of-result c =
    kept_made c.args.mask.now c.args.self.now.offsets c.args.self.now.bytes c.loop-i.i c.loop-i.offsets
    c.in_ok-offsets-2.offsets c.loop-i.bytes.items c.in_ok-bytes.bytes c.as_slice.result.now c.loop-i.invariant
    c.in_ok-offsets-2.ensures c.in_ok-bytes.ensures.ok c.as_slice.ensures c.are_bytes.ensures
