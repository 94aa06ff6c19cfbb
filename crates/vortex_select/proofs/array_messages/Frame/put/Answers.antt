use Rattle.std.proofs.Common.{◌≡◌, ◌+◌, ◌/◌, length, take, drop, ap, ◌∙◌, arith}
use Rattle.std.specs.Int.{w32, to_le_bytes}
use Rattle.vortex_select.specs.Layout.{array_header, body_end}
use Rattle.vortex_select.proofs.Laying.{frame_put}
use Rattle.vortex_select.proofs.array_messages.Frame.put.Goals as goal

pub returns : goal.returns
returns c =
    let header = c.deref.result.now in
    let flat = c.deref-2.result.now in
    let len = c.args.self.now in
    let header-is : header ≡ drop 4 (array_header (len / 8) (len + 116)) = c.deref.ensures.value ∙ c.self.invariant.0 ∙ ap (λ n. drop 4 (array_header (n / 8) (n + 116))) c.self.view_is in
    let flat-is : flat ≡ take 112 (body_end len) = c.deref-2.ensures.value ∙ c.self.invariant.1 ∙ ap (λ n. take 112 (body_end n)) c.self.view_is in
    let tail : c.to_le_bytes.result ≡ to_le_bytes w32 (length flat) = c.to_le_bytes.ensures ∙ ap (to_le_bytes w32) (omega arith) in
    frame_put c.args.out.now.items c.fill_header.new.bytes.items c.extend_from_slice.new.self.items c.extend_from_slice-2.new.self.items header flat c.to_le_bytes.result c.args.start len header-is flat-is tail c.fill_header.ensures c.in_ok-extend_from_slice.ensures.items c.in_ok-extend_from_slice-2.ensures.items
