use Rattle.std.proofs.Common.{◌≡◌, ◌∙◌}
use Rattle.std.specs.List.{flat_map}
use Rattle.vortex_array_plain.specs.PlainValues.{bytes_in}
use Rattle.vortex_array_plain.proofs.PlainLeaves.{texts_joined, texts_within}
use Rattle.vortex_array_plain.proofs.plain_leaves.text_values.Goals as goal

pub from_parts-requires : goal.from_parts-requires
from_parts-requires c =
    let bytes : c.in_ok-bytes.bytes ≡ flat_map bytes_in c.args.values.now = c.in_ok-bytes.ensures.ok ∙ c.in_ok-all_bytes.ensures in
    texts_within c.args.values.now c.in_ok-offsets.offsets c.in_ok-bytes.bytes c.deref.result.now c.in_ok-offsets.ensures
    (c.deref.ensures.value ∙ c.in_ok-sizes.ensures) bytes

pub returns : goal.returns
returns c =
    let bytes : c.in_ok-bytes.bytes ≡ flat_map bytes_in c.args.values.now = c.in_ok-bytes.ensures.ok ∙ c.in_ok-all_bytes.ensures in
    texts_joined c.args.values.now c.in_ok-offsets.offsets c.in_ok-bytes.bytes c.deref.result.now c.from_parts.result
    c.from_parts.ensures c.in_ok-offsets.ensures (c.deref.ensures.value ∙ c.in_ok-sizes.ensures) bytes
