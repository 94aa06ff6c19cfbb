use Rattle.std.proofs.Common.{◌∙◌, ap, sym}
use Rattle.vortex_types.specs.DTypes.{term_of}
use Rattle.vortex_array_data.proofs.HeldRows.{never_null, content_valid, valid_met, null_mask, nulls_are}
use Rattle.vortex_array_data.proofs.ConstantRows.{constant_null, constant_valid}
use Rattle.vortex_array_data.proofs.held.Array.+validity_mask.Goals as goal

pub returns-then-is_null-clause-mask : goal.returns-then-is_null-clause-mask
returns-then-is_null-clause-mask t c =
    c.new_false-then-is_null.ensures
    ∙ null_mask c.self.inside c.args.self.now c.self.invariant c.self.view_is
    (constant_null c.self.inside c.in-Constant.value c.in-Constant.is (sym c.if-is_null.ensures))

pub returns-in-Nulls-clause-mask : goal.returns-in-Nulls-clause-mask
returns-in-Nulls-clause-mask t c =
    c.new_false.ensures
    ∙ null_mask c.self.inside c.args.self.now c.self.invariant c.self.view_is
    (nulls_are c.self.inside c.in-Nulls.is)

pub returns-in-Truths-clause-mask : goal.returns-in-Truths-clause-mask
returns-in-Truths-clause-mask t c =
    valid_met c.self.inside c.args.self.now c.meet.result c.new_true.result c.self.invariant c.self.view_is
    (content_valid c.self.inside.held.content (term_of c.self.inside.dtype) c.self.inside.len
    (ap never_null c.in-Truths.is)) c.new_true.ensures c.meet.ensures.mask

pub returns-in-Numbers-clause-mask : goal.returns-in-Numbers-clause-mask
returns-in-Numbers-clause-mask t c =
    valid_met c.self.inside c.args.self.now c.meet-in-Numbers.result c.new_true-in-Numbers.result c.self.invariant c.self.view_is
    (content_valid c.self.inside.held.content (term_of c.self.inside.dtype) c.self.inside.len
    (ap never_null c.in-Numbers.is)) c.new_true-in-Numbers.ensures c.meet-in-Numbers.ensures.mask

pub returns-in-Decimals-clause-mask : goal.returns-in-Decimals-clause-mask
returns-in-Decimals-clause-mask t c =
    valid_met c.self.inside c.args.self.now c.meet-in-Decimals.result c.new_true-in-Decimals.result c.self.invariant c.self.view_is
    (content_valid c.self.inside.held.content (term_of c.self.inside.dtype) c.self.inside.len
    (ap never_null c.in-Decimals.is)) c.new_true-in-Decimals.ensures c.meet-in-Decimals.ensures.mask

pub returns-in-Texts-clause-mask : goal.returns-in-Texts-clause-mask
returns-in-Texts-clause-mask t c =
    valid_met c.self.inside c.args.self.now c.meet-in-Texts.result c.new_true-in-Texts.result c.self.invariant c.self.view_is
    (content_valid c.self.inside.held.content (term_of c.self.inside.dtype) c.self.inside.len
    (ap never_null c.in-Texts.is)) c.new_true-in-Texts.ensures c.meet-in-Texts.ensures.mask

pub returns-in-Lists-clause-mask : goal.returns-in-Lists-clause-mask
returns-in-Lists-clause-mask t c =
    valid_met c.self.inside c.args.self.now c.meet-in-Lists.result c.new_true-in-Lists.result c.self.invariant c.self.view_is
    (content_valid c.self.inside.held.content (term_of c.self.inside.dtype) c.self.inside.len
    (ap never_null c.in-Lists.is)) c.new_true-in-Lists.ensures c.meet-in-Lists.ensures.mask

pub returns-in-FixedLists-clause-mask : goal.returns-in-FixedLists-clause-mask
returns-in-FixedLists-clause-mask t c =
    valid_met c.self.inside c.args.self.now c.meet-in-FixedLists.result c.new_true-in-FixedLists.result c.self.invariant c.self.view_is
    (content_valid c.self.inside.held.content (term_of c.self.inside.dtype) c.self.inside.len
    (ap never_null c.in-FixedLists.is)) c.new_true-in-FixedLists.ensures c.meet-in-FixedLists.ensures.mask

pub returns-in-Structs-clause-mask : goal.returns-in-Structs-clause-mask
returns-in-Structs-clause-mask t c =
    valid_met c.self.inside c.args.self.now c.meet-in-Structs.result c.new_true-in-Structs.result c.self.invariant c.self.view_is
    (content_valid c.self.inside.held.content (term_of c.self.inside.dtype) c.self.inside.len
    (ap never_null c.in-Structs.is)) c.new_true-in-Structs.ensures c.meet-in-Structs.ensures.mask

pub returns-else-is_null-clause-mask : goal.returns-else-is_null-clause-mask
returns-else-is_null-clause-mask t c =
    valid_met c.self.inside c.args.self.now c.meet-in-Constant.result c.new_true-in-Constant.result c.self.invariant
    c.self.view_is
    (constant_valid c.self.inside c.in-Constant.value c.self.invariant c.in-Constant.is (sym c.if-is_null.ensures))
    c.new_true-in-Constant.ensures c.meet-in-Constant.ensures.mask
