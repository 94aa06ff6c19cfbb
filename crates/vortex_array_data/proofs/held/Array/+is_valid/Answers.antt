use Rattle.std.proofs.Common.{ap, sym}
use Rattle.vortex_types.specs.DTypes.{term_of}
use Rattle.vortex_array_data.proofs.HeldRows.{never_null, content_valid, valid_is, null_is, nulls_are}
use Rattle.vortex_array_data.proofs.ConstantRows.{constant_null, constant_valid}
use Rattle.vortex_array_data.proofs.held.Array.+is_valid.Goals as goal

pub returns-in-Nulls : goal.returns-in-Nulls
returns-in-Nulls t c =
    null_is c.self.inside c.args.i c.args.self.now c.self.invariant c.self.view_is
    (nulls_are c.self.inside c.in-Nulls.is) c.requires

pub returns-in-Truths : goal.returns-in-Truths
returns-in-Truths t c =
    valid_is c.self.inside c.args.i c.args.self.now c.is_unmasked.result c.self.invariant c.self.view_is
    (content_valid c.self.inside.held.content (term_of c.self.inside.dtype) c.self.inside.len
    (ap never_null c.in-Truths.is)) c.requires c.is_unmasked.ensures

pub returns-in-Numbers : goal.returns-in-Numbers
returns-in-Numbers t c =
    valid_is c.self.inside c.args.i c.args.self.now c.is_unmasked-in-Numbers.result c.self.invariant c.self.view_is
    (content_valid c.self.inside.held.content (term_of c.self.inside.dtype) c.self.inside.len
    (ap never_null c.in-Numbers.is)) c.requires c.is_unmasked-in-Numbers.ensures

pub returns-in-Decimals : goal.returns-in-Decimals
returns-in-Decimals t c =
    valid_is c.self.inside c.args.i c.args.self.now c.is_unmasked-in-Decimals.result c.self.invariant c.self.view_is
    (content_valid c.self.inside.held.content (term_of c.self.inside.dtype) c.self.inside.len
    (ap never_null c.in-Decimals.is)) c.requires c.is_unmasked-in-Decimals.ensures

pub returns-in-Texts : goal.returns-in-Texts
returns-in-Texts t c =
    valid_is c.self.inside c.args.i c.args.self.now c.is_unmasked-in-Texts.result c.self.invariant c.self.view_is
    (content_valid c.self.inside.held.content (term_of c.self.inside.dtype) c.self.inside.len
    (ap never_null c.in-Texts.is)) c.requires c.is_unmasked-in-Texts.ensures

pub returns-in-Lists : goal.returns-in-Lists
returns-in-Lists t c =
    valid_is c.self.inside c.args.i c.args.self.now c.is_unmasked-in-Lists.result c.self.invariant c.self.view_is
    (content_valid c.self.inside.held.content (term_of c.self.inside.dtype) c.self.inside.len
    (ap never_null c.in-Lists.is)) c.requires c.is_unmasked-in-Lists.ensures

pub returns-in-FixedLists : goal.returns-in-FixedLists
returns-in-FixedLists t c =
    valid_is c.self.inside c.args.i c.args.self.now c.is_unmasked-in-FixedLists.result c.self.invariant c.self.view_is
    (content_valid c.self.inside.held.content (term_of c.self.inside.dtype) c.self.inside.len
    (ap never_null c.in-FixedLists.is)) c.requires c.is_unmasked-in-FixedLists.ensures

pub returns-in-Structs : goal.returns-in-Structs
returns-in-Structs t c =
    valid_is c.self.inside c.args.i c.args.self.now c.is_unmasked-in-Structs.result c.self.invariant c.self.view_is
    (content_valid c.self.inside.held.content (term_of c.self.inside.dtype) c.self.inside.len
    (ap never_null c.in-Structs.is)) c.requires c.is_unmasked-in-Structs.ensures

pub returns-then-is_null : goal.returns-then-is_null
returns-then-is_null t c =
    null_is c.self.inside c.args.i c.args.self.now c.self.invariant c.self.view_is
    (constant_null c.self.inside c.in-Constant.value c.in-Constant.is (sym c.if-is_null.ensures)) c.requires

pub returns-else-is_null : goal.returns-else-is_null
returns-else-is_null t c =
    valid_is c.self.inside c.args.i c.args.self.now c.is_unmasked-in-Constant.result c.self.invariant c.self.view_is
    (constant_valid c.self.inside c.in-Constant.value c.self.invariant c.in-Constant.is (sym c.if-is_null.ensures))
    c.requires c.is_unmasked-in-Constant.ensures
