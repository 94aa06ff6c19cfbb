use Rattle.std.proofs.Common.{◌≡◌, ◌<◌, [], ◌++◌, length, ap, arith, rules}
use Rattle.std.proofs.lemmas.List.{nil_from_length}
use Rattle.std.proofs.lemmas.Bool.Decides.{nat_tests}
use Rattle.vortex_select.specs.Layout.{type_message, array_message}
use Rattle.vortex_select.specs.inner.KeptRows.{kept_region}
use Rattle.vortex_select.proofs.Complete.{no_type, stream_arrays, arrays_behind, no_arrays}
use Rattle.vortex_select.proofs.SelectionLemmas.{progress_start, progress_more, progress_end, rest_shorter, after_type_shorter}
use Rattle.vortex_select.proofs.whole_output.output_for.Goals as goal

pub loop-rest-init : goal.loop-rest-init
loop-rest-init c =
    let query = c.args.query.now in
    let start = c.in-Ok.rest.now in
    let bytes : c.push_type.new.out.items ≡ type_message = search rules in
    let prefixes : c.new-prefixes.result.items ≡ [] = c.new-prefixes.ensures.items in
    record {
      progress = rw (bytes, prefixes) (progress_start query start);
      short = after_type_shorter c.args.input.now start c.in-Ok.ensures;
      behind = λ h. h;
    }

pub loop-rest-smaller : goal.loop-rest-smaller
loop-rest-smaller c = rest_shorter c.loop-rest.rest.now (c.in-Ok-primitive_array.rows.now, c.in-Ok-primitive_array.after.now) c.in-Ok-primitive_array.ensures.found

pub loop-rest-preserved : goal.loop-rest-preserved
loop-rest-preserved c =
    let query = c.args.query.now in
    let array = c.in-Ok-primitive_array in
    let some : 0 < length c.loop-rest.rest.now = grind (arith, nat_tests) in
    let len : c.len.result ≡ length (c.loop-rest.bytes.items ++ array_message (kept_region query array.rows.now)) = omega (arith, ap length c.in_ok-kept.ensures.message) in
    let more = progress_more query c.in-Ok.rest.now c.loop-rest.rest.now c.loop-rest.bytes.items c.loop-rest.counts c.loop-rest.prefixes.items (array.rows.now, array.after.now) c.len.result c.loop-rest.invariant.progress array.ensures.found array.ensures.short len in
    record {
      progress = rw (c.in_ok-push.ensures.items, c.in_ok-kept.ensures.message, c.in_ok-kept.ensures.kept) more;
      short = c.loop-rest.invariant.short;
      behind = λ h. arrays_behind c.loop-rest.rest.now (array.rows.now, array.after.now) some array.ensures.found (c.loop-rest.invariant.behind h);
    }

pub returns-clause-made : goal.returns-clause-made
returns-clause-made c =
    let none : c.loop-rest.rest.now ≡ [] = nil_from_length _ (grind (arith, nat_tests)) in
    progress_end c.args.query.now c.args.input.now c.in-Ok.rest.now c.loop-rest.rest.now c.loop-rest.bytes.items c.loop-rest.counts c.loop-rest.prefixes.items c.in-Ok.ensures none c.loop-rest.invariant.progress

pub returns-in_default-clause-unbuilt : goal.returns-in_default-clause-unbuilt
returns-in_default-clause-unbuilt c = λ e h. no_type c.args.input.now c.in_default.ensures.1 h

pub returns-in_default-primitive_array-clause-unbuilt : goal.returns-in_default-primitive_array-clause-unbuilt
returns-in_default-primitive_array-clause-unbuilt c =
    let some : 0 < length c.loop-rest.rest.now = grind (arith, nat_tests) in
    λ e h. no_arrays c.loop-rest.rest.now some c.in_default-primitive_array.ensures.found.1 (c.loop-rest.invariant.behind (stream_arrays c.args.input.now c.in-Ok.rest.now c.in-Ok.ensures h))
