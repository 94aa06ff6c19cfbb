use Rattle.std.proofs.Common.{◌≡◌, ◌-◌, ◌++◌, ℕ, List, length, replicate, refl, ap, ◌∙◌, arith, length-append}
use Rattle.vortex_select.specs.inner.KeptRows.{kept_region}
use Rattle.vortex_select.proofs.KeptRows.{kept_short, message_of}
use Rattle.vortex_select.proofs.array_messages.push_selected.Goals as goal

pub overflow_cast-len : goal.overflow_cast-len
overflow_cast-len c =
    let old = c.args.out.now.items in
    let room : List ℕ = replicate 108 0 in
    let region = kept_region c.args.query.now c.args.rows.now in
    let out : c.push_kept.new.out.items ≡ (old ++ room) ++ region = c.in_ok-push_kept.ensures ∙ ap (λ (l : List ℕ). l ++ region) c.in_ok-extend_from_slice.ensures.items in
    omega (arith, kept_short c.args.query.now c.args.rows.now, ap length out, length-append (old ++ room) region, length-append old room)

pub returns-clause-message : goal.returns-clause-message
returns-clause-message c =
    let old = c.args.out.now.items in
    let room : List ℕ = replicate 108 0 in
    let region = kept_region c.args.query.now c.args.rows.now in
    let out : c.push_kept.new.out.items ≡ (old ++ room) ++ region = c.in_ok-push_kept.ensures ∙ ap (λ (l : List ℕ). l ++ region) c.in_ok-extend_from_slice.ensures.items in
    let start : c.len-start.result ≡ length old = omega arith in
    let n = c.len.result - c.len-start.result - 108 in
    let len : n ≡ length region = omega (arith, ap length out, length-append (old ++ room) region, length-append old room) in
    message_of old room region c.push_kept.new.out.items c.put.new.out.items c.len-start.result n refl start len out c.in_ok-put.ensures
