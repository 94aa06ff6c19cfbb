use Rattle.std.proofs.Common.{map, ap, ◌∙◌, ◌++◌, ◌∷◌, []}
use Rattle.std.proofs.lemmas.List.{map-append}
use Rattle.vortex_terms_check.specs.Plain.{row_of}
use Rattle.vortex_terms_check.proofs.LastRow.{last_seen, last_new}
use Rattle.vortex_terms_check.proofs.dictionary.+distinct.Goals as goal

pub returns-then-stands : goal.returns-then-stands
returns-then-stands t c = last_seen row_of c.args.rows.now c.last-item.result (map row_of c.in_ok-out-in-len1-up.out.items) c.stands.result c.in-len1-up.len_at_least c.last-item.is c.in_ok-out-in-len1-up.ensures (rw c.deref.ensures.value at c.stands.ensures) c.if-stands.true

pub returns-in_ok-push-in-len1-up : goal.returns-in_ok-push-in-len1-up
returns-in_ok-push-in-len1-up t c =
    let before = c.in_ok-out-in-len1-up.out.items in
    let one = c.in_ok-copy-in-len1-up.field-0 in
    ap (map row_of) c.in_ok-push-in-len1-up.ensures.items
    ∙ map-append row_of before (one ∷ [])
    ∙ ap (λ r. map row_of before ++ r ∷ []) c.in_ok-copy-in-len1-up.ensures
    ∙ last_new row_of c.args.rows.now c.last-item.result (map row_of before) c.stands.result c.in-len1-up.len_at_least c.last-item.is c.in_ok-out-in-len1-up.ensures (rw c.deref.ensures.value at c.stands.ensures) c.if-stands.false
