use Rattle.std.proofs.Common.{refl, ◌≤◌, [], ◌∷◌, ap, ◌∙◌, sym, subst, arith, Result, Ok, Err, OnErr, map, length}
use Rattle.std.proofs.lemmas.List.{length-map, map-append}
use Rattle.vortex_terms.specs.Row.{null_row}
use Rattle.vortex_dict.specs.KeyRows.{bytes_or_null}
use Rattle.vortex_dict.specs.Encoding.{code_number}
use Rattle.vortex_dict.specs.Limits.{bytes_over, byte_count}
use Rattle.vortex_dict.proofs.EncodingLemmas.{more_by, ends, stops_by, too_large}
use Rattle.vortex_dict.proofs.SizeLemmas.{not_too_large}
use Rattle.vortex_dict.proofs.ValueLemmas.{err_is}
use Rattle.vortex_dict.proofs.SliceLemmas.{got}
use Rattle.vortex_dict.proofs.bytes.BytesDictEncoder.encode.Goals as goal

on_err : {T E P : Type 0} (r : Result T E) → P → OnErr r P
on_err (Ok x) p = tt
on_err (Err e) p = p

pub returns-in-Ok-None-clause-encoded : goal.returns-in-Ok-None-clause-encoded
returns-in-Ok-None-clause-encoded g c = stops_by (bytes_over g.Code.WholeNumber.format c.args.self.now.constraints) _ _ _ _ _ c.loop-i.invariant.0 _ _ (got bytes_or_null c.args.rows.now c.loop-i.i _ null_row c.get.ensures) (let n = length-map c.args.rows.now bytes_or_null in omega (arith, n, c.loop-i-test.true, c.len-i-end.ensures)) (rw (c.loop-i.invariant.1, c.in-Ok-None.field-0-is) at c.in-Ok-None.ensures.encoded)

pub returns-in-Ok-None-clause-full : goal.returns-in-Ok-None-clause-full
returns-in-Ok-None-clause-full g c = λ p. absurd (not_too_large byte_count (bytes_over g.Code.WholeNumber.format c.args.self.now.constraints) _ _ _ _ (stops_by (bytes_over g.Code.WholeNumber.format c.args.self.now.constraints) _ _ _ _ _ c.loop-i.invariant.0 _ _ (got bytes_or_null c.args.rows.now c.loop-i.i _ null_row c.get.ensures) (let n = length-map c.args.rows.now bytes_or_null in omega (arith, n, c.loop-i-test.true, c.len-i-end.ensures)) (rw (c.loop-i.invariant.1, c.in-Ok-None.field-0-is) at c.in-Ok-None.ensures.encoded)) c.law-in-Ok-None.ensures.small p)

pub returns-clause-full : goal.returns-clause-full
returns-clause-full g c =
    let n = length-map c.args.rows.now bytes_or_null in
    λ p. absurd (not_too_large byte_count (bytes_over g.Code.WholeNumber.format c.args.self.now.constraints) _ _ _ _ (ends (bytes_over g.Code.WholeNumber.format c.args.self.now.constraints) _ _ _ _ _ c.loop-i.invariant.0 (omega (arith, n, c.loop-i-test.false, c.loop-i.auto.i-end, c.len-i-end.ensures)) (omega (arith, n, c.loop-i-test.false, c.loop-i.auto.i-end, c.len-i-end.ensures))) c.law-2.ensures.small p)

pub returns-in-Err-clause-too_large : goal.returns-in-Err-clause-too_large
returns-in-Err-clause-too_large g c = λ h. too_large (bytes_over g.Code.WholeNumber.format c.args.self.now.constraints) _ _ _ _ _ c.loop-i.invariant.0 byte_count _ (got bytes_or_null c.args.rows.now c.loop-i.i _ null_row c.get.ensures) (let n = length-map c.args.rows.now bytes_or_null in omega (arith, n, c.loop-i-test.true, c.len-i-end.ensures)) c.in-Err.ensures.new (rw c.loop-i.invariant.1 at c.in-Err.ensures.within) (c.in-Err.ensures.too_large (ap (λ x. Err x) (err_is _ _ _ _ refl refl h)))

pub loop-i-preserved : goal.loop-i-preserved
loop-i-preserved g c =
    let number = code_number g.Code.WholeNumber.number in
    let codes = ap (map number) c.push_reserved.ensures.items ∙ map-append number c.loop-i.codes.items (c.in-Ok-Some.code ∷ []) in
    (rw codes (more_by (bytes_over g.Code.WholeNumber.format c.args.self.now.constraints) _ _ _ _ _ c.loop-i.invariant.0 _ _ (got bytes_or_null c.args.rows.now c.loop-i.i _ null_row c.get.ensures) (let n = length-map c.args.rows.now bytes_or_null in omega (arith, n, c.loop-i-test.true, c.len-i-end.ensures)) _ (rw (c.loop-i.invariant.1, c.in-Ok-Some.field-0-is) at c.in-Ok-Some.ensures.encoded)), c.encode_value.ensures.constraints ∙ c.loop-i.invariant.1, subst (λ n. length c.args.rows.now ≤ n) (sym c.push_reserved.ensures.capacity) c.loop-i.invariant.2)
