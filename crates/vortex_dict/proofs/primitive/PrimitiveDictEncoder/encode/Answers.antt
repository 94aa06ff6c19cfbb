use Rattle.std.proofs.Common.{refl, ◌≡◌, ◌≤◌, ◌+◌, [], ◌∷◌, ap, ◌∙◌, sym, subst, arith, Result, Ok, Err, OnErr, map}
use Rattle.std.proofs.Common.{length, suc, ◌*◌, mul-suc}
use Rattle.std.proofs.lemmas.List.{length-map, map-append}
use Rattle.vortex_number.specs.PType.{byte_width_of}
use Rattle.vortex_terms.specs.Row.{null_row}
use Rattle.vortex_dict.specs.KeyRows.{number_or_null}
use Rattle.vortex_dict.specs.Encoding.{code_number}
use Rattle.vortex_dict.specs.Limits.{numbers_over}
use Rattle.vortex_dict.proofs.EncodingLemmas.{start, part, more_by, ends, stops_by}
use Rattle.vortex_dict.proofs.EncodingLemmas.{too_large}
use Rattle.vortex_dict.proofs.SizeLemmas.{not_too_large}
use Rattle.vortex_dict.proofs.NumberLemmas.{sum_widths}
use Rattle.vortex_dict.proofs.ValueLemmas.{err_is}
use Rattle.vortex_dict.proofs.SliceLemmas.{got}
use Rattle.vortex_dict.proofs.primitive.PrimitiveDictEncoder.encode.Goals as goal

on_err : {T E P : Type 0} (r : Result T E) → P → OnErr r P
on_err (Ok x) p = tt
on_err (Err e) p = p

pub returns-in_err-codes-clause-part : goal.returns-in_err-codes-clause-part
returns-in_err-codes-clause-part g c =
    let over = numbers_over g.Code.WholeNumber.format (byte_width_of g.T.NativePType.PTYPE) c.args.self.now.constraints in
    let held = c.args.self.now.values in
    let rows = map (number_or_null g.T.WholeNumber.number) c.args.rows.now in
    on_err c.from_residual.result (part over held rows 0 held [] (start over held rows c.law.ensures.distinct) held refl (omega arith))

pub returns-in-Ok-None-clause-encoded : goal.returns-in-Ok-None-clause-encoded
returns-in-Ok-None-clause-encoded g c = stops_by (numbers_over g.Code.WholeNumber.format (byte_width_of g.T.NativePType.PTYPE) c.args.self.now.constraints) _ _ _ _ _ c.loop-i.invariant.0 _ _ (got (number_or_null g.T.WholeNumber.number) c.args.rows.now c.loop-i.i _ null_row c.get.ensures) (let n = length-map c.args.rows.now (number_or_null g.T.WholeNumber.number) in omega (arith, n, c.loop-i-test.true, c.len-i-end.ensures)) (rw (c.loop-i.invariant.1, c.in-Ok-None.field-0-is) at c.in-Ok-None.ensures.encoded)

pub returns-in-Ok-None-clause-full : goal.returns-in-Ok-None-clause-full
returns-in-Ok-None-clause-full g c = λ p. absurd (not_too_large (λ r. byte_width_of g.T.NativePType.PTYPE) (numbers_over g.Code.WholeNumber.format (byte_width_of g.T.NativePType.PTYPE) c.args.self.now.constraints) _ _ _ _ (stops_by (numbers_over g.Code.WholeNumber.format (byte_width_of g.T.NativePType.PTYPE) c.args.self.now.constraints) _ _ _ _ _ c.loop-i.invariant.0 _ _ (got (number_or_null g.T.WholeNumber.number) c.args.rows.now c.loop-i.i _ null_row c.get.ensures) (let n = length-map c.args.rows.now (number_or_null g.T.WholeNumber.number) in omega (arith, n, c.loop-i-test.true, c.len-i-end.ensures)) (rw (c.loop-i.invariant.1, c.in-Ok-None.field-0-is) at c.in-Ok-None.ensures.encoded)) c.law-in-Ok-None.ensures.small p)

pub returns-clause-full : goal.returns-clause-full
returns-clause-full g c =
    let n = length-map c.args.rows.now (number_or_null g.T.WholeNumber.number) in
    λ p. absurd (not_too_large (λ r. byte_width_of g.T.NativePType.PTYPE) (numbers_over g.Code.WholeNumber.format (byte_width_of g.T.NativePType.PTYPE) c.args.self.now.constraints) _ _ _ _ (ends (numbers_over g.Code.WholeNumber.format (byte_width_of g.T.NativePType.PTYPE) c.args.self.now.constraints) _ _ _ _ _ c.loop-i.invariant.0 (omega (arith, n, c.loop-i-test.false, c.loop-i.auto.i-end, c.len-i-end.ensures)) (omega (arith, n, c.loop-i-test.false, c.loop-i.auto.i-end, c.len-i-end.ensures))) c.law-2.ensures.small p)

pub returns-in-Err-clause-too_large : goal.returns-in-Err-clause-too_large
returns-in-Err-clause-too_large g c = λ h. too_large (numbers_over g.Code.WholeNumber.format (byte_width_of g.T.NativePType.PTYPE) c.args.self.now.constraints) _ _ _ _ _ c.loop-i.invariant.0 (λ r. byte_width_of g.T.NativePType.PTYPE) _ (got (number_or_null g.T.WholeNumber.number) c.args.rows.now c.loop-i.i _ null_row c.get.ensures) (let n = length-map c.args.rows.now (number_or_null g.T.WholeNumber.number) in omega (arith, n, c.loop-i-test.true, c.len-i-end.ensures)) c.in-Err.ensures.new (rw c.loop-i.invariant.1 at c.in-Err.ensures.within) (let w = byte_width_of g.T.NativePType.PTYPE in let sum = sum_widths w c.loop-i.self.values in let one = mul-suc w (length c.loop-i.self.values) in let most = c.in-Err.ensures.too_large (ap (λ x. Err x) (err_is _ _ _ _ refl refl h)) in let next : length c.loop-i.self.values + 1 ≡ suc (length c.loop-i.self.values) = omega arith in let same = ap (λ n. w * n) next in omega (arith, sum, one, most, same))

pub loop-i-preserved : goal.loop-i-preserved
loop-i-preserved g c =
    let number = code_number g.Code.WholeNumber.number in
    let codes = ap (map number) c.push_reserved.ensures.items ∙ map-append number c.loop-i.codes.items (c.in-Ok-Some.code ∷ []) in
    (rw codes (more_by (numbers_over g.Code.WholeNumber.format (byte_width_of g.T.NativePType.PTYPE) c.args.self.now.constraints) _ _ _ _ _ c.loop-i.invariant.0 _ _ (got (number_or_null g.T.WholeNumber.number) c.args.rows.now c.loop-i.i _ null_row c.get.ensures) (let n = length-map c.args.rows.now (number_or_null g.T.WholeNumber.number) in omega (arith, n, c.loop-i-test.true, c.len-i-end.ensures)) _ (rw (c.loop-i.invariant.1, c.in-Ok-Some.field-0-is) at c.in-Ok-Some.ensures.encoded)), c.encode_value.ensures.constraints ∙ c.loop-i.invariant.1, subst (λ n. length c.args.rows.now ≤ n) (sym c.push_reserved.ensures.capacity) c.loop-i.invariant.2)
