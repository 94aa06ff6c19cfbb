use Rattle.std.proofs.Common.{ap, sym, ◌∙◌, Result, Ok, Err, OnErr, not, ◌||◌, nat_le, pos, Some}
use Rattle.std.proofs.Common.{None}
use Rattle.std.specs.Option.{option_eq}
use Rattle.vortex_number.specs.PType.{byte_width_of}
use Rattle.vortex_dict.specs.KeyRows.{number_or_null}
use Rattle.vortex_number.specs.Format.{fits}
use Rattle.vortex_dict.specs.Limits.{Dictionary, numbers_over, most_values}
use Rattle.vortex_dict.proofs.ValueLemmas.{step, new_is, numbers_apart, option_eq-Decides}
use Rattle.vortex_dict.proofs.ValueLemmas.{with_code, none_of, coded}
use Rattle.vortex_dict.proofs.NumberLemmas.{full_is, numbers_fit}
use Rattle.vortex_dict.proofs.BytesLemmas.{code_fits}
use Rattle.vortex_dict.proofs.primitive.PrimitiveDictEncoder.encode_value.Goals as goal

on_err : {T E P : Type 0} (r : Result T E) → P → OnErr r P
on_err (Ok x) p = tt
on_err (Err e) p = p

pub returns-in_err-place-clause-new : goal.returns-in_err-place-clause-new
returns-in_err-place-clause-new g c = on_err c.from_residual.result (rw (← c.self.view_is) (new_is (option_eq g.T.PartialEq.eq) (option_eq-Decides _ g.met.T.NativeValue.eq_law) (number_or_null g.T.WholeNumber.number) (numbers_apart _ g.T.WholeNumber.of_number g.met.T.WholeNumber.value_law) c.args.value c.self.inside.lookup c.in_err-place.ensures.new.1))

pub returns-in_default-clause-encoded : goal.returns-in_default-clause-encoded
returns-in_default-clause-encoded g c =
    let ks = c.self.inside.lookup in
    let fmt = g.Code.WholeNumber.format in
    let width = byte_width_of g.T.NativePType.PTYPE in
    let row = number_or_null g.T.WholeNumber.number in
    let over = full_is g.T.WholeNumber.number fmt width c.self.inside.constraints ks (row c.args.value) c.is_full-over.result _ (c.is_full-over.ensures ∙ ap (λ m. not (fits fmt (pos c.len-len.result)) || nat_le m c.len-len.result) (c.requires ∙ ap (λ (d : Dictionary). most_values width d.constraints) (sym c.self.view_is))) c.len-len.ensures.count in
    rw (← c.self.view_is) (step (option_eq g.T.PartialEq.eq) (option_eq-Decides _ g.met.T.NativeValue.eq_law) row (numbers_apart _ g.T.WholeNumber.of_number g.met.T.WholeNumber.value_law) (numbers_over fmt width c.self.inside.constraints) ks c.args.value (not c.is_full-over.result) (ap not over) c.find_or_add.new.self None c.in_ok-place.ensures.values (sym (none_of c.in_ok-place.field-0 c.in_default.not-Some) ∙ c.in_ok-place.ensures.code))

pub returns-clause-encoded : goal.returns-clause-encoded
returns-clause-encoded g c =
    let ks = c.self.inside.lookup in
    let fmt = g.Code.WholeNumber.format in
    let width = byte_width_of g.T.NativePType.PTYPE in
    let row = number_or_null g.T.WholeNumber.number in
    let over = full_is g.T.WholeNumber.number fmt width c.self.inside.constraints ks (row c.args.value) c.is_full-over.result _ (c.is_full-over.ensures ∙ ap (λ m. not (fits fmt (pos c.len-len.result)) || nat_le m c.len-len.result) (c.requires ∙ ap (λ (d : Dictionary). most_values width d.constraints) (sym c.self.view_is))) c.len-len.ensures.count in
    let place = sym c.in-Some.is ∙ c.in_ok-place.ensures.code in
    let fit = code_fits (option_eq g.T.PartialEq.eq) row fmt ks c.args.value c.self.invariant c.is_full-over.result (λ o. numbers_fit fmt width c.self.inside.constraints _ (row c.args.value) (sym over ∙ o)) c.in-Some.place place in
    rw (← c.self.view_is) (with_code _ _ _ _ _ _ (step (option_eq g.T.PartialEq.eq) (option_eq-Decides _ g.met.T.NativeValue.eq_law) row (numbers_apart _ g.T.WholeNumber.of_number g.met.T.WholeNumber.value_law) (numbers_over fmt width c.self.inside.constraints) ks c.args.value (not c.is_full-over.result) (ap not over) c.find_or_add.new.self (Some c.in-Some.place) c.in_ok-place.ensures.values place) (coded _ _ _ c.code_at.ensures fit))
