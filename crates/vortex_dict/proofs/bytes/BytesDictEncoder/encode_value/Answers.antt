use Rattle.std.proofs.Common.{◌==◌, ◌+◌, ap, sym, ◌∙◌, arith, Result, Ok, Err, OnErr, map, length}
use Rattle.std.proofs.Common.{not, cond, refl, Some, None}
use Rattle.std.specs.Option.{option_map}
use Rattle.std.proofs.lemmas.List.{length-map}
use Rattle.vortex_codes.specs.Keys.{Key, same_key}
use Rattle.vortex_codes.proofs.KeyLemmas.{same_key-Decides}
use Rattle.vortex_dict.specs.Limits.{bytes_over, over_by}
use Rattle.vortex_dict.specs.KeyRows.{bytes_or_null}
use Rattle.vortex_dict.proofs.ValueLemmas.{step, new_is, bytes_apart, with_code, none_of, coded}
use Rattle.vortex_dict.proofs.BytesLemmas.{sum_rows, counted_bound, over_is, bytes_fit, code_fits}
use Rattle.vortex_dict.proofs.BytesLemmas.{codes_more, count_more}
use Rattle.vortex_dict.proofs.bytes.BytesDictEncoder.encode_value.Goals as goal

on_err : {T E P : Type 0} (r : Result T E) → P → OnErr r P
on_err (Ok x) p = tt
on_err (Err e) p = p

pub returns-in_err-place-clause-new : goal.returns-in_err-place-clause-new
returns-in_err-place-clause-new g c = on_err c.from_residual.result (rw (← c.self.view_is) (new_is same_key same_key-Decides bytes_or_null bytes_apart (option_map (λ k. k.now) c.args.key) c.self.inside.lookup c.in_err-place.ensures.new.1))

pub returns-in_default-clause-encoded : goal.returns-in_default-clause-encoded
returns-in_default-clause-encoded g c =
    let ks = c.self.inside.lookup in
    let k : Key = option_map (λ k. k.now) c.args.key in
    let is_over = over_by g.Code.WholeNumber.format c.self.inside.constraints c.len-len.result c.self.inside.dict_bytes (bytes_or_null k) in
    let over = over_is g.Code.WholeNumber.format c.self.inside.constraints ks k is_over _ _ refl c.len-len.ensures.count c.self.invariant.count_is in
    rw (← c.self.view_is) (step same_key same_key-Decides bytes_or_null bytes_apart (bytes_over g.Code.WholeNumber.format c.self.inside.constraints) ks k (not is_over) (ap not over) c.find_or_add.new.self None c.in_ok-place.ensures.keys (sym (none_of c.in_ok-place.field-0 c.in_default.not-Some) ∙ c.in_ok-place.ensures.code))

pub returns-clause-encoded : goal.returns-clause-encoded
returns-clause-encoded g c =
    let ks = c.self.inside.lookup in
    let k : Key = option_map (λ k. k.now) c.args.key in
    let fmt = g.Code.WholeNumber.format in
    let is_over = over_by fmt c.self.inside.constraints c.len-len.result c.self.inside.dict_bytes (bytes_or_null k) in
    let over = over_is fmt c.self.inside.constraints ks k is_over _ _ refl c.len-len.ensures.count c.self.invariant.count_is in
    let place = sym c.in-Some.is ∙ c.in_ok-place.ensures.code in
    let fit = code_fits same_key bytes_or_null fmt ks k c.self.invariant.coded is_over (λ o. bytes_fit fmt c.self.inside.constraints _ (bytes_or_null k) (sym over ∙ o)) c.in-Some.place place in
    rw (← c.self.view_is) (with_code _ _ _ _ _ _ (step same_key same_key-Decides bytes_or_null bytes_apart (bytes_over fmt c.self.inside.constraints) ks k (not is_over) (ap not over) c.find_or_add.new.self (Some c.in-Some.place) c.in_ok-place.ensures.keys place) (coded _ _ _ c.code_at.ensures fit))

pub count_value-requires : goal.count_value-requires
count_value-requires g c =
    let rows = map bytes_or_null c.self.inside.lookup in
    let bound = counted_bound rows in
    let count = length-map c.self.inside.lookup bytes_or_null in
    let sum = sum_rows c.self.inside.lookup in
    omega (arith, bound, count, sum, c.self.invariant.count_is, c.len-len.ensures.count, c.len-len.ensures.small, c.byte_len-size.ensures.sum, c.byte_len-size.ensures.small, c.count_of.ensures.small)

pub invariant_of-self-2 : goal.invariant_of-self-2
invariant_of-self-2 g c =
    let ks = c.self.inside.lookup in
    let k : Key = option_map (λ k. k.now) c.args.key in
    let fmt = g.Code.WholeNumber.format in
    let before = c.self.inside.dict_bytes in
    let is_over = over_by fmt c.self.inside.constraints c.len-len.result c.self.inside.dict_bytes (bytes_or_null k) in
    let over = over_is fmt c.self.inside.constraints ks k is_over _ _ refl c.len-len.ensures.count c.self.invariant.count_is in
    let place = sym c.in-Some.is ∙ c.in_ok-place.ensures.code in
    record {
      count_is = count_more ks k is_over before c.self.invariant.count_is c.find_or_add.new.self c.in-Some.place _ c.in_ok-place.ensures.keys place (c.count_value.ensures ∙ ap (λ m. cond (c.in-Some.place == m) (before + c.count_of.result) before) c.len-len.ensures.count ∙ ap (λ m. cond (c.in-Some.place == length ks) (before + m) before) c.count_of.ensures.value);
      coded = codes_more same_key bytes_or_null fmt ks k c.self.invariant.coded is_over (λ o. bytes_fit fmt c.self.inside.constraints _ (bytes_or_null k) (sym over ∙ o)) c.find_or_add.new.self c.in_ok-place.ensures.keys;
    }
