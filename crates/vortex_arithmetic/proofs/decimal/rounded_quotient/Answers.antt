use Rattle.std.proofs.Common.{◌≡◌, ◌^◌, ap, sym, ◌∙◌, Some, None, pos, int_div, int_rem}
use Rattle.std.specs.Int.{w128}
use Rattle.std.specs.Option.{option_map}
use Rattle.std.proofs.lemmas.Int.{to_z-of_z}
use Rattle.vortex_number.specs.PType.{format_of}
use Rattle.vortex_value.specs.PValue.{value_of}
use Rattle.vortex_arithmetic.specs.Operated.{within}
use Rattle.vortex_arithmetic.proofs.Powers.{power_pos}
use Rattle.vortex_arithmetic.proofs.Fractions.{away, sum_is_away, quotient_word, mapped_none, mapped_some, rounded_none, rounded_some}
use Rattle.vortex_arithmetic.proofs.decimal.rounded_quotient.Goals as goal

pub returns-in_err-value_in : goal.returns-in_err-value_in
returns-in_err-value_in c =
    let t = c.args.number in
    let p = 10 ^ c.args.places in
    let k = c.args.ptype in
    let over : c.divided-quotient.result.0 ≡ int_div t (pos p) = rw (to_z-of_z w128 t c.ranges.number) at c.divided-quotient.ensures.quotient in
    let rest : c.divided-quotient.result.1 ≡ int_rem t (pos p) = rw (to_z-of_z w128 t c.ranges.number) at c.divided-quotient.ensures.rest in
    let word = sum_is_away t c.divided-quotient.result.0 c.divided-quotient.result.1 c.signum.result p (power_pos c.args.places) c.ranges.number over rest c.signum.ensures.value in
    let none : option_map (value_of k) (within (format_of k) (Some (away t p))) ≡ None =
    sym (c.value_in.ensures ∙ ap (λ x. option_map (value_of k) (within (format_of k) (Some x))) word) ∙ c.in_err-value_in.was in
    c.from_residual.ensures
    ∙ ap (option_map (value_of k)) (sym (rounded_none k t p (power_pos c.args.places) (mapped_none (value_of k) (within (format_of k) (Some (away t p))) none)))

pub returns : goal.returns
returns c =
    let t = c.args.number in
    let p = 10 ^ c.args.places in
    let k = c.args.ptype in
    let over : c.divided-quotient.result.0 ≡ int_div t (pos p) = rw (to_z-of_z w128 t c.ranges.number) at c.divided-quotient.ensures.quotient in
    let rest : c.divided-quotient.result.1 ≡ int_rem t (pos p) = rw (to_z-of_z w128 t c.ranges.number) at c.divided-quotient.ensures.rest in
    let word = sum_is_away t c.divided-quotient.result.0 c.divided-quotient.result.1 c.signum.result p (power_pos c.args.places) c.ranges.number over rest c.signum.ensures.value in
    let some : option_map (value_of k) (within (format_of k) (Some (away t p))) ≡ Some c.in_ok-value_in.field-0 =
    sym (c.value_in.ensures ∙ ap (λ x. option_map (value_of k) (within (format_of k) (Some x))) word) ∙ c.in_ok-value_in.was in
    let there = mapped_some (value_of k) (within (format_of k) (Some (away t p))) c.in_ok-value_in.field-0 some in
    c.value_in-2.ensures
    ∙ ap (λ x. option_map (value_of k) (within (format_of k) (Some x))) (quotient_word t c.divided-quotient.result.0 p (power_pos c.args.places) c.ranges.number over)
    ∙ ap (option_map (value_of k)) (rounded_some k t p there.0 (power_pos c.args.places) there.1)
