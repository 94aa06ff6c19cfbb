use Rattle.std.proofs.Common.{rules, ◌≡◌, sym}
use Rattle.std.specs.Ordering.{int_cmp}
use Rattle.vortex_value.specs.Operator.{bears}
use Rattle.vortex_leaves.specs.Numbers.{number_rows}
use Rattle.vortex_array_compare.proofs.ComparedNumbers.{hidden_number, shown_number}
use Rattle.vortex_array_compare.proofs.compare_numbers.number_truth.Goals as goal

pub returns-then-not-is_unmasked-clause-truth : goal.returns-then-not-is_unmasked-clause-truth
returns-then-not-is_unmasked-clause-truth g c =
    hidden_number c.args.operator c.args.value c.args.validity.now (number_rows c.args.numbers.now) c.args.i
    (sym c.if-not-is_unmasked.ensures)

pub returns-clause-truth : goal.returns-clause-truth
returns-clause-truth g c =
    let is : c.holds.result ≡ bears c.args.operator (int_cmp c.number.result c.args.value) = search rules in
    shown_number c.args.operator c.args.validity.now (number_rows c.args.numbers.now) c.args.i c.number.result
    c.args.value c.holds.result c.requires.mask (sym c.if-not-is_unmasked.ensures) c.number.ensures is
