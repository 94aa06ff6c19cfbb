use Rattle.std.proofs.Common.{◌∙◌, ap}
use Rattle.vortex_names.specs.Nullable.{is_nullable, nullability_of}
use Rattle.vortex_terms.specs.Term.{Term, boolean}
use Rattle.vortex_terms.specs.Types.{nullable}
use Rattle.vortex_array_data.specs.Column.{Column}
use Rattle.vortex_array_compare.proofs.ComparedTruths.{either_is, left_bare, compared_is, any_truth}
use Rattle.vortex_array_compare.proofs.compare.compared.Goals as goal

pub held_truths-requires-clause-bare : goal.held_truths-requires-clause-bare
held_truths-requires-clause-bare g c =
    λ n.
    left_bare c.args.array.now.dtype c.args.scalar.now.dtype c.args.scalar.now.row c.args.array.now.rows (is_nullable c.bitor-nullability.result) c.in_ok-known.known
    c.law.ensures.fit c.law-2.ensures.fits
    (either_is (nullable c.args.array.now.dtype) (nullable c.args.scalar.now.dtype) c.nullability.result c.nullability-2.result c.bitor-nullability.result
    (c.nullability.ensures ∙ ap (λ (x : Column). nullability_of (nullable x.dtype)) c.array.view_is)
    (c.nullability-2.ensures ∙ ap (λ (x : Term). nullability_of (nullable x)) c.dtype-2.ensures) c.bitor-nullability.ensures)
    c.in_ok-known.ensures.known n

pub returns-clause-rows : goal.returns-clause-rows
returns-clause-rows g c =
    record {
      dtype = c.held_truths.ensures.dtype ∙ ap boolean (either_is (nullable c.args.array.now.dtype) (nullable c.args.scalar.now.dtype) c.nullability.result c.nullability-2.result c.bitor-nullability.result
          (c.nullability.ensures ∙ ap (λ (x : Column). nullability_of (nullable x.dtype)) c.array.view_is)
          (c.nullability-2.ensures ∙ ap (λ (x : Term). nullability_of (nullable x)) c.dtype-2.ensures) c.bitor-nullability.ensures);
      rows = (compared_is c.args.operator c.args.scalar.now.row c.args.array.now.rows c.held_truths.result.rows c.in_ok-known.known c.in_ok-truths.truths
          c.in_ok-known.ensures.known c.in_ok-truths.ensures.truths c.held_truths.ensures.rows);
    }

pub returns-clause-least : goal.returns-clause-least
returns-clause-least g c =
    λ h.
    c.in_ok-truths.ensures.least (any_truth c.args.operator c.args.scalar.now.row c.args.array.now.rows c.held_truths.result.rows c.in_ok-truths.truths
    c.in_ok-truths.ensures.truths (compared_is c.args.operator c.args.scalar.now.row c.args.array.now.rows c.held_truths.result.rows c.in_ok-known.known c.in_ok-truths.truths
    c.in_ok-known.ensures.known c.in_ok-truths.ensures.truths c.held_truths.ensures.rows) h)
