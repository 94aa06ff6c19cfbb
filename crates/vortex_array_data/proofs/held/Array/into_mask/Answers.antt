use Rattle.std.proofs.Common.{rules, ◌≡◌, ◌∙◌, true, false, ap}
use Rattle.vortex_terms.specs.Term.{boolean}
use Rattle.vortex_value_rows.specs.RowOf.{row_under}
use Rattle.vortex_node_rows.specs.RowsOf.{truth_of}
use Rattle.vortex_array_data.specs.Column.{Column}
use Rattle.vortex_array_data.proofs.Truths.{truths_held, constant_held}
use Rattle.vortex_array_data.proofs.held.Array.into_mask.Goals as goal

pub returns-in-Truths : goal.returns-in-Truths
returns-in-Truths c = rw (← c.self.view_is) (truths_held c.self.inside c.in-Truths.mask c.self.invariant (ap (λ
    (a : Column). a.dtype) c.self.view_is ∙ c.requires) c.in-Truths.is)

pub returns-then-is_true : goal.returns-then-is_true
returns-then-is_true c =
    let is : true ≡ truth_of (row_under (boolean false) c.in-Constant.value) = search rules in
    rw (← c.self.view_is) (c.new_true.ensures ∙ constant_held c.self.inside c.in-Constant.value true c.self.invariant
    (ap (λ (a : Column). a.dtype) c.self.view_is ∙ c.requires) c.in-Constant.is is)

pub returns-in-Constant : goal.returns-in-Constant
returns-in-Constant c =
    let is : false ≡ truth_of (row_under (boolean false) c.in-Constant.value) = search rules in
    rw (← c.self.view_is) (c.new_false.ensures
    ∙ constant_held c.self.inside c.in-Constant.value false c.self.invariant (ap (λ
    (a : Column). a.dtype) c.self.view_is ∙ c.requires) c.in-Constant.is is)
