use Rattle.std.proofs.Common.{refl}
use Rattle.serde_json.proofs.OnLiterals.{serde_json_on_literals}
use Rattle.vortex_json.specs.Found.{decimal_found, extension_found, fixed_size_list_found, primitive_found, named_found, type_in}
use Rattle.vortex_json_check.proofs.laws.edges_are_worked.Goals as goal

pub returns-clause-precision : goal.returns-clause-precision
unfolding serde_json_on_literals decimal_found named_found type_in
returns-clause-precision c = refl

pub returns-clause-past_precision : goal.returns-clause-past_precision
unfolding serde_json_on_literals decimal_found named_found type_in
returns-clause-past_precision c = refl

pub returns-clause-past_scale : goal.returns-clause-past_scale
unfolding serde_json_on_literals decimal_found named_found type_in
returns-clause-past_scale c = refl

pub returns-clause-size : goal.returns-clause-size
unfolding serde_json_on_literals fixed_size_list_found named_found type_in
returns-clause-size c = refl

pub returns-clause-past_size : goal.returns-clause-past_size
unfolding serde_json_on_literals fixed_size_list_found named_found type_in
returns-clause-past_size c = refl

pub returns-clause-below_zero : goal.returns-clause-below_zero
unfolding serde_json_on_literals fixed_size_list_found named_found type_in
returns-clause-below_zero c = refl

pub returns-clause-empty_metadata : goal.returns-clause-empty_metadata
unfolding serde_json_on_literals extension_found named_found type_in
returns-clause-empty_metadata c = refl

pub returns-clause-past_byte : goal.returns-clause-past_byte
unfolding serde_json_on_literals extension_found named_found type_in
returns-clause-past_byte c = refl

pub returns-clause-other_kind : goal.returns-clause-other_kind
unfolding serde_json_on_literals primitive_found named_found type_in
returns-clause-other_kind c = refl
