use Rattle.std.proofs.Common.{refl}
use Rattle.serde_json.proofs.OnLiterals.{serde_json_on_literals}
use Rattle.vortex_json.specs.Found.{decimal_found, extension_found, named_found, type_in}
use Rattle.vortex_json.specs.Found.{primitive_found, fixed_size_list_found, structure_found, owned_found, name_found}
use Rattle.vortex_json.proofs.laws.small_texts_are_read.Goals as goal

pub returns-clause-order : goal.returns-clause-order
unfolding serde_json_on_literals decimal_found extension_found named_found type_in
returns-clause-order c = refl

pub returns-clause-last : goal.returns-clause-last
unfolding serde_json_on_literals decimal_found extension_found named_found type_in
returns-clause-last c = refl

pub returns-clause-missing : goal.returns-clause-missing
unfolding serde_json_on_literals decimal_found extension_found named_found type_in
returns-clause-missing c = refl

pub returns-clause-content : goal.returns-clause-content
unfolding serde_json_on_literals decimal_found extension_found named_found type_in
returns-clause-content c = refl

pub returns-clause-further : goal.returns-clause-further
unfolding serde_json_on_literals decimal_found extension_found named_found type_in
returns-clause-further c = refl

pub returns-clause-floats : goal.returns-clause-floats
unfolding serde_json_on_literals decimal_found extension_found named_found type_in
returns-clause-floats c = refl

pub returns-clause-nested : goal.returns-clause-nested
unfolding serde_json_on_literals decimal_found extension_found named_found type_in
returns-clause-nested c = refl

pub returns-clause-pairs : goal.returns-clause-pairs
unfolding serde_json_on_literals named_found type_in primitive_found
returns-clause-pairs c = refl

pub returns-clause-triples : goal.returns-clause-triples
unfolding serde_json_on_literals named_found type_in fixed_size_list_found
returns-clause-triples c = refl

pub returns-clause-names : goal.returns-clause-names
unfolding serde_json_on_literals named_found type_in structure_found
returns-clause-names c = refl

pub returns-clause-owned : goal.returns-clause-owned
unfolding serde_json_on_literals named_found type_in structure_found owned_found
returns-clause-owned c = refl

pub returns-clause-step : goal.returns-clause-step
unfolding serde_json_on_literals name_found
returns-clause-step c = refl
