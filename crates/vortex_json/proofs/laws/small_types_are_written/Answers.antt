use Rattle.std.proofs.Common.{refl}
use Rattle.std.specs.Fmt.{digits}
use Rattle.serde_json.proofs.OnLiterals.{serde_json_on_literals}
use Rattle.vortex_json.proofs.laws.small_types_are_written.Goals as goal

pub returns-clause-null : goal.returns-clause-null
unfolding serde_json_on_literals digits
returns-clause-null c = refl

pub returns-clause-boolean : goal.returns-clause-boolean
unfolding serde_json_on_literals digits
returns-clause-boolean c = refl

pub returns-clause-whole : goal.returns-clause-whole
unfolding serde_json_on_literals digits
returns-clause-whole c = refl

pub returns-clause-decimals : goal.returns-clause-decimals
unfolding serde_json_on_literals digits
returns-clause-decimals c = refl

pub returns-clause-texts : goal.returns-clause-texts
unfolding serde_json_on_literals digits
returns-clause-texts c = refl

pub returns-clause-bytes : goal.returns-clause-bytes
unfolding serde_json_on_literals digits
returns-clause-bytes c = refl

pub returns-clause-fields : goal.returns-clause-fields
unfolding serde_json_on_literals digits
returns-clause-fields c = refl

pub returns-clause-metadata : goal.returns-clause-metadata
unfolding serde_json_on_literals digits
returns-clause-metadata c = refl

pub returns-clause-absent : goal.returns-clause-absent
unfolding serde_json_on_literals digits
returns-clause-absent c = refl

pub returns-clause-path : goal.returns-clause-path
unfolding serde_json_on_literals digits
returns-clause-path c = refl

pub returns-clause-order : goal.returns-clause-order
unfolding serde_json_on_literals digits
returns-clause-order c = refl

pub returns-clause-kinds : goal.returns-clause-kinds
unfolding serde_json_on_literals digits
returns-clause-kinds c = refl
