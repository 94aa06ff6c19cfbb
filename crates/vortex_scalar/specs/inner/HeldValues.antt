-- A value that is lent or owned: `held_value`.
use Rattle.vortex_scalar_value.specs.Value.{ValueTerm}
use Rattle.vortex_scalar.specs.declared.views.held.HeldValue.{HeldValue}
use Rattle.vortex_scalar.specs.declared.views.held.HeldValue.TheVariants as held

abbrev pub held_value : HeldValue → ValueTerm
held_value (held.Lent v) = v.now
held_value (held.Owned v) = v
