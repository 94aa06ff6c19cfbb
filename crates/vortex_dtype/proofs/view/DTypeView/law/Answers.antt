use Rattle.std.proofs.Common.{rules, subst}
use Rattle.std.specs.Prelude.{IsSome}
use Rattle.vortex_terms.specs.Types.{IsBytes}
use Rattle.vortex_schema.specs.Reading.{bounded_type_at}
use Rattle.vortex_dtype.proofs.Viewed.{known_at}
use Rattle.vortex_dtype.proofs.view.DTypeView.law.Goals as goal

pub returns-clause-stands : goal.returns-clause-stands
returns-clause-stands c =
    let there : IsSome (bounded_type_at c.args.self.now.bytes c.args.self.now.place) = search rules in
    known_at c.args.self.now.bytes c.args.self.now.place (subst IsBytes c.as_slice.ensures c.are_bytes.ensures) there
