use Rattle.std.proofs.Common.{◌≡◌, rules, true, arith}
use Rattle.std.proofs.lemmas.Grind.{common_steps}
use Rattle.vortex_terms.specs.Equality.{term_eq}
use Rattle.vortex_terms.specs.EqualityLaws.{term_eq-true}
use Rattle.vortex_array_make.proofs.nested_structs.ExtArray.try_new.Goals as goal

pub extensions-requires : goal.extensions-requires
extensions-requires c =
    let equal : term_eq c.args.storage.dtype c.args.dtype.storage ≡ true = first_of (search rules, grind (arith, common_steps)) in
    term_eq-true c.args.storage.dtype c.args.dtype.storage equal
