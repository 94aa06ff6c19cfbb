use Rattle.std.proofs.lemmas.Grind.{get_or_default_zero}
use Rattle.vortex_terms.specs.Types.{IsBytes}
use Rattle.vortex_schema.proofs.InPlace.{known_stands}
use Rattle.vortex_schema.proofs.place.known_law.Goals as goal

pub returns-clause-stands : goal.returns-clause-stands
returns-clause-stands c =
    let b = c.args.bytes.now in
    let bytes : IsBytes b = λ k d within. rw (get_or_default_zero b k d within) (c.type_inv.bytes k).fits in
    (known_stands b c.args.place bytes c.requires).0

pub returns-clause-bounded : goal.returns-clause-bounded
returns-clause-bounded c =
    let b = c.args.bytes.now in
    let bytes : IsBytes b = λ k d within. rw (get_or_default_zero b k d within) (c.type_inv.bytes k).fits in
    (known_stands b c.args.place bytes c.requires).1
