use Rattle.std.proofs.lemmas.Grind.{get_or_default_zero}
use Rattle.vortex_names.proofs.extension.are_bytes.Goals as goal

pub returns : goal.returns
returns c = λ k d within.
    rw (get_or_default_zero c.args.bytes.now k d within) (c.type_inv.bytes k).fits
