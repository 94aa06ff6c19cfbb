-- The only field of some numbers, as a loop over the fields finds it.
use Rattle.std.proofs.Common.{◌≡◌, ℕ, Bool, List, ◌++◌, Option, None, refl}
use Rattle.std.specs.Prelude.{filter}
use Rattle.std.specs.Option.{option_to_list}
use Rattle.vortex_prelude.specs.Chain.{◌>>=◌}
use Rattle.vortex_wire.specs.Field.{Field, fields_of}
use Rattle.vortex_wire.specs.Message.{is_member, lone, only_field}

-- what was found before, and then the members among the others
abbrev pub beside : (Field → Bool) → Option Field → List Field → Option (Option Field)
beside member before fields = lone (option_to_list before ++ filter member fields)

-- what is found in all, once these bytes are left
abbrev pub still : (Field → Bool) → Option Field → List ℕ → Option (Option Field)
still member before bytes = fields_of bytes >>= beside member before

pub begins : (first last : ℕ) (bytes : List ℕ) → still (is_member first last) None bytes ≡ only_field first last bytes
unfolding only_field
begins first last bytes = refl
