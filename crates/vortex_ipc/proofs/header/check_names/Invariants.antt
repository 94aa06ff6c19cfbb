use Rattle.std.proofs.Common.{◌≡◌, ◌-◌}
use Rattle.std.specs.Option.{option_map}
use Rattle.std.specs.Prelude.{◌&&◌}
use Rattle.vortex_encodings.specs.Encodings.{names_of}
use Rattle.vortex_flat.specs.Targets.{text_element}
use Rattle.vortex_prelude.specs.Elements.{elements}
use Rattle.vortex_ipc.specs.Decoding.{all_held}
use Rattle.vortex_ipc.specs.inner.Heads.{held_names}
use Rattle.vortex_ipc.proofs.header.check_names.Given as goal

-- all names are held where those so far are and those that are left are
abbrev pub invariant-loop-i : goal.invariant-loop-i
invariant-loop-i l =
    let name = text_element l.names.buffer l.names.shape in
    option_map (λ xs. l.held && all_held (names_of l.registry) xs) (elements name l.i (l.names.shape.count - l.i)) ≡ held_names (names_of l.registry) (elements name 0 l.names.shape.count)
