use Rattle.std.proofs.Common.{◌≡◌, ◌-◌, ◌++◌, ℕ, List, map}
use Rattle.std.specs.Option.{option_map}
use Rattle.vortex_flat.specs.Targets.{text_element}
use Rattle.vortex_prelude.specs.Elements.{elements}
use Rattle.vortex_ipc.proofs.header.texts.Given as goal

-- the texts are those so far and those that are left
abbrev pub invariant-loop-i : goal.invariant-loop-i
invariant-loop-i l =
    let name = text_element l.names.buffer l.names.shape in
    option_map (λ (ys : List (List ℕ)). map (λ t. t.now) l.texts.items ++ ys) (elements name l.i (l.names.shape.count - l.i)) ≡ elements name 0 l.names.shape.count
