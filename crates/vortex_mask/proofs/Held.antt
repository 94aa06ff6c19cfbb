-- What a mask's fields hold.
use Rattle.std.proofs.Common.{◌≡◌, ℕ, ◌+◌, ◌<◌, false, List, length, take, drop, get_or, arith, sym, ◌∙◌}
use Rattle.std.proofs.lemmas.List.{length-take, length-drop, length-replicate, get_or-take, get_or-drop}
use Rattle.std.specs.List.{flat_map}
use Rattle.vortex_mask.specs.Bits.{bits_of_byte}
use Rattle.vortex_mask.specs.Shown.{shown, IsHeld}
use Rattle.vortex_mask.specs.declared.mask.Content.{Content}
use Rattle.vortex_mask.specs.declared.mask.Content.TheVariants as content
use Rattle.vortex_mask.proofs.Places.{length_of_bits}

pub length-shown : (c : Content) (n : ℕ) → IsHeld c n → length (shown c n) ≡ n
length-shown (content.All b) n h = length-replicate n b
length-shown (content.Bits bytes from) n h =
    simp (length-take, length-drop, length_of_bits) (omega arith)

pub get_or-shown : (bytes : List ℕ) (from n place : ℕ) → place < n → get_or (flat_map bits_of_byte bytes) (from + place) false ≡ get_or (take n (drop from (flat_map bits_of_byte bytes))) place false
get_or-shown bytes from n place h =
    sym (get_or-take n (drop from (flat_map bits_of_byte bytes)) place false h ∙ get_or-drop from (flat_map bits_of_byte bytes) place false)
