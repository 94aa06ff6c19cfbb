-- Numbers of decimals at other scales: `rescaled`, `whole_of`. A number z of the scale s is the
-- fraction z / 10 ^ s.
use Rattle.std.specs.Prelude.{ℕ, ◌^◌, ◌*◌, ℤ, pos, neg_ℤ, ◌*ℤ◌, ◌&&◌, int_div, int_rem, int_le}
use Rattle.std.specs.Prelude.{Option, Some, None, if◌then◌else◌}
use Rattle.std.specs.Int.{w128, int_gap}
use Rattle.std.specs.Ordering.{int_eq}
use Rattle.vortex_number.specs.Format.{signed, magnitude_bits}
use Rattle.vortex_number.specs.PType.{format_of, is_signed, greatest}
use Rattle.vortex_number.specs.declared.ptype.PType.{PType}
use Rattle.vortex_arithmetic.specs.Operated.{within}

-- ten for each step from the first scale up to the second: 1 where that is not above
abbrev pub tens : ℤ → ℤ → ℕ
tens low high = 10 ^ int_gap low high

-- the number top / bottom, where it is whole and has a place in 128 bits
abbrev pub whole : ℤ → ℕ → Option ℤ
whole top bottom =
    if int_eq (int_rem top (pos bottom)) (pos 0)
    then within (signed w128) (Some (int_div top (pos bottom))) else None

-- z * 10 ^ (new - old), where it is whole and has a place in 128 bits
unfoldable pub rescaled : ℤ → ℤ → ℤ → Option ℤ
rescaled z old new = whole (z *ℤ pos (tens old new)) (tens new old)

-- the least number of the kind
abbrev pub least : PType → ℤ
least k = if is_signed k then neg_ℤ (pos (2 ^ magnitude_bits (format_of k))) else pos 0

-- the fraction top / bottom, rounded toward zero, where it lies between the least and the greatest
-- number of the kind
abbrev pub rounded : PType → ℤ → ℕ → Option ℤ
rounded k top bottom =
    if int_le (least k *ℤ pos bottom) top && int_le top (pos (greatest k * bottom))
    then Some (int_div top (pos bottom)) else None

-- the fraction z / 10 ^ scale, rounded toward zero, where it lies between these
unfoldable pub whole_of : ℤ → ℤ → PType → Option ℤ
whole_of z scale k = rounded k (z *ℤ pos (tens scale (pos 0))) (tens (pos 0) scale)
