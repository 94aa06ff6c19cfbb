-- A buffer as its bytes and the exponent of its alignment: `Buffer`, `unaligned`, `cut`.
use Rattle.std.specs.Prelude.{ℕ, List, slice_range}

-- bytes, and the exponent of the power of two that they are labelled with
pub record Buffer : Type 0 where
  pub bytes : List ℕ
  pub exponent : ℕ

-- these bytes, with exponent 0
abbrev pub unaligned : List ℕ → Buffer
unaligned bs = record { bytes = bs; exponent = 0 }

-- the bytes from one place up to another, under the same label
abbrev pub cut : Buffer → ℕ → ℕ → Buffer
cut b from to = record { bytes = slice_range b.bytes from to; exponent = b.exponent }
