-- FNV-1a over bytes, and a hash of whole numbers.
use Rattle.std.specs.Prelude.{ℕ, ◌*◌, ◌%◌, ◌^◌, List, [], ◌∷◌, Some, None, bit_xor}
use Rattle.vortex_codes.specs.Keys.{Key}

abbrev pub fnv_step : ℕ → ℕ → ℕ
fnv_step h b = (bit_xor h b * 1099511628211) % 2 ^ 64

abbrev pub fnv : ℕ → List ℕ → ℕ
fnv h [] = h
fnv h (b ∷ bs) = fnv (fnv_step h b) bs

unfoldable pub fnv_of : Key → ℕ
fnv_of None = 0
fnv_of (Some bs) = fnv 14695981039346656037 bs
