-- Two small types as the bytes that are laid out for them, written by hand.
--     nullable_truth_value       truth values, which may be null
--     extension_of_nulls         the extension named x of nulls, without metadata
use Rattle.std.specs.Prelude.{ℕ, List, [], ◌∷◌}

-- four bytes and what follows
abbrev four_bytes : ℕ → ℕ → ℕ → ℕ → List ℕ → List ℕ
four_bytes a b c d rest = a ∷ b ∷ c ∷ d ∷ rest

-- a DType of the kind at place 16, whose table stands so many bytes behind place 20
abbrev dtype_of : ℕ → ℕ → List ℕ → List ℕ
dtype_of kind behind rest =
    four_bytes 8 0 9 0 (four_bytes 8 0 4 0
    (four_bytes 8 0 0 0 (four_bytes behind 0 0 0 (four_bytes kind 0 0 0 (four_bytes 0 0 0 0 rest)))))

abbrev pub nullable_truth_value : List ℕ
nullable_truth_value =
    four_bytes 16 0 0 0 (four_bytes 0 0 0 0 (dtype_of 2 20
    (four_bytes 6 0 5 0 (four_bytes 4 0 0 0 (four_bytes 8 0 0 0 (four_bytes 1 0 0 0 []))))))

abbrev pub extension_of_nulls : List ℕ
extension_of_nulls =
    four_bytes 16 0 0 0 (four_bytes 0 0 0 0 (dtype_of 9 28
    (four_bytes 10 0 12 0 (four_bytes 4 0 8 0 (four_bytes 0 0 0 0 (four_bytes 0 0 0 0
    (four_bytes 16 0 0 0 (four_bytes 12 0 0 0 (four_bytes 24 0 0 0 (four_bytes 0 0 0 0
    (four_bytes 1 0 0 0 (four_bytes 120 0 0 0 (dtype_of 1 20
    (four_bytes 4 0 4 0 (four_bytes 0 0 0 0 (four_bytes 8 0 0 0 (four_bytes 0 0 0 0 [])))))))))))))))))
