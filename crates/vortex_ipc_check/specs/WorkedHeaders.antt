-- Headers as bytes, written by hand.
--     buffer_header      of a buffer, by the version, the kind and the alignment exponent; its body has 3 bytes
--     type_header        of a type, whose body has 48 bytes
--     array_header       of an array of 258 rows without names, whose body has 5 bytes
use Rattle.std.specs.Prelude.{ℕ, List, [], ◌∷◌}

-- four bytes and what follows
abbrev four_bytes : ℕ → ℕ → ℕ → ℕ → List ℕ → List ℕ
four_bytes a b c d rest = a ∷ b ∷ c ∷ d ∷ rest

-- a Message at place 24, whose inner table stands at place 56
abbrev message_of : (version kind size : ℕ) → List ℕ → List ℕ
message_of version kind size rest =
    four_bytes 24 0 0 0 (four_bytes 0 0 0 0
    (four_bytes 12 0 22 0 (four_bytes 20 0 21 0 (four_bytes 16 0 8 0 (four_bytes 0 0 0 0
    (four_bytes 16 0 0 0 (four_bytes 0 0 0 0 (four_bytes size 0 0 0 (four_bytes 0 0 0 0
    (four_bytes 16 0 0 0 (four_bytes version kind 0 0 rest)))))))))))

abbrev pub buffer_header : (version kind exponent : ℕ) → List ℕ
buffer_header version kind exponent =
    message_of version kind 3
    (four_bytes 6 0 5 0 (four_bytes 4 0 0 0 (four_bytes 8 0 0 0 (four_bytes exponent 0 0 0 []))))

abbrev pub type_header : List ℕ
type_header =
    message_of 0 3 48
    (four_bytes 4 0 4 0 (four_bytes 0 0 0 0 (four_bytes 8 0 0 0 (four_bytes 0 0 0 0 []))))

abbrev pub array_header : List ℕ
array_header =
    message_of 0 1 5
    (four_bytes 8 0 12 0 (four_bytes 4 0 8 0 (four_bytes 8 0 0 0 (four_bytes 2 1 0 0
    (four_bytes 8 0 0 0 (four_bytes 0 0 0 0 (four_bytes 0 0 0 0 (four_bytes 0 0 0 0 []))))))))
