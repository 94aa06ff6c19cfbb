-- Bounds of texts, which are lists of bytes in UTF-8. Characters are their code points.
--     text_lower_bound n text    its first characters, as many as fit in n bytes
--     text_upper_bound n text    at most n bytes: itself; and else what its lower bound is raised to, if it can be
use Rattle.std.specs.Prelude.{ℕ, suc, ◌-◌, Bool, ◌&&◌, ◌==◌, List, [], ◌∷◌, Option, Some, None, length, nat_le, if◌then◌else◌}
use Rattle.std.specs.Option.{option_map, option_or}
use Rattle.std.specs.Char.{len_utf8}
use Rattle.std.specs.Str.{chars, encode_utf8_all, all_scalars}

-- the first characters, as many as fit in n bytes
abbrev pub chars_within : ℕ → List ℕ → List ℕ
chars_within n [] = []
chars_within n (c ∷ cs) = if nat_le (len_utf8 c) n then c ∷ chars_within (n - len_utf8 c) cs else []

abbrev pub text_lower_bound : ℕ → List ℕ → List ℕ
text_lower_bound n text = encode_utf8_all (chars_within n (chars text))

-- the code point above is a character, and takes as many bytes
abbrev pub can_be_raised : ℕ → Bool
can_be_raised c = all_scalars (suc c ∷ []) && (len_utf8 (suc c) == len_utf8 c)

-- the last character that can be raised is the next one, and nothing comes after it
unfoldable pub raised_chars : List ℕ → Option (List ℕ)
raised_chars [] = None
raised_chars (c ∷ cs) =
    option_or (option_map (λ raised. c ∷ raised) (raised_chars cs))
    (if can_be_raised c then Some (suc c ∷ []) else None)

abbrev pub text_upper_bound : ℕ → List ℕ → Option (List ℕ)
text_upper_bound n text =
    if nat_le (length text) n then Some text else option_map encode_utf8_all (raised_chars (chars_within n (chars text)))
