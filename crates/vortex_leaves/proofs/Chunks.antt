-- Numbers that lie one behind the other, by their places.
use Rattle.std.proofs.Common.{ℤ, ◌≡◌, ◌<◌, ◌*◌, ◌/◌, ℕ, List, Some, length, get_or, sym, ap, ◌∙◌, arith}
use Rattle.std.specs.Prelude.{slice_get}
use Rattle.std.specs.Option.{option_map}
use Rattle.std.specs.Simd.{first_chunks}
use Rattle.std.specs.Int.{byte_len, w32, w128, cast_signed, from_le_bytes}
use Rattle.std.proofs.lemmas.Int.{to_z-of_z}
use mir.Val.{to_z, of_z, SFits}
use Rattle.std.proofs.lemmas.Nat.{div-mul-add}
use Rattle.std.proofs.lemmas.Option.{slice_get-map, slice_get-get_or}
use Rattle.vortex_number.specs.Format.{Format, signed, number_with_bytes, number_of_le_bytes}
use Rattle.vortex_terms.specs.Row.{whole_row}
use Rattle.vortex_node_rows.specs.Buffers.{numbers_32}
use Rattle.vortex_node_rows.specs.Leaves.{numbers_in}

pub chunk_count : (l n w : ℕ) → l ≡ n * w → 0 < w → l / w ≡ n
chunk_count l n w e h = ap (λ j. j / w) (e ∙ omega arith) ∙ div-mul-add n w 0 h

pub chunk_number : (f : Format) (n : ℕ) (bytes c : List ℕ) (i : ℕ) → slice_get (first_chunks (byte_len f.width) n bytes) i ≡ Some c → slice_get (numbers_in f n bytes) i ≡ Some (whole_row (number_with_bytes f c))
chunk_number f n bytes c i e = slice_get-map (λ c. whole_row (number_with_bytes f c)) (first_chunks (byte_len f.width) n bytes) i ∙ ap (option_map (λ c. whole_row (number_with_bytes f c))) e

pub chunk_offset : (n : ℕ) (bytes c : List ℕ) (i : ℕ) → slice_get (first_chunks 4 n bytes) i ≡ Some c → slice_get (numbers_32 n bytes) i ≡ Some (number_of_le_bytes w32 c)
chunk_offset n bytes c i e = slice_get-map (number_of_le_bytes w32) (first_chunks 4 n bytes) i ∙ ap (option_map (number_of_le_bytes w32)) e

-- chunk i, of so many as there are
pub chunk_there : (w n k : ℕ) (bytes : List ℕ) (chunks : List (List ℕ)) (i : ℕ) (d : List ℕ) → k ≡ n → chunks ≡ first_chunks w k bytes → length chunks ≡ k → i < n → slice_get (first_chunks w n bytes) i ≡ Some (get_or chunks i d)
chunk_there w n k bytes chunks i d e f l h =
    ap (λ j. slice_get (first_chunks w j bytes) i) (sym e) ∙ ap (λ cs. slice_get cs i) (sym f) ∙ slice_get-get_or chunks i d (omega (arith, h, l, e))

pub number_128 : (n : ℕ) (bytes c : List ℕ) (i : ℕ) (x : ℤ) → slice_get (first_chunks 16 n bytes) i ≡ Some c → x ≡ cast_signed w128 (from_le_bytes w128 c) → SFits w128 x → slice_get (numbers_in (signed w128) n bytes) i ≡ Some (whole_row (to_z w128 (of_z w128 x)))
unfolding number_of_le_bytes
number_128 n bytes c i x e h r =
    chunk_number (signed w128) n bytes c i e ∙ ap (λ z. Some (whole_row z)) (sym h ∙ sym (to_z-of_z w128 x r))
