-- Offsets, and bytes that they cut in pieces.
--     AreOffsets      so many and one offsets that never fall, up to an end
--     TextBytes       what offsets and their bytes are seen as
--     AreTexts        the offsets end in the bytes
--     text_pieces     the pieces
use Rattle.std.specs.Prelude.{◌≡◌, ◌≤◌, ◌*◌, ℕ, suc, List, length, IsTrue}
use Rattle.vortex_terms.specs.Types.{IsBytes}
use Rattle.vortex_terms.specs.FromColumns.{pieces, last_from}
use Rattle.vortex_node_rows.specs.Buffers.{never_fall, numbers_32}

pub record AreOffsets (n : ℕ) (end : ℕ) (offsets : List ℕ) : Type 0 where
  pub count : length offsets ≡ suc n
  pub rise : IsTrue (never_fall offsets)
  pub within : last_from 0 offsets ≤ end

-- bytes that are n and one offsets that never fall
pub record HoldOffsets (n : ℕ) (bytes : List ℕ) : Type 0 where
  pub exact : length bytes ≡ suc n * 4
  pub rise : IsTrue (never_fall (numbers_32 (suc n) bytes))
  pub below : IsBytes bytes

-- offsets, and the bytes in which they end
pub record TextBytes : Type 0 where
  pub offsets : List ℕ
  pub bytes : List ℕ

-- the pieces between them
abbrev pub text_pieces : TextBytes → List (List ℕ)
text_pieces a = pieces a.offsets a.bytes

pub record AreTexts (a : TextBytes) : Type 0 where
  pub offsets : AreOffsets (length (text_pieces a)) (length a.bytes) a.offsets
  pub below : IsBytes a.bytes
