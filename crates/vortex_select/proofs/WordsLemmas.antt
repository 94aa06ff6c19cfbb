-- A list of four words.
use Rattle.std.proofs.Common.{◌≡◌, ℕ, ◌<◌, ◌≤◌, List, [], ◌∷◌, length, get_or, Option, Some, None, arith}
use Rattle.std.specs.Prelude.{String, string_bytes, IfNone}
use Rattle.std.specs.Global.{Global}
use Rattle.vortex_select.specs.Words.{texts}

-- the texts of four words, given each by its place
pub four_words : (words : List (String Global)) (a b c d : String Global) → 4 ≤ length words → length words < 5
    → a ≡ get_or words 0 a → b ≡ get_or words 1 b → c ≡ get_or words 2 c → d ≡ get_or words 3 d
    → texts words ≡ string_bytes a ∷ string_bytes b ∷ string_bytes c ∷ string_bytes d ∷ []
four_words [] a b c d long short p q r s = absurd (omega arith)
four_words (w ∷ []) a b c d long short p q r s = absurd (omega arith)
four_words (w ∷ x ∷ []) a b c d long short p q r s = absurd (omega arith)
four_words (w ∷ x ∷ y ∷ []) a b c d long short p q r s = absurd (omega arith)
four_words (w ∷ x ∷ y ∷ z ∷ []) a b c d long short p q r s = cc
four_words (w ∷ x ∷ y ∷ z ∷ v ∷ ws) a b c d long short p q r s = absurd (omega arith)

pub if_none : {T : Type 0} (o : Option T) (P : Type 0) → P → IfNone o P
if_none None P h = h
if_none (Some x) P h = tt

-- lists of four that agree at each place
pub four_alike : (a b c d a' b' c' d' : List ℕ) → a ≡ a' → b ≡ b' → c ≡ c' → d ≡ d' → a ∷ b ∷ c ∷ d ∷ [] ≡ a' ∷ b' ∷ c' ∷ d' ∷ []
four_alike a b c d a' b' c' d' p q r s = cc

-- the fourth of equal lists
pub fourth_alike : {a b c d a' b' c' d' : List ℕ} → a ∷ b ∷ c ∷ d ∷ [] ≡ a' ∷ b' ∷ c' ∷ d' ∷ [] → d ≡ d'
fourth_alike e = cc
