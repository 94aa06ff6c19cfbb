-- The words of the command line.
use Rattle.std.specs.Prelude.{◌≡◌, ◌≢◌, ℕ, List, [], ◌∷◌, ◌++◌, ℤ, map, codes, slice_index, string_bytes, String}
use Rattle.std.specs.Global.{Global}
use Rattle.std.specs.Str.Parse.{IsNumeral, without_leading_sign, signed_digits_value}
use Rattle.vortex_select.specs.Selection.{FitsI64}
use Rattle.vortex_value.specs.declared.operator.Operator.{Operator}
use Rattle.vortex_value.specs.declared.operator.Operator.TheVariants.{Eq, NotEq, Lt, Lte, Gt, Gte}
use Rattle.vortex_select.specs.declared.words.Query.{Query}

-- the words as bytes
abbrev pub texts : List (String Global) → List (List ℕ)
texts words = map string_bytes words

-- the word that names an operator
abbrev pub operator_word : Operator → List ℕ
operator_word Eq = codes "eq"
operator_word NotEq = codes "ne"
operator_word Lt = codes "lt"
operator_word Lte = codes "le"
operator_word Gt = codes "gt"
operator_word Gte = codes "ge"

-- The text is decimal digits, behind a minus or not, and writes the number, which 64 signed bits
-- hold.
pub record IsInteger (text : List ℕ) (n : ℤ) : Type 0 where
  pub no_plus : slice_index text 0 ≢ 43
  pub digits : IsNumeral 10 (without_leading_sign text)
  pub value : n ≡ signed_digits_value 10 text
  pub in_range : FitsI64 n

-- The words ask for the rows that bear an operator to a constant.
pub record IsQuery (words : List (List ℕ)) (query : Query) : Type 0 where
  pub literal : List ℕ
  pub words_are : words
      ≡ codes "select" ∷ codes "." ∷ operator_word query.operator ∷ (codes "i64:" ++ literal) ∷ []
  pub constant : IsInteger literal query.constant
