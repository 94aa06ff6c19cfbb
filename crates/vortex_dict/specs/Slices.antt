-- Rows in slices.
use Rattle.std.specs.Prelude.{◌≡◌, ℕ, suc, ◌-◌, ◌<◌, ◌≤◌, Bool, true, cond, List, map, length}
use Rattle.std.specs.Prelude.{get_or, slice_get, Option, Some, None, MatchOption}
use Rattle.std.specs.List.{slice_range, range_with_len}

-- whether the row at a place is no null: where there is no list of that, none is
abbrev pub is_valid : Option (List Bool) → ℕ → Bool
is_valid None i = true
is_valid (Some valid) i = get_or valid i true

-- ---- bytes: row i stands from offset i to offset i + 1

abbrev pub bytes_at : List ℕ → List ℕ → Option (List Bool) → ℕ → Option (List ℕ)
bytes_at bytes offsets valid i = cond (is_valid valid i)
    (Some (slice_range bytes (get_or offsets i 0) (get_or offsets (suc i) 0))) None

abbrev pub bytes_rows : List ℕ → List ℕ → Option (List Bool) → List (Option (List ℕ))
bytes_rows bytes offsets valid = map (bytes_at bytes offsets valid)
    (range_with_len 0 (length offsets - 1))

-- the i-th piece lies in the bytes
pub record IsPiece (bytes offsets : List ℕ) (i : ℕ) : Type 0 where
  pub rises : get_or offsets i 0 ≤ get_or offsets (suc i) 0
  pub ends : get_or offsets (suc i) 0 ≤ length bytes

abbrev pub ArePieces : List ℕ → List ℕ → Type 0
ArePieces bytes offsets = (i : ℕ) → suc i < length offsets → IsPiece bytes offsets i

-- the offsets part the bytes into rows, and each of these is valid or not
pub record AreBytesRows (bytes offsets : List ℕ) (valid : Option (List Bool)) : Type 0 where
  pub some : 0 < length offsets
  pub pieces : ArePieces bytes offsets
  pub counts : MatchOption valid (Unit {0}) (λ v. suc (length v) ≡ length offsets)

-- ---- values of a type

abbrev pub value_at : {T : Type 0} → List T → Option (List Bool) → ℕ → Option T
value_at values valid i = cond (is_valid valid i) (slice_get values i) None

abbrev pub value_rows : {T : Type 0} → List T → Option (List Bool) → List (Option T)
value_rows values valid = map (value_at values valid) (range_with_len 0 (length values))

abbrev pub AreValueRows : {T : Type 0} → List T → Option (List Bool) → Type 0
AreValueRows values valid = MatchOption valid (Unit {0}) (λ v. length v ≡ length values)
