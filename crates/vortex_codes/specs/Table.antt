-- When slots, bytes and offsets are a table of keys.
use Rattle.std.specs.Prelude.{◌≡◌, ℕ, suc, ◌+◌, ◌-◌, ◌^◌, ◌<◌, ◌⊎◌, List, length, get_or, bit_and}
use Rattle.std.specs.Prelude.{Option, Some, MatchOption, Vec}
use Rattle.std.specs.declared.alloc.Global.{Global}
use Rattle.std.specs.BTreeMap.{BTreeMap, get_by}
use Rattle.std.specs.Cmp.Lexicographic.{slice_cmp}
use Rattle.std.specs.Ordering.{nat_cmp}
use Rattle.std.specs.List.{sum_by}
use Rattle.vortex_codes.specs.Keys.{Key, key_at, keys_of, key_size, HasKey}
use Rattle.vortex_codes.specs.Slots.{IsPlaced, free_count}

-- where the walk for a hash begins
abbrev pub start_of : ℕ → ℕ → ℕ
start_of count hash = bit_and hash (count - 1)

-- the first `count` codes, and no others, stand in the slots, each where the walk for its key finds
-- it
pub record IsIndex {K : Type 0} (hash : K → ℕ) (key : ℕ
    → K) (count : ℕ) (slots : List ℕ) : Type 0 where
  pub room : free_count slots + count ≡ length slots
  pub codes : (q c : ℕ) → get_or slots q 0 ≡ suc c → c < count
  pub placed : (c : ℕ) → c < count → IsPlaced slots (start_of (length slots) (hash (key c))) c

-- the offsets part the bytes into keys
pub record IsParted (bytes offsets : List ℕ) (null : ℕ) : Type 0 where
  pub some : 0 < length offsets
  pub parted : (c : ℕ) → suc c < length offsets → HasKey bytes offsets c
  pub last : get_or offsets (length offsets - 1) 0 ≡ length bytes
  pub small : length bytes < 2 ^ 32
  pub few : length offsets < 2 ^ 32
  pub null_code : (suc null < length offsets) ⊎ (null ≡ 2 ^ 32 - 1)
  pub size : sum_by key_size (keys_of bytes offsets null) ≡ length bytes

-- no key stands twice
abbrev pub IsApart : {K : Type 0} → (ℕ → K) → ℕ → Type 0
IsApart key count = (c d : ℕ) → c < count → d < count → key c ≡ key d → c ≡ d

pub record IsTable (hash : Key → ℕ) (bytes offsets : List ℕ) (null : ℕ)
    (slots : List ℕ) : Type 0 where
  pub parted : IsParted bytes offsets null
  pub apart : IsApart (key_at bytes offsets null) (length offsets - 1)
  pub index : IsIndex hash (key_at bytes offsets null) (length offsets - 1) slots

-- ---- keys found by their order

-- the code that a map from bytes has for these bytes
abbrev pub code_in_order : BTreeMap (Vec ℕ Global) ℕ → List ℕ → Option ℕ
code_in_order codes bytes = get_by (λ key. slice_cmp nat_cmp bytes key.items) codes

-- the map has the codes below the count of the keys that are bytes, and no others
pub record IsOrder (key : ℕ → Key) (count : ℕ) (codes : BTreeMap (Vec ℕ Global) ℕ) : Type 0 where
  pub found : (bytes : List ℕ) (c : ℕ) → code_in_order codes bytes ≡ Some c → (c < count)
      × (key c ≡ Some bytes)
  pub there : (bytes : List ℕ) (c : ℕ) → c < count → key c ≡ Some bytes
      → code_in_order codes bytes ≡ Some c

pub record IsTree (bytes offsets : List ℕ) (null : ℕ)
    (codes : BTreeMap (Vec ℕ Global) ℕ) : Type 0 where
  pub parted : IsParted bytes offsets null
  pub apart : IsApart (key_at bytes offsets null) (length offsets - 1)
  pub order : IsOrder (key_at bytes offsets null) (length offsets - 1) codes

-- the keys are found by their hashes, or by their order where there is one
abbrev pub IsFound : (Key → ℕ) → List ℕ → List ℕ → ℕ → List ℕ → Option (BTreeMap (Vec ℕ Global) ℕ)
    → Type 0
IsFound hash bytes offsets null slots ordered = MatchOption ordered
    (IsTable hash bytes offsets null slots) (λ codes. IsTree bytes offsets null codes)
