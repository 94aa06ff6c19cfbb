-- Places of names in a map.
use Rattle.std.proofs.Common.{◌≡◌, ℕ, zero, suc, ◌+◌, ◌<◌, Bool, true, false, cond, ◌||◌, List, []}
use Rattle.std.proofs.Common.{◌∷◌, drop, length, get_or, Option, Some, refl, sym, ap, ◌∙◌}
use Rattle.std.proofs.Common.{add-one}
use Rattle.std.specs.Prelude.{is_some}
use Rattle.std.specs.List.{list_any, position_from}
use Rattle.std.specs.Str.{bytes_eq}
use Rattle.std.specs.Cmp.Lexicographic.{nat_list_eq_equiv}
use Rattle.std.proofs.Math.Seq.{drop-cons}
use Rattle.vortex_terms.specs.StructFields.{name_repeats}

-- the names from a place on are the one there and the others
pub from_here : (names : List (List ℕ)) (i : ℕ) (x : List ℕ) → i < length names → x ≡ get_or names i x → drop i names ≡ x ∷ drop (i + 1) names
from_here names i x h e = rw (add-one, e) (drop-cons names i x h)

-- the place of a name before others whose places are known
pub place_step : (names : List (List ℕ)) (i : ℕ) (x q : List ℕ) (o n : Option ℕ) → i < length names → x ≡ get_or names i x
    → o ≡ position_from (λ y. bytes_eq y q) (i + 1) (drop (i + 1) names) → n ≡ cond (bytes_eq x q) (Some i) o
    → n ≡ position_from (λ y. bytes_eq y q) i (drop i names)
place_step names i x q o n h e known updated =
    rw (from_here names i x h e) (updated ∙ ap (λ (p : Option ℕ). cond (bytes_eq x q) (Some i) p) known)

-- whether a name is among names, where one is put before them
pub among_step : (names : List (List ℕ)) (i : ℕ) (x q : List ℕ) (o n : Option ℕ) → i < length names → x ≡ get_or names i x
    → is_some o ≡ list_any (bytes_eq q) (drop (i + 1) names) → n ≡ cond (bytes_eq x q) (Some i) o
    → is_some n ≡ list_any (bytes_eq q) (drop i names)
among_step names i x q o n h e known updated =
    rw (from_here names i x h e) (ap is_some updated ∙ by (bytes_eq x q) (bytes_eq q x) (nat_list_eq_equiv.symm x q))
  where
    by : (b c : Bool) → b ≡ c → is_some (cond b (Some i) o) ≡ (c || list_any (bytes_eq q) (drop (i + 1) names))
    by true true s = refl
    by false false s = known
    by true false s = absurd (cc)
    by false true s = absurd (cc)

-- a name that stands behind itself repeats
pub repeat_here : (names : List (List ℕ)) (i : ℕ) (x : List ℕ) (o : Option ℕ) → i < length names → x ≡ get_or names i x
    → is_some o ≡ list_any (bytes_eq x) (drop (i + 1) names) → is_some o ≡ true → name_repeats (drop i names) ≡ true
repeat_here names i x o h e known found = rw (from_here names i x h e, sym known ∙ found) refl

pub repeat_whole : (names : List (List ℕ)) (i : ℕ) → name_repeats (drop i names) ≡ true → name_repeats names ≡ true
repeat_whole names zero h = h
repeat_whole [] (suc i) h = h
repeat_whole (x ∷ names) (suc i) h = rw (repeat_whole names i h) (by (list_any (bytes_eq x) names))
  where
    by : (b : Bool) → (b || true) ≡ true
    by true = refl
    by false = refl

pub no_repeat_here : (names : List (List ℕ)) (i : ℕ) (x : List ℕ) (o : Option ℕ) → i < length names → x ≡ get_or names i x
    → is_some o ≡ list_any (bytes_eq x) (drop (i + 1) names) → is_some o ≡ false → name_repeats (drop (i + 1) names) ≡ false → name_repeats (drop i names) ≡ false
no_repeat_here names i x o h e known found rest = rw (from_here names i x h e, sym known ∙ found, rest) refl
