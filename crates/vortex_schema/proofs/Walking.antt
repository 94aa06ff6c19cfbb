-- How a walk goes on.
use Rattle.std.proofs.Common.{◌≡◌, ℕ, zero, suc, ◌+◌, ◌-◌, ◌<◌, ◌≤◌, List, Option, Some, None, refl, ap, ◌∙◌, arith}
use Rattle.vortex_prelude.specs.Chain.{◌>>=◌}
use Rattle.vortex_flat.specs.Targets.{VectorShape}
use Rattle.vortex_terms.specs.Term.{Term, Fields, field}
use Rattle.vortex_schema.specs.declared.budget.Budget.{Budget}
use Rattle.vortex_schema.specs.Reading.{Reader, Found, left_of, named_type_at, fields_at, dtype_at, type_at}

-- ---- levels

pub no_level : (b : List ℕ) (levels : ℕ) (left : Budget) (p : ℕ) → levels ≡ 0 → type_at b levels left p ≡ None
unfolding type_at
no_level b zero left p e = refl
no_level b (suc levels) left p e = absurd (omega arith)

pub one_level : (b : List ℕ) (levels : ℕ) (left : Budget) (p : ℕ) → 1 ≤ levels → type_at b levels left p ≡ dtype_at b (type_at b (levels - 1)) left p
unfolding type_at
one_level b zero left p h = absurd (omega arith)
one_level b (suc levels) left p h = ap (λ n. dtype_at b (type_at b n) left p) (let same : levels ≡ suc levels - 1 = omega arith in same)

-- ---- fields

-- what is left after a first field and the others
abbrev after_first : List ℕ → Reader → VectorShape → VectorShape → ℕ → ℕ → Option (Found (List ℕ × Term)) → Option Budget
after_first b read names types count i first = left_of (first >>= λ f. fields_at b read names types count (i + 1) f.left >>= λ fs. Some (record { found = field f.found.0 f.found.1 fs.found; left = fs.left }))

same_left : (x : List ℕ) (t : Term) (fields : Option (Found Fields)) → left_of (fields >>= λ fs. Some (record { found = field x t fs.found; left = fs.left })) ≡ left_of fields
same_left x t None = refl
same_left x t (Some fs) = refl

after_none : (b : List ℕ) (read : Reader) (names types : VectorShape) (count i : ℕ) (first : Option (Found (List ℕ × Term))) → left_of first ≡ None → after_first b read names types count i first ≡ None
after_none b read names types count i None e = refl
after_none b read names types count i (Some f) e = absurd cc

after_some : (b : List ℕ) (read : Reader) (names types : VectorShape) (count i : ℕ) (first : Option (Found (List ℕ × Term))) (next : Budget) → left_of first ≡ Some next → after_first b read names types count i first ≡ left_of (fields_at b read names types count (i + 1) next)
after_some b read names types count i None next e = absurd cc
after_some b read names types count i (Some f) next e =
    let same : f.left ≡ next = cc in
    same_left f.found.0 f.found.1 (fields_at b read names types count (i + 1) f.left) ∙ ap (λ l. left_of (fields_at b read names types count (i + 1) l)) same

from_first : (b : List ℕ) (read : Reader) (names types : VectorShape) (count i : ℕ) (left : Budget) → i < count → left_of (fields_at b read names types (count - i) i left) ≡ after_first b read names types (count - (i + 1)) i (named_type_at b read names types i left)
unfolding fields_at
from_first b read names types count i left lt =
    let more : count - i ≡ suc (count - (i + 1)) = omega arith in
    ap (λ n. left_of (fields_at b read names types n i left)) more

pub no_field : (b : List ℕ) (read : Reader) (names types : VectorShape) (count i : ℕ) (left : Budget) → i < count → left_of (named_type_at b read names types i left) ≡ None → left_of (fields_at b read names types (count - i) i left) ≡ None
no_field b read names types count i left lt e = from_first b read names types count i left lt ∙ after_none b read names types (count - (i + 1)) i (named_type_at b read names types i left) e

pub one_field : (b : List ℕ) (read : Reader) (names types : VectorShape) (count i : ℕ) (left next : Budget) → i < count → left_of (named_type_at b read names types i left) ≡ Some next → left_of (fields_at b read names types (count - i) i left) ≡ left_of (fields_at b read names types (count - (i + 1)) (i + 1) next)
one_field b read names types count i left next lt e = from_first b read names types count i left lt ∙ after_some b read names types (count - (i + 1)) i (named_type_at b read names types i left) next e

pub no_more_fields : (b : List ℕ) (read : Reader) (names types : VectorShape) (count i : ℕ) (left : Budget) → count ≤ i → left_of (fields_at b read names types (count - i) i left) ≡ Some left
unfolding fields_at
no_more_fields b read names types count i left le =
    let none : count - i ≡ 0 = omega arith in
    ap (λ n. left_of (fields_at b read names types n i left)) none
