-- What is found in values.
use Rattle.std.proofs.Common.{◌≡◌, ℕ, zero, suc, ◌-◌, ◌≤◌, true, false, List, ◌++◌, Option, None, option_map, refl, arith}
use Rattle.serde_json.specs.Data.{Data}
use Rattle.vortex_terms.specs.Term.{Term}
use Rattle.vortex_terms.specs.Types.{Bounded, Legal, is_within}
use Rattle.vortex_types.proofs.Written.{is_bounded, not_bounded}
use Rattle.vortex_json.specs.Found.{term_found, type_in}

-- ---- the limits

pub bounded_found : (t : Term) → Legal t → is_within t ≡ true → Bounded t
bounded_found t legal e = is_bounded t legal e

pub outside : (t : Term) → Legal t → is_within t ≡ false → Bounded t → ⊥
outside t legal e h = not_bounded t legal e h

-- ---- levels

pub no_level : (d : Data) (n : ℕ) → n ≡ 0 → type_in n d ≡ None
unfolding type_in
no_level d zero e = refl
no_level d (suc n) e = absurd (omega arith)

pub one_level : (d : Data) (n : ℕ) → 1 ≤ n → type_in n d ≡ term_found (type_in (n - 1)) d
unfolding type_in
one_level d zero h = absurd (omega arith)
one_level d (suc n) h = let same : suc n - 1 ≡ n = omega arith in rw same refl

-- ---- items, one after another

-- what was found before, and then the rest
abbrev pub after : {A : Type 0} → List A → Option (List A) → Option (List A)
after before found = option_map (λ later. before ++ later) found
