-- The laws of the types inside a type, and of the limits.
--     part_types-smaller, -legal, -bounded     each has fewer nodes and levels, is lighter, and is
--         legal and bounded where the whole is
--     part_at-smaller, -legal, -bounded        the same of the one at a place
--     Bounded-element, ..                      the same of the one of each kind of type
--     is_within-Decides                        of a legal type, whether it is bounded
use Rattle.std.specs.Prelude.{◌≡◌, ℕ, zero, suc, ◌<◌, ◌≤◌, Bool, true, ◌&&◌, nat_le, List, [], ◌∷◌, Option, Some, None, refl}
use Rattle.std.specs.Bool.{Decides}
use Rattle.std.specs.List.{AllByRecursion, slice_get}
use Rattle.std.specs.Cmp.{first_so, second_so}
use Rattle.std.proofs.lemmas.Bool.{leb-true, le-leb}
use Rattle.std.proofs.Common.{ap, subst, arith}
use Rattle.vortex_terms.specs.Term.{Term, null, boolean, primitive, decimal, utf8, binary, structure, list, extension, fixed_size_list, Fields, no_fields, field}
use Rattle.vortex_terms.specs.Types.{levels, fields_levels, nodes, fields_nodes, types_of, part_types, part_at, text_length, fields_text_length, most_levels, most_nodes, most_text, Legal, LegalFields, Bounded, is_within}
use Rattle.vortex_terms.specs.Weight.{weight, fields_weight}

-- the type is smaller
pub record IsSmaller (u t : Term) : Type 0 where
  pub nodes_fall : nodes u < nodes t
  pub levels_fall : levels u < levels t
  pub no_more_text : text_length u ≤ text_length t
  pub weight_falls : weight u < weight t

abbrev Below : ℕ → ℕ → ℕ → ℕ → Term → Type 0
Below n l b w u = (nodes u ≤ n) × (levels u ≤ l) × (text_length u ≤ b) × (weight u ≤ w)

below-more : (n m k l b c v w : ℕ) → n ≤ m → k ≤ l → b ≤ c → v ≤ w → (ts : List Term)
    → AllByRecursion (Below n k b v) ts → AllByRecursion (Below m l c w) ts
below-more n m k l b c v w h g f e [] a = tt
below-more n m k l b c v w h g f e (t ∷ ts) a = (
  (omega (arith, a.0.0), omega (arith, a.0.1), omega (arith, a.0.2), omega (arith, a.0.3)),
  below-more n m k l b c v w h g f e ts a.1,
)

pub fields-below : (fs : Fields)
    → AllByRecursion (Below (fields_nodes fs) (fields_levels fs) (fields_text_length fs)
    (fields_weight fs)) (types_of fs)
fields-below no_fields = tt
fields-below (field x t fs) = (
  (omega arith, omega arith, omega arith, omega arith),
  below-more _ _ _ _ _ _ _ _ (omega arith) (omega arith) (omega arith) (omega arith)
      (types_of fs) (fields-below fs),
)

smaller : (t : Term) (n l b w : ℕ) → n < nodes t → l < levels t → b ≤ text_length t → w < weight t
    → (ts : List Term) → AllByRecursion (Below n l b w) ts → AllByRecursion (λ u. IsSmaller u t) ts
smaller t n l b w h g f e [] a = tt
smaller t n l b w h g f e (u ∷ us) a = (
  record {
    nodes_fall = omega (arith, a.0.0);
    levels_fall = omega (arith, a.0.1);
    no_more_text = omega (arith, a.0.2);
    weight_falls = omega (arith, a.0.3);
  },
  smaller t n l b w h g f e us a.1,
)

pub element-smaller : (t : Term) (n : Bool) → IsSmaller t (list t n)
element-smaller t n = record {
  nodes_fall = omega arith;
  levels_fall = omega arith;
  no_more_text = omega arith;
  weight_falls = omega arith;
}

pub storage-smaller : (id : List ℕ) (t : Term) (m : Option (List ℕ))
    → IsSmaller t (extension id t m)
storage-smaller id t m = record {
  nodes_fall = omega arith;
  levels_fall = omega arith;
  no_more_text = omega arith;
  weight_falls = omega arith;
}

pub fixed_element-smaller : (t : Term) (k : ℕ) (n : Bool) → IsSmaller t (fixed_size_list t k n)
fixed_element-smaller t k n = record {
  nodes_fall = omega arith;
  levels_fall = omega arith;
  no_more_text = omega arith;
  weight_falls = omega arith;
}

pub part_types-smaller : (t : Term) → AllByRecursion (λ u. IsSmaller u t) (part_types t)
part_types-smaller (structure fs n) =
    smaller (structure fs n) (fields_nodes fs) (fields_levels fs) (fields_text_length fs)
    (fields_weight fs) (omega arith) (omega arith) (omega arith) (omega arith) (types_of fs)
    (fields-below fs)
part_types-smaller (list t n) = (element-smaller t n, tt)
part_types-smaller (extension id t m) = (storage-smaller id t m, tt)
part_types-smaller (fixed_size_list t k n) = (fixed_element-smaller t k n, tt)
part_types-smaller null = tt
part_types-smaller (boolean n) = tt
part_types-smaller (primitive k n) = tt
part_types-smaller (decimal p s n) = tt
part_types-smaller (utf8 n) = tt
part_types-smaller (binary n) = tt

pub fields-legal : (fs : Fields) → LegalFields fs → AllByRecursion Legal (types_of fs)
fields-legal no_fields h = tt
fields-legal (field x t fs) h = (h.1, fields-legal fs h.2)

pub part_types-legal : (t : Term) → Legal t → AllByRecursion Legal (part_types t)
part_types-legal (structure fs n) h = fields-legal fs h
part_types-legal (list t n) h = (h, tt)
part_types-legal (extension id t m) h = (h.3, tt)
part_types-legal (fixed_size_list t k n) h = (h.1, tt)
part_types-legal null h = tt
part_types-legal (boolean n) h = tt
part_types-legal (primitive k n) h = tt
part_types-legal (decimal p s n) h = tt
part_types-legal (utf8 n) h = tt
part_types-legal (binary n) h = tt

-- what is smaller than a bounded type is bounded, if it is legal
pub smaller-bounded : (u t : Term) → IsSmaller u t → Legal u → Bounded t → Bounded u
smaller-bounded u t s legal b = record {
  legal = legal;
  few_levels = omega (arith, s.levels_fall, b.few_levels);
  few_nodes = omega (arith, s.nodes_fall, b.few_nodes);
  little_text = omega (arith, s.no_more_text, b.little_text);
}

bounded-each : (t : Term) → Bounded t → (ts : List Term) → AllByRecursion (λ u. IsSmaller u t) ts
    → AllByRecursion Legal ts → AllByRecursion Bounded ts
bounded-each t b [] a l = tt
bounded-each t b (u ∷ us) a l = (smaller-bounded u t a.0 l.0 b, bounded-each t b us a.1 l.1)

-- the types inside a bounded type are bounded
pub part_types-bounded : (t : Term) → Bounded t → AllByRecursion Bounded (part_types t)
part_types-bounded t b =
    bounded-each t b (part_types t) (part_types-smaller t) (part_types-legal t b.legal)

-- ---- the part at a place

-- what holds of each element holds of the one at a place
all_at : (P : Term → Type 0) (ts : List Term) (i : ℕ) (u : Term) → AllByRecursion P ts
    → slice_get ts i ≡ Some u → P u
all_at P [] i u a e = absurd (cc)
all_at P (t ∷ ts) zero u a e = subst P (ap (λ o. some_or t o) e) a.0
  where
    some_or : Term → Option Term → Term
    some_or d None = d
    some_or d (Some v) = v
all_at P (t ∷ ts) (suc i) u a e = all_at P ts i u a.1 e

pub part_at-smaller : (t : Term) (i : ℕ) (u : Term) → part_at t i ≡ Some u → IsSmaller u t
part_at-smaller t i u e = all_at (λ v. IsSmaller v t) (part_types t) i u (part_types-smaller t) e

pub part_at-legal : (t : Term) (i : ℕ) (u : Term) → Legal t → part_at t i ≡ Some u → Legal u
part_at-legal t i u h e = all_at Legal (part_types t) i u (part_types-legal t h) e

pub part_at-bounded : (t : Term) (i : ℕ) (u : Term) → Bounded t → part_at t i ≡ Some u → Bounded u
part_at-bounded t i u b e = all_at Bounded (part_types t) i u (part_types-bounded t b) e

-- ---- the parts of each kind of type

pub Bounded-element : (t : Term) (n : Bool) → Bounded (list t n) → Bounded t
Bounded-element t n b = smaller-bounded t (list t n) (element-smaller t n) b.legal b

pub Bounded-fixed_element : (t : Term) (k : ℕ) (n : Bool) → Bounded (fixed_size_list t k n)
    → Bounded t
Bounded-fixed_element t k n b =
    smaller-bounded t (fixed_size_list t k n) (fixed_element-smaller t k n) b.legal.1 b

pub Bounded-storage : (id : List ℕ) (t : Term) (m : Option (List ℕ)) → Bounded (extension id t m)
    → Bounded t
Bounded-storage id t m b = smaller-bounded t (extension id t m) (storage-smaller id t m) b.legal.3 b

pub Bounded-field : (fs : Fields) (n : Bool) (i : ℕ) (u : Term) → Bounded (structure fs n)
    → slice_get (types_of fs) i ≡ Some u → Bounded u
Bounded-field fs n i u b e = part_at-bounded (structure fs n) i u b e

-- ---- limits

and_three : (a b c : Bool) → a && b && c ≡ true → (a ≡ true) × (b ≡ true) × (c ≡ true)
and_three a b c h = (
  first_so a b (first_so (a && b) c h),
  second_so a b (first_so (a && b) c h),
  second_so (a && b) c h,
)

within : (t : Term) → is_within t ≡ true → Legal t → Bounded t
within t h legal =
    let three = and_three (nat_le (levels t) most_levels) (nat_le (nodes t) most_nodes)
    (nat_le (text_length t) most_text) h in
    record {
      legal = legal;
      few_levels = leb-true _ _ three.0;
      few_nodes = leb-true _ _ three.1;
      little_text = leb-true _ _ three.2;
    }

pub is_within-Decides : (t : Term) → Legal t → Decides (is_within t) (Bounded t)
is_within-Decides t legal = (
  λ h. within t h legal,
  λ b. rw (le-leb _ _ b.few_levels, le-leb _ _ b.few_nodes, le-leb _ _ b.little_text) refl,
)
