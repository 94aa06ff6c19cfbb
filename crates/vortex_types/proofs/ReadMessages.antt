-- Types that are read of messages.
use Rattle.std.proofs.Common.{◌≡◌, ℕ, zero, suc, ◌+◌, ◌-◌, ◌≤◌, ◌<◌, true, false, List, [], ◌∷◌, ◌++◌, get_or, drop, length, Option, Some, None, option_map, refl, sym, ap, subst, ◌∙◌, arith, add-one, append_assoc, append-nil, ◌⊎◌, inl, inr}
use Rattle.std.specs.Borrow.{Bor}
use Rattle.std.proofs.Math.Seq.{drop-cons}
use Rattle.vortex_prelude.specs.Chain.{◌>>=◌}
use Rattle.vortex_wire.specs.Finds.{all_bytes_of}
use Rattle.vortex_terms.specs.Term.{Term}
use Rattle.vortex_terms.specs.Types.{Bounded, IsBytes, is_within}
use Rattle.vortex_proto.specs.Reading.{node_in, term_in, type_in, types_in}
use Rattle.vortex_proto.proofs.Found.{type_found}
use Rattle.vortex_proto.proofs.There.{type_there}
use Rattle.vortex_proto.proofs.OneType.{one_type}
use Rattle.vortex_names.specs.declared.error.DTypeError.{DTypeError}
use Rattle.vortex_names.specs.declared.error.DTypeError.TheVariants as error
use Rattle.vortex_types.specs.Standing.{IsBoundedMessage}
use Rattle.vortex_types.proofs.Written.{is_bounded, not_bounded}

-- ---- the whole type

pub bounded_read : (b : List ℕ) (t : Term) → IsBytes b → type_in 64 b ≡ Some t → is_within t ≡ true → IsBoundedMessage b t
bounded_read b t bytes e within = let found = type_found 64 b t bytes e in (found.stands, is_bounded t found.legal within)

not_both : (o : Option Term) (t : Term) → o ≡ None → o ≡ Some t → ⊥
not_both o t e h = absurd (cc)

pub none_told : (b : List ℕ) (t : Term) → type_in 64 b ≡ None → IsBoundedMessage b t → ⊥
none_told b t e h = not_both (type_in 64 b) t e (type_there t b 64 h.0 h.1.legal h.1.few_levels)

pub outside_told : (b : List ℕ) (t u : Term) → IsBytes b → type_in 64 b ≡ Some t → is_within t ≡ false → IsBoundedMessage b u → ⊥
outside_told b t u bytes e outside h =
    let found = type_found 64 b t bytes e in
    not_bounded t found.legal outside (subst Bounded (one_type u t b h.0 found.stands) h.1)

-- ---- levels

pub no_level : (b : List ℕ) (n : ℕ) → n ≡ 0 → type_in n b ≡ None
unfolding type_in
no_level b zero e = refl
no_level b (suc n) e = absurd (omega arith)

pub one_level : (b : List ℕ) (n : ℕ) → 1 ≤ n → type_in n b ≡ (node_in b >>= term_in (type_in (n - 1)))
unfolding type_in
one_level b zero h = absurd (omega arith)
one_level b (suc n) h = let same : suc n - 1 ≡ n = omega arith in rw same refl

-- ---- types, one after another

-- the types before, and then these
abbrev pub after_types : List Term → Option (List Term) → Option (List Term)
after_types before found = option_map (λ later. before ++ later) found

pub types_begin : (found : Option (List Term)) → after_types [] found ≡ found
types_begin None = refl
types_begin (Some ts) = refl

after_one : (before : List Term) (t : Term) (found : Option (List Term)) → after_types (before ++ t ∷ []) found ≡ after_types before (found >>= λ ts. Some (t ∷ ts))
after_one before t None = refl
after_one before t (Some ts) = ap (λ (us : List Term). Some us) (append_assoc before (t ∷ []) ts)

one_more : (parts : List (Bor (List ℕ))) (i : ℕ) (d : Bor (List ℕ)) → i < length parts → all_bytes_of (drop i parts) ≡ (get_or parts i d).now ∷ all_bytes_of (drop (i + 1) parts)
one_more parts i d lt =
    let here : drop i parts ≡ get_or parts i d ∷ drop (i + 1) parts = rw add-one (drop-cons parts i d lt) in
    ap all_bytes_of here

type_then : (read : List ℕ → Option Term) (b : List ℕ) (t : Term) (others : List (List ℕ)) → read b ≡ Some t → types_in read (b ∷ others) ≡ (types_in read others >>= λ ts. Some (t ∷ ts))
unfolding types_in
type_then read b t others e = rw e refl

no_type_then : (read : List ℕ → Option Term) (b : List ℕ) (others : List (List ℕ)) → read b ≡ None → types_in read (b ∷ others) ≡ None
unfolding types_in
no_type_then read b others e = rw e refl

pub goes_on : (read : List ℕ → Option Term) (before : List Term) (t : Term) (parts : List (Bor (List ℕ))) (i : ℕ) (d : Bor (List ℕ)) (all : Option (List Term)) → i < length parts → read (get_or parts i d).now ≡ Some t
    → after_types before (types_in read (all_bytes_of (drop i parts))) ≡ all → after_types (before ++ t ∷ []) (types_in read (all_bytes_of (drop (i + 1) parts))) ≡ all
goes_on read before t parts i d all lt e so_far =
    let others = all_bytes_of (drop (i + 1) parts) in
    after_one before t (types_in read others)
    ∙ sym (ap (after_types before) (ap (types_in read) (one_more parts i d lt) ∙ type_then read (get_or parts i d).now t others e)) ∙ so_far

refused : (read : List ℕ → Option Term) (before : List Term) (parts : List (Bor (List ℕ))) (i : ℕ) (d : Bor (List ℕ)) (all : Option (List Term)) → i < length parts → read (get_or parts i d).now ≡ None
    → after_types before (types_in read (all_bytes_of (drop i parts))) ≡ all → all ≡ None
refused read before parts i d all lt e so_far =
    let others = all_bytes_of (drop (i + 1) parts) in
    sym so_far ∙ ap (after_types before) (ap (types_in read) (one_more parts i d lt) ∙ no_type_then read (get_or parts i d).now others e)

-- a message of no type, or want of memory
pub stops : (read : List ℕ → Option Term) (before : List Term) (parts : List (Bor (List ℕ))) (i : ℕ) (d : Bor (List ℕ)) (all : Option (List Term)) (e : DTypeError) → i < length parts
    → (e ≡ error.OutOfMemory) ⊎ ((e ≡ error.Malformed) × (read (get_or parts i d).now ≡ None)) → after_types before (types_in read (all_bytes_of (drop i parts))) ≡ all
    → (e ≡ error.OutOfMemory) ⊎ ((e ≡ error.Malformed) × (all ≡ None))
stops read before parts i d all e lt (inl memory) so_far = inl memory
stops read before parts i d all e lt (inr none) so_far = inr (none.0, refused read before parts i d all lt none.1 so_far)

-- no message is left
pub nothing_left : (read : List ℕ → Option Term) (before : List Term) → after_types before (types_in read []) ≡ Some before
unfolding types_in
nothing_left read before = ap (λ (us : List Term). Some us) (append-nil before)
