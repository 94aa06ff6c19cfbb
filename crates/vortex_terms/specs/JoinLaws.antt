-- The columns inside a column go with it: through rows behind others, the first rows, and rows that
-- are kept.
--     parts-append, passes-append..   the columns inside rows behind others
--     column-append, -take, -drop     the column of a field
--     joined-append, -take, -filter   the joined elements of lists
--     parts-struct                    the i-th column inside a struct's
use Rattle.std.specs.Prelude.{◌≡◌, ℕ, zero, suc, ◌+◌, Bool, true, false, cond, List, [], ◌∷◌, ◌++◌, length, take, drop, sum_by, Some, refl}
use Rattle.std.specs.List.{filter, flat_map, slice_get}
use Rattle.std.specs.Option.{option_map}
use Rattle.std.proofs.lemmas.List.{map-append, take-map, drop-map}
use Rattle.std.proofs.lemmas.List.Sums.{sum_by-cons}
use Rattle.std.proofs.lemmas.Grind.{flat_map-append}
use Rattle.std.proofs.Math.Seq.{take-append-add}
use Rattle.std.proofs.Common.{ap, sym, ◌∙◌, arith}
use Rattle.vortex_terms.specs.Term.{Term, null, boolean, primitive, decimal, utf8, binary, structure, list, extension, fixed_size_list, Fields, no_fields, field}
use Rattle.vortex_terms.specs.Types.{field_at}
use Rattle.vortex_terms.specs.Row.{Row}
use Rattle.vortex_terms.specs.Parts.{field_row, column, columns, inner_rows, fixed_inner_rows, parts, parts_append}

-- ---- the column of a field

pub column-append : (t : Term) (i : ℕ) (rs ss : List Row)
    → column t i (rs ++ ss) ≡ column t i rs ++ column t i ss
column-append t i rs ss = map-append (field_row t i) rs ss

pub column-take : (t : Term) (i n : ℕ) (rs : List Row)
    → column t i (take n rs) ≡ take n (column t i rs)
column-take t i n rs = sym (take-map (field_row t i) n rs)

pub column-drop : (t : Term) (i n : ℕ) (rs : List Row)
    → column t i (drop n rs) ≡ drop n (column t i rs)
column-drop t i n rs = sym (drop-map (field_row t i) n rs)

-- ---- the joined elements, f being what is inside a row

module _ (f : Row → List Row) where
  pub joined-append : (rs ss : List Row) → flat_map f (rs ++ ss) ≡ flat_map f rs ++ flat_map f ss
  joined-append rs ss = flat_map-append f rs ss

  -- the first rows have the first elements
  pub joined-take : (n : ℕ) (rs : List Row)
      → flat_map f (take n rs) ≡ take (sum_by (λ r. length (f r)) (take n rs)) (flat_map f rs)
  joined-take zero rs = none rs
    where
      none : (rs : List Row)
          → flat_map f (take 0 rs) ≡ take (sum_by (λ r. length (f r)) (take 0 rs)) (flat_map f rs)
      none [] = refl
      none (r ∷ rs) = sym (nothing (flat_map f (r ∷ rs)))
        where
          nothing : (qs : List Row) → take 0 qs ≡ []
          nothing [] = refl
          nothing (q ∷ qs) = refl
  joined-take (suc n) [] = refl
  joined-take (suc n) (r ∷ rs) =
      ap (λ qs. f r ++ qs) (joined-take n rs)
      ∙ sym (ap (λ k. take k (f r ++ flat_map f rs)) (sum_by-cons (λ q. length (f q)) r (take n rs))
      ∙ take-append-add (f r) (flat_map f rs) (sum_by (λ q. length (f q)) (take n rs)))

  -- the rows that are kept have their elements, and the others none
  pub joined-filter : (p : Row → Bool) (rs : List Row)
      → flat_map f (filter p rs) ≡ flat_map (λ r. cond (p r) (f r) []) rs
  joined-filter p [] = refl
  joined-filter p (r ∷ rs) = by (joined-filter p rs) (p r)
    where
      by : flat_map f (filter p rs) ≡ flat_map (λ q. cond (p q) (f q) []) rs → (b : Bool)
          → flat_map f (cond b (r ∷ filter p rs) (filter p rs)) ≡ cond b (f r) []
          ++ flat_map (λ q. cond (p q) (f q) []) rs
      by rest true = ap (λ qs. f r ++ qs) rest
      by rest false = rest

-- ---- the columns inside a column

columns-append : (fs : Fields) (i : ℕ) (rs ss : List Row)
    → columns fs i (rs ++ ss) ≡ parts_append (columns fs i rs) (columns fs i ss)
columns-append no_fields i rs ss = refl
columns-append (field x t fs) i rs ss =
    λ k. (t, column-append t i rs ss k) ∷ columns-append fs (i + 1) rs ss k

pub parts-append : (t : Term) (rs ss : List Row)
    → parts t (rs ++ ss) ≡ parts_append (parts t rs) (parts t ss)
parts-append (structure fs n) rs ss = columns-append fs 0 rs ss
parts-append (list t n) rs ss = ap (λ qs. (t, qs) ∷ []) (joined-append inner_rows rs ss)
parts-append (extension id t m) rs ss = refl
parts-append (fixed_size_list t k n) rs ss =
    ap (λ qs. (t, qs) ∷ []) (joined-append (fixed_inner_rows t k) rs ss)
parts-append null rs ss = refl
parts-append (boolean n) rs ss = refl
parts-append (primitive k n) rs ss = refl
parts-append (decimal p s n) rs ss = refl
parts-append (utf8 n) rs ss = refl
parts-append (binary n) rs ss = refl

-- ---- the column at a place

columns-get : (fs : Fields) (i j : ℕ) (rs : List Row)
    → slice_get (columns fs i rs) j ≡ option_map (λ t. (t, column t (i + j) rs)) (field_at fs j)
columns-get no_fields i j rs = refl
columns-get (field x t fs) i zero rs = let here : i
    ≡ i + 0 = omega arith in ap (λ k. Some (t, column t k rs)) here
columns-get (field x t fs) i (suc j) rs =
    columns-get fs (i + 1) j rs
    ∙ (let there : (i + 1) + j
    ≡ i + suc j = omega arith in ap (λ k. option_map (λ u. (u, column u k rs)) (field_at fs j))
    there)

-- the i-th column inside a struct's is that of its i-th field
pub parts-struct : (fs : Fields) (n : Bool) (i : ℕ) (rs : List Row)
    → slice_get (parts (structure fs n) rs) i ≡ option_map (λ t. (t, column t i rs)) (field_at fs i)
parts-struct fs n i rs =
    columns-get fs 0 i rs
    ∙ (let same : 0 + i ≡ i = omega arith in ap
    (λ k. option_map (λ u. (u, column u k rs)) (field_at fs i)) same)
