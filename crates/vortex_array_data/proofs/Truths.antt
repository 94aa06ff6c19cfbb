-- The truth values that an array holds, had back from its rows.
use Rattle.std.proofs.Common.{◌≡◌, ◌∙◌, ℕ, zero, suc, List, [], ◌∷◌, Bool, false, Some, None, map, replicate, refl, sym, ap, subst, true≢false}
use Rattle.vortex_terms.specs.Term.{Term, boolean}
use Rattle.vortex_terms.specs.Row.{Row, truth_row, copies}
use Rattle.vortex_terms.specs.FromColumns.{masked}
use Rattle.vortex_scalar_value.specs.Value.{ValueTerm}
use Rattle.vortex_value_rows.specs.RowOf.{row_under}
use Rattle.vortex_types.specs.DTypes.{term_of}
use Rattle.vortex_node_rows.specs.RowsOf.{Validity, truth_of}
use Rattle.vortex_array_data.specs.Content.{is_maskable, IsMask, IsArray, column_of, content_rows}
use Rattle.vortex_array_data.specs.declared.held.Content.{Content}
use Rattle.vortex_array_data.specs.declared.held.Content.TheVariants.{Truths, Constant}
use Rattle.vortex_array_data.specs.declared.held.Array.TheInside.{Inside}

truths_back : (bs : List Bool) → map truth_of (map truth_row bs) ≡ bs
truths_back [] = refl
truths_back (b ∷ bs) = ap (λ (l : List Bool). b ∷ l) (truths_back bs)

copies_back : (n : ℕ) (r : Row) → map truth_of (copies n r) ≡ replicate n (truth_of r)
unfolding copies
copies_back zero r = refl
copies_back (suc n) r = ap (λ (l : List Bool). truth_of r ∷ l) (copies_back n r)

unmasked : (n : ℕ) (v : Validity) (rs : List Row) → IsMask n false v → masked v rs ≡ rs
unmasked n None rs h = refl
unmasked n (Some m) rs h = absurd (true≢false (sym h.1))

rows_held : (t : Term) (n : ℕ) (v : Validity) (c d : Content) → t ≡ boolean false → IsMask n (is_maskable t) v → c ≡ d
    → map truth_of (masked v (content_rows c t n)) ≡ map truth_of (content_rows d (boolean false) n)
rows_held t n v c d e k is =
    ap (map truth_of) (unmasked n v (content_rows c t n) (subst (λ (u : Term). IsMask n (is_maskable u) v) e k))
    ∙ ap (λ (x : Content). map truth_of (content_rows x t n)) is
    ∙ ap (λ (u : Term). map truth_of (content_rows d u n)) e

pub truths_held : (a : Inside) (m : List Bool) → IsArray a → (column_of a).dtype ≡ boolean false
    → a.held.content ≡ Truths m → m ≡ map truth_of (column_of a).rows
truths_held a m h e is =
    sym (rows_held (term_of a.dtype) a.len a.held.validity a.held.content (Truths m) e h.mask is ∙ truths_back m)

pub constant_held : (a : Inside) (v : ValueTerm) (b : Bool) → IsArray a → (column_of a).dtype ≡ boolean false
    → a.held.content ≡ Constant v → b ≡ truth_of (row_under (boolean false) v)
    → replicate a.len b ≡ map truth_of (column_of a).rows
constant_held a v b h e is k =
    ap (replicate a.len) k
    ∙ sym (rows_held (term_of a.dtype) a.len a.held.validity a.held.content (Constant v) e h.mask is
    ∙ copies_back a.len (row_under (boolean false) v))
