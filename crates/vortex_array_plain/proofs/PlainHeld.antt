-- How values are held, and the array that is made of it.
use Rattle.std.proofs.Common.{◌≡◌, ◌∙◌, ℕ, List, Bool, true, false, Some, None, map, length, refl, sym, ap, subst, true≢false}
use Rattle.std.specs.List.{AllByRecursion}
use Rattle.std.proofs.lemmas.List.{length-map}
use Rattle.vortex_terms.specs.Term.{Term, null, boolean, primitive, decimal, utf8, binary, structure, list, extension, fixed_size_list}
use Rattle.vortex_terms.specs.Nullability.{with_nullability}
use Rattle.vortex_terms.specs.Weight.{weight}
use Rattle.vortex_terms.specs.Fits.{Fits}
use Rattle.vortex_terms.specs.FromColumns.{masked}
use Rattle.vortex_scalar_value.specs.Value.{ValueTerm}
use Rattle.vortex_value_rows.specs.RowOf.{row_under}
use Rattle.vortex_array_data.specs.Column.{Column}
use Rattle.vortex_array_data.specs.Content.{content_rows, held_node, held_rows, is_maskable, IsMask, IsShaped}
use Rattle.vortex_array_data.specs.declared.held.Content.{Content}
use Rattle.vortex_array_data.specs.declared.held.Content.TheVariants.{Nulls, Truths, Numbers, Decimals, Texts, Lists, FixedLists, Structs, Storage, Constant}
use Rattle.vortex_array_data.specs.declared.held.Held.{Held}
use Rattle.vortex_array_data.specs.inner.Picked.{is_plain_content}
use Rattle.vortex_array_plain.specs.PlainValues.{filled, is_valued, takes_mask, AllFit, IsPlain, IsPlainContent, IsPlainHeld}
use Rattle.vortex_array_data.proofs.PlainNodes.{made_plain}
use Rattle.vortex_array_plain.proofs.ValueFits.{filled_rows, rows_fit_all}

-- ---- the type without nulls

pub bare_weight : (t : Term) → takes_mask t ≡ true → weight (with_nullability t false) ≡ weight t
bare_weight null k = refl
bare_weight (boolean n) k = refl
bare_weight (primitive l n) k = refl
bare_weight (decimal p s n) k = refl
bare_weight (utf8 n) k = refl
bare_weight (binary n) k = refl
bare_weight (structure fs n) k = refl
bare_weight (list t n) k = refl
bare_weight (extension id t x) k = absurd (true≢false (sym k))
bare_weight (fixed_size_list t m n) k = refl

bare_shape : (t : Term) (n : ℕ) (c : Content) → takes_mask t ≡ true → is_plain_content c ≡ true
    → IsShaped c (with_nullability t false) n → IsShaped c t n
bare_shape (boolean nl) n (Truths m) k p h = h
bare_shape (primitive l nl) n (Numbers a) k p h = h
bare_shape (decimal q s nl) n (Decimals a) k p h = h
bare_shape (utf8 nl) n (Texts a) k p h = h
bare_shape (binary nl) n (Texts a) k p h = h
bare_shape (list t nl) n (Lists os es) k p h = h
bare_shape (fixed_size_list t j nl) n (FixedLists i es) k p h = h
bare_shape (structure fs nl) n (Structs v) k p h = h
bare_shape (extension id t x) n c k p h = absurd (true≢false (sym k))
bare_shape null n c k p h = absurd (true≢false (sym k))
bare_shape t n (Constant v) k p h = absurd (true≢false (sym p))
bare_shape _ n _ k p h = absurd h

bare_rows : (t u : Term) (n : ℕ) (c : Content) → is_plain_content c ≡ true → content_rows c u n ≡ content_rows c t n
bare_rows t u n Nulls p = refl
bare_rows t u n (Truths m) p = refl
bare_rows t u n (Numbers a) p = refl
bare_rows t u n (Decimals a) p = refl
bare_rows t u n (Texts a) p = refl
bare_rows t u n (Lists os es) p = refl
bare_rows t u n (FixedLists k es) p = refl
bare_rows t u n (Structs v) p = refl
bare_rows t u n (Storage a) p = refl
bare_rows t u n (Constant v) p = absurd (true≢false (sym p))

maskable : (t : Term) → takes_mask t ≡ true → is_maskable t ≡ true
maskable null k = absurd (true≢false (sym k))
maskable (boolean n) k = k
maskable (primitive l n) k = k
maskable (decimal p s n) k = k
maskable (utf8 n) k = k
maskable (binary n) k = k
maskable (structure fs n) k = k
maskable (list t n) k = k
maskable (extension id t x) k = absurd (true≢false (sym k))
maskable (fixed_size_list t m n) k = k

-- ---- how values are held

pub held_bare : (t : Term) (vs : List ValueTerm) (c : Content) → IsPlainContent t vs c
    → IsPlainHeld t vs (record { content = c; validity = None })
held_bare t vs c p = record { shape = p.shape; mask = tt; rows = p.rows; canonical = p.canonical }

held_filled : (t : Term) (d : ValueTerm) (vs : List ValueTerm) (m : List Bool) (c : Content) → takes_mask t ≡ true
    → m ≡ map is_valued vs → IsPlainContent (with_nullability t false) (map (filled d) vs) c
    → IsPlainHeld t vs (record { content = c; validity = Some m })
held_filled t d vs m c k e p =
    let u : Term = with_nullability t false in
    let count : length (map (filled d) vs) ≡ length vs = length-map vs (filled d) in
    record {
      shape = bare_shape t (length vs) c k p.canonical (subst (IsShaped c u) count p.shape);
      mask = (ap length e ∙ length-map vs is_valued, maskable t k);
      rows = ap (λ (b : List Bool). masked (Some b) (content_rows c t (length vs))) e
          ∙ ap (masked (Some (map is_valued vs)))
          (bare_rows u t (length vs) c p.canonical ∙ ap (content_rows c u) (sym count) ∙ p.rows)
          ∙ filled_rows t d vs;
      canonical = p.canonical;
    }

-- where u is the type without nulls, and ws are the values that are put in place of nulls
pub held_by : (t u : Term) (d : ValueTerm) (vs ws : List ValueTerm) (m : List Bool) (c : Content) → takes_mask t ≡ true
    → u ≡ with_nullability t false → ws ≡ map (filled d) vs → m ≡ map is_valued vs → IsPlainContent u ws c
    → IsPlainHeld t vs (record { content = c; validity = Some m })
held_by t u d vs ws m c k e f s p =
    held_filled t d vs m c k s
    (subst (λ (l : List ValueTerm). IsPlainContent (with_nullability t false) l c) f (subst (λ (u : Term). IsPlainContent u ws c) e p))

-- ---- the array

-- what is asked of how an array's rows are held
pub record IsMadeOf (u : Term) (n : ℕ) (h : Held) : Type 0 where
  pub shape : IsShaped h.content u n
  pub mask : IsMask n (is_maskable u) h.validity
  pub count : n ≡ length (held_rows u n h)
  pub fit : AllByRecursion (Fits u) (held_rows u n h)

pub plain_held_is : (t u : Term) (vs : List ValueTerm) (h : Held) → u ≡ t → AllFit t vs → IsPlainHeld t vs h
    → IsMadeOf u (length vs) h
plain_held_is t u vs h s f p =
    subst (λ (u : Term). IsMadeOf u (length vs) h) (sym s)
    (record {
      shape = p.shape;
      mask = p.mask;
      count = sym (ap length p.rows ∙ length-map vs (row_under t));
      fit = subst (AllByRecursion (Fits t)) (sym p.rows) (rows_fit_all t vs f);
    })

pub plain_made : (t u : Term) (vs : List ValueTerm) (h : Held) (a : Column) → u ≡ t → IsPlainHeld t vs h → a.dtype ≡ u
    → a.rows ≡ held_rows u (length vs) h → a.node ≡ held_node (length vs) h → IsPlain t vs a
plain_made t u vs h a s p d r n = record {
  dtype = d ∙ s;
  rows = r ∙ ap (λ (u : Term). held_rows u (length vs) h) s ∙ p.rows;
  canonical = made_plain (length vs) h a.node n ∙ p.canonical;
}
