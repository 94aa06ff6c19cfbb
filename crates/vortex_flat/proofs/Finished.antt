-- What a whole layout is.
use Rattle.std.proofs.Common.{◌≡◌, ℕ, ◌+◌, ◌≤◌, ◌<◌, Bool, true, false, List, [], ◌++◌, Some, None, refl, sym, ap, ◌∙◌, arith}
use Rattle.std.specs.Prelude.{◌&&◌, nat_le, not, if◌then◌else◌}
use Rattle.std.proofs.lemmas.Bool.{le-leb, lt-leb}
use Rattle.vortex_flat.specs.declared.extent.Extent.{Extent}
use Rattle.vortex_flat.specs.Tree.{Tree, table, offsets, bytes, text, numbers, records}
use Rattle.vortex_flat.specs.Layout.{low_first, head, size_of, bytes_of, tables_fit, whole_of, layout_of}
use Rattle.vortex_flat.specs.inner.Extent.{Measures}
use Rattle.vortex_flat.specs.Reads.{InRange, ReadsAgain}
use Rattle.vortex_flat.specs.Finish.{IsTable}
use Rattle.vortex_flat.proofs.Again.{read_again_lem}
use Rattle.vortex_flat.proofs.PutLemmas.{join}

pub again : (t : Tree) (b : List ℕ) → IsTable t → InRange t → layout_of t ≡ Some b → ReadsAgain b t
again (table s) b is_table range e = read_again_lem s b range e
again (offsets ts) b is_table range e = absurd is_table
again (bytes xs) b is_table range e = absurd is_table
again (text xs) b is_table range e = absurd is_table
again (numbers xs) b is_table range e = absurd is_table
again (records xs) b is_table range e = absurd is_table

pub unfit_none : (e : Extent) (t : Tree) → Measures e t → e.fits ≡ false → layout_of t ≡ None
unfolding layout_of
unfit_none e t m f = ap (λ (c : Bool). if c && nat_le (8 + size_of t) 4_294_967_295 then Some (whole_of t) else None) (sym m.fits ∙ f)

and_false : (a b : Bool) → b ≡ false → a && b ≡ false
and_false true b e = e
and_false false b e = refl

pub long_none : (e : Extent) (t : Tree) → Measures e t → 4294967288 ≤ e.size → layout_of t ≡ None
unfolding layout_of
long_none e t m long =
    let past : nat_le (8 + size_of t) 4_294_967_295 ≡ false = lt-leb _ _ (omega (arith, m.size)) in
    ap (λ (c : Bool). if c then Some (whole_of t) else None) (and_false (tables_fit t) (nat_le (8 + size_of t) 4_294_967_295) past)

-- an extent below the limit is the size
pub exact_size : (e : Extent) (t : Tree) → Measures e t → e.size < 4294967288 → 8 + size_of t ≤ 4294967295
exact_size e t m short = omega (arith, m.size, short)

pub fits_layout : (e : Extent) (t : Tree) → Measures e t → e.fits ≡ true → e.size < 4294967288 → layout_of t ≡ Some (whole_of t)
unfolding layout_of
fits_layout e t m f short =
    let within : nat_le (8 + size_of t) 4_294_967_295 ≡ true = le-leb _ _ (exact_size e t m short) in
    ap (λ (c : Bool). if c && nat_le (8 + size_of t) 4_294_967_295 then Some (whole_of t) else None) (sym m.fits ∙ f) ∙ ap (λ (c : Bool). if c then Some (whole_of t) else None) within

pub whole_laid : (o o1 o2 o3 : List ℕ) (t : Tree) (h : ℕ) → o ≡ [] → h ≡ head t → o1 ≡ o ++ low_first 4 (8 + h) → o2 ≡ o1 ++ low_first 4 0 → o3 ≡ o2 ++ bytes_of t → o3 ≡ whole_of t
whole_laid o o1 o2 o3 t h empty same e f g =
    let first : o1 ≡ o ++ low_first 4 (8 + head t) = e ∙ ap (λ (k : ℕ). o ++ low_first 4 (8 + k)) same in
    join o o2 o3 (low_first 4 (8 + head t) ++ low_first 4 0) (bytes_of t) (join o o1 o2 (low_first 4 (8 + head t)) (low_first 4 0) first f) g ∙ ap (λ (start : List ℕ). start ++ whole_of t) empty

pub is_unfit : (b : Bool) → not b ≡ true → b ≡ false
is_unfit true e = sym e
is_unfit false e = refl

pub is_fit : (b : Bool) → not b ≡ false → b ≡ true
is_fit true e = refl
is_fit false e = sym e
