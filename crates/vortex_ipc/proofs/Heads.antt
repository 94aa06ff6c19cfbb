-- What stands before a body.
use Rattle.std.proofs.Common.{◌≡◌, ℕ, suc, ◌+◌, ◌≤◌, ◌<◌, ◌^◌, List, length, Option, Some, refl, sym, ap, subst, ◌∙◌, arith}
use Rattle.std.specs.Prelude.{◌&&◌, nat_le, IsSome}
use Rattle.std.proofs.lemmas.Bool.{leb-true}
use Rattle.vortex_flat.specs.Tree.{Tree}
use Rattle.vortex_flat.specs.Layout.{size_of, bytes_of, tables_fit, whole_of, layout_of}
use Rattle.vortex_flat.proofs.Lengths.{length-bytes_of}
use Rattle.vortex_flat.proofs.TableLemmas.{guard_some, and_split}
use Rattle.vortex_ipc.specs.declared.encoder.EncoderMessage.{EncoderMessage}
use Rattle.vortex_ipc.specs.declared.encoder.EncoderMessage.TheVariants as given
use Rattle.vortex_ipc.specs.Encoding.{header_tree}

-- a layout is short
pub laid_short : (t : Tree) (b : List ℕ) → layout_of t ≡ Some b → length b < 2 ^ 32
unfolding layout_of
laid_short t b e =
    let g = guard_some (tables_fit t && nat_le (8 + size_of t) 4_294_967_295) (whole_of t) b e in
    let fits = and_split (tables_fit t) (nat_le (8 + size_of t) 4_294_967_295) g.0 in
    let short : 8 + size_of t ≤ 4_294_967_295 = leb-true _ _ fits.1 in
    let whole : length (whole_of t) ≡ suc (suc (suc (suc (suc (suc (suc (suc (length (bytes_of t))))))))) = refl in
    omega (arith, ap length g.1, whole, length-bytes_of t, short)

-- a header has a layout
pub header_laid : (m : EncoderMessage) (size : ℕ) → layout_of (header_tree m size) ≡ Some (whole_of (header_tree m size))
unfolding layout_of
header_laid (given.Buffer b) size = refl
header_laid (given.DType t) size = refl

pub has_layout : (m : EncoderMessage) (size : ℕ) (t : Tree) → t ≡ header_tree m size → IsSome (layout_of t)
has_layout m size t e = subst (λ (found : Option (List ℕ)). IsSome found) (sym (ap layout_of e ∙ header_laid m size)) refl
