-- Texts under a mask, at a place.
use Rattle.std.specs.Prelude.{slice_get, IfSome}
use Rattle.std.proofs.Common.{◌≡◌, ◌∙◌, ◌<◌, ℕ, zero, suc, List, [], ◌∷◌, Bool, true, false, Some, map, length, sym, ap, subst}
use Rattle.std.specs.Ordering.{nat_cmp}
use Rattle.std.specs.Cmp.Lexicographic.{slice_cmp}
use Rattle.vortex_terms.specs.FromColumns.{masked}
use Rattle.vortex_terms.specs.Row.{Row, bytes_row}
use Rattle.vortex_terms.specs.Term.{Term, utf8, binary}
use Rattle.vortex_types.specs.DTypes.{term_of}
use Rattle.vortex_leaves.specs.Texts.{TextBytes, text_pieces}
use Rattle.vortex_value.specs.Operator.{bears}
use Rattle.vortex_value.specs.declared.operator.Operator.{Operator}
use Rattle.vortex_node_rows.specs.RowsOf.{Validity}
use Rattle.vortex_array_data.specs.Column.{Column}
use Rattle.vortex_array_data.specs.Content.{column_of, content_rows, IsArray, IsShaped}
use Rattle.vortex_array_data.specs.ValidRows.{valid_at}
use Rattle.vortex_array_data.specs.declared.held.Array.TheInside.{Inside}
use Rattle.vortex_array_data.specs.declared.held.Content.{Content}
use Rattle.vortex_array_data.specs.declared.held.Content.TheVariants.{Texts}
use Rattle.vortex_array_compare.specs.inner.ComparedRows.{row_in, row_truth}
use Rattle.vortex_array_compare.proofs.ComparedNumbers.{hidden_in, mask_many, shown_in}
use Rattle.vortex_array_data.proofs.HeldRows.{held_count}

pub hidden_text : (o : Operator) (y : List ℕ) (v : Validity) (ps : List (List ℕ)) (i : ℕ) → valid_at v i ≡ false
    → false ≡ row_truth o (bytes_row y) (row_in (masked v (map bytes_row ps)) i)
hidden_text o y v ps i h = ap (λ (r : Row). row_truth o (bytes_row y) r) (sym (hidden_in v (map bytes_row ps) i h))

bytes_at : (ps : List (List ℕ)) (i : ℕ) (x : List ℕ) → slice_get ps i ≡ Some x → slice_get (map bytes_row ps) i ≡ Some (bytes_row x)
bytes_at [] i x e = absurd (cc)
bytes_at (p ∷ ps) zero x e = cc
bytes_at (p ∷ ps) (suc i) x e = bytes_at ps i x e

pub shown_text : (o : Operator) (v : Validity) (ps : List (List ℕ)) (i : ℕ) (x y : List ℕ) (b : Bool)
    → IfSome v (λ m. i < length m) → valid_at v i ≡ true → slice_get ps i ≡ Some x
    → b ≡ bears o (slice_cmp nat_cmp x y) → b ≡ row_truth o (bytes_row y) (row_in (masked v (map bytes_row ps)) i)
shown_text o v ps i x y b below valid e is =
    is ∙ ap (λ (r : Row). row_truth o (bytes_row y) r) (sym (shown_in v (map bytes_row ps) i (bytes_row x) below valid (bytes_at ps i x e)))

-- ---- an array of texts

texts_count : (b : TextBytes) (t : Term) (n : ℕ) → IsShaped (Texts b) t n → length (text_pieces b) ≡ n
texts_count b (utf8 nl) n h = h
texts_count b (binary nl) n h = h
texts_count b _ n h = absurd h

texts_rows : (a : Inside) (c : Column) (b : TextBytes) → column_of a ≡ c → a.held.content ≡ Texts b
    → masked a.held.validity (map bytes_row (text_pieces b)) ≡ c.rows
texts_rows a c b is e =
    ap (λ (x : Content). masked a.held.validity (content_rows x (term_of a.dtype) a.len)) (sym e)
    ∙ ap (λ (c : Column). c.rows) is

texts_many : (a : Inside) (b : TextBytes) → IsArray a → a.held.content ≡ Texts b → length (text_pieces b) ≡ a.len
texts_many a b h e =
    texts_count b (term_of a.dtype) a.len (subst (λ (x : Content). IsShaped x (term_of a.dtype) a.len) e h.shape)

pub texts_mask : (a : Inside) (b : TextBytes) → IsArray a → a.held.content ≡ Texts b
    → IfSome a.held.validity (λ m. length m ≡ length (text_pieces b))
texts_mask a b h e = mask_many a.held.validity a.len (length (text_pieces b)) (held_count a h) (texts_many a b h e)

pub texts_long : (a : Inside) (c : Column) (b : TextBytes) → IsArray a → column_of a ≡ c → a.held.content ≡ Texts b
    → length (masked a.held.validity (map bytes_row (text_pieces b))) ≡ length (text_pieces b)
texts_long a c b h is e =
    ap length (texts_rows a c b is e) ∙ sym (texts_many a b h e ∙ h.count ∙ ap (λ (c : Column). length c.rows) is)
