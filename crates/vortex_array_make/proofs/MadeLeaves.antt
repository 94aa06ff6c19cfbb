-- What constructors of arrays without children answer: the refusals by their tests, and the columns under the mask
-- that is kept.
use Rattle.std.proofs.Common.{rules, ◌≡◌, ◌∙◌, ◌≤◌, ◌<◌, ◌-◌, ◌^◌, ℕ, ℤ, List, [], ◌∷◌, Bool, true, false, not, IsTrue, FitsSigned, Option, Some, None, map, length, drop, inr, refl, sym, ap, subst, arith, true≢false}
use Rattle.std.specs.Prelude.{◌&&◌, Result, Ok, Err, IsErrAnd, nat_le, if◌then◌else◌}
use Rattle.std.specs.List.{AllByRecursion, list_all}
use Rattle.std.specs.Option.{IsSome, option_and_then, unwrap_or}
use Rattle.std.specs.Str.{is_utf8}
use Rattle.std.specs.Int.{Width, w8, w16, w32, w64, w128}
use Rattle.std.proofs.lemmas.Bool.{leb-true}
use Rattle.std.proofs.lemmas.List.{length-map}
use Rattle.std.proofs.lemmas.List.Elements.{All-take, All-drop}
use Rattle.std.proofs.lemmas.Str.{IsUtf8-from_is_utf8}
use mir.Val.{hbits}
use Rattle.vortex_number.specs.Format.{signed, fits}
use Rattle.vortex_number.specs.inner.FormatLaws.{signed_fit}
use Rattle.vortex_number.specs.PType.{format_of}
use Rattle.vortex_number.specs.WholeKind.{whole_kind}
use Rattle.vortex_number.specs.declared.ptype.PType.{PType}
use Rattle.vortex_number.proofs.Ranges.{same_range}
use Rattle.vortex_value.specs.DecimalValue.{decimal_format}
use Rattle.vortex_value.specs.declared.decimal.DecimalValueType.{DecimalValueType}
use Rattle.vortex_value.specs.declared.decimal.DecimalValueType.TheVariants as width
use Rattle.vortex_terms.specs.Term.{Term, null, boolean, primitive, decimal, utf8, binary, structure, list, extension, fixed_size_list}
use Rattle.vortex_terms.specs.Types.{IsBytes, nullable}
use Rattle.vortex_terms.specs.Row.{Row, null_row, whole_row, bytes_row, copies}
use Rattle.vortex_terms.specs.Fits.{Fits}
use Rattle.vortex_terms.specs.FromColumns.{last_from, masked, pieces}
use Rattle.vortex_terms.specs.Tests.{is_fitting}
use Rattle.vortex_terms.specs.TestLaws.{is_fitting-Decides}
use Rattle.vortex_scalar_value.specs.Value.{ValueTerm}
use Rattle.vortex_scalar.specs.ScalarTerm.{ScalarTerm}
use Rattle.vortex_value_rows.specs.RowOf.{row_of, row_under, fitting_row}
use Rattle.vortex_node_rows.specs.declared.encoding.Encoding.{Encoding}
use Rattle.vortex_node_rows.specs.declared.encoding.Encoding.TheVariants as encoding
use Rattle.vortex_node_rows.specs.Buffers.{never_fall}
use Rattle.vortex_node_rows.specs.Leaves.{are_texts}
use Rattle.vortex_node_rows.specs.RowsOf.{Validity, most_rows}
use Rattle.vortex_node_rows.proofs.Constants.{length-copies}
use Rattle.vortex_node_rows.proofs.Masks.{length-masked}
use Rattle.vortex_node_rows.proofs.Texts.{length-pieces, pieces_all}
use Rattle.vortex_leaves.specs.OffsetTest.{offsets_part}
use Rattle.vortex_leaves.specs.Texts.{TextBytes, text_pieces}
use Rattle.vortex_array_data.specs.ArrayNode.{array_node}
use Rattle.vortex_array_data.specs.Column.{Column}
use Rattle.vortex_array_data.specs.Content.{has_false, is_maskable, mask_nodes, IsMask, IsShaped}
use Rattle.vortex_array_data.specs.declared.held.Content.TheVariants.{Texts}
use Rattle.vortex_array_make.specs.MadeLeaves.{constant_refusal, leaf_column, made_constant, piece_count, takes_pieces, texts_refusal}
use Rattle.vortex_array_data.specs.Makes.{first_refusal, mask_differs, mask_hides, Makes, too_many}
use Rattle.vortex_array_data.specs.inner.Masks.{IsTaken, mask_tests}
use Rattle.vortex_array_data.specs.declared.error.ArrayError.{ArrayError}
use Rattle.vortex_array_data.specs.declared.error.ArrayError.TheVariants.{LengthMismatch, TooLarge, TypeMismatch}
use Rattle.vortex_array_data.proofs.MadeMasks.{are_few, mask_again}
use Rattle.vortex_array_data.proofs.ConstantRows.{copies_fit}

-- ---- errors that are passed on

pub refused : (r : Result Column ArrayError) (e : ArrayError) (refusal : Option ArrayError) (made : Column)
    → IsErrAnd r (λ y. y ≡ e) → refusal ≡ Some e → Makes r refusal made
refused (Ok a) e refusal made h k = absurd h
refused (Err y) e refusal made h k = inr (k ∙ ap Some (sym h))

-- ---- refusals

pub few_constants : (n : ℕ) → n ≤ most_rows → constant_refusal n ≡ None
few_constants n h = ap (λ (b : Bool). first_refusal ((b, TooLarge) ∷ [])) (are_few n h)

-- ---- columns

same_column : (a b : Column) → a.dtype ≡ b.dtype → a.rows ≡ b.rows → a.node ≡ b.node → a ≡ b
same_column a b p q r = λ i. record { dtype = p i; rows = q i; node = r i }

pub column_made : (a : Column) (t : Term) (e : Encoding) (n : ℕ) (v : Validity) (rs held : List Row) → a.dtype ≡ t
    → a.rows ≡ masked v held → a.node ≡ array_node e n (mask_nodes n v) → held ≡ rs → length rs ≡ n
    → a ≡ leaf_column t e v rs
column_made a t e n v rs held p q r h l =
    same_column a (leaf_column t e v rs) p (q ∙ ap (masked v) h)
    (r ∙ ap (λ (k : ℕ). array_node e k (mask_nodes k v)) (sym l))

-- the column under the mask that is kept is that under the one that is given
pub column_shown : (t : Term) (e : Encoding) (n : ℕ) (nl : Bool) (v kept : Validity) (rs : List Row)
    → IsTaken n nl v kept → length rs ≡ n → leaf_column t e kept rs ≡ leaf_column t e v rs
column_shown t e n nl v kept rs h l =
    same_column (leaf_column t e kept rs) (leaf_column t e v rs) refl (h.shown rs l)
    (ap (λ (k : ℕ). array_node e k (mask_nodes k kept)) l ∙ ap (array_node e n) h.nodes
    ∙ ap (λ (k : ℕ). array_node e k (mask_nodes k v)) (sym l))

-- the same, where whether the type is nullable was asked
pub taken_under : (n : ℕ) (b nl : Bool) (v kept : Validity) → b ≡ nl → IsTaken n b v kept → IsTaken n nl v kept
taken_under n b nl v kept e h = subst (λ (c : Bool). IsTaken n c v kept) e h

-- ---- numbers

wholes_fit : {X : Type 0} (P : Row → Type 0) (Q : ℤ → Type 0) (number : X → ℤ) (xs : List X)
    → ((z : ℤ) → Q z → P (whole_row z)) → AllByRecursion (λ x. Q (number x)) xs
    → AllByRecursion P (map (λ x. whole_row (number x)) xs)
wholes_fit P Q number [] each h = tt
wholes_fit P Q number (x ∷ xs) each h = (each (number x) h.0, wholes_fit P Q number xs each h.1)

-- ---- numbers

pub numbers_fit : {X : Type 0} (p : PType) (nl : Bool) (number : X → ℤ) (xs : List X)
    → AllByRecursion (λ x. IsTrue (fits (format_of p) (number x))) xs
    → AllByRecursion (Fits (primitive (whole_kind p) nl)) (map (λ x. whole_row (number x)) xs)
numbers_fit p nl number xs h =
    wholes_fit (Fits (primitive (whole_kind p) nl)) (λ z. IsTrue (fits (format_of p) z)) number xs
    (λ z k. (same_range p z).0 k) h

-- ---- decimals

below : (a b c : ℕ) → a < b → b ≤ c → a < c
below a b c h k = omega arith

at_most_128 : (w : Width) → 2 ^ hbits w ≤ 2 ^ hbits w128
at_most_128 w8 = leb-true _ _ refl
at_most_128 w16 = leb-true _ _ refl
at_most_128 w32 = leb-true _ _ refl
at_most_128 w64 = leb-true _ _ refl
at_most_128 w128 = leb-true _ _ refl

wide : (w : Width) (z : ℤ) → IsTrue (fits (signed w) z) → FitsSigned w128 z
wide w z h = record { sfits = below _ (2 ^ hbits w) (2 ^ hbits w128) (signed_fit w z h).sfits (at_most_128 w) }

digits_fit : (w : DecimalValueType) (z : ℤ) → IsTrue (fits (decimal_format w) z) → FitsSigned w128 z
digits_fit width.I8 z h = wide w8 z h
digits_fit width.I16 z h = wide w16 z h
digits_fit width.I32 z h = wide w32 z h
digits_fit width.I64 z h = wide w64 z h
digits_fit width.I128 z h = wide w128 z h

pub decimals_fit : {X : Type 0} (w : DecimalValueType) (p : ℕ) (s : ℤ) (nl : Bool) (number : X → ℤ) (xs : List X)
    → AllByRecursion (λ x. IsTrue (fits (decimal_format w) (number x))) xs
    → AllByRecursion (Fits (decimal p s nl)) (map (λ x. whole_row (number x)) xs)
decimals_fit w p s nl number xs h =
    wholes_fit (Fits (decimal p s nl)) (λ z. IsTrue (fits (decimal_format w) z)) number xs (digits_fit w) h

-- ---- constants

there_is : (r : Row) → IsSome (Some r)
there_is r = search rules

pub value_fits : (t u : Term) (v : ValueTerm) (r : Row) → u ≡ t → row_of t v ≡ Some r → Fits t r → IsSome (fitting_row u v)
value_fits t u v r e h k =
    subst (λ (u : Term). IsSome (fitting_row u v)) (sym e)
    (subst (λ (o : Option Row). IsSome (option_and_then (λ r. if is_fitting t r then Some r else None) o)) (sym h)
    (subst (λ (b : Bool). IsSome (if b then Some r else None)) (sym ((is_fitting-Decides t r).1 k)) (there_is r)))

pub value_under : (t u : Term) (v : ValueTerm) (r : Row) → u ≡ t → row_of t v ≡ Some r → row_under u v ≡ r
value_under t u v r e h = ap (λ (u : Term). row_under u v) e ∙ ap (λ (o : Option Row). unwrap_or o null_row) h

pub constants_many : (n : ℕ) (r : Row) → n ≡ length (copies n r)
constants_many n r = sym (length-copies n r)

pub constants_fit : (t u : Term) (n : ℕ) (q r : Row) → u ≡ t → q ≡ r → Fits t r → AllByRecursion (Fits u) (copies n q)
constants_fit t u n q r e h k = copies_fit (Fits u) n q (subst (Fits u) (sym h) (subst (λ (u : Term). Fits u r) (sym e) k))

pub constant_made : (a : Column) (s : ScalarTerm) (u : Term) (n : ℕ) (q : Row) → n ≤ most_rows → u ≡ s.dtype → q ≡ s.row
    → a.dtype ≡ u → a.rows ≡ copies n q → a.node ≡ array_node encoding.Constant n (mask_nodes n None)
    → Makes (Ok a) (constant_refusal n) (made_constant s n)
constant_made a s u n q h e f p r o = (
  few_constants n h,
  column_made a s.dtype encoding.Constant n None (copies n s.row) (copies n q) (p ∙ e) r o (ap (copies n) f)
      (length-copies n s.row),
)

-- ---- texts and bytes

both : (a b : Bool) → a && b ≡ true → (a ≡ true) × (b ≡ true)
both true true h = (refl, refl)
both true false h = absurd (true≢false (sym h))
both false b h = absurd (true≢false (sym h))

-- the texts that a mask shows are UTF-8, and the others null, where they may be
texts_shown : (nl : Bool) (m : List Bool) (ps : List (List ℕ)) → not nl && has_false m ≡ false
    → are_texts (Some m) ps ≡ true → AllByRecursion (Fits (utf8 nl)) (masked (Some m) (map bytes_row ps))
texts_shown nl [] ps h k = tt
texts_shown nl (b ∷ m) [] h k = tt
texts_shown nl (true ∷ m) (p ∷ ps) h k =
    let two = both (is_utf8 p) (are_texts (Some m) ps) k in
    (IsUtf8-from_is_utf8 p two.0, texts_shown nl m ps h two.1)
texts_shown true (false ∷ m) (p ∷ ps) h k = (refl, texts_shown true m ps refl k)
texts_shown false (false ∷ m) (p ∷ ps) h k = absurd (true≢false h)

all_texts : (nl : Bool) (ps : List (List ℕ)) → list_all is_utf8 ps ≡ true
    → AllByRecursion (Fits (utf8 nl)) (map bytes_row ps)
all_texts nl [] h = tt
all_texts nl (p ∷ ps) h =
    let two = both (is_utf8 p) (list_all is_utf8 ps) h in
    (IsUtf8-from_is_utf8 p two.0, all_texts nl ps two.1)

texts_fit : (nl : Bool) (v : Validity) (ps : List (List ℕ)) → mask_hides nl v ≡ false → are_texts v ps ≡ true
    → AllByRecursion (Fits (utf8 nl)) (masked v (map bytes_row ps))
texts_fit nl None ps h k = all_texts nl ps k
texts_fit nl (Some m) ps h k = texts_shown nl m ps h k

bytes_shown : (nl : Bool) (m : List Bool) (ps : List (List ℕ)) → not nl && has_false m ≡ false
    → AllByRecursion IsBytes ps → AllByRecursion (Fits (binary nl)) (masked (Some m) (map bytes_row ps))
bytes_shown nl [] ps h k = tt
bytes_shown nl (b ∷ m) [] h k = tt
bytes_shown nl (true ∷ m) (p ∷ ps) h k = (k.0, bytes_shown nl m ps h k.1)
bytes_shown true (false ∷ m) (p ∷ ps) h k = (refl, bytes_shown true m ps refl k.1)
bytes_shown false (false ∷ m) (p ∷ ps) h k = absurd (true≢false h)

all_bytes : (nl : Bool) (ps : List (List ℕ)) → AllByRecursion IsBytes ps
    → AllByRecursion (Fits (binary nl)) (map bytes_row ps)
all_bytes nl [] h = tt
all_bytes nl (p ∷ ps) h = (h.0, all_bytes nl ps h.1)

bytes_fit : (nl : Bool) (v : Validity) (ps : List (List ℕ)) → mask_hides nl v ≡ false → AllByRecursion IsBytes ps
    → AllByRecursion (Fits (binary nl)) (masked v (map bytes_row ps))
bytes_fit nl None ps h k = all_bytes nl ps k
bytes_fit nl (Some m) ps h k = bytes_shown nl m ps h k

pieces_bytes : (os bytes : List ℕ) → IsBytes bytes → AllByRecursion IsBytes (pieces os bytes)
pieces_bytes os bytes h =
    pieces_all IsBytes os bytes (λ a b. All-take (λ x. x < 256) (b - a) (drop a bytes) (All-drop (λ x. x < 256) a bytes h))

-- what is so of pieces under a type that takes them
pub record AreTaken (t : Term) (n : ℕ) (v : Validity) (a : TextBytes) : Type 0 where
  pub shape : IsShaped (Texts a) t n
  pub maskable : is_maskable t ≡ nullable t
  pub fit : AllByRecursion (Fits t) (masked v (map bytes_row (text_pieces a)))

taken_by : (t : Term) (n : ℕ) (v : Validity) (a : TextBytes) → takes_pieces t v (text_pieces a) ≡ true
    → length (text_pieces a) ≡ n → IsBytes a.bytes → mask_hides (nullable t) v ≡ false → AreTaken t n v a
taken_by (utf8 nl) n v a k l b h = record { shape = l; maskable = refl; fit = texts_fit nl v (text_pieces a) h k }
taken_by (binary nl) n v a k l b h =
    record { shape = l; maskable = refl; fit = bytes_fit nl v (text_pieces a) h (pieces_bytes a.offsets a.bytes b) }
taken_by null n v a k l b h = absurd (true≢false (sym k))
taken_by (boolean nl) n v a k l b h = absurd (true≢false (sym k))
taken_by (primitive w nl) n v a k l b h = absurd (true≢false (sym k))
taken_by (decimal p s nl) n v a k l b h = absurd (true≢false (sym k))
taken_by (structure fs nl) n v a k l b h = absurd (true≢false (sym k))
taken_by (list t nl) n v a k l b h = absurd (true≢false (sym k))
taken_by (extension id t x) n v a k l b h = absurd (true≢false (sym k))
taken_by (fixed_size_list t w nl) n v a k l b h = absurd (true≢false (sym k))

-- what offsets that part the bytes are
pub parted : (os : List ℕ) (end : ℕ) → offsets_part os end ≡ true
    → (1 ≤ length os) × (never_fall os ≡ true) × (last_from 0 os ≤ end)
parted os end h =
    let all = both (nat_le 1 (length os) && never_fall os) (nat_le (last_from 0 os) end) h in
    let first = both (nat_le 1 (length os)) (never_fall os) all.0 in
    (leb-true 1 (length os) first.0, first.1, leb-true (last_from 0 os) end all.1)

pub pieces_many : (n : ℕ) (os bytes : List ℕ) → n ≡ piece_count os → offsets_part os (length bytes) ≡ true
    → length (pieces os bytes) ≡ n
pieces_many n os bytes e h =
    let some : 1 ≤ length os = (parted os (length bytes) h).0 in
    length-pieces n os bytes (omega (arith, some, e))

-- the array of pieces that the type takes
pub record AreKept (t : Term) (n : ℕ) (kept : Validity) (a : TextBytes) : Type 0 where
  pub shape : IsShaped (Texts a) t n
  pub mask : IsMask n (is_maskable t) kept
  pub count : n ≡ length (masked kept (map bytes_row (text_pieces a)))
  pub fit : AllByRecursion (Fits t) (masked kept (map bytes_row (text_pieces a)))

pub pieces_kept : (t : Term) (n : ℕ) (b : Bool) (v kept : Validity) (os bytes : List ℕ) (a : TextBytes)
    → a ≡ record { offsets = os; bytes = bytes } → n ≡ piece_count os → offsets_part os (length bytes) ≡ true
    → IsBytes a.bytes → b ≡ nullable t → IsTaken n b v kept → takes_pieces t v (text_pieces a) ≡ true → AreKept t n kept a
pieces_kept t n b v kept os bytes a is e h below u k takes =
    let taken = taken_under n b (nullable t) v kept u k in
    let long : length (text_pieces a) ≡ n = ap (λ (x : TextBytes). length (text_pieces x)) is ∙ pieces_many n os bytes e h in
    let rows : length (map bytes_row (text_pieces a)) ≡ n = length-map (text_pieces a) bytes_row ∙ long in
    let by = taken_by t n v a takes long below taken.hides in
    record {
      shape = by.shape;
      mask = subst (λ (c : Bool). IsMask n c kept) (sym by.maskable) taken.mask;
      count = sym (length-masked n (nullable t) kept (map bytes_row (text_pieces a))
          (mask_again n (nullable t) kept taken.mask) rows);
      fit = subst (AllByRecursion (Fits t)) (sym (taken.shown (map bytes_row (text_pieces a)) rows)) by.fit;
    }

-- ---- refusals of texts and bytes

abbrev pub text_bytes : List ℕ → List ℕ → TextBytes
text_bytes os bytes = record { offsets = os; bytes = bytes }

-- the test of offsets as it was made
pub part_of : (r : Bool) (os given : List ℕ) (n : ℕ) (bytes : List ℕ) → r ≡ offsets_part given n → given ≡ os
    → n ≡ length bytes → r ≡ true → offsets_part os (length bytes) ≡ true
part_of r os given n bytes t e l h =
    sym (t ∙ ap (λ (o : List ℕ). offsets_part o n) e ∙ ap (offsets_part os) l) ∙ h

-- the tests of pieces, by their answers
abbrev tests : Bool → Bool → Bool → Bool → Bool → Option ArrayError
tests a b c d e = first_refusal (
    (a, TooLarge) ∷ (not b, LengthMismatch) ∷ (c, LengthMismatch) ∷ (d, TypeMismatch) ∷ (not e, TypeMismatch) ∷ []
    )

few_then : (os bytes : List ℕ) (t : Term) (v : Validity) (n : ℕ) → n ≡ piece_count os → n ≤ most_rows
    → texts_refusal os bytes t v ≡ tests false (offsets_part os (length bytes)) (mask_differs n v)
    (mask_hides (nullable t) v) (takes_pieces t v (pieces os bytes))
few_then os bytes t v n e h =
    ap (λ (k : ℕ). tests (too_many k) (offsets_part os (length bytes)) (mask_differs k v) (mask_hides (nullable t) v)
    (takes_pieces t v (pieces os bytes))) (sym e)
    ∙ ap (λ (b : Bool). tests b (offsets_part os (length bytes)) (mask_differs n v) (mask_hides (nullable t) v)
    (takes_pieces t v (pieces os bytes))) (are_few n h)

mask_first : (c d x : Bool) (e : ArrayError)
    → first_refusal ((c, LengthMismatch) ∷ (d, TypeMismatch) ∷ []) ≡ Some e → tests false true c d x ≡ Some e
mask_first true d x e h = h
mask_first false true x e h = h
mask_first false false x e h = cc

pub texts_masked : (os bytes : List ℕ) (t : Term) (v : Validity) (n : ℕ) (b : Bool) (e : ArrayError) → n ≡ piece_count os
    → n ≤ most_rows → offsets_part os (length bytes) ≡ true → b ≡ nullable t
    → first_refusal (mask_tests n b v) ≡ Some e → texts_refusal os bytes t v ≡ Some e
texts_masked os bytes t v n b e is few part u h =
    few_then os bytes t v n is few ∙ ap (λ (b : Bool). tests false b (mask_differs n v) (mask_hides (nullable t) v)
    (takes_pieces t v (pieces os bytes))) part
    ∙ mask_first (mask_differs n v) (mask_hides (nullable t) v) (takes_pieces t v (pieces os bytes)) e
    (subst (λ (c : Bool). first_refusal (mask_tests n c v) ≡ Some e) u h)

taken_then : (os bytes : List ℕ) (t : Term) (v kept : Validity) (n : ℕ) (b : Bool) → n ≡ piece_count os
    → n ≤ most_rows → offsets_part os (length bytes) ≡ true → b ≡ nullable t → IsTaken n b v kept
    → texts_refusal os bytes t v ≡ tests false true false false (takes_pieces t v (pieces os bytes))
taken_then os bytes t v kept n b is few part u k =
    let taken = taken_under n b (nullable t) v kept u k in
    few_then os bytes t v n is few ∙ ap (λ (b : Bool). tests false b (mask_differs n v) (mask_hides (nullable t) v)
    (takes_pieces t v (pieces os bytes))) part
    ∙ ap (λ (b : Bool). tests false true b (mask_hides (nullable t) v) (takes_pieces t v (pieces os bytes))) taken.differs
    ∙ ap (λ (b : Bool). tests false true false b (takes_pieces t v (pieces os bytes))) taken.hides

pub texts_made : (c : Column) (os bytes : List ℕ) (t : Term) (v kept : Validity) (n : ℕ) (b : Bool) (a : TextBytes)
    → n ≡ piece_count os → n ≤ most_rows → offsets_part os (length bytes) ≡ true → b ≡ nullable t → IsTaken n b v kept
    → a ≡ record { offsets = os; bytes = bytes } → takes_pieces t v (text_pieces a) ≡ true → c.dtype ≡ t
    → c.rows ≡ masked kept (map bytes_row (text_pieces a)) → c.node ≡ array_node encoding.VarBin n (mask_nodes n kept)
    → Makes (Ok c) (texts_refusal os bytes t v) (leaf_column t encoding.VarBin v (map bytes_row (pieces os bytes)))
texts_made c os bytes t v kept n b a is few part u k at good p q r =
    let rs : List Row = map bytes_row (pieces os bytes) in
    let long : length rs ≡ n = length-map (pieces os bytes) bytes_row ∙ pieces_many n os bytes is part in
    let held : map bytes_row (text_pieces a) ≡ rs = ap (λ (x : TextBytes). map bytes_row (text_pieces x)) at in (
      taken_then os bytes t v kept n b is few part u k
          ∙ ap (tests false true false false) (ap (λ (x : TextBytes). takes_pieces t v (text_pieces x)) (sym at) ∙ good),
      column_made c t encoding.VarBin n kept rs (map bytes_row (text_pieces a)) p q r held long
          ∙ column_shown t encoding.VarBin n (nullable t) v kept rs (taken_under n b (nullable t) v kept u k) long,
    )
