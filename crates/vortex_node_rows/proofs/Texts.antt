-- Pieces of bytes between offsets: as many as asked for; texts fit where they are UTF-8 or null, and bytes where the
-- buffer is one of bytes.
use Rattle.std.proofs.Common.{◌≡◌, ◌<◌, ℕ, suc, zero, ◌-◌, ◌*◌, List, [], ◌∷◌, Bool, true, false, ◌&&◌, IsTrue, Option, Some, None, map, length, drop, refl, sym, ap, ◌∙◌, subst, arith}
use Rattle.std.specs.Prelude.{slice_range, nat_le, option_and_then, ◌==◌}
use Rattle.std.specs.List.{AllByRecursion, list_all}
use Rattle.std.specs.Option.{option_map}
use Rattle.std.specs.Simd.{first_chunks}
use Rattle.std.specs.Str.{is_utf8}
use Rattle.std.proofs.lemmas.List.{length-map}
use Rattle.std.proofs.lemmas.List.Elements.{All-take, All-drop}
use Rattle.std.proofs.lemmas.Str.{IsUtf8-from_is_utf8}
use Rattle.vortex_terms.specs.Term.{utf8, binary}
use Rattle.vortex_terms.specs.Types.{IsBytes}
use Rattle.vortex_terms.specs.Row.{Row, bytes_row}
use Rattle.vortex_terms.specs.Fits.{Fits}
use Rattle.vortex_terms.specs.FromColumns.{pieces, masked, last_from}
use Rattle.vortex_node_rows.specs.Buffers.{two_buffers, offsets_in, numbers_32, never_fall}
use Rattle.vortex_node_rows.specs.Leaves.{pieces_of, are_texts}
use Rattle.vortex_node_rows.specs.RowsOf.{Validity, text_rows}
use Rattle.vortex_node_rows.proofs.Options.{some_same, none_some, bind_some, guarded, both}
use Rattle.vortex_node_rows.proofs.Masks.{IsMask, length-masked}
use Rattle.vortex_node_rows.proofs.Numbers.{length-first_chunks}

-- ---- pieces

pub length-pieces : {A : Type 0} (n : ℕ) (os : List ℕ) (xs : List A) → length os ≡ suc n → length (pieces os xs) ≡ n
length-pieces n [] xs e = absurd (omega (arith, e))
length-pieces zero (a ∷ []) xs e = refl
length-pieces (suc n) (a ∷ []) xs e = absurd (omega (arith, e))
length-pieces zero (a ∷ (b ∷ os)) xs e = absurd (omega (arith, e))
length-pieces (suc n) (a ∷ (b ∷ os)) xs e = ap suc (length-pieces n (b ∷ os) xs (omega (arith, e)))

-- what holds of each range holds of each piece
pub pieces_all : {A : Type 0} (P : List A → Type 0) (os : List ℕ) (xs : List A)
    → ((a b : ℕ) → P (slice_range xs a b)) → AllByRecursion P (pieces os xs)
pieces_all P [] xs each = tt
pieces_all P (a ∷ []) xs each = tt
pieces_all P (a ∷ (b ∷ os)) xs each = (each a b, pieces_all P (b ∷ os) xs each)

pub offsets_count : (n end : ℕ) (b os : List ℕ) → offsets_in n end b ≡ Some os → length os ≡ suc n
unfolding offsets_in
offsets_count n end b os e =
    let g = guarded
    (length b == suc n * 4 && never_fall (numbers_32 (suc n) b) && nat_le (last_from 0 (numbers_32 (suc n) b)) end)
    (numbers_32 (suc n) b) os e in
    ap length (sym g.1) ∙ length-map (first_chunks 4 (suc n) b) _ ∙ length-first_chunks 4 (suc n) b

second_of : (bs : List (List ℕ)) (two : List ℕ × List ℕ) → AllByRecursion IsBytes bs → two_buffers bs ≡ Some two
    → IsBytes two.1
unfolding two_buffers
second_of [] two h e = absurd (none_some two e)
second_of (a ∷ []) two h e = absurd (none_some two e)
second_of (a ∷ (b ∷ [])) two h e = subst IsBytes (ap (λ (p : List ℕ × List ℕ). p.1) (some_same (a, b) two e)) h.1.0
second_of (a ∷ (b ∷ (c ∷ bs))) two h e = absurd (none_some two e)

-- the pieces that are found
pieces_found : (n : ℕ) (bs ps : List (List ℕ)) → pieces_of n bs ≡ Some ps
    → (two : List ℕ × List ℕ) × (two_buffers bs ≡ Some two) × (os : List ℕ) × (length os ≡ suc n)
    × (pieces os two.1 ≡ ps)
unfolding pieces_of
pieces_found n bs ps e =
    let two = bind_some (two_buffers bs) (λ two. option_and_then (λ os. Some (pieces os two.1))
    (offsets_in n (length two.1) two.0)) ps e in
    let os = bind_some (offsets_in n (length two.0.1) two.0.0) (λ os. Some (pieces os two.0.1)) ps two.2 in
    (two.0, two.1, os.0, offsets_count n _ _ os.0 os.1, some_same _ ps os.2)

pub pieces_count : (n : ℕ) (bs ps : List (List ℕ)) → pieces_of n bs ≡ Some ps → length ps ≡ n
pieces_count n bs ps e =
    let found = pieces_found n bs ps e in
    ap length (sym found.4) ∙ length-pieces n found.2 found.0.1 found.3

pieces_bytes : (n : ℕ) (bs ps : List (List ℕ)) → AllByRecursion IsBytes bs → pieces_of n bs ≡ Some ps
    → AllByRecursion IsBytes ps
pieces_bytes n bs ps h e =
    let found = pieces_found n bs ps e in
    let bytes = second_of bs found.0 h found.1 in
    subst (AllByRecursion IsBytes) found.4 (pieces_all IsBytes found.2 found.0.1
    (λ a b. All-take (λ x. x < 256) (b - a) (drop a found.0.1) (All-drop (λ x. x < 256) a found.0.1 bytes)))

-- ---- bytes

binary_found : (found : Option (List (List ℕ))) (rs : List Row) → option_map (map bytes_row) found ≡ Some rs
    → (ps : List (List ℕ)) × (found ≡ Some ps) × (map bytes_row ps ≡ rs)
binary_found None rs e = absurd (none_some rs e)
binary_found (Some ps) rs e = (ps, refl, some_same _ rs e)

pub binary_count : (n : ℕ) (bs : List (List ℕ)) (rs : List Row)
    → option_map (map bytes_row) (pieces_of n bs) ≡ Some rs → length rs ≡ n
binary_count n bs rs e =
    let f = binary_found (pieces_of n bs) rs e in
    ap length (sym f.2) ∙ length-map f.0 bytes_row ∙ pieces_count n bs f.0 f.1

bytes_fit : (nl : Bool) (ps : List (List ℕ)) → AllByRecursion IsBytes ps
    → AllByRecursion (Fits (binary nl)) (map bytes_row ps)
bytes_fit nl [] h = tt
bytes_fit nl (p ∷ ps) h = (h.0, bytes_fit nl ps h.1)

pub binary_fit : (nl : Bool) (n : ℕ) (bs : List (List ℕ)) (rs : List Row) → AllByRecursion IsBytes bs
    → option_map (map bytes_row) (pieces_of n bs) ≡ Some rs → AllByRecursion (Fits (binary nl)) rs
binary_fit nl n bs rs h e =
    let f = binary_found (pieces_of n bs) rs e in
    subst (AllByRecursion (Fits (binary nl))) f.2 (bytes_fit nl f.0 (pieces_bytes n bs f.0 h f.1))

-- ---- texts

pub texts_count : (n : ℕ) (nl : Bool) (found : Option (List (List ℕ))) (v : Option Validity) (rs : List Row)
    → ((ps : List (List ℕ)) → found ≡ Some ps → length ps ≡ n) → ((m : Validity) → v ≡ Some m → IsMask n nl m)
    → text_rows found v ≡ Some rs → length rs ≡ n
unfolding text_rows
texts_count n nl None v rs h k e = absurd (none_some rs e)
texts_count n nl (Some ps) None rs h k e = absurd (none_some rs e)
texts_count n nl (Some ps) (Some m) rs h k e =
    ap length (sym (guarded (are_texts m ps) (masked m (map bytes_row ps)) rs e).1)
    ∙ length-masked n nl m (map bytes_row ps) (k m refl) (length-map ps bytes_row ∙ h ps refl)

valid_texts : (n : ℕ) (nl : Bool) (m : Validity) (ps : List (List ℕ)) → (m ≡ None → ⊥) → IsTrue nl
    → are_texts m ps ≡ true → AllByRecursion (Fits (utf8 nl)) (masked m (map bytes_row ps))
valid_texts n nl None ps some z h = absurd (some refl)
valid_texts n nl (Some []) ps some z h = tt
valid_texts n nl (Some (b ∷ m)) [] some z h = tt
valid_texts n nl (Some (true ∷ m)) (p ∷ ps) some z h =
    let two = both (is_utf8 p) (are_texts (Some m) ps) h in
    (IsUtf8-from_is_utf8 p two.0, valid_texts n nl (Some m) ps (λ e. none_some m (sym e)) z two.1)
valid_texts n nl (Some (false ∷ m)) (p ∷ ps) some z h =
    (z, valid_texts n nl (Some m) ps (λ e. none_some m (sym e)) z h)

all_texts : (nl : Bool) (ps : List (List ℕ)) → list_all is_utf8 ps ≡ true
    → AllByRecursion (Fits (utf8 nl)) (map bytes_row ps)
all_texts nl [] h = tt
all_texts nl (p ∷ ps) h =
    let two = both (is_utf8 p) (list_all is_utf8 ps) h in
    (IsUtf8-from_is_utf8 p two.0, all_texts nl ps two.1)

masked_texts : (n : ℕ) (nl : Bool) (m : Validity) (ps : List (List ℕ)) → IsMask n nl m → are_texts m ps ≡ true
    → AllByRecursion (Fits (utf8 nl)) (masked m (map bytes_row ps))
masked_texts n nl None ps k h = all_texts nl ps h
masked_texts n nl (Some m) ps k h = valid_texts n nl (Some m) ps (λ e. none_some m (sym e)) k.1 h

pub texts_fit : (n : ℕ) (nl : Bool) (found : Option (List (List ℕ))) (v : Option Validity) (rs : List Row)
    → ((m : Validity) → v ≡ Some m → IsMask n nl m) → text_rows found v ≡ Some rs
    → AllByRecursion (Fits (utf8 nl)) rs
unfolding text_rows
texts_fit n nl None v rs k e = absurd (none_some rs e)
texts_fit n nl (Some ps) None rs k e = absurd (none_some rs e)
texts_fit n nl (Some ps) (Some m) rs k e =
    let g = guarded (are_texts m ps) (masked m (map bytes_row ps)) rs e in
    subst (AllByRecursion (Fits (utf8 nl))) g.1 (masked_texts n nl m ps (k m refl) g.0)
