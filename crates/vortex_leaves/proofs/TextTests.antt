-- Tests of UTF-8, of each piece or of those that are valid.
use Rattle.std.proofs.Common.{◌≡◌, ◌<◌, ◌+◌, ℕ, zero, suc, List, [], ◌∷◌, Bool, true, false, Some, None, length, take, get_or, refl, sym, ap, ◌∙◌, arith, min, true≢false}
use Rattle.std.specs.Prelude.{slice_get, ◌&&◌, if◌then◌else◌, ◌↔◌}
use Rattle.std.specs.List.{list_all}
use Rattle.std.specs.Bool.{IsTrue}
use Rattle.std.specs.Str.{is_utf8, IsUtf8}
use Rattle.std.proofs.lemmas.List.{take_all}
use Rattle.std.proofs.lemmas.List.Folds.{list_all_more}
use Rattle.std.proofs.lemmas.Option.{get_or_from_slice_get}
use Rattle.std.proofs.lemmas.Str.{IsUtf8-from_is_utf8, is_utf8-from_IsUtf8}
use Rattle.vortex_terms.specs.FromColumns.{zip_map}
use Rattle.vortex_node_rows.specs.Leaves.{are_texts}

none : (b : Bool) → (b ≡ true → ⊥) → false ≡ b
none true h = absurd (h refl)
none false h = refl

pub is_text : (bs : List ℕ) → IsUtf8 bs → true ≡ is_utf8 bs
is_text bs h = sym (is_utf8-from_IsUtf8 bs h)

pub is_none : (bs : List ℕ) → (IsUtf8 bs → ⊥) → false ≡ is_utf8 bs
is_none bs h = none (is_utf8 bs) (λ e. h (IsUtf8-from_is_utf8 bs e))

pub by_test : (b : Bool) (bs : List ℕ) → (IsTrue b ↔ IsUtf8 bs) → b ≡ is_utf8 bs
by_test true bs h = is_text bs (h.0 refl)
by_test false bs h = is_none bs (λ u. true≢false (sym (h.1 u)))

-- ---- all

pub all_more : (ps : List (List ℕ)) (i : ℕ) (p : List ℕ) (ok b : Bool) → i < length ps → slice_get ps i ≡ Some p → b ≡ is_utf8 p → ok ≡ list_all is_utf8 (take i ps) → ok && b ≡ list_all is_utf8 (take (i + 1) ps)
all_more ps i p ok b h e t k =
    ap (λ c. ok && c) (t ∙ ap is_utf8 (sym (get_or_from_slice_get ps i p [] e))) ∙ ap (λ c. c && is_utf8 (get_or ps i [])) k ∙ sym (list_all_more is_utf8 ps i [] h)

pub all_done : (ps : List (List ℕ)) (n : ℕ) (ok : Bool) → n ≡ length ps → ok ≡ list_all is_utf8 (take n ps) → ok ≡ are_texts None ps
all_done ps n ok e k = k ∙ ap (list_all is_utf8) (take_all n ps (omega (arith, e)))

-- ---- those that are valid

-- of a piece, and whether it is valid
abbrev pub passes : Bool → List ℕ → Bool
passes valid p = if valid then is_utf8 p else true

abbrev pub passed : List Bool → List (List ℕ) → List Bool
passed m ps = zip_map (λ valid p. if valid then is_utf8 p else true) m ps

length-passed : (m : List Bool) (ps : List (List ℕ)) → length (passed m ps) ≡ min (length ps) (length m)
length-passed [] [] = omega arith
length-passed [] (p ∷ ps) = omega arith
length-passed (v ∷ m) [] = omega arith
length-passed (v ∷ m) (p ∷ ps) = omega (arith, length-passed m ps)

get_or-passed : (m : List Bool) (ps : List (List ℕ)) (i : ℕ) → i < length m → i < length ps → get_or (passed m ps) i true ≡ passes (get_or m i false) (get_or ps i [])
get_or-passed [] ps i h l = absurd (omega (arith, h))
get_or-passed (v ∷ m) [] i h l = absurd (omega (arith, l))
get_or-passed (v ∷ m) (p ∷ ps) zero h l = refl
get_or-passed (v ∷ m) (p ∷ ps) (suc i) h l = get_or-passed m ps i (omega (arith, h)) (omega (arith, l))

pub valid_more : (m : List Bool) (ps : List (List ℕ)) (i : ℕ) (ok next : Bool) → i < length m → i < length ps → next ≡ (ok && passes (get_or m i false) (get_or ps i [])) → ok ≡ list_all (λ b. b) (take i (passed m ps)) → next ≡ list_all (λ b. b) (take (i + 1) (passed m ps))
valid_more m ps i ok next h l e k =
    e ∙ ap (λ c. ok && c) (sym (get_or-passed m ps i h l)) ∙ ap (λ c. c && get_or (passed m ps) i true) k ∙ sym (list_all_more (λ b. b) (passed m ps) i true (omega (arith, h, l, length-passed m ps)))

pub valid_step : (p : List ℕ) (ps : List (List ℕ)) (i : ℕ) (ok b : Bool) (m : List Bool) → slice_get ps i ≡ Some p → b ≡ is_utf8 p → get_or m i false ≡ true → ok && b ≡ (ok && passes (get_or m i false) (get_or ps i []))
valid_step p ps i ok b m e t w =
    ap (λ c. ok && c) (t ∙ ap is_utf8 (sym (get_or_from_slice_get ps i p [] e)) ∙ ap (λ c. passes c (get_or ps i [])) (sym w))

keeps : (ok : Bool) → ok ≡ (ok && true)
keeps true = refl
keeps false = refl

pub null_step : (ps : List (List ℕ)) (i : ℕ) (ok : Bool) (m : List Bool) → get_or m i false ≡ false → ok ≡ (ok && passes (get_or m i false) (get_or ps i []))
null_step ps i ok m w = keeps ok ∙ ap (λ c. ok && passes c (get_or ps i [])) (sym w)

pub valid_done : (m : List Bool) (ps : List (List ℕ)) (n : ℕ) (ok : Bool) → n ≡ min (length ps) (length m) → ok ≡ list_all (λ b. b) (take n (passed m ps)) → ok ≡ are_texts (Some m) ps
valid_done m ps n ok e k = k ∙ ap (list_all (λ b. b)) (take_all n (passed m ps) (omega (arith, e, length-passed m ps)))
