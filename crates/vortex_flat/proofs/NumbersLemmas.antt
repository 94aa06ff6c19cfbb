-- A number is the value of its piece.
use Rattle.std.proofs.Common.{◌≡◌, ℕ, ◌+◌, ◌≤◌, ◌<◌, Bool, true, false, cond, leb, List, [], ◌∷◌, length, get_or, take, drop, Option, Some, None, Result, Ok, Err, refl, sym, ap, ◌∙◌, arith}
use Rattle.std.specs.Option.{option_map}
use Rattle.std.specs.Prelude.{IsErrAnd, IsOk}
use Rattle.std.specs.Int.{w16, w32, w64, from_le_bytes}
use Rattle.std.proofs.lemmas.List.{length-take, length-drop}
use Rattle.std.proofs.lemmas.Bool.{leb-true, le-leb, lt-leb}
use Rattle.vortex_flat.specs.Numbers.{little_endian, number, piece_at}
use Rattle.vortex_flat.specs.Answers.{Answers}
use Rattle.vortex_flat.specs.declared.error.FlatError.{FlatError}
use Rattle.vortex_flat.specs.declared.error.FlatError.TheVariants.{Outside}

if_map : (c : Bool) (xs : List ℕ) → cond c (Some (little_endian xs)) None ≡ option_map little_endian (cond c (Some xs) None)
if_map true xs = refl
if_map false xs = refl

-- a number is the value of its bytes
pub number_is : (b : List ℕ) (i w : ℕ) → number b i w ≡ option_map little_endian (piece_at b i w)
unfolding number piece_at
number_is b i w = if_map (leb (i + w) (length b)) (take w (drop i b))

pub no_number : (b : List ℕ) (i w : ℕ) → piece_at b i w ≡ None → number b i w ≡ None
no_number b i w e = number_is b i w ∙ ap (option_map little_endian) e

piece_len_if : (t : Bool) (w : ℕ) (ys xs : List ℕ) → (t ≡ true → length ys ≡ w) → cond t (Some ys) None ≡ Some xs → length xs ≡ w
piece_len_if true w ys xs h e = let same : ys ≡ xs = cc in ap length (sym same) ∙ h refl
piece_len_if false w ys xs h e = absurd cc

-- a piece is as long as was asked
pub piece_len : (b : List ℕ) (i w : ℕ) (xs : List ℕ) → piece_at b i w ≡ Some xs → length xs ≡ w
unfolding piece_at
piece_len b i w xs e =
    piece_len_if (leb (i + w) (length b)) w (take w (drop i b)) xs (λ t. let le : i + w ≤ length b = leb-true _ _ t in omega (arith, length-take w (drop i b), length-drop i b)) e

pub spell_1 : (xs : List ℕ) → length xs ≡ 1 → little_endian xs ≡ get_or xs 0 0
spell_1 [] e = absurd (omega arith)
spell_1 (a ∷ []) e = omega arith
spell_1 (a ∷ b ∷ xs) e = absurd (omega arith)

pub number_1 : (b : List ℕ) (i : ℕ) (xs : List ℕ) → piece_at b i 1 ≡ Some xs → number b i 1 ≡ Some (get_or xs 0 0)
number_1 b i xs e = number_is b i 1 ∙ ap (option_map little_endian) e ∙ ap Some (spell_1 xs (piece_len b i 1 xs e))

pub spell_2 : (xs : List ℕ) → length xs ≡ 2 → little_endian xs ≡ from_le_bytes w16 (get_or xs 0 0 ∷ get_or xs 1 0 ∷ [])
spell_2 [] e = absurd (omega arith)
spell_2 (a ∷ []) e = absurd (omega arith)
spell_2 (a ∷ b ∷ []) e = omega arith
spell_2 (a ∷ b ∷ c ∷ xs) e = absurd (omega arith)

pub spell_4 : (xs : List ℕ) → length xs ≡ 4 → little_endian xs ≡ from_le_bytes w32 (get_or xs 0 0 ∷ get_or xs 1 0 ∷ get_or xs 2 0 ∷ get_or xs 3 0 ∷ [])
spell_4 [] e = absurd (omega arith)
spell_4 (a ∷ []) e = absurd (omega arith)
spell_4 (a ∷ b ∷ []) e = absurd (omega arith)
spell_4 (a ∷ b ∷ c ∷ []) e = absurd (omega arith)
spell_4 (a ∷ b ∷ c ∷ d ∷ []) e = omega arith
spell_4 (a ∷ b ∷ c ∷ d ∷ f ∷ xs) e = absurd (omega arith)

pub spell_8 : (xs : List ℕ) → length xs ≡ 8 → little_endian xs ≡ from_le_bytes w64 (get_or xs 0 0 ∷ get_or xs 1 0 ∷ get_or xs 2 0 ∷ get_or xs 3 0 ∷ get_or xs 4 0 ∷ get_or xs 5 0 ∷ get_or xs 6 0 ∷ get_or xs 7 0 ∷ [])
spell_8 [] e = absurd (omega arith)
spell_8 (a ∷ []) e = absurd (omega arith)
spell_8 (a ∷ b ∷ []) e = absurd (omega arith)
spell_8 (a ∷ b ∷ c ∷ []) e = absurd (omega arith)
spell_8 (a ∷ b ∷ c ∷ d ∷ []) e = absurd (omega arith)
spell_8 (a ∷ b ∷ c ∷ d ∷ f ∷ []) e = absurd (omega arith)
spell_8 (a ∷ b ∷ c ∷ d ∷ f ∷ g ∷ []) e = absurd (omega arith)
spell_8 (a ∷ b ∷ c ∷ d ∷ f ∷ g ∷ h ∷ []) e = absurd (omega arith)
spell_8 (a ∷ b ∷ c ∷ d ∷ f ∷ g ∷ h ∷ i ∷ []) e = omega arith
spell_8 (a ∷ b ∷ c ∷ d ∷ f ∷ g ∷ h ∷ i ∷ j ∷ xs) e = absurd (omega arith)

pub number_2 : (b : List ℕ) (i : ℕ) (xs : List ℕ) → piece_at b i 2 ≡ Some xs → number b i 2 ≡ Some (from_le_bytes w16 (get_or xs 0 0 ∷ get_or xs 1 0 ∷ []))
number_2 b i xs e = number_is b i 2 ∙ ap (option_map little_endian) e ∙ ap Some (spell_2 xs (piece_len b i 2 xs e))

pub number_4 : (b : List ℕ) (i : ℕ) (xs : List ℕ) → piece_at b i 4 ≡ Some xs → number b i 4 ≡ Some (from_le_bytes w32 (get_or xs 0 0 ∷ get_or xs 1 0 ∷ get_or xs 2 0 ∷ get_or xs 3 0 ∷ []))
number_4 b i xs e = number_is b i 4 ∙ ap (option_map little_endian) e ∙ ap Some (spell_4 xs (piece_len b i 4 xs e))

pub number_8 : (b : List ℕ) (i : ℕ) (xs : List ℕ) → piece_at b i 8 ≡ Some xs → number b i 8 ≡ Some (from_le_bytes w64 (get_or xs 0 0 ∷ get_or xs 1 0 ∷ get_or xs 2 0 ∷ get_or xs 3 0 ∷ get_or xs 4 0 ∷ get_or xs 5 0 ∷ get_or xs 6 0 ∷ get_or xs 7 0 ∷ []))
number_8 b i xs e = number_is b i 8 ∙ ap (option_map little_endian) e ∙ ap Some (spell_8 xs (piece_len b i 8 xs e))

-- an error that was passed on
pub passes_on : {X Y : Type 0} (view : X → Y) (r : Result X FlatError) (e : FlatError) (found : Option Y) → IsErrAnd r (λ y. y ≡ e) → e ≡ Outside → found ≡ None → Answers view r found
passes_on view (Ok x) e found h o n = absurd h
passes_on view (Err y) e found h o n = (h ∙ o, n)

-- a test that holds, and one that does not
pub piece_here : (b : List ℕ) (i w : ℕ) → i + w ≤ length b → piece_at b i w ≡ Some (take w (drop i b))
unfolding piece_at
piece_here b i w h = rw le-leb refl

pub piece_past : (b : List ℕ) (i w : ℕ) → length b < i + w → piece_at b i w ≡ None
unfolding piece_at
piece_past b i w h = rw lt-leb refl

piece_within_if : {A : Type 0} (t : Bool) (x y : A) (P : Type 0) → (t ≡ true → P) → cond t (Some x) None ≡ Some y → P
piece_within_if true x y P h e = h refl
piece_within_if false x y P h e = absurd cc

-- where a number stands the buffer is long enough
pub number_within : (b : List ℕ) (i w n : ℕ) → number b i w ≡ Some n → i + w ≤ length b
unfolding number
number_within b i w n e =
    piece_within_if (leb (i + w) (length b)) (little_endian (take w (drop i b))) n (i + w ≤ length b) (leb-true (i + w) (length b)) e

pub number_past : (b : List ℕ) (i w : ℕ) → length b < i + w → number b i w ≡ None
unfolding number
number_past b i w h = rw lt-leb refl

-- a number that lies within the buffer is read
pub is_read : (b : List ℕ) (i w : ℕ) (r : Result ℕ FlatError) → Answers (λ (x : ℕ). x) r (number b i w) → i + w ≤ length b → IsOk r
unfolding number
is_read b i w (Ok x) h within = refl
is_read b i w (Err e) h within =
    let here : number b i w ≡ Some (little_endian (take w (drop i b))) = rw le-leb refl in absurd cc
