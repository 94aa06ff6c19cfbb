-- Numbers that are selected: a range of them, those at which a mask is true, those at places.
use Rattle.std.proofs.Common.{◌≡◌, ◌≤◌, ◌<◌, ◌+◌, ◌-◌, ◌*◌, ℕ, zero, suc, List, [], ◌∷◌, ◌++◌, Bool, true, false, map, length, take, drop, get_or, refl, sym, ap, ◌∙◌, arith, subst, length-append, mul-le-mul_right}
use Rattle.std.specs.Prelude.{slice_range, slice_index_or}
use Rattle.std.specs.List.{All, AllByRecursion, count_by, flat_map}
use Rattle.std.specs.Int.{byte_len}
use Rattle.std.specs.Simd.{first_chunks}
use Rattle.std.proofs.lemmas.List.{length-map, length-take, length-take-le, length-drop, take-map, drop-map, take_at, drop_at}
use Rattle.std.proofs.lemmas.List.Folds.{flat_map-map}
use Rattle.std.proofs.lemmas.List.Elements.{All-get_or, All-tail}
use Rattle.vortex_number.specs.Format.{Format, number_with_bytes}
use Rattle.vortex_terms.specs.Types.{IsBytes}
use Rattle.vortex_terms.specs.Row.{Row, null_row, whole_row}
use Rattle.vortex_node_rows.specs.Leaves.{numbers_in}
use Rattle.vortex_mask.specs.Truths.{kept}
use Rattle.vortex_mask.proofs.Counts.{count_true, count_false}
use Rattle.vortex_leaves.specs.Numbers.{NumberBytes, AreNumbers, number_rows}
use Rattle.vortex_leaves.specs.Selected.{AreNumbersOf, taken_rows}
use Rattle.vortex_leaves.proofs.Rising.{length-first_chunks}
use Rattle.vortex_leaves.proofs.Ranges.{chunks_drop, chunks_take}

-- ---- chunks of one length

abbrev pub Chunks : ℕ → List (List ℕ) → Type 0
Chunks w cs = AllByRecursion (λ c. length c ≡ w) cs

pub joined_chunks : (w : ℕ) (cs : List (List ℕ)) → Chunks w cs → first_chunks w (length cs) (flat_map (λ c. c) cs) ≡ cs
joined_chunks w [] h = refl
joined_chunks w (c ∷ cs) h =
    let first : take w (c ++ flat_map (λ c. c) cs) ≡ c = take_at c (flat_map (λ c. c) cs) w h.0 in
    let others : drop w (c ++ flat_map (λ c. c) cs) ≡ flat_map (λ c. c) cs = drop_at c (flat_map (λ c. c) cs) w h.0 in
    rw (first, others, joined_chunks w cs h.1) refl

pub joined_length : (w : ℕ) (cs : List (List ℕ)) → Chunks w cs → length (flat_map (λ c. c) cs) ≡ length cs * w
joined_length w [] h = omega arith
joined_length w (c ∷ cs) h = omega (arith, length-append c (flat_map (λ c. c) cs), h.0, joined_length w cs h.1)

pub chunks_whole : (w n : ℕ) (bytes : List ℕ) → n * w ≤ length bytes → Chunks w (first_chunks w n bytes)
chunks_whole w zero bytes h = tt
chunks_whole w (suc n) bytes h =
    (omega (arith, h, length-take w bytes), chunks_whole w n (drop w bytes) (omega (arith, h, length-drop w bytes)))

-- ---- what a mask keeps

pub kept-map : {A B : Type 0} (f : A → B) (m : List Bool) (xs : List A) → kept m (map f xs) ≡ map f (kept m xs)
kept-map f [] xs = refl
kept-map f (b ∷ m) [] = refl
kept-map f (true ∷ m) (x ∷ xs) = ap (λ l. f x ∷ l) (kept-map f m xs)
kept-map f (false ∷ m) (x ∷ xs) = kept-map f m xs

pub length-kept : {A : Type 0} (m : List Bool) (xs : List A) → length m ≡ length xs → length (kept m xs) ≡ count_by (λ b. b) m
length-kept [] xs e = refl
length-kept (b ∷ m) [] e = absurd (omega (arith, e))
length-kept (true ∷ m) (x ∷ xs) e = omega (arith, length-kept m xs (omega (arith, e)), count_true m)
length-kept (false ∷ m) (x ∷ xs) e = length-kept m xs (omega (arith, e)) ∙ sym (count_false m)

pub all-kept : {A : Type 0} (P : A → Type 0) (m : List Bool) (xs : List A) → AllByRecursion P xs → AllByRecursion P (kept m xs)
all-kept P [] xs h = tt
all-kept P (b ∷ m) [] h = tt
all-kept P (true ∷ m) (x ∷ xs) h = (h.0, all-kept P m xs h.1)
all-kept P (false ∷ m) (x ∷ xs) h = all-kept P m xs h.1

-- ---- what stands at places

abbrev pub Below : ℕ → List ℕ → Type 0
Below n places = AllByRecursion (λ place. place < n) places

pub at-map : {A B : Type 0} (f : A → B) (xs : List A) (i : ℕ) (d : A) (e : B) → i < length xs → get_or (map f xs) i e ≡ f (get_or xs i d)
at-map f [] i d e h = absurd (omega (arith, h))
at-map f (x ∷ xs) zero d e h = refl
at-map f (x ∷ xs) (suc i) d e h = at-map f xs i d e (omega (arith, h))

pub at-all : {A : Type 0} (P : A → Type 0) (xs : List A) (i : ℕ) (d : A) → i < length xs → AllByRecursion P xs → P (get_or xs i d)
at-all P [] i d h a = absurd (omega (arith, h))
at-all P (x ∷ xs) zero d h a = a.0
at-all P (x ∷ xs) (suc i) d h a = at-all P xs i d (omega (arith, h)) a.1

pub taken-map : {A B : Type 0} (f : A → B) (places : List ℕ) (xs : List A) (d : A) (e : B) → Below (length xs) places
    → map (λ place. get_or (map f xs) place e) places ≡ map f (map (λ place. get_or xs place d) places)
taken-map f [] xs d e h = refl
taken-map {B = B} f (i ∷ places) xs d e h =
    ap (λ (y : B). y ∷ map (λ place. get_or (map f xs) place e) places) (at-map f xs i d e h.0)
    ∙ ap (λ (l : List B). f (get_or xs i d) ∷ l) (taken-map f places xs d e h.1)

pub all-taken : {A : Type 0} (P : A → Type 0) (places : List ℕ) (xs : List A) (d : A) → Below (length xs) places
    → AllByRecursion P xs → AllByRecursion P (map (λ place. get_or xs place d) places)
all-taken P [] xs d h a = tt
all-taken P (i ∷ places) xs d h a = (at-all P xs i d h.0 a, all-taken P places xs d h.1 a)

-- ---- numbers

abbrev number_of : Format → List ℕ → Row
number_of f c = whole_row (number_with_bytes f c)

-- numbers whose chunks are joined
numbers_joined : (f : Format) (cs : List (List ℕ)) (bytes : List ℕ) (k : ℕ) → Chunks (byte_len f.width) cs → k ≡ length cs
    → bytes ≡ flat_map (λ c. c) cs → IsBytes bytes
    → AreNumbers (record { format = f; count = k; bytes = bytes }) × (numbers_in f k bytes ≡ map (number_of f) cs)
numbers_joined f cs bytes k h e is b = (
  record { exact = ap length is ∙ joined_length (byte_len f.width) cs h ∙ ap (λ j. j * byte_len f.width) (sym e); below = b },
  ap (numbers_in f k) is ∙ ap (λ j. numbers_in f j (flat_map (λ c. c) cs)) e
      ∙ ap (map (number_of f)) (joined_chunks (byte_len f.width) cs h),
)

-- what is selected, in a struct
abbrev pub numbers : Format → ℕ → List ℕ → NumberBytes
numbers f n bytes = record { format = f; count = n; bytes = bytes }

made : (f : Format) (k : ℕ) (bytes : List ℕ) (rows : List Row) → numbers_in f k bytes ≡ rows → AreNumbersOf f rows (numbers f k bytes)
made f k bytes rows e =
    record { format = refl; count = sym (ap length (sym e) ∙ length-map _ _ ∙ length-first_chunks (byte_len f.width) k bytes); rows = e }

mul_over : (a d w : ℕ) → (a + d) * w ≡ a * w + d * w
mul_over a d w = omega arith

pub numbers_range : (f : Format) (n from to : ℕ) (bytes cut : List ℕ) → AreNumbers (numbers f n bytes) → from ≤ to → to ≤ n
    → cut ≡ slice_range bytes (from * byte_len f.width) (to * byte_len f.width) → IsBytes cut
    → AreNumbers (numbers f (to - from) cut) × AreNumbersOf f (slice_range (number_rows (numbers f n bytes)) from to) (numbers f (to - from) cut)
numbers_range f n from to bytes cut h le hi e b =
    let w = byte_len f.width in
    let g = number_of f in
    let end : to ≡ from + (to - from) = omega (arith, le) in
    let size : to * w ≡ from * w + (to - from) * w = ap (λ x. x * w) end ∙ mul_over from (to - from) w in
    let span : to * w - from * w ≡ (to - from) * w = omega (arith, size) in
    let room : (to - from) * w ≤ length (drop (from * w) bytes) = omega (arith, length-drop (from * w) bytes, h.exact, size, mul-le-mul_right w hi) in
    let rows : numbers_in f (to - from) cut ≡ slice_range (numbers_in f n bytes) from to =
    ap (numbers_in f (to - from)) e
    ∙ sym (ap (take (to - from)) (drop-map g from (first_chunks w n bytes)) ∙ take-map g (to - from) (drop from (first_chunks w n bytes))
    ∙ ap (λ cs. map g (take (to - from) cs)) (chunks_drop w from (n - from) n bytes (omega (arith, le, hi)))
    ∙ ap (map g) (chunks_take w (to - from) (n - from) (to * w - from * w) (drop (from * w) bytes) (omega (arith, le, hi)) (omega (arith, span)))) in (
      record { exact = ap length e ∙ ap (λ j. length (take j (drop (from * w) bytes))) span ∙ length-take-le ((to - from) * w) (drop (from * w) bytes) room; below = b },
      made f (to - from) cut _ rows,
    )

pub numbers_kept : (f : Format) (n k : ℕ) (bytes joined : List ℕ) (m : List Bool) → AreNumbers (numbers f n bytes) → length m ≡ n
    → joined ≡ flat_map (λ c. c) (kept m (first_chunks (byte_len f.width) (length m) bytes)) → k ≡ count_by (λ b. b) m → IsBytes joined
    → AreNumbers (numbers f k joined) × AreNumbersOf f (kept m (number_rows (numbers f n bytes))) (numbers f k joined)
numbers_kept f n k bytes joined m h l e c b =
    let w = byte_len f.width in
    let cs = first_chunks w n bytes in
    let is : joined ≡ flat_map (λ c. c) (kept m cs) = e ∙ ap (λ j. flat_map (λ c. c) (kept m (first_chunks w j bytes))) l in
    let whole : Chunks w (kept m cs) = all-kept (λ c. length c ≡ w) m cs (chunks_whole w n bytes (omega (arith, h.exact))) in
    let many : k ≡ length (kept m cs) = c ∙ sym (length-kept m cs (l ∙ sym (length-first_chunks w n bytes))) in
    let found = numbers_joined f (kept m cs) joined k whole many is b in
    (found.0, made f k joined _ (found.1 ∙ sym (kept-map (number_of f) m cs)))

pub numbers_taken : (f : Format) (n : ℕ) (bytes joined places : List ℕ) → AreNumbers (numbers f n bytes) → Below n places
    → joined ≡ flat_map (λ place. slice_index_or (first_chunks (byte_len f.width) n bytes) place []) places → IsBytes joined
    → AreNumbers (numbers f (length places) joined) × AreNumbersOf f (taken_rows places (number_rows (numbers f n bytes))) (numbers f (length places) joined)
numbers_taken f n bytes joined places h low e b =
    let w = byte_len f.width in
    let cs = first_chunks w n bytes in
    let ds : List (List ℕ) = map (λ place. get_or cs place []) places in
    let long : length cs ≡ n = length-first_chunks w n bytes in
    let below : Below (length cs) places = rw long low in
    let is : joined ≡ flat_map (λ c. c) ds = e ∙ sym (flat_map-map (λ (c : List ℕ). c) (λ place. get_or cs place []) places) in
    let whole : Chunks w ds = all-taken (λ c. length c ≡ w) places cs [] below (chunks_whole w n bytes (omega (arith, h.exact))) in
    let many : length places ≡ length ds = sym (length-map _ _) in
    let found = numbers_joined f ds joined (length places) whole many is b in
    (found.0, made f (length places) joined _ (found.1 ∙ sym (taken-map (number_of f) places cs [] null_row below)))

-- ---- the same of what is held, where t is what it is seen as

abbrev pub Found : Format → List Row → NumberBytes → Type 0
Found f rs a = AreNumbers a × AreNumbersOf f rs a

pub range_held : (f : Format) (n from to w : ℕ) (bytes cut part : List ℕ) (t : NumberBytes) → numbers f n bytes ≡ t
    → AreNumbers (numbers f n bytes) → from ≤ to → to ≤ t.count → w ≡ byte_len f.width
    → cut ≡ slice_range bytes (from * w) (to * w) → part ≡ cut → IsBytes part
    → Found t.format (slice_range (number_rows t) from to) (numbers f (to - from) cut)
range_held f n from to w bytes cut part t v h le hi e c s b =
    let count : n ≡ t.count = ap (λ (t : NumberBytes). t.count) v in
    let found : Found f (slice_range (number_rows (numbers f n bytes)) from to) (numbers f (to - from) cut) =
    numbers_range f n from to bytes cut h le (omega (arith, count, hi))
    (c ∙ ap (λ j. slice_range bytes (from * j) (to * j)) e) (subst IsBytes s b) in
    subst (λ (t : NumberBytes). Found t.format (slice_range (number_rows t) from to) (numbers f (to - from) cut)) v found

pub kept_held : (f : Format) (n k : ℕ) (bytes all vec joined part : List ℕ) (m : List Bool) (t : NumberBytes)
    → numbers f n bytes ≡ t → AreNumbers (numbers f n bytes) → length m ≡ t.count → all ≡ bytes
    → vec ≡ flat_map (λ c. c) (kept m (first_chunks (byte_len f.width) (length m) all)) → joined ≡ vec
    → k ≡ count_by (λ b. b) m → part ≡ joined → IsBytes part
    → Found t.format (kept m (number_rows t)) (numbers f k joined)
kept_held f n k bytes all vec joined part m t v h l a e j c s b =
    let count : n ≡ t.count = ap (λ (t : NumberBytes). t.count) v in
    let found : Found f (kept m (number_rows (numbers f n bytes))) (numbers f k joined) =
    numbers_kept f n k bytes joined m h (l ∙ sym count)
    (j ∙ e ∙ ap (λ (l : List ℕ). flat_map (λ c. c) (kept m (first_chunks (byte_len f.width) (length m) l))) a)
    c (subst IsBytes s b) in
    subst (λ (t : NumberBytes). Found t.format (kept m (number_rows t)) (numbers f k joined)) v found

below_all : (n : ℕ) (places : List ℕ) → All (λ place. place < n) places → Below n places
below_all n [] h = tt
below_all n (i ∷ places) h = (All-get_or (λ place. place < n) (i ∷ places) 0 0 (omega arith) h, below_all n places (All-tail (λ place. place < n) i places h))

pub taken_held : (f : Format) (n : ℕ) (bytes all vec joined part places : List ℕ) (t : NumberBytes)
    → numbers f n bytes ≡ t → AreNumbers (numbers f n bytes) → All (λ place. place < t.count) places → all ≡ bytes
    → vec ≡ flat_map (λ place. slice_index_or (first_chunks (byte_len f.width) n all) place []) places → joined ≡ vec
    → part ≡ joined → IsBytes part → Found t.format (taken_rows places (number_rows t)) (numbers f (length places) joined)
taken_held f n bytes all vec joined part places t v h l a e j s b =
    let count : n ≡ t.count = ap (λ (t : NumberBytes). t.count) v in
    let found : Found f (taken_rows places (number_rows (numbers f n bytes))) (numbers f (length places) joined) =
    numbers_taken f n bytes joined places h (below_all n places (subst (λ k. All (λ place. place < k) places) (sym count) l))
    (j ∙ e ∙ ap (λ (l : List ℕ). flat_map (λ place. slice_index_or (first_chunks (byte_len f.width) n l) place []) places) a)
    (subst IsBytes s b) in
    subst (λ (t : NumberBytes). Found t.format (taken_rows places (number_rows t)) (numbers f (length places) joined)) v found
