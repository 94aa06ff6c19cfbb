-- The loops over the names of a header and over the descriptors of a body, step by step.
use Rattle.std.proofs.Common.{◌≡◌, ℕ, suc, ◌+◌, ◌-◌, ◌<◌, ◌≤◌, ◌^◌, Bool, true, false, cond, eqb, leb, List, [], ◌∷◌, length, take, drop, Option, Some, None, Result, refl, sym, ap, ◌∙◌, arith, inl, inr, ◌⊎◌}
use Rattle.std.specs.Prelude.{slice_get, ◌&&◌}
use Rattle.std.specs.Option.{option_map, option_copied, ok_or}
use denote.Ref.{Bor}
use Rattle.vortex_flat.specs.Answers.{Answers}
use Rattle.vortex_flat.specs.declared.error.FlatError.{FlatError}
use Rattle.vortex_flat.specs.declared.error.FlatError.TheVariants.{Outside}
use Rattle.std.specs.List.{list_all}
use Rattle.std.proofs.lemmas.Bool.{le-leb, lt-leb, eq-eqb, ne_eqb, and_left}
use Rattle.vortex_prelude.specs.Chain.{◌>>=◌}
use Rattle.vortex_prelude.specs.Elements.{elements}
use Rattle.vortex_select.specs.Column.{BufferDescriptor, buffers_in, buffer_in}
use Rattle.vortex_select.specs.inner.Decoding.{is_primitive, primitive_count}

-- ---- elements

-- the first of the elements that are left, and the others
pub elements_more : {A : Type 0} (f : ℕ → Option A) (i n : ℕ) (x : A) → i < n → f i ≡ Some x → elements f i (n - i) ≡ option_map (λ xs. x ∷ xs) (elements f (i + 1) (n - (i + 1)))
elements_more f i n x lt e =
    let k : n - i ≡ suc (n - (i + 1)) = omega arith in
    rw (k, e) refl

pub elements_fail : {A : Type 0} (f : ℕ → Option A) (i n : ℕ) → i < n → f i ≡ None → elements f i (n - i) ≡ None
elements_fail f i n lt e =
    let k : n - i ≡ suc (n - (i + 1)) = omega arith in
    rw (k, e) refl

pub elements_end : {A : Type 0} (f : ℕ → Option A) (i n : ℕ) → n ≤ i → elements f i (n - i) ≡ Some []
elements_end f i n le =
    let k : n - i ≡ 0 = omega arith in
    rw k refl

-- ---- names

map_if : (t : Bool) (n : ℕ) → cond t (Some (suc n)) None ≡ option_map (λ k. suc k) (cond t (Some n) None)
map_if true n = refl
map_if false n = refl

none_if : {A : Type 0} (t : Bool) (x : A) → t ≡ false → cond t (Some x) None ≡ None
none_if true x e = absurd cc
none_if false x e = refl

counted : (x : List ℕ) (rest : Option (List (List ℕ))) → is_primitive x ≡ true → primitive_count (option_map (λ xs. x ∷ xs) rest) ≡ option_map (λ k. suc k) (primitive_count rest)
unfolding primitive_count
counted x None h = refl
counted x (Some xs) h = ap (λ t. cond (t && list_all is_primitive xs) (Some (suc (length xs))) None) h ∙ map_if (list_all is_primitive xs) (length xs)

uncounted : (x : List ℕ) (rest : Option (List (List ℕ))) → is_primitive x ≡ false → primitive_count (option_map (λ xs. x ∷ xs) rest) ≡ None
unfolding primitive_count
uncounted x None h = refl
uncounted x (Some xs) h = none_if (is_primitive x && list_all is_primitive xs) (suc (length xs)) (and_left (is_primitive x) (list_all is_primitive xs) h)

-- so many names were counted, and those that are left
abbrev pub counted_from : ℕ → Option (List (List ℕ)) → Option ℕ
counted_from i left = option_map (λ k. i + k) (primitive_count left)

next_count : (i : ℕ) (c : Option ℕ) → option_map (λ k. i + k) (option_map (λ k. suc k) c) ≡ option_map (λ k. (i + 1) + k) c
next_count i None = refl
next_count i (Some k) = let e : i + suc k ≡ (i + 1) + k = omega arith in ap Some e

pub names_more : (f : ℕ → Option (List ℕ)) (i n : ℕ) (x : List ℕ) (total : Option ℕ) → i < n → f i ≡ Some x → is_primitive x ≡ true
    → counted_from i (elements f i (n - i)) ≡ total → counted_from (i + 1) (elements f (i + 1) (n - (i + 1))) ≡ total
names_more f i n x total lt e h inv =
    sym (ap (counted_from i) (elements_more f i n x lt e) ∙ ap (option_map (λ k. i + k)) (counted x (elements f (i + 1) (n - (i + 1))) h) ∙ next_count i (primitive_count (elements f (i + 1) (n - (i + 1))))) ∙ inv

pub names_fail : (f : ℕ → Option (List ℕ)) (i n : ℕ) (total : Option ℕ) → i < n → f i ≡ None → counted_from i (elements f i (n - i)) ≡ total → total ≡ None
unfolding primitive_count
names_fail f i n total lt e inv = sym inv ∙ ap (counted_from i) (elements_fail f i n lt e)

pub names_other : (f : ℕ → Option (List ℕ)) (i n : ℕ) (x : List ℕ) (total : Option ℕ) → i < n → f i ≡ Some x → is_primitive x ≡ false
    → counted_from i (elements f i (n - i)) ≡ total → total ≡ None
names_other f i n x total lt e h inv =
    sym inv ∙ ap (counted_from i) (elements_more f i n x lt e) ∙ ap (option_map (λ k. i + k)) (uncounted x (elements f (i + 1) (n - (i + 1))) h)

pub names_end : (f : ℕ → Option (List ℕ)) (i n : ℕ) (total : Option ℕ) → i ≤ n → n ≤ i → counted_from i (elements f i (n - i)) ≡ total → total ≡ Some n
unfolding primitive_count
names_end f i n total le ge inv =
    let same : i + 0 ≡ n = omega arith in
    sym inv ∙ ap (counted_from i) (elements_end f i n ge) ∙ ap Some same

-- ---- buffers

-- the buffer at a place, or the one that was found before
abbrev pub pick : Option (List ℕ) → ℕ → List (List ℕ) → Option (List ℕ)
pick None k buffers = slice_get buffers k
pick (Some found) k buffers = Some found

-- the same among the buffers of the descriptors that are left
abbrev pub picked : Option (List ℕ) → List ℕ → Option (List BufferDescriptor) → ℕ → Option (List ℕ)
picked found region descriptors k = descriptors >>= λ others. buffers_in region others >>= λ buffers. pick found k buffers

-- the record fits in what is left of the region
abbrev pub FitsIn : BufferDescriptor → List ℕ → Type 0
FitsIn entry region = (entry.compression ≡ 0) × (entry.padding + entry.length ≤ length region)

abbrev pub its_buffer : BufferDescriptor → List ℕ → List ℕ
its_buffer entry region = take (entry.length) (drop (entry.padding) region)

abbrev pub behind : BufferDescriptor → List ℕ → List ℕ
behind entry region = drop (entry.padding + entry.length) region

buffers_more : (entry : BufferDescriptor) (others : List BufferDescriptor) (region : List ℕ) → FitsIn entry region → buffers_in region (entry ∷ others) ≡ option_map (λ buffers. its_buffer entry region ∷ buffers) (buffers_in (behind entry region) others)
unfolding buffers_in
buffers_more entry others region h = rw (eq-eqb (entry.compression) 0 h.0, le-leb (entry.padding + entry.length) (length region) h.1) refl

buffers_fail_if : {A : Type 0} (s t : Bool) (x : Option A) → (s ≡ false) ⊎ (t ≡ false) → cond (s && t) x None ≡ None
buffers_fail_if true true x (inl e) = absurd cc
buffers_fail_if true true x (inr e) = absurd cc
buffers_fail_if true false x h = refl
buffers_fail_if false t x h = refl

-- a record that is compressed, or that does not fit
pub buffers_fail : (entry : BufferDescriptor) (others : List BufferDescriptor) (region : List ℕ) → (entry.compression ≡ 0 → ⊥) ⊎ (length region < entry.padding + entry.length) → buffers_in region (entry ∷ others) ≡ None
unfolding buffers_in
buffers_fail entry others region (inl h) = buffers_fail_if _ _ _ (inl (ne_eqb (entry.compression) 0 h))
buffers_fail entry others region (inr h) = buffers_fail_if (eqb (entry.compression) 0) _ _ (inr (lt-leb (entry.padding + entry.length) (length region) h))

pub picked_fail : (found : Option (List ℕ)) (entry : BufferDescriptor) (region : List ℕ) (left : Option (List BufferDescriptor)) (k : ℕ) → (entry.compression ≡ 0 → ⊥) ⊎ (length region < entry.padding + entry.length)
    → picked found region (option_map (λ others. entry ∷ others) left) k ≡ None
picked_fail found entry region None k h = refl
picked_fail found entry region (Some others) k h = rw (buffers_fail entry others region h) refl

step_none : (b : List ℕ) (rest : Option (List (List ℕ))) (k : ℕ) → (option_map (λ buffers. b ∷ buffers) rest >>= λ buffers. pick None (suc k) buffers) ≡ (rest >>= λ buffers. pick None k buffers)
step_none b None k = refl
step_none b (Some buffers) k = refl

step_here : (b : List ℕ) (rest : Option (List (List ℕ))) (k : ℕ) → (option_map (λ buffers. b ∷ buffers) rest >>= λ buffers. pick None 0 buffers) ≡ (rest >>= λ buffers. pick (Some b) k buffers)
step_here b None k = refl
step_here b (Some buffers) k = refl

step_found : (b found : List ℕ) (rest : Option (List (List ℕ))) (j k : ℕ) → (option_map (λ buffers. b ∷ buffers) rest >>= λ buffers. pick (Some found) j buffers) ≡ (rest >>= λ buffers. pick (Some found) k buffers)
step_found b found None j k = refl
step_found b found (Some buffers) j k = refl

picked_none : (entry : BufferDescriptor) (region : List ℕ) (left : Option (List BufferDescriptor)) (k : ℕ) → FitsIn entry region
    → picked None region (option_map (λ others. entry ∷ others) left) (suc k) ≡ picked None (behind entry region) left k
picked_none entry region None k h = refl
picked_none entry region (Some others) k h = rw (buffers_more entry others region h) (step_none (its_buffer entry region) (buffers_in (behind entry region) others) k)

picked_here : (entry : BufferDescriptor) (region : List ℕ) (left : Option (List BufferDescriptor)) (k : ℕ) → FitsIn entry region
    → picked None region (option_map (λ others. entry ∷ others) left) 0 ≡ picked (Some (its_buffer entry region)) (behind entry region) left k
picked_here entry region None k h = refl
picked_here entry region (Some others) k h = rw (buffers_more entry others region h) (step_here (its_buffer entry region) (buffers_in (behind entry region) others) k)

picked_found : (entry : BufferDescriptor) (region found : List ℕ) (left : Option (List BufferDescriptor)) (j k : ℕ) → FitsIn entry region
    → picked (Some found) region (option_map (λ others. entry ∷ others) left) j ≡ picked (Some found) (behind entry region) left k
picked_found entry region found None j k h = refl
picked_found entry region found (Some others) j k h = rw (buffers_more entry others region h) (step_found (its_buffer entry region) found (buffers_in (behind entry region) others) j k)

-- a buffer is found only behind its place, and none before
abbrev pub IsFoundBy : ℕ → ℕ → Option (List ℕ) → Type 0
IsFoundBy wanted i None = i ≤ wanted
IsFoundBy wanted i (Some buffer) = (wanted < i) × (length buffer < 2 ^ 32)

pub picked_more : (found : Option (List ℕ)) (wanted i : ℕ) (entry : BufferDescriptor) (region : List ℕ) (left : Option (List BufferDescriptor)) (total : Option (List ℕ)) → (i ≡ wanted → ⊥) → IsFoundBy wanted i found → FitsIn entry region
    → picked found region (option_map (λ others. entry ∷ others) left) (wanted - i) ≡ total → picked found (behind entry region) left (wanted - (i + 1)) ≡ total
picked_more None wanted i entry region left total ne by fits inv =
    let k : wanted - i ≡ suc (wanted - (i + 1)) = omega arith in
    sym (ap (picked None region (option_map (λ others. entry ∷ others) left)) k ∙ picked_none entry region left (wanted - (i + 1)) fits) ∙ inv
picked_more (Some buffer) wanted i entry region left total ne by fits inv =
    sym (picked_found entry region buffer left (wanted - i) (wanted - (i + 1)) fits) ∙ inv

pub picked_now : (found : Option (List ℕ)) (wanted i : ℕ) (entry : BufferDescriptor) (region : List ℕ) (left : Option (List BufferDescriptor)) (total : Option (List ℕ)) → i ≡ wanted → IsFoundBy wanted i found → FitsIn entry region
    → picked found region (option_map (λ others. entry ∷ others) left) (wanted - i) ≡ total → picked (Some (its_buffer entry region)) (behind entry region) left (wanted - (i + 1)) ≡ total
picked_now None wanted i entry region left total same by fits inv =
    let k : wanted - i ≡ 0 = omega arith in
    sym (ap (picked None region (option_map (λ others. entry ∷ others) left)) k ∙ picked_here entry region left (wanted - (i + 1)) fits) ∙ inv
picked_now (Some buffer) wanted i entry region left total same by fits inv = absurd (omega (arith, by.0))

pub found_more : (found : Option (List ℕ)) (wanted i : ℕ) → (i ≡ wanted → ⊥) → IsFoundBy wanted i found → IsFoundBy wanted (i + 1) found
found_more None wanted i ne by = omega arith
found_more (Some buffer) wanted i ne by = (omega (arith, by.0), by.1)

picked_nil : (found : Option (List ℕ)) (region : List ℕ) (k : ℕ) → picked found region (Some []) k ≡ found
unfolding buffers_in
picked_nil None region k = refl
picked_nil (Some buffer) region k = refl

-- after the last entry, what was found is the buffer
pub picked_end : (f : ℕ → Option BufferDescriptor) (found : Option (List ℕ)) (region : List ℕ) (i n k : ℕ) (total : Option (List ℕ)) → n ≤ i → picked found region (elements f i (n - i)) k ≡ total → found ≡ total
picked_end f found region i n k total le inv =
    sym (ap (λ left. picked found region left k) (elements_end f i n le) ∙ picked_nil found region k) ∙ inv

-- at the start nothing is found, and all is left
pub picked_start : (region : List ℕ) (descriptors : Option (List BufferDescriptor)) (wanted : ℕ) → picked None region descriptors wanted ≡ buffer_in region descriptors wanted
unfolding buffer_in
picked_start region descriptors wanted = refl

-- no more names than a header may have
pub few : (n : ℕ) (names : Option (List (List ℕ))) → n ≤ 65536 → primitive_count (cond (leb n 65536) names None) ≡ primitive_count names
few n names le = ap (λ t. primitive_count (cond t names None)) (le-leb n 65536 le)

pub picked_first : (f : ℕ → Option BufferDescriptor) (region : List ℕ) (n wanted : ℕ) → picked None region (elements f 0 (n - 0)) (wanted - 0) ≡ buffer_in region (elements f 0 n) wanted
picked_first f region n wanted =
    let all : n - 0 ≡ n = omega arith in
    let same : wanted - 0 ≡ wanted = omega arith in
    rw (all, same) (picked_start region (elements f 0 n) wanted)

-- the same among the descriptors that are left, the first of them apart
pub picked_next : (f : ℕ → Option BufferDescriptor) (found : Option (List ℕ)) (region : List ℕ) (i n k : ℕ) (entry : BufferDescriptor) (total : Option (List ℕ)) → i < n → f i ≡ Some entry
    → picked found region (elements f i (n - i)) k ≡ total → picked found region (option_map (λ others. entry ∷ others) (elements f (i + 1) (n - (i + 1)))) k ≡ total
picked_next f found region i n k entry total lt e inv = sym (ap (λ left. picked found region left k) (elements_more f i n entry lt e)) ∙ inv

pub answers_found : (found : Option (Bor (List ℕ))) (result : Result (Bor (List ℕ)) FlatError) (total : Option (List ℕ)) → result ≡ ok_or found Outside → option_copied found ≡ total → Answers (λ x. x.now) result total
answers_found None result total e h = rw e (refl, sym h)
answers_found (Some x) result total e h = rw e (sym h)
