-- The buffers that a node names.
use Rattle.std.proofs.Common.{◌≡◌, ℕ, zero, suc, ◌+◌, ◌<◌, List, [], ◌∷◌, length, get_or, Option, Some, None, refl, sym, ap, ◌∙◌, arith}
use Rattle.std.specs.Prelude.{option_and_then, slice_get}
use Rattle.std.specs.Option.{option_map}
use Rattle.std.proofs.lemmas.Option.{slice_get_within}
use Rattle.vortex_flat.specs.Numbers.{number}
use Rattle.vortex_flat.specs.Targets.{VectorShape, VectorView, element}
use Rattle.vortex_flat.proofs.TableLemmas.{bind_some}
use Rattle.vortex_prelude.specs.Elements.{elements}
use Rattle.vortex_body.specs.Body.{named_buffer, named_buffers}

mapped : {A B : Type 0} (f : A → B) (o : Option A) (y : B) → option_map f o ≡ Some y → (x : A) × (o ≡ Some x) × (f x ≡ y)
mapped f (Some x) y e = (x, refl, cc)
mapped f None y e = absurd cc

elements_count : {A : Type 0} (f : ℕ → Option A) (i n : ℕ) (xs : List A) → elements f i n ≡ Some xs → n ≡ length xs
elements_count f i zero xs e = let same : [] ≡ xs = cc in ap length same
elements_count f i (suc n) xs e =
    let x = bind_some (f i) (λ x. option_map (λ xs. x ∷ xs) (elements f (i + 1) n)) xs e in
    let ys = mapped (λ ys. x.0 ∷ ys) (elements f (i + 1) n) xs x.2 in
    ap suc (elements_count f (i + 1) n ys.0 ys.1) ∙ ap length ys.2

elements_at : {A : Type 0} (f : ℕ → Option A) (i n k : ℕ) (xs : List A) → elements f i n ≡ Some xs → k < length xs → slice_get xs k ≡ f (i + k)
elements_at f i zero k xs e h = let same : [] ≡ xs = cc in absurd (omega (arith, ap length same))
elements_at f i (suc n) zero xs e h =
    let x = bind_some (f i) (λ x. option_map (λ xs. x ∷ xs) (elements f (i + 1) n)) xs e in
    let ys = mapped (λ ys. x.0 ∷ ys) (elements f (i + 1) n) xs x.2 in
    let here : i ≡ i + 0 = omega arith in
    ap (λ zs. slice_get zs 0) (sym ys.2) ∙ sym x.1 ∙ ap f here
elements_at f i (suc n) (suc k) xs e h =
    let x = bind_some (f i) (λ x. option_map (λ xs. x ∷ xs) (elements f (i + 1) n)) xs e in
    let ys = mapped (λ ys. x.0 ∷ ys) (elements f (i + 1) n) xs x.2 in
    let there : i + 1 + k ≡ i + suc k = omega arith in
    ap (λ zs. slice_get zs (suc k)) (sym ys.2) ∙ elements_at f (i + 1) n k ys.0 ys.1 (omega (arith, ap length ys.2)) ∙ ap f there

pub named_count_is : (b : List ℕ) (buffers named : List (List ℕ)) (v : VectorShape) → named_buffers b buffers v ≡ Some named → v.count ≡ length named
named_count_is b buffers named v e = elements_count (named_buffer b buffers v) 0 v.count named e

named_at : (b : List ℕ) (buffers named : List (List ℕ)) (w : VectorView) (i k : ℕ) → w.buffer ≡ b → named_buffers b buffers w.shape ≡ Some named → i < length named → Some k ≡ number w.buffer (element w.shape i) 4 → slice_get named i ≡ slice_get buffers k
named_at b buffers named w i k same e h place =
    let here : 0 + i ≡ i = omega arith in
    elements_at (named_buffer b buffers w.shape) 0 w.shape.count i named e h ∙ ap (named_buffer b buffers w.shape) here
    ∙ ap (λ l. option_and_then (slice_get buffers) (number l (element w.shape i) 4)) (sym same) ∙ ap (option_and_then (slice_get buffers)) (sym place)

within : {A : Type 0} (xs : List A) (i : ℕ) → i < length xs → (x : A) × (slice_get xs i ≡ Some x)
within [] i h = absurd (omega arith)
within (x ∷ xs) zero h = (x, refl)
within (x ∷ xs) (suc i) h = within xs i (omega arith)

-- the place of a buffer is one among the buffers
pub named_within : (b : List ℕ) (buffers named : List (List ℕ)) (w : VectorView) (i k : ℕ) → w.buffer ≡ b → named_buffers b buffers w.shape ≡ Some named → i < length named → Some k ≡ number w.buffer (element w.shape i) 4 → k < length buffers
named_within b buffers named w i k same e h place =
    let x = within named i h in
    slice_get_within buffers k x.0 (sym (named_at b buffers named w i k same e h place) ∙ x.1)

get_some : {A : Type 0} (xs : List A) (i : ℕ) (x : A) → i < length xs → x ≡ get_or xs i x → slice_get xs i ≡ Some x
get_some [] i x h e = absurd (omega arith)
get_some (y ∷ xs) zero x h e = ap Some (sym e)
get_some (y ∷ xs) (suc i) x h e = get_some xs i x (omega arith) e

pub named_is : (b : List ℕ) (buffers named : List (List ℕ)) (w : VectorView) (i k : ℕ) (x : List ℕ) → w.buffer ≡ b → named_buffers b buffers w.shape ≡ Some named → i < length named → Some k ≡ number w.buffer (element w.shape i) 4 → x ≡ get_or buffers k x → slice_get named i ≡ Some x
named_is b buffers named w i k x same e h place here =
    named_at b buffers named w i k same e h place ∙ get_some buffers k x (named_within b buffers named w i k same e h place) here
