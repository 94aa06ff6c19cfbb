-- What an offset leads to, step by step.
use Rattle.std.proofs.Common.{◌≡◌, ℕ, ◌+◌, ◌*◌, ◌≤◌, ◌<◌, Bool, true, false, cond, List, length, Option, Some, None, refl, sym, ap, leb, ◌∙◌}
use Rattle.std.specs.Option.{option_map}
use Rattle.std.specs.Str.{IsUtf8, is_utf8}
use Rattle.std.proofs.lemmas.Str.{IsUtf8-from_is_utf8, is_utf8-from_IsUtf8}
use Rattle.std.proofs.lemmas.Bool.{le-leb, lt-leb}
use Rattle.vortex_flat.specs.Numbers.{number}
use Rattle.vortex_flat.proofs.TableLemmas.{bind_some, guard_some}
use Rattle.vortex_flat.specs.Targets.{VectorShape, VectorView, vector_at, vector_view, bytes_at, text_at}

pub vector_no_count : (b : List ℕ) (p w : ℕ) → number b p 4 ≡ None → vector_at b p w ≡ None
unfolding vector_at
vector_no_count b p w e = rw e refl

pub vector_past : (b : List ℕ) (p w n : ℕ) → number b p 4 ≡ Some n → length b < p + 4 + w * n → vector_at b p w ≡ None
unfolding vector_at
vector_past b p w n e h = rw (e, lt-leb) refl

pub vector_here : (b : List ℕ) (p w n : ℕ) → number b p 4 ≡ Some n → p + 4 + w * n ≤ length b → vector_at b p w ≡ Some (record { first = p + 4; width = w; count = n })
unfolding vector_at
vector_here b p w n e h = rw (e, le-leb) refl

pub vector_found : (b : List ℕ) (p w : ℕ) (v : VectorShape) → vector_at b p w ≡ Some v → v.width ≡ w
unfolding vector_at
vector_found b p w v e =
    let n = bind_some (number b p 4) (λ n. cond (leb (p + 4 + w * n) (length b)) (Some (record { first = p + 4; width = w; count = n })) None) v e in
    let g = guard_some (leb (p + 4 + w * n.0) (length b)) (record { first = p + 4; width = w; count = n.0 }) v n.2 in
    ap (λ (s : VectorShape). s.width) (sym g.1)

map_some : {A B : Type 0} (f : A → B) (o : Option A) (y : B) → option_map f o ≡ Some y → (x : A) × (o ≡ Some x) × (f x ≡ y)
map_some f (Some x) y e = (x, refl, cc)
map_some f None y e = absurd cc

-- a vector is as wide as was asked
pub vector_width : (b : List ℕ) (p w : ℕ) (v : VectorView) → option_map (vector_view b) (vector_at b p w) ≡ Some v → v.shape.width ≡ w
vector_width b p w v e =
    let s = map_some (vector_view b) (vector_at b p w) v e in
    ap (λ (x : VectorView). x.shape.width) (sym s.2) ∙ vector_found b p w s.0 s.1

pub text_here : (b : List ℕ) (p : ℕ) (text : List ℕ) → bytes_at b p ≡ Some text → IsUtf8 text → text_at b p ≡ Some text
text_here b p text e h = rw (e, is_utf8-from_IsUtf8 text h) refl

not_text : (text : List ℕ) → (IsUtf8 text → ⊥) → is_utf8 text ≡ false
not_text text h = none (is_utf8 text) refl where
  none : (t : Bool) → is_utf8 text ≡ t → is_utf8 text ≡ false
  none true e = absurd (h (IsUtf8-from_is_utf8 text e))
  none false e = e

pub text_fault : (b : List ℕ) (p : ℕ) (text : List ℕ) → bytes_at b p ≡ Some text → (IsUtf8 text → ⊥) → text_at b p ≡ None
text_fault b p text e h = rw (e, not_text text h) refl
