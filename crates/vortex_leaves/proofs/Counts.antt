-- One buffer or two, by how many there are.
use Rattle.std.proofs.Common.{◌≡◌, ◌≢◌, ℕ, List, [], ◌∷◌, Some, None, length, refl, arith}
use Rattle.std.specs.Prelude.{slice_get}
use Rattle.vortex_node_rows.specs.Buffers.{one_buffer, two_buffers}

pub one_of : (bs : List (List ℕ)) (b : List ℕ) → length bs ≡ 1 → slice_get bs 0 ≡ Some b → Some b ≡ one_buffer bs
unfolding one_buffer
one_of [] b l e = absurd (omega (arith, l))
one_of (c ∷ []) b l e = cc
one_of (c ∷ (d ∷ bs)) b l e = absurd (omega (arith, l))

pub not_one : (bs : List (List ℕ)) → length bs ≢ 1 → None ≡ one_buffer bs
unfolding one_buffer
not_one [] l = refl
not_one (c ∷ []) l = absurd (l refl)
not_one (c ∷ (d ∷ bs)) l = refl

pub two_of : (bs : List (List ℕ)) (a b : List ℕ) → length bs ≡ 2 → slice_get bs 0 ≡ Some a → slice_get bs 1 ≡ Some b → Some (a, b) ≡ two_buffers bs
unfolding two_buffers
two_of [] a b l e f = absurd (omega (arith, l))
two_of (c ∷ []) a b l e f = absurd (omega (arith, l))
two_of (c ∷ (d ∷ [])) a b l e f = cc
two_of (c ∷ (d ∷ (g ∷ bs))) a b l e f = absurd (omega (arith, l))

pub not_two : (bs : List (List ℕ)) → length bs ≢ 2 → None ≡ two_buffers bs
unfolding two_buffers
not_two [] l = refl
not_two (c ∷ []) l = refl
not_two (c ∷ (d ∷ [])) l = absurd (l refl)
not_two (c ∷ (d ∷ (g ∷ bs))) l = refl
