-- What a queue loses.
use Rattle.std.proofs.Common.{◌≡◌, ℕ, ◌-◌, ◌≤◌, List, [], ◌++◌, length, drop, refl, sym, ap, ◌∙◌, arith, append_assoc, append-nil}
use Rattle.std.specs.Prelude.{slice_range}
use Rattle.std.proofs.lemmas.List.{length-take, length-drop}
use Rattle.std.proofs.lemmas.List.Folds.{drop_split}
use Rattle.vortex_ipc.specs.Queue.{HasLost}

-- nothing is lost
pub lost_none : (xs : List ℕ) → HasLost xs xs
lost_none xs = ([], refl)

-- all is lost
pub lost_all : (xs : List ℕ) → HasLost xs []
lost_all xs = (xs, sym (append-nil xs))

-- what was taken is lost, and then some more
pub lost_more : (a p m n : List ℕ) → a ≡ p ++ m → HasLost m n → HasLost a n
lost_more a p m n e h = (p ++ h.0, e ∙ ap (λ (l : List ℕ). p ++ l) h.1 ∙ sym (append_assoc p h.0 n))

-- what was taken is lost
pub lost_taken : (a p m : List ℕ) → a ≡ p ++ m → HasLost a m
lost_taken a p m e = (p, e)

-- a part of the first piece, and what is behind it
pub queue_parts : (piece pushed : List ℕ) (at end : ℕ) → at ≤ end → drop at piece ++ pushed ≡ slice_range piece at end ++ (drop end piece ++ pushed)
queue_parts piece pushed at end le = ap (λ (l : List ℕ). l ++ pushed) (drop_split piece at end le) ∙ append_assoc (slice_range piece at end) (drop end piece) pushed

-- how long a part is
pub part_len : (piece : List ℕ) (at end : ℕ) → at ≤ end → end ≤ length piece → length (slice_range piece at end) ≡ end - at
part_len piece at end le within = omega (arith, length-take (end - at) (drop at piece), length-drop at piece)

-- nothing is left
pub lost_nil : (xs ys : List ℕ) → ys ≡ [] → HasLost xs ys
lost_nil xs ys e = (xs, sym (ap (λ (l : List ℕ). xs ++ l) e ∙ append-nil xs))

-- the first bytes, and those behind them
pub queue_taken : (old piece pushed taken : List ℕ) (at end : ℕ) → old ≡ drop at piece ++ pushed → at ≤ end → taken ≡ slice_range piece at end → old ≡ taken ++ (drop end piece ++ pushed)
queue_taken old piece pushed taken at end e le t = e ∙ queue_parts piece pushed at end le ∙ ap (λ (l : List ℕ). l ++ (drop end piece ++ pushed)) (sym t)

-- all is in the first piece
pub no_pushed : (all piece pushed : List ℕ) → piece ≡ all → pushed ≡ [] → all ≡ drop 0 piece ++ pushed
no_pushed all piece pushed e n = sym (ap (λ (l : List ℕ). piece ++ l) n ∙ append-nil piece ∙ e)
