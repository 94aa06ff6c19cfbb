-- The names of steps, as a loop over them finds them.
use Rattle.std.proofs.Common.{◌≡◌, ℕ, ◌+◌, ◌<◌, List, [], ◌∷◌, ◌++◌, get_or, drop, length, Option, Some, None, option_map, refl, sym, ap, ◌∙◌, add-one, append-nil}
use Rattle.std.specs.Borrow.{Bor}
use Rattle.std.proofs.Math.Seq.{drop-cons}
use Rattle.vortex_prelude.specs.Chain.{◌>>=◌}
use Rattle.vortex_wire.specs.Finds.{all_bytes_of}
use Rattle.vortex_wire.proofs.BytesFound.{after, after_none, after_one}
use Rattle.vortex_proto.specs.PathMessage.{name_in, names_in}

pub one_more : (steps : List (Bor (List ℕ))) (i : ℕ) (d : Bor (List ℕ)) → i < length steps → all_bytes_of (drop i steps) ≡ (get_or steps i d).now ∷ all_bytes_of (drop (i + 1) steps)
one_more steps i d lt =
    let here : drop i steps ≡ get_or steps i d ∷ drop (i + 1) steps = rw add-one (drop-cons steps i d lt) in
    ap all_bytes_of here

pub begins : (steps : List (Bor (List ℕ))) → after [] (names_in (all_bytes_of (drop 0 steps))) ≡ names_in (all_bytes_of steps)
begins steps = after_none (names_in (all_bytes_of steps))

then_one : (x : List ℕ) (o : Option (List (List ℕ))) → (o >>= λ rest. Some (x ∷ rest)) ≡ option_map (λ rest. x ∷ rest) o
then_one x None = refl
then_one x (Some xs) = refl

name_then : (b x : List ℕ) (others : List (List ℕ)) → name_in b ≡ Some x → names_in (b ∷ others) ≡ option_map (λ xs. x ∷ xs) (names_in others)
unfolding names_in
name_then b x others e = rw e (then_one x (names_in others))

no_name_then : (b : List ℕ) (others : List (List ℕ)) → name_in b ≡ None → names_in (b ∷ others) ≡ None
unfolding names_in
no_name_then b others e = rw e refl

pub goes_on : (names : List (Bor (List ℕ))) (x : Bor (List ℕ)) (steps : List (Bor (List ℕ))) (i : ℕ) (d : Bor (List ℕ)) (all : Option (List (List ℕ))) → i < length steps → name_in (get_or steps i d).now ≡ Some x.now
    → after names (names_in (all_bytes_of (drop i steps))) ≡ all → after (names ++ x ∷ []) (names_in (all_bytes_of (drop (i + 1) steps))) ≡ all
goes_on names x steps i d all lt e so_far =
    let others = all_bytes_of (drop (i + 1) steps) in
    after_one names x (names_in others)
    ∙ sym (ap (after names) (ap names_in (one_more steps i d lt) ∙ name_then (get_or steps i d).now x.now others e)) ∙ so_far

pub refused : (names : List (Bor (List ℕ))) (steps : List (Bor (List ℕ))) (i : ℕ) (d : Bor (List ℕ)) (all : Option (List (List ℕ))) → i < length steps → name_in (get_or steps i d).now ≡ None
    → after names (names_in (all_bytes_of (drop i steps))) ≡ all → all ≡ None
refused names steps i d all lt e so_far =
    let others = all_bytes_of (drop (i + 1) steps) in
    sym so_far ∙ ap (after names) (ap names_in (one_more steps i d lt) ∙ no_name_then (get_or steps i d).now others e)

-- no step is left
pub nothing_left : (names : List (Bor (List ℕ))) → after names (names_in []) ≡ Some (all_bytes_of names)
unfolding names_in
nothing_left names = ap Some (append-nil (all_bytes_of names))
