-- The mask that is kept of one that is given, and what it shows.
use Rattle.std.proofs.Common.{◌≡◌, ◌∙◌, ◌≤◌, ℕ, List, [], ◌∷◌, Bool, true, false, not, Some, None, length, inl, inr, refl, sym, ap, arith, true≢false}
use Rattle.std.specs.Prelude.{◌==◌, ◌&&◌, if◌then◌else◌}
use Rattle.std.specs.List.{list_all}
use Rattle.std.proofs.lemmas.Bool.{le-leb}
use Rattle.std.proofs.lemmas.Bool.Decides.{eqb_tells}
use Rattle.vortex_terms.specs.Row.{Row}
use Rattle.vortex_terms.specs.FromColumns.{masked}
use Rattle.vortex_node_rows.specs.declared.encoding.Encoding.TheVariants as encoding
use Rattle.vortex_node_rows.specs.RowsOf.{Validity, most_rows}
use Rattle.vortex_node_rows.proofs.Masks.{IsMask as IsMaskOf}
use Rattle.vortex_array_data.specs.ArrayNode.{ArrayNodes, array_node, array_child, no_array_nodes}
use Rattle.vortex_array_data.specs.Content.{has_false, IsMask}
use Rattle.vortex_array_data.specs.Makes.{first_refusal, mask_hides, too_many}
use Rattle.vortex_array_data.specs.inner.Masks.{IsTaken, mask_tests}
use Rattle.vortex_array_data.specs.declared.error.ArrayError.TheVariants.{LengthMismatch, TypeMismatch}

-- ---- how many rows there are

pub are_few : (n : ℕ) → n ≤ most_rows → too_many n ≡ false
are_few n h = ap not (le-leb n most_rows h)

-- ---- masks that are true everywhere

all_true : (m : List Bool) → list_all (λ b. b) m ≡ not (has_false m)
all_true [] = refl
all_true (true ∷ m) = all_true m
all_true (false ∷ m) = refl

none_false : (b : Bool) → not b ≡ true → b ≡ false
none_false true h = absurd (true≢false (sym h))
none_false false h = refl

one_false : (b : Bool) → not b ≡ false → b ≡ true
one_false true h = refl
one_false false h = absurd (true≢false h)

all_shown : (m : List Bool) (rs : List Row) → has_false m ≡ false → length rs ≡ length m → masked (Some m) rs ≡ rs
all_shown [] [] h e = refl
all_shown [] (r ∷ rs) h e = absurd (omega (arith, e))
all_shown (true ∷ m) [] h e = absurd (omega (arith, e))
all_shown (true ∷ m) (r ∷ rs) h e = ap (λ (l : List Row). r ∷ l) (all_shown m rs h (omega (arith, e)))
all_shown (false ∷ m) rs h e = absurd (true≢false h)

-- ---- masks that are kept

is_same : (a b : ℕ) → a ≡ b → (a == b) ≡ true
is_same a b h = elim (eqb_tells a b) [ inl p ↦ p.0 | inr p ↦ absurd (p.1 h) ]

pub none_taken : (n : ℕ) (nl : Bool) → IsTaken n nl None None
none_taken n nl = record { differs = refl; hides = refl; mask = tt; shown = λ rs h. refl; nodes = refl }

pub kept_taken : (n : ℕ) (nl : Bool) (m : List Bool) → length m ≡ n → nl ≡ true → IsTaken n nl (Some m) (Some m)
kept_taken n nl m e h = record {
  differs = ap not (is_same (length m) n e);
  hides = ap (λ (b : Bool). not b && has_false m) h;
  mask = (e, h);
  shown = λ rs k. refl;
  nodes = refl;
}

pub dropped_taken : (n : ℕ) (nl : Bool) (m : List Bool) → length m ≡ n → nl ≡ false → list_all (λ b. b) m ≡ true
    → IsTaken n nl (Some m) None
dropped_taken n nl m e h k =
    let whole : has_false m ≡ false = none_false (has_false m) (sym (all_true m) ∙ k) in
    record {
      differs = ap not (is_same (length m) n e);
      hides = ap (λ (b : Bool). not b && has_false m) h ∙ whole;
      mask = tt;
      shown = λ rs l. sym (all_shown m rs whole (l ∙ sym e));
      nodes = sym (ap (λ (b : Bool). nodes_if b n) whole);
    }
  where
    nodes_if : Bool → ℕ → ArrayNodes
    nodes_if b n = if b then array_child (array_node encoding.Bool n no_array_nodes) no_array_nodes else no_array_nodes

pub null_refused : (n : ℕ) (nl : Bool) (m : List Bool) → length m ≡ n → nl ≡ false → list_all (λ b. b) m ≡ false
    → first_refusal (mask_tests n nl (Some m)) ≡ Some TypeMismatch
null_refused n nl m e h k =
    let some : has_false m ≡ true = one_false (has_false m) (sym (all_true m) ∙ k) in
    ap (λ (b : Bool). first_refusal ((not b, LengthMismatch) ∷ (mask_hides nl (Some m), TypeMismatch) ∷ []))
    (is_same (length m) n e)
    ∙ ap (λ (b : Bool). first_refusal ((not b && has_false m, TypeMismatch) ∷ [])) h
    ∙ ap (λ (b : Bool). first_refusal ((b, TypeMismatch) ∷ [])) some

-- the same mask, as the rows of nodes have it
pub mask_again : (n : ℕ) (nl : Bool) (v : Validity) → IsMask n nl v → IsMaskOf n nl v
mask_again n nl None h = tt
mask_again n nl (Some m) h = h
