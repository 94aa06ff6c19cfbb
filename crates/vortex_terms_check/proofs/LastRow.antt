-- The distinct rows of rows that end with x, from those of the rows before.
use Rattle.std.proofs.Common.{◌≡◌, ◌+◌, ◌-◌, ◌≤◌, Bool, true, false, cond, List, [], ◌∷◌, ◌++◌, map, length, get_or, take, arith, ap, sym, ◌∙◌}
use Rattle.std.proofs.lemmas.List.{map-append, take_more}
use Rattle.std.proofs.Math.Seq.{take-length}
use Rattle.std.specs.List.{list_any}
use Rattle.vortex_terms.specs.Row.{Row}
use Rattle.vortex_terms.specs.Order.{row_eq}
use Rattle.vortex_terms.specs.Distinct.{distinct}
use Rattle.vortex_terms.specs.DistinctLaws.{distinct-push, distinct-stands}

module _ {A : Type 0} (g : A → Row) where
  ends : (rows : List A) (x : A) → 1 ≤ length rows → x ≡ get_or rows (length rows - 1) x → take (length rows - 1) rows ++ x ∷ [] ≡ rows
  ends rows x h e =
      let n : (length rows - 1) + 1 ≡ length rows = omega arith in
      ap (λ y. take (length rows - 1) rows ++ y ∷ []) e ∙ sym (take_more rows (length rows - 1) x (omega arith)) ∙ ap (λ k. take k rows) n ∙ take-length rows

  pushed : (rows : List A) (x : A) → 1 ≤ length rows → x ≡ get_or rows (length rows - 1) x
      → distinct (map g rows) ≡ cond (list_any (row_eq (g x)) (distinct (map g (take (length rows - 1) rows)))) (distinct (map g (take (length rows - 1) rows))) (distinct (map g (take (length rows - 1) rows)) ++ g x ∷ [])
  pushed rows x h e =
      let before = map g (take (length rows - 1) rows) in
      ap (λ rs. distinct (map g rs)) (sym (ends rows x h e)) ∙ ap distinct (map-append g (take (length rows - 1) rows) (x ∷ []))
      ∙ distinct-push before (g x) ∙ ap (λ b. cond b (distinct before) (distinct before ++ g x ∷ [])) (sym (distinct-stands (g x) before))

  pub last_seen : (rows : List A) (x : A) (out : List Row) (b : Bool) → 1 ≤ length rows → x ≡ get_or rows (length rows - 1) x → out ≡ distinct (map g (take (length rows - 1) rows)) → b ≡ list_any (row_eq (g x)) out → b ≡ true → out ≡ distinct (map g rows)
  last_seen rows x out b h e o s t = o ∙ sym (pushed rows x h e ∙ ap (λ c. cond c (distinct (map g (take (length rows - 1) rows))) (distinct (map g (take (length rows - 1) rows)) ++ g x ∷ [])) (ap (list_any (row_eq (g x))) (sym o) ∙ sym s ∙ t))

  pub last_new : (rows : List A) (x : A) (out : List Row) (b : Bool) → 1 ≤ length rows → x ≡ get_or rows (length rows - 1) x → out ≡ distinct (map g (take (length rows - 1) rows)) → b ≡ list_any (row_eq (g x)) out → b ≡ false → out ++ g x ∷ [] ≡ distinct (map g rows)
  last_new rows x out b h e o s t = ap (λ ds. ds ++ g x ∷ []) o ∙ sym (pushed rows x h e ∙ ap (λ c. cond c (distinct (map g (take (length rows - 1) rows))) (distinct (map g (take (length rows - 1) rows)) ++ g x ∷ [])) (ap (list_any (row_eq (g x))) (sym o) ∙ sym s ∙ t))
