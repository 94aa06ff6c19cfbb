-- What loops over numbers and items lay down, element by element.
use Rattle.std.proofs.Common.{◌≡◌, ℕ, suc, ◌+◌, ◌-◌, ◌*◌, ◌^◌, ◌≤◌, ◌<◌, true, List, [], ◌∷◌, ◌++◌, length, get_or, drop, sym, ap, subst, ◌∙◌, arith, length-append}
use Rattle.std.specs.Prelude.{replicate}
use Rattle.std.specs.List.{AllByRecursion}
use Rattle.vortex_flat.specs.declared.item.Item.{Item}
use Rattle.vortex_flat.specs.Tree.{Tree, offsets, Trees, tree_count}
use Rattle.vortex_flat.specs.Item.{trees_from, tree_of}
use Rattle.vortex_flat.specs.Layout.{low_first, gap, round_up, padded, numbers_of, offsets_of, head, own_size, own_bytes, size_of, trees_size, tables_fit, trees_fit}
use Rattle.vortex_flat.proofs.ItemLemmas.{drop_here, tree_count-trees_from}
use Rattle.vortex_flat.proofs.PutLemmas.{laid_more, at_drop, join, join_padded}
use Rattle.vortex_flat.proofs.Lengths.{length-offsets_of}
use Rattle.vortex_flat.proofs.TableLemmas.{and_split}

pub numbers_of-more : (w : ℕ) (xs : List ℕ) (i x : ℕ) (out next goal : List ℕ) → i < length xs → x ≡ get_or xs i x → out ++ numbers_of w (drop i xs) ≡ goal → next ≡ out ++ low_first w x → next ++ numbers_of w (drop (i + 1) xs) ≡ goal
numbers_of-more w xs i x out next goal lt here h e =
    laid_more out next (low_first w x) (numbers_of w (drop (i + 1) xs)) (numbers_of w (drop i xs)) goal h (at_drop (numbers_of w) xs i x lt here) e

pub all_below : (m : ℕ) (xs : List ℕ) → ((i : ℕ) → i < length xs → get_or xs i 0 < m) → AllByRecursion (λ n. n < m) xs
all_below m [] h = tt
all_below m (x ∷ xs) h = (h 0 (omega arith), all_below m xs (λ i lt. h (suc i) (omega arith)))

pub vector_laid : (o o1 o2 o3 xs : List ℕ) (n m : ℕ) → o1 ≡ o ++ low_first 4 n → o2 ≡ o1 ++ xs → o3 ≡ o2 ++ replicate (gap m) 0 → m ≡ 4 + length xs → o3 ≡ o ++ padded (low_first 4 n ++ xs)
vector_laid o o1 o2 o3 xs n m e f g same = join_padded o o2 o3 (low_first 4 n ++ xs) m (join o o1 o2 (low_first 4 n) xs e f) g (omega (arith, same))

pub text_laid : (o o1 o2 o3 o4 xs : List ℕ) (n m : ℕ) → o1 ≡ o ++ low_first 4 n → o2 ≡ o1 ++ xs → o3 ≡ o2 ++ 0 ∷ [] → o4 ≡ o3 ++ replicate (gap m) 0 → m ≡ 5 + length xs → o4 ≡ o ++ padded (low_first 4 n ++ xs ++ 0 ∷ [])
text_laid o o1 o2 o3 o4 xs n m e f g k same =
    join_padded o o3 o4 (low_first 4 n ++ xs ++ 0 ∷ []) m (join o o2 o3 (low_first 4 n ++ xs) (0 ∷ []) (join o o1 o2 (low_first 4 n) xs e f) g) k (omega (arith, same, length-append xs (0 ∷ [])))

-- the offsets that are left go before the targets, and all of these are within the reach of an offset
pub record TreesLeft (ts : Trees) (place target : ℕ) : Type 0 where
  pub order : place + 4 * tree_count ts ≤ target
  pub short : target + trees_size ts < 2 ^ 32
  pub fits : trees_fit ts ≡ true

pub record TreeNow (t : Tree) (place target : ℕ) : Type 0 where
  pub order : place + 4 ≤ target
  pub short : target + size_of t < 2 ^ 32
  pub fits : tables_fit t ≡ true

left-here : (xs : List Item) (i : ℕ) (x : Item) (p q : ℕ) → i < length xs → x ≡ get_or xs i x → TreesLeft (trees_from (drop i xs)) p q → TreesLeft (trees_from (x ∷ drop (i + 1) xs)) p q
left-here xs i x p q lt here h = subst (λ (ys : List Item). TreesLeft (trees_from ys) p q) (drop_here xs i x lt here) h

pub tree-now : (xs : List Item) (i : ℕ) (x : Item) (p q : ℕ) → i < length xs → x ≡ get_or xs i x → TreesLeft (trees_from (drop i xs)) p q → TreeNow (tree_of x) p q
tree-now xs i x p q lt here h =
    let l = left-here xs i x p q lt here h in
    record { order = omega (arith, l.order); short = omega (arith, l.short); fits = (and_split (tables_fit (tree_of x)) (trees_fit (trees_from (drop (i + 1) xs))) l.fits).0 }

pub trees-left-more : (xs : List Item) (i : ℕ) (x : Item) (p q p' q' : ℕ) → i < length xs → x ≡ get_or xs i x → TreesLeft (trees_from (drop i xs)) p q → p' ≡ p + 4 → q' ≡ q + size_of (tree_of x) → TreesLeft (trees_from (drop (i + 1) xs)) p' q'
trees-left-more xs i x p q p' q' lt here h e f =
    let l = left-here xs i x p q lt here h in
    record { order = omega (arith, l.order, e, f); short = omega (arith, l.short, f); fits = (and_split (tables_fit (tree_of x)) (trees_fit (trees_from (drop (i + 1) xs))) l.fits).1 }

pub offsets_of-more : (xs : List Item) (i : ℕ) (x : Item) (p q p' q' : ℕ) (out next goal : List ℕ) → i < length xs → x ≡ get_or xs i x → out ++ offsets_of (trees_from (drop i xs)) p q ≡ goal → next ≡ out ++ low_first 4 (q + head (tree_of x) - p) → p' ≡ p + 4 → q' ≡ q + size_of (tree_of x)
    → next ++ offsets_of (trees_from (drop (i + 1) xs)) p' q' ≡ goal
offsets_of-more xs i x p q p' q' out next goal lt here h e f g =
    ap (λ (r : ℕ). next ++ offsets_of (trees_from (drop (i + 1) xs)) r q') f ∙ ap (λ (r : ℕ). next ++ offsets_of (trees_from (drop (i + 1) xs)) (p + 4) r) g
    ∙ laid_more out next (low_first 4 (q + head (tree_of x) - p)) (offsets_of (trees_from (drop (i + 1) xs)) (p + 4) (q + size_of (tree_of x))) (offsets_of (trees_from (drop i xs)) p q) goal h (at_drop (λ ys. offsets_of (trees_from ys) p q) xs i x lt here) e

pub offsets_laid : (o o1 o2 o3 : List ℕ) (xs : List Item) (n r m : ℕ) → n ≡ length xs → r ≡ round_up (4 + 4 * n) → m ≡ 4 + 4 * n → o1 ≡ o ++ low_first 4 n → o2 ≡ o1 ++ offsets_of (trees_from xs) 4 r → o3 ≡ o2 ++ replicate (gap m) 0
    → o3 ≡ o ++ own_bytes (offsets (trees_from xs))
offsets_laid o o1 o2 o3 xs n r m len up size e f g =
    let ts : Trees = trees_from xs in
    let many : n ≡ tree_count ts = len ∙ sym (tree_count-trees_from xs) in
    let f1 : o1 ≡ o ++ low_first 4 (tree_count ts) = e ∙ ap (λ (k : ℕ). o ++ low_first 4 k) many in
    let f2 : o2 ≡ o1 ++ offsets_of ts 4 (own_size (offsets ts)) = f ∙ ap (λ (k : ℕ). o1 ++ offsets_of ts 4 k) up ∙ ap (λ (k : ℕ). o1 ++ offsets_of ts 4 (round_up (4 + 4 * k))) many in
    join_padded o o2 o3 (low_first 4 (tree_count ts) ++ offsets_of ts 4 (own_size (offsets ts))) m (join o o1 o2 (low_first 4 (tree_count ts)) (offsets_of ts 4 (own_size (offsets ts))) f1 f2) g
    (omega (arith, size, many, length-offsets_of ts 4 (own_size (offsets ts))))
