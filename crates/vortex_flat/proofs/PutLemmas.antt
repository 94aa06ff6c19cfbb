-- What loops over slots and items lay down, slot by slot.
use Rattle.std.proofs.Common.{◌≡◌, ℕ, ◌+◌, ◌-◌, ◌*◌, ◌^◌, ◌≤◌, ◌<◌, Bool, true, false, List, [], ◌∷◌, ◌++◌, length, get_or, drop, Option, Some, None, refl, sym, ap, subst, ◌∙◌, arith, append_assoc}
use Rattle.std.proofs.lemmas.List.{append-nil}
use Rattle.std.specs.Prelude.{replicate, if◌then◌else◌}
use Rattle.std.specs.Int.{w8, cast_unsigned}
use Rattle.vortex_flat.specs.declared.item.Slot.{Slot}
use Rattle.vortex_flat.specs.declared.item.Slot.TheVariants as slots
use Rattle.vortex_flat.specs.Tree.{Wide, one, two, four, eight, table, SlotTrees}
use Rattle.vortex_flat.specs.Item.{slots_from, tree_of}
use Rattle.vortex_flat.specs.Layout.{low_first, is_wide, count_of, gap, round_up, padded, Places, first_eight, first_places, entries, vtable_size, inline_size, vtable_of, inline_of, head, own_size, slots_of, fours_of, targets_size, targets_fit, tables_fit}
use Rattle.vortex_flat.specs.inner.SlotBytes.{number_bytes, inline_of_counts, places_of_counts, entry_of, places_after, HaveRoom, four_bytes, four_place, target_size, target_fits}
use Rattle.vortex_flat.proofs.ItemLemmas.{drop_here, drop_all, slot_count-slots_from, inline_size-counted}
use Rattle.vortex_flat.proofs.Lengths.{length-vtable_of, length-inline_of}
use Rattle.vortex_flat.specs.declared.width_counts.WidthCounts.{WidthCounts}
use Rattle.vortex_flat.specs.inner.Extent.{Counted}
use Rattle.vortex_flat.proofs.TableLemmas.{and_split}

-- one more piece was laid down
pub laid_more : (out next piece rest before goal : List ℕ) → out ++ before ≡ goal → before ≡ piece ++ rest → next ≡ out ++ piece → next ++ rest ≡ goal
laid_more out next piece rest before goal h split e =
    ap (λ (t : List ℕ). t ++ rest) e ∙ append_assoc out piece rest ∙ ap (λ (t : List ℕ). out ++ t) (sym split) ∙ h

pub laid_all : (out rest goal : List ℕ) → out ++ rest ≡ goal → rest ≡ [] → out ≡ goal
laid_all out rest goal h e = sym (append-nil out) ∙ ap (λ (t : List ℕ). out ++ t) (sym e) ∙ h

-- what is at a place of a list, and what is behind it
pub at_drop : {A B : Type 0} (f : List A → B) (xs : List A) (i : ℕ) (x : A) → i < length xs → x ≡ get_or xs i x → f (drop i xs) ≡ f (x ∷ drop (i + 1) xs)
at_drop f xs i x lt here = ap f (drop_here xs i x lt here)

pub at_end : {A B : Type 0} (f : List A → B) (xs : List A) → f (drop (length xs) xs) ≡ f []
at_end f xs = ap f (drop_all xs)

-- ---- numbers of a width

if_laid : (c : Bool) (xs ys : List ℕ) → (if c then xs ++ ys else ys) ≡ (if c then xs else []) ++ ys
if_laid true xs ys = refl
if_laid false xs ys = refl

pub slots_of-step : (w : Wide) (x : Option Slot) (xs : List (Option Slot)) → slots_of w (slots_from (x ∷ xs)) ≡ number_bytes w x ++ slots_of w (slots_from xs)
slots_of-step w None xs = refl
slots_of-step w (Some (slots.U8 n)) xs = if_laid (is_wide one w) (low_first 1 n) (slots_of w (slots_from xs))
slots_of-step w (Some (slots.I8 z)) xs = if_laid (is_wide one w) (cast_unsigned w8 z ∷ []) (slots_of w (slots_from xs))
slots_of-step w (Some (slots.U16 n)) xs = if_laid (is_wide two w) (low_first 2 n) (slots_of w (slots_from xs))
slots_of-step w (Some (slots.U32 n)) xs = if_laid (is_wide four w) (low_first 4 n) (slots_of w (slots_from xs))
slots_of-step w (Some (slots.U64 n)) xs = if_laid (is_wide eight w) (low_first 8 n) (slots_of w (slots_from xs))
slots_of-step w (Some (slots.Item t)) xs = refl

pub slots_of-more : (w : Wide) (xs : List (Option Slot)) (i : ℕ) (x : Option Slot) (out next goal : List ℕ) → i < length xs → x ≡ get_or xs i x → out ++ slots_of w (slots_from (drop i xs)) ≡ goal → next ≡ out ++ number_bytes w x
    → next ++ slots_of w (slots_from (drop (i + 1) xs)) ≡ goal
slots_of-more w xs i x out next goal lt here h e =
    laid_more out next (number_bytes w x) (slots_of w (slots_from (drop (i + 1) xs))) (slots_of w (slots_from (drop i xs))) goal h (at_drop (λ ys. slots_of w (slots_from ys)) xs i x lt here ∙ slots_of-step w x (drop (i + 1) xs)) e

-- ---- entries

entries-step : (x : Option Slot) (xs : List (Option Slot)) (p : Places) → entries (slots_from (x ∷ xs)) p ≡ low_first 2 (entry_of x p) ++ entries (slots_from xs) (places_after x p)
entries-step None xs p = refl
entries-step (Some (slots.U8 n)) xs p = refl
entries-step (Some (slots.I8 z)) xs p = refl
entries-step (Some (slots.U16 n)) xs p = refl
entries-step (Some (slots.U32 n)) xs p = refl
entries-step (Some (slots.U64 n)) xs p = refl
entries-step (Some (slots.Item t)) xs p = refl

pub entries-more : (xs : List (Option Slot)) (i : ℕ) (x : Option Slot) (p q : Places) (out next goal : List ℕ) → i < length xs → x ≡ get_or xs i x → out ++ entries (slots_from (drop i xs)) p ≡ goal → next ≡ out ++ low_first 2 (entry_of x p) → q ≡ places_after x p
    → next ++ entries (slots_from (drop (i + 1) xs)) q ≡ goal
entries-more xs i x p q out next goal lt here h e same =
    ap (λ (r : Places). next ++ entries (slots_from (drop (i + 1) xs)) r) same ∙ laid_more out next (low_first 2 (entry_of x p)) (entries (slots_from (drop (i + 1) xs)) (places_after x p)) (entries (slots_from (drop i xs)) p) goal h (at_drop (λ ys. entries (slots_from ys) p) xs i x lt here ∙ entries-step x (drop (i + 1) xs) p) e

room-step : (x : Option Slot) (xs : List (Option Slot)) (p : Places) (n : ℕ) → HaveRoom p (slots_from (x ∷ xs)) n → HaveRoom (places_after x p) (slots_from xs) n
room-step None xs p n h = record { eights = h.eights; fours = h.fours; twos = h.twos; ones = h.ones }
room-step (Some (slots.U8 m)) xs p n h = record { eights = h.eights; fours = h.fours; twos = h.twos; ones = omega (arith, h.ones) }
room-step (Some (slots.I8 z)) xs p n h = record { eights = h.eights; fours = h.fours; twos = h.twos; ones = omega (arith, h.ones) }
room-step (Some (slots.U16 m)) xs p n h = record { eights = h.eights; fours = h.fours; twos = omega (arith, h.twos); ones = h.ones }
room-step (Some (slots.U32 m)) xs p n h = record { eights = h.eights; fours = omega (arith, h.fours); twos = h.twos; ones = h.ones }
room-step (Some (slots.U64 m)) xs p n h = record { eights = omega (arith, h.eights); fours = h.fours; twos = h.twos; ones = h.ones }
room-step (Some (slots.Item t)) xs p n h = record { eights = h.eights; fours = omega (arith, h.fours); twos = h.twos; ones = h.ones }

pub room-more : (xs : List (Option Slot)) (i : ℕ) (x : Option Slot) (p q : Places) (n : ℕ) → i < length xs → x ≡ get_or xs i x → HaveRoom p (slots_from (drop i xs)) n → q ≡ places_after x p → HaveRoom q (slots_from (drop (i + 1) xs)) n
room-more xs i x p q n lt here h same =
    subst (λ (r : Places). HaveRoom r (slots_from (drop (i + 1) xs)) n) (sym same) (room-step x (drop (i + 1) xs) p n (subst (λ (ys : List (Option Slot)). HaveRoom p (slots_from ys) n) (drop_here xs i x lt here) h))

-- ---- numbers of four bytes and offsets

-- the slots that are left go before the targets, and all of these are within the reach of an offset
pub record FoursLeft (s : SlotTrees) (place target : ℕ) : Type 0 where
  pub order : place + 4 * count_of four s ≤ target
  pub short : target + targets_size s < 2 ^ 32
  pub fits : targets_fit s ≡ true

fours_of-step : (x : Option Slot) (xs : List (Option Slot)) (p q : ℕ) → fours_of (slots_from (x ∷ xs)) p q ≡ four_bytes x p q ++ fours_of (slots_from xs) (four_place x p) (q + target_size x)
fours_of-step None xs p q = ap (fours_of (slots_from xs) p) (omega arith)
fours_of-step (Some (slots.U8 n)) xs p q = ap (fours_of (slots_from xs) p) (omega arith)
fours_of-step (Some (slots.I8 z)) xs p q = ap (fours_of (slots_from xs) p) (omega arith)
fours_of-step (Some (slots.U16 n)) xs p q = ap (fours_of (slots_from xs) p) (omega arith)
fours_of-step (Some (slots.U32 n)) xs p q = ap (λ (r : ℕ). low_first 4 n ++ fours_of (slots_from xs) (p + 4) r) (omega arith)
fours_of-step (Some (slots.U64 n)) xs p q = ap (fours_of (slots_from xs) p) (omega arith)
fours_of-step (Some (slots.Item t)) xs p q = refl

left-step : (x : Option Slot) (xs : List (Option Slot)) (p q : ℕ) → FoursLeft (slots_from (x ∷ xs)) p q → FoursLeft (slots_from xs) (four_place x p) (q + target_size x)
left-step None xs p q h = record { order = omega (arith, h.order); short = omega (arith, h.short); fits = h.fits }
left-step (Some (slots.U8 n)) xs p q h = record { order = omega (arith, h.order); short = omega (arith, h.short); fits = h.fits }
left-step (Some (slots.I8 z)) xs p q h = record { order = omega (arith, h.order); short = omega (arith, h.short); fits = h.fits }
left-step (Some (slots.U16 n)) xs p q h = record { order = omega (arith, h.order); short = omega (arith, h.short); fits = h.fits }
left-step (Some (slots.U32 n)) xs p q h = record { order = omega (arith, h.order); short = omega (arith, h.short); fits = h.fits }
left-step (Some (slots.U64 n)) xs p q h = record { order = omega (arith, h.order); short = omega (arith, h.short); fits = h.fits }
left-step (Some (slots.Item t)) xs p q h = record { order = omega (arith, h.order); short = omega (arith, h.short); fits = (and_split (tables_fit (tree_of t)) (targets_fit (slots_from xs)) h.fits).1 }

pub record FourNow (x : Option Slot) (p q : ℕ) : Type 0 where
  pub order : p ≤ q
  pub short : q + target_size x < 2 ^ 32
  pub fits : target_fits x ≡ true

now-step : (x : Option Slot) (xs : List (Option Slot)) (p q : ℕ) → FoursLeft (slots_from (x ∷ xs)) p q → FourNow x p q
now-step None xs p q h = record { order = omega (arith, h.order); short = omega (arith, h.short); fits = refl }
now-step (Some (slots.U8 n)) xs p q h = record { order = omega (arith, h.order); short = omega (arith, h.short); fits = refl }
now-step (Some (slots.I8 z)) xs p q h = record { order = omega (arith, h.order); short = omega (arith, h.short); fits = refl }
now-step (Some (slots.U16 n)) xs p q h = record { order = omega (arith, h.order); short = omega (arith, h.short); fits = refl }
now-step (Some (slots.U32 n)) xs p q h = record { order = omega (arith, h.order); short = omega (arith, h.short); fits = refl }
now-step (Some (slots.U64 n)) xs p q h = record { order = omega (arith, h.order); short = omega (arith, h.short); fits = refl }
now-step (Some (slots.Item t)) xs p q h = record { order = omega (arith, h.order); short = omega (arith, h.short); fits = (and_split (tables_fit (tree_of t)) (targets_fit (slots_from xs)) h.fits).0 }

left-here : (xs : List (Option Slot)) (i : ℕ) (x : Option Slot) (p q : ℕ) → i < length xs → x ≡ get_or xs i x → FoursLeft (slots_from (drop i xs)) p q → FoursLeft (slots_from (x ∷ drop (i + 1) xs)) p q
left-here xs i x p q lt here h = subst (λ (ys : List (Option Slot)). FoursLeft (slots_from ys) p q) (drop_here xs i x lt here) h

pub four-now : (xs : List (Option Slot)) (i : ℕ) (x : Option Slot) (p q : ℕ) → i < length xs → x ≡ get_or xs i x → FoursLeft (slots_from (drop i xs)) p q → FourNow x p q
four-now xs i x p q lt here h = now-step x (drop (i + 1) xs) p q (left-here xs i x p q lt here h)

pub left-more : (xs : List (Option Slot)) (i : ℕ) (x : Option Slot) (p q p' q' : ℕ) → i < length xs → x ≡ get_or xs i x → FoursLeft (slots_from (drop i xs)) p q → p' ≡ four_place x p → q' ≡ q + target_size x → FoursLeft (slots_from (drop (i + 1) xs)) p' q'
left-more xs i x p q p' q' lt here h e f =
    subst (λ (r : ℕ). FoursLeft (slots_from (drop (i + 1) xs)) r q') (sym e) (subst (λ (r : ℕ). FoursLeft (slots_from (drop (i + 1) xs)) (four_place x p) r) (sym f) (left-step x (drop (i + 1) xs) p q (left-here xs i x p q lt here h)))

pub fours_of-more : (xs : List (Option Slot)) (i : ℕ) (x : Option Slot) (p q p' q' : ℕ) (out next goal : List ℕ) → i < length xs → x ≡ get_or xs i x → out ++ fours_of (slots_from (drop i xs)) p q ≡ goal → next ≡ out ++ four_bytes x p q → p' ≡ four_place x p → q' ≡ q + target_size x
    → next ++ fours_of (slots_from (drop (i + 1) xs)) p' q' ≡ goal
fours_of-more xs i x p q p' q' out next goal lt here h e f g =
    ap (λ (r : ℕ). next ++ fours_of (slots_from (drop (i + 1) xs)) r q') f ∙ ap (λ (r : ℕ). next ++ fours_of (slots_from (drop (i + 1) xs)) (four_place x p) r) g
    ∙ laid_more out next (four_bytes x p q) (fours_of (slots_from (drop (i + 1) xs)) (four_place x p) (q + target_size x)) (fours_of (slots_from (drop i xs)) p q) goal h (at_drop (λ ys. fours_of (slots_from ys) p q) xs i x lt here ∙ fours_of-step x (drop (i + 1) xs) p q) e

-- ---- a whole vtable, and a whole inline part

pub join : (o p q xs ys : List ℕ) → p ≡ o ++ xs → q ≡ p ++ ys → q ≡ o ++ (xs ++ ys)
join o p q xs ys e f = f ∙ ap (λ (t : List ℕ). t ++ ys) e ∙ append_assoc o xs ys

-- the last piece is the padding
pub join_padded : (o p q xs : List ℕ) (n : ℕ) → p ≡ o ++ xs → q ≡ p ++ replicate (gap n) 0 → n ≡ length xs → q ≡ o ++ padded xs
join_padded o p q xs n e f same = join o p q xs (replicate (gap n) 0) e f ∙ ap (λ (k : ℕ). o ++ (xs ++ replicate (gap k) 0)) same

counted_places : (c : WidthCounts) (s : SlotTrees) → Counted c s → places_of_counts c ≡ first_places s
counted_places c s h =
    ap (λ (e : ℕ). places_of_counts (record { eights = e; fours = c.fours; twos = c.twos; ones = c.ones })) h.eights
    ∙ ap (λ (f : ℕ). places_of_counts (record { eights = count_of eight s; fours = f; twos = c.twos; ones = c.ones })) h.fours
    ∙ ap (λ (t : ℕ). places_of_counts (record { eights = count_of eight s; fours = count_of four s; twos = t; ones = c.ones })) h.twos

pub vtable_laid : (o o1 o2 o3 o4 : List ℕ) (xs : List (Option Slot)) (c : WidthCounts) (n i : ℕ) (p : Places) → Counted c (slots_from xs) → n ≡ length xs → i ≡ inline_of_counts c → p ≡ places_of_counts c
    → o1 ≡ o ++ low_first 2 (4 + 2 * n) → o2 ≡ o1 ++ low_first 2 i → o3 ≡ o2 ++ entries (slots_from xs) p → o4 ≡ o3 ++ replicate (gap (4 + 2 * n)) 0 → o4 ≡ o ++ padded (vtable_of (slots_from xs))
vtable_laid o o1 o2 o3 o4 xs c n i p counted len inline places e1 e2 e3 e4 =
    let s : SlotTrees = slots_from xs in
    let size : 4 + 2 * n ≡ vtable_size s = ap (λ (k : ℕ). 4 + 2 * k) (len ∙ sym (slot_count-slots_from xs)) in
    let f1 : o1 ≡ o ++ low_first 2 (vtable_size s) = e1 ∙ ap (λ (k : ℕ). o ++ low_first 2 k) size in
    let f2 : o2 ≡ o1 ++ low_first 2 (inline_size s) = e2 ∙ ap (λ (k : ℕ). o1 ++ low_first 2 k) (inline ∙ inline_size-counted c s counted) in
    let f3 : o3 ≡ o2 ++ entries s (first_places s) = e3 ∙ ap (λ (q : Places). o2 ++ entries s q) (places ∙ counted_places c s counted) in
    join_padded o o3 o4 (vtable_of s) (4 + 2 * n) (join o o2 o3 (low_first 2 (vtable_size s) ++ low_first 2 (inline_size s)) (entries s (first_places s)) (join o o1 o2 (low_first 2 (vtable_size s)) (low_first 2 (inline_size s)) f1 f2) f3) e4 (size ∙ sym (length-vtable_of s))

pub inline_laid : (o o1 o2 o3 o4 o5 o6 o7 : List ℕ) (xs : List (Option Slot)) (c : WidthCounts) (h i : ℕ) (p : Places) → Counted c (slots_from xs) → h ≡ round_up (4 + 2 * length xs) → i ≡ inline_of_counts c → p ≡ places_of_counts c
    → o1 ≡ o ++ low_first 4 h → o2 ≡ o1 ++ replicate (p.eights - 4) 0 → o3 ≡ o2 ++ slots_of eight (slots_from xs) → o4 ≡ o3 ++ fours_of (slots_from xs) (h + p.fours) (h + round_up i) → o5 ≡ o4 ++ slots_of two (slots_from xs) → o6 ≡ o5 ++ slots_of one (slots_from xs)
    → o7 ≡ o6 ++ replicate (gap i) 0 → o7 ≡ o ++ padded (inline_of (slots_from xs))
inline_laid o o1 o2 o3 o4 o5 o6 o7 xs c h i p counted head_same inline places e1 e2 e3 e4 e5 e6 e7 =
    let s : SlotTrees = slots_from xs in
    let head_is : h ≡ head (table s) = head_same ∙ ap (λ (k : ℕ). round_up (4 + 2 * k)) (sym (slot_count-slots_from xs)) in
    let size : i ≡ inline_size s = inline ∙ inline_size-counted c s counted in
    let first : p ≡ first_places s = places ∙ counted_places c s counted in
    let f : List ℕ = fours_of s (head (table s) + (first_places s).fours) (own_size (table s)) in
    let a : List ℕ = low_first 4 (head (table s)) in
    let z : List ℕ = replicate (first_eight s - 4) 0 in
    let f1 : o1 ≡ o ++ a = e1 ∙ ap (λ (k : ℕ). o ++ low_first 4 k) head_is in
    let f2 : o2 ≡ o1 ++ z = e2 ∙ ap (λ (q : Places). o1 ++ replicate (q.eights - 4) 0) first in
    let f4 : o4 ≡ o3 ++ f = e4 ∙ ap (λ (q : Places). o3 ++ fours_of s (h + q.fours) (h + round_up i)) first ∙ ap (λ (k : ℕ). o3 ++ fours_of s (k + (first_places s).fours) (k + round_up i)) head_is ∙ ap (λ (k : ℕ). o3 ++ fours_of s (head (table s) + (first_places s).fours) (head (table s) + round_up k)) size in
    let g2 = join o o1 o2 a z f1 f2 in
    let g3 = join o o2 o3 (a ++ z) (slots_of eight s) g2 e3 in
    let g4 = join o o3 o4 (a ++ z ++ slots_of eight s) f g3 f4 in
    let g5 = join o o4 o5 (a ++ z ++ slots_of eight s ++ f) (slots_of two s) g4 e5 in
    let g6 = join o o5 o6 (a ++ z ++ slots_of eight s ++ f ++ slots_of two s) (slots_of one s) g5 e6 in
    join_padded o o6 o7 (inline_of s) i g6 e7 (size ∙ sym (length-inline_of s))

-- what the code has measured is below the limits
pub vtable_small : (xs : List (Option Slot)) → vtable_size (slots_from xs) ≤ 65535 → 4 + 2 * length xs ≤ 65535
vtable_small xs h = omega (arith, h, slot_count-slots_from xs)

pub behind_is : (xs : List (Option Slot)) (c : WidthCounts) (h r i : ℕ) → Counted c (slots_from xs) → h ≡ round_up (4 + 2 * length xs) → i ≡ inline_of_counts c → r ≡ round_up i → h + r ≡ own_size (table (slots_from xs))
behind_is xs c h r i counted head_same inline up =
    let s : SlotTrees = slots_from xs in
    let head_is : h ≡ round_up (vtable_size s) = head_same ∙ ap (λ (k : ℕ). round_up (4 + 2 * k)) (sym (slot_count-slots_from xs)) in
    let last : r ≡ round_up (inline_size s) = up ∙ ap round_up (inline ∙ inline_size-counted c s counted) in
    omega (arith, head_is, last)
