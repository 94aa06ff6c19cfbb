-- What is laid out is read again.
use Rattle.std.proofs.Common.{◌≡◌, ℕ, suc, ◌+◌, ◌-◌, ◌*◌, ◌%◌, ◌^◌, ◌≤◌, ◌<◌, true, List, [], ◌∷◌, ◌++◌, length, take, drop, Option, Some, None, refl, sym, ap, subst, ◌∙◌, arith, pos, ◌-ℤ◌, ℤ, length-append, append_assoc}
use Rattle.std.proofs.lemmas.List.{append-nil, length-replicate}
use Rattle.std.specs.Str.{IsUtf8}
use Rattle.std.specs.Prelude.{◌&&◌, nat_le, replicate, FitsSigned}
use Rattle.std.specs.Option.{option_map}
use Rattle.std.specs.Int.{w8, w32, cast_signed, cast_unsigned}
use Rattle.std.specs.List.{AllByRecursion}
use Rattle.std.proofs.lemmas.Int.{ints, to_z-of_z, to_z_pos}
use Rattle.std.proofs.lemmas.Bool.{leb-true, le-leb, eq-eqb}
use Rattle.std.specs.Cmp.Derive.{both_true}
use Rattle.vortex_flat.specs.Numbers.{number, natural, signed_8}
use Rattle.vortex_prelude.specs.Chain.{◌>>=◌}
use Rattle.vortex_flat.specs.Table.{TableShape, fits, table_at, field_at}
use Rattle.vortex_flat.specs.Targets.{VectorShape, element, if_present, root_place, follow, table_place, number_field, signed_field, target_field, vector_at, bytes_at, text_at}
use Rattle.vortex_flat.specs.Tree.{Wide, one, two, four, eight, wide, Tree, table, offsets, bytes, text, numbers, records, SlotTrees, no_slots, absent, number_slot, signed_slot, target_slot, Trees, no_trees, tree, slot_count, tree_count}
use Rattle.vortex_flat.specs.Layout.{low_first, gap, round_up, padded, count_of, vtable_size, Places, first_eight, first_places, inline_size, after, entries, head, own_size, size_of, targets_size, trees_size, slots_of, fours_of, offsets_of, vtable_of, inline_of, numbers_of, own_bytes, bytes_of, targets_bytes, trees_bytes, tables_fit, targets_fit, trees_fit, whole_of, layout_of}
use Rattle.vortex_flat.specs.Reads.{ReadsNumbers, ReadsVector, Reads, ReadsSlots, ReadsTrees, InRange, SlotsInRange, TreesInRange, ReadsAgain}
use Rattle.vortex_flat.proofs.TableLemmas.{guard_some, and_split, field_past, field_zero, field_here, table_here}
use Rattle.vortex_flat.proofs.TargetsLemmas.{vector_here, text_here}
use Rattle.vortex_flat.proofs.At.{At, At-prefix, At-behind, At-same, At-within, At-piece, number_of, number_at_place}
use Rattle.vortex_flat.proofs.Lengths.{length-low, length-padded, length-slots_of, length-fours_of, length-offsets_of, length-numbers_of, first_eight-least, length-vtable_of, length-inline_of, length-own_bytes, length-bytes_of}

-- ---- one field

-- a field whose entry was laid, and what stands at its place
found_field : (b : List ℕ) (t : TableShape) (k w e n : ℕ) (rest : List ℕ) → table_at b t.place ≡ Some t → t.vtable_size ≡ 4 + 2 * (k + suc n) → At b (t.vtable + (4 + 2 * k)) (low_first 2 e ++ rest)
    → 4 ≤ e → e + w ≤ t.inline_size → t.inline_size ≤ 65535 → field_at b t.place k w ≡ Some (Some (t.place + e))
found_field b t k w e n rest stands size a least within small =
    field_here b t t.place k w e stands (omega arith) (number_at_place b (t.vtable + (4 + 2 * k)) two e (At-prefix b _ (low_first 2 e) rest a) (omega arith)) (omega arith) least within

absent_field : (b : List ℕ) (t : TableShape) (k w n : ℕ) (rest : List ℕ) → table_at b t.place ≡ Some t → t.vtable_size ≡ 4 + 2 * (k + suc n) → At b (t.vtable + (4 + 2 * k)) (low_first 2 0 ++ rest) → field_at b t.place k w ≡ Some None
absent_field b t k w n rest stands size a =
    field_zero b t t.place k w 0 stands (omega arith) (number_at_place b (t.vtable + (4 + 2 * k)) two 0 (At-prefix b _ (low_first 2 0) rest a) (omega arith)) refl

present : {A B : Type 0} (o : Option (Option A)) (f : A → Option B) (i : A) (x : B) → o ≡ Some (Some i) → f i ≡ Some x → if_present o f ≡ Some (Some x)
present o f i x e g = ap (λ (p : Option (Option _)). if_present p f) e ∙ ap (option_map Some) g

-- ---- the slots of a table

-- the slots of one width that are still to be read: so many of w bytes each, from place p of the table on
record Lane (b : List ℕ) (place p w count size : ℕ) (xs : List ℕ) : Type 0 where
  least : 4 ≤ p
  within : p + w * count ≤ size
  lies : At b (place + p) xs

lane_here : (b : List ℕ) (place p w count size : ℕ) (xs ys : List ℕ) → Lane b place p w (suc count) size (xs ++ ys) → At b (place + p) xs
lane_here b place p w count size xs ys l = At-prefix b (place + p) xs ys l.lies

lane_within : (b : List ℕ) (place p w count size : ℕ) (xs : List ℕ) → Lane b place p w (suc count) size xs → p + w ≤ size
lane_within b place p w count size xs l = omega (arith, l.within)

lane_next : (b : List ℕ) (place p w count size : ℕ) (xs ys : List ℕ) → Lane b place p w (suc count) size (xs ++ ys) → length xs ≡ w → Lane b place (p + w) w count size ys
lane_next b place p w count size xs ys l e = record {
  least = omega (arith, l.least);
  within = omega (arith, l.within);
  lies = At-behind b (place + p) (place + (p + w)) xs ys l.lies (omega (arith, e));
}

-- what is still to be read of a table from slot k on: h is the size of its vtable, q where its next target's first byte is, both from its first byte
record Walk (b : List ℕ) (t : TableShape) (k : ℕ) (s : SlotTrees) (p : Places) (h q base : ℕ) : Type 0 where
  stands : table_at b t.place ≡ Some t
  place : t.place ≡ base + h
  size : t.vtable_size ≡ 4 + 2 * (k + slot_count s)
  small : t.inline_size ≤ 65535
  behind : h + t.inline_size ≤ q
  short : q + targets_size s < 2 ^ 32
  entries_at : At b (t.vtable + (4 + 2 * k)) (entries s p)
  eights : Lane b t.place p.eights 8 (count_of eight s) t.inline_size (slots_of eight s)
  fours : Lane b t.place p.fours 4 (count_of four s) t.inline_size (fours_of s (h + p.fours) q)
  twos : Lane b t.place p.twos 2 (count_of two s) t.inline_size (slots_of two s)
  ones : Lane b t.place p.ones 1 (count_of one s) t.inline_size (slots_of one s)
  targets_at : At b (base + q) (targets_bytes s)

next_entry : (b : List ℕ) (v k e : ℕ) (rest : List ℕ) → At b (v + (4 + 2 * k)) (low_first 2 e ++ rest) → At b (v + (4 + 2 * suc k)) rest
next_entry b v k e rest a = At-behind b (v + (4 + 2 * k)) (v + (4 + 2 * suc k)) (low_first 2 e) rest a (omega arith)

walk_absent : (b : List ℕ) (t : TableShape) (k : ℕ) (s : SlotTrees) (p : Places) (h q base : ℕ) → Walk b t k (absent s) p h q base → Walk b t (suc k) s p h q base
walk_absent b t k s p h q base w = record {
  stands = w.stands;
  place = w.place;
  size = omega (arith, w.size);
  small = w.small;
  behind = w.behind;
  short = w.short;
  entries_at = next_entry b t.vtable k 0 (entries s p) w.entries_at;
  eights = w.eights;
  fours = w.fours;
  twos = w.twos;
  ones = w.ones;
  targets_at = w.targets_at;
}

walk_eight : (b : List ℕ) (t : TableShape) (k n : ℕ) (s : SlotTrees) (p : Places) (h q base : ℕ) → Walk b t k (number_slot eight n s) p h q base → Walk b t (suc k) s (after p eight) h q base
walk_eight b t k n s p h q base w = record {
  stands = w.stands;
  place = w.place;
  size = omega (arith, w.size);
  small = w.small;
  behind = w.behind;
  short = w.short;
  entries_at = next_entry b t.vtable k p.eights (entries s (after p eight)) w.entries_at;
  eights = lane_next b t.place p.eights 8 (count_of eight s) t.inline_size (low_first 8 n) (slots_of eight s) w.eights refl;
  fours = w.fours;
  twos = w.twos;
  ones = w.ones;
  targets_at = w.targets_at;
}

walk_four : (b : List ℕ) (t : TableShape) (k n : ℕ) (s : SlotTrees) (p : Places) (h q base : ℕ) → Walk b t k (number_slot four n s) p h q base → Walk b t (suc k) s (after p four) h q base
walk_four b t k n s p h q base w =
    let next = lane_next b t.place p.fours 4 (count_of four s) t.inline_size (low_first 4 n) (fours_of s (h + p.fours + 4) q) w.fours refl in
    record {
      stands = w.stands;
      place = w.place;
      size = omega (arith, w.size);
      small = w.small;
      behind = w.behind;
      short = w.short;
      entries_at = next_entry b t.vtable k p.fours (entries s (after p four)) w.entries_at;
      eights = w.eights;
      twos = w.twos;
      ones = w.ones;
      targets_at = w.targets_at;
      fours = subst (λ (i : ℕ). Lane b t.place (p.fours + 4) 4 (count_of four s) t.inline_size (fours_of s i q)) (omega arith) next;
    }

walk_two : (b : List ℕ) (t : TableShape) (k n : ℕ) (s : SlotTrees) (p : Places) (h q base : ℕ) → Walk b t k (number_slot two n s) p h q base → Walk b t (suc k) s (after p two) h q base
walk_two b t k n s p h q base w = record {
  stands = w.stands;
  place = w.place;
  size = omega (arith, w.size);
  small = w.small;
  behind = w.behind;
  short = w.short;
  entries_at = next_entry b t.vtable k p.twos (entries s (after p two)) w.entries_at;
  twos = lane_next b t.place p.twos 2 (count_of two s) t.inline_size (low_first 2 n) (slots_of two s) w.twos refl;
  eights = w.eights;
  fours = w.fours;
  ones = w.ones;
  targets_at = w.targets_at;
}

walk_one : (b : List ℕ) (t : TableShape) (k n : ℕ) (s : SlotTrees) (p : Places) (h q base : ℕ) → Walk b t k (number_slot one n s) p h q base → Walk b t (suc k) s (after p one) h q base
walk_one b t k n s p h q base w = record {
  stands = w.stands;
  place = w.place;
  size = omega (arith, w.size);
  small = w.small;
  behind = w.behind;
  short = w.short;
  entries_at = next_entry b t.vtable k p.ones (entries s (after p one)) w.entries_at;
  ones = lane_next b t.place p.ones 1 (count_of one s) t.inline_size (low_first 1 n) (slots_of one s) w.ones refl;
  eights = w.eights;
  fours = w.fours;
  twos = w.twos;
  targets_at = w.targets_at;
}

walk_signed : (b : List ℕ) (t : TableShape) (k : ℕ) (z : ℤ) (s : SlotTrees) (p : Places) (h q base : ℕ) → Walk b t k (signed_slot z s) p h q base → Walk b t (suc k) s (after p one) h q base
walk_signed b t k z s p h q base w = record {
  stands = w.stands;
  place = w.place;
  size = omega (arith, w.size);
  small = w.small;
  behind = w.behind;
  short = w.short;
  entries_at = next_entry b t.vtable k p.ones (entries s (after p one)) w.entries_at;
  ones = lane_next b t.place p.ones 1 (count_of one s) t.inline_size (cast_unsigned w8 z ∷ []) (slots_of one s) w.ones refl;
  eights = w.eights;
  fours = w.fours;
  twos = w.twos;
  targets_at = w.targets_at;
}

walk_target : (b : List ℕ) (t : TableShape) (k : ℕ) (u : Tree) (s : SlotTrees) (p : Places) (h q base : ℕ) → Walk b t k (target_slot u s) p h q base → Walk b t (suc k) s (after p four) h (q + size_of u) base
walk_target b t k u s p h q base w =
    let next = lane_next b t.place p.fours 4 (count_of four s) t.inline_size (low_first 4 (q + head u - (h + p.fours))) (fours_of s (h + p.fours + 4) (q + size_of u)) w.fours refl in
    record {
      stands = w.stands;
      place = w.place;
      size = omega (arith, w.size);
      small = w.small;
      behind = omega (arith, w.behind);
      short = omega (arith, w.short);
      entries_at = next_entry b t.vtable k p.fours (entries s (after p four)) w.entries_at;
      eights = w.eights;
      twos = w.twos;
      ones = w.ones;
      fours = subst (λ (i : ℕ). Lane b t.place (p.fours + 4) 4 (count_of four s) t.inline_size (fours_of s i (q + size_of u))) (omega arith) next;
      targets_at = At-behind b (base + q) (base + (q + size_of u)) (bytes_of u) (targets_bytes s) w.targets_at (omega (arith, length-bytes_of u));
    }

-- the field of each kind of slot
number_read : (b : List ℕ) (t : TableShape) (k e n m count : ℕ) (v : Wide) (rest ys : List ℕ) → table_at b t.place ≡ Some t → t.vtable_size ≡ 4 + 2 * (k + suc m) → t.inline_size ≤ 65535 → At b (t.vtable + (4 + 2 * k)) (low_first 2 e ++ rest)
    → Lane b t.place e (wide v) (suc count) t.inline_size (low_first (wide v) n ++ ys) → n < 2 ^ (8 * wide v) → number_field b t.place k (wide v) ≡ Some (Some n)
number_read b t k e n m count v rest ys stands size small entries l range =
    present (field_at b t.place k (wide v)) (λ i. number b i (wide v)) (t.place + e) n
    (found_field b t k (wide v) e m rest stands size entries l.least (lane_within b t.place e (wide v) count t.inline_size (low_first (wide v) n ++ ys) l) small)
    (number_at_place b (t.place + e) v n (lane_here b t.place e (wide v) count t.inline_size (low_first (wide v) n) ys l) range)

number_found : (b : List ℕ) (t : TableShape) (k n : ℕ) (v : Wide) (s : SlotTrees) (p : Places) (h q base : ℕ) → Walk b t k (number_slot v n s) p h q base → n < 2 ^ (8 * wide v) → number_field b t.place k (wide v) ≡ Some (Some n)
number_found b t k n one s p h q base w range = number_read b t k p.ones n (slot_count s) (count_of one s) one (entries s (after p one)) (slots_of one s) w.stands w.size w.small w.entries_at w.ones range
number_found b t k n two s p h q base w range = number_read b t k p.twos n (slot_count s) (count_of two s) two (entries s (after p two)) (slots_of two s) w.stands w.size w.small w.entries_at w.twos range
number_found b t k n four s p h q base w range = number_read b t k p.fours n (slot_count s) (count_of four s) four (entries s (after p four)) (fours_of s (h + p.fours + 4) q) w.stands w.size w.small w.entries_at w.fours range
number_found b t k n eight s p h q base w range = number_read b t k p.eights n (slot_count s) (count_of eight s) eight (entries s (after p eight)) (slots_of eight s) w.stands w.size w.small w.entries_at w.eights range

signed_found : (b : List ℕ) (t : TableShape) (k : ℕ) (z : ℤ) (s : SlotTrees) (p : Places) (h q base : ℕ) → Walk b t k (signed_slot z s) p h q base → FitsSigned w8 z → signed_field b t.place k ≡ Some (Some z)
signed_found b t k z s p h q base w range =
    let x : ℕ = cast_unsigned w8 z in
    let here = lane_here b t.place p.ones 1 (count_of one s) t.inline_size (x ∷ []) (slots_of one s) w.ones in
    let byte : number b (t.place + p.ones) 1 ≡ Some x = number_of b (t.place + p.ones) (x ∷ []) here ∙ ap Some (omega arith) in
    present (field_at b t.place k 1) (signed_8 b) (t.place + p.ones) z
    (found_field b t k 1 p.ones (slot_count s) (entries s (after p one)) w.stands w.size w.entries_at w.ones.least (lane_within b t.place p.ones 1 (count_of one s) t.inline_size (x ∷ slots_of one s) w.ones) w.small)
    (ap (option_map (cast_signed w8)) byte ∙ ap Some (to_z-of_z w8 z range))

-- a table stands no farther than it is large
head_within : (t : Tree) → head t ≤ size_of t
head_within (table s) = omega arith
head_within (offsets ts) = omega arith
head_within (bytes xs) = omega arith
head_within (text xs) = omega arith
head_within (numbers xs) = omega arith
head_within (records xs) = omega arith

-- where an offset leads
followed : (b : List ℕ) (i from to goal : ℕ) → At b i (low_first 4 (to - from)) → from ≤ to → to < 2 ^ 32 → i + (to - from) ≡ goal → follow b i ≡ Some goal
followed b i from to goal a le small e = ap (option_map (λ distance. i + distance)) (number_at_place b i four (to - from) a (omega arith)) ∙ ap Some e

target_found : (b : List ℕ) (t : TableShape) (k : ℕ) (u : Tree) (s : SlotTrees) (p : Places) (h q base : ℕ) → Walk b t k (target_slot u s) p h q base → target_field b t.place k ≡ Some (Some (base + q + head u))
target_found b t k u s p h q base w =
    let there : List ℕ = fours_of s (h + p.fours + 4) (q + size_of u) in
    let here = lane_here b t.place p.fours 4 (count_of four s) t.inline_size (low_first 4 (q + head u - (h + p.fours))) there w.fours in
    let inside : p.fours + 4 ≤ t.inline_size = omega (arith, w.fours.within) in
    present (field_at b t.place k 4) (follow b) (t.place + p.fours) (base + q + head u)
    (found_field b t k 4 p.fours (slot_count s) (entries s (after p four)) w.stands w.size w.entries_at w.fours.least inside w.small)
    (followed b (t.place + p.fours) (h + p.fours) (q + head u) (base + q + head u) here (omega (arith, w.behind)) (omega (arith, w.short, head_within u)) (omega (arith, w.place, w.behind)))

walk_number : (b : List ℕ) (t : TableShape) (k n : ℕ) (v : Wide) (s : SlotTrees) (p : Places) (h q base : ℕ) → Walk b t k (number_slot v n s) p h q base → Walk b t (suc k) s (after p v) h q base
walk_number b t k n one s p h q base w = walk_one b t k n s p h q base w
walk_number b t k n two s p h q base w = walk_two b t k n s p h q base w
walk_number b t k n four s p h q base w = walk_four b t k n s p h q base w
walk_number b t k n eight s p h q base w = walk_eight b t k n s p h q base w

-- ---- the table itself

back_to : (a h : ℕ) → h < 2 ^ 31 → natural (pos (a + h) -ℤ cast_signed w32 h) ≡ Some a
back_to a h small =
    let signed : cast_signed w32 h ≡ pos h = to_z_pos w32 h small in
    let less : pos (a + h) -ℤ pos h ≡ pos a = omega (arith, ints) in
    ap (λ (z : ℤ). natural (pos (a + h) -ℤ z)) signed ∙ ap natural less

even_size : (n : ℕ) → (4 + 2 * n) % 2 ≡ 0
even_size n = omega arith

abbrev shape_of_table : ℕ → SlotTrees → TableShape
shape_of_table at s = record { place = at + round_up (vtable_size s); vtable = at; vtable_size = vtable_size s; inline_size = inline_size s }

laid_fits : (b : List ℕ) (at : ℕ) (s : SlotTrees) → at + vtable_size s ≤ length b → 4 ≤ inline_size s → at + round_up (vtable_size s) + inline_size s ≤ length b → fits (shape_of_table at s) (length b) ≡ true
laid_fits b at s v least i =
    both_true (both_true (both_true (both_true (eq-eqb _ _ (even_size (slot_count s))) (le-leb _ _ (omega arith))) (le-leb _ _ v)) (le-leb _ _ least)) (le-leb _ _ i)

-- the parts of a table
record Parts (b : List ℕ) (at : ℕ) (s : SlotTrees) : Type 0 where
  vtable_at : At b at (vtable_of s)
  inline_at : At b (at + round_up (vtable_size s)) (inline_of s)
  targets_at : At b (at + own_size (table s)) (targets_bytes s)
  vtable_small : vtable_size s ≤ 65535
  inline_small : inline_size s ≤ 65535

inline_least : (s : SlotTrees) → 4 ≤ inline_size s
inline_least s = omega (arith, first_eight-least s)

table_stands : (b : List ℕ) (at : ℕ) (s : SlotTrees) → Parts b at s → table_at b (at + round_up (vtable_size s)) ≡ Some (shape_of_table at s)
table_stands b at s a =
    let h : ℕ = round_up (vtable_size s) in
    let whole = a.inline_at in
    let v : List ℕ = low_first 2 (vtable_size s) ++ low_first 2 (inline_size s) in
    let prefix = At-prefix b at v (entries s (first_places s)) a.vtable_at in
    table_here b (shape_of_table at s) h (record {
      back = number_at_place b (at + h) four h (At-prefix b (at + h) (low_first 4 h) _ whole) (omega (arith, a.vtable_small));
      vtable = back_to at h (omega (arith, a.vtable_small));
      vtable_size = number_at_place b at two (vtable_size s) (At-prefix b at (low_first 2 (vtable_size s)) (low_first 2 (inline_size s)) prefix) (omega (arith, a.vtable_small));
      inline_size = number_at_place b (at + 2) two (inline_size s) (At-behind b at (at + 2) (low_first 2 (vtable_size s)) (low_first 2 (inline_size s)) prefix refl) (omega (arith, a.inline_small));
    }) (sym (laid_fits b at s (omega (arith, At-within b at (vtable_of s) a.vtable_at, length-vtable_of s)) (inline_least s) (omega (arith, At-within b (at + h) (inline_of s) whole, length-inline_of s))))

first_walk : (b : List ℕ) (at : ℕ) (s : SlotTrees) → Parts b at s → size_of (table s) < 2 ^ 32
    → Walk b (shape_of_table at s) 0 s (first_places s) (round_up (vtable_size s)) (own_size (table s)) at
first_walk b at s a short =
    let h : ℕ = round_up (vtable_size s) in
    let i : ℕ = at + h in
    let f : Places = first_places s in
    let top : List ℕ = low_first 4 h ++ replicate (first_eight s - 4) 0 in
    let es : List ℕ = slots_of eight s in
    let fs : List ℕ = fours_of s (h + f.fours) (own_size (table s)) in
    let ts : List ℕ = slots_of two s in
    let os : List ℕ = slots_of one s in
    let top_long : length top ≡ first_eight s = omega (arith, length-append (low_first 4 h) (replicate (first_eight s - 4) 0), length-replicate {A = ℕ} (first_eight s - 4) 0, first_eight-least s) in
    let es_long = length-slots_of eight s refl in
    let fs_long = length-fours_of s (h + f.fours) (own_size (table s)) in
    let ts_long = length-slots_of two s refl in
    let to_es = length-append top es in
    let to_fs = length-append (top ++ es) fs in
    let to_ts = length-append (top ++ es ++ fs) ts in
    let whole = a.inline_at in
    let upto_ts = At-prefix b i (top ++ es ++ fs ++ ts) os whole in
    let upto_fs = At-prefix b i (top ++ es ++ fs) ts upto_ts in
    let upto_es = At-prefix b i (top ++ es) fs upto_fs in
    record {
      stands = table_stands b at s a;
      place = refl;
      size = omega arith;
      small = a.inline_small;
      behind = omega arith;
      short = short;
      entries_at = At-behind b at (at + (4 + 2 * 0)) (low_first 2 (vtable_size s) ++ low_first 2 (inline_size s)) (entries s f) a.vtable_at refl;
      eights = record { least = first_eight-least s; within = omega arith; lies = At-behind b i (i + f.eights) top es upto_es (omega (arith, top_long)) };
      fours = record { least = omega (arith, first_eight-least s); within = omega arith; lies = At-behind b i (i + f.fours) (top ++ es) fs upto_fs (omega (arith, top_long, es_long, to_es)) };
      twos = record { least = omega (arith, first_eight-least s); within = omega arith; lies = At-behind b i (i + f.twos) (top ++ es ++ fs) ts upto_ts (omega (arith, top_long, es_long, fs_long, to_es, to_fs)) };
      ones = record { least = omega (arith, first_eight-least s); within = omega arith; lies = At-behind b i (i + f.ones) (top ++ es ++ fs ++ ts) os whole (omega (arith, top_long, es_long, fs_long, ts_long, to_es, to_fs, to_ts)) };
      targets_at = a.targets_at;
    }

parts_of : (b : List ℕ) (at : ℕ) (s : SlotTrees) → vtable_size s ≤ 65535 → inline_size s ≤ 65535 → At b at (bytes_of (table s)) → Parts b at s
parts_of b at s v i a =
    let own = At-prefix b at (own_bytes (table s)) (targets_bytes s) a in
    record {
      vtable_at = At-prefix b at (vtable_of s) (replicate (gap (length (vtable_of s))) 0) (At-prefix b at (padded (vtable_of s)) (padded (inline_of s)) own);
      inline_at = At-prefix b _ (inline_of s) (replicate (gap (length (inline_of s))) 0)
          (At-behind b at (at + round_up (vtable_size s)) (padded (vtable_of s)) (padded (inline_of s)) own (ap (λ (n : ℕ). at + n) (sym (length-padded (vtable_of s) ∙ ap round_up (length-vtable_of s)))));
      targets_at = At-behind b at (at + own_size (table s)) (own_bytes (table s)) (targets_bytes s) a (ap (λ (n : ℕ). at + n) (sym (length-own_bytes (table s))));
      vtable_small = v;
      inline_small = i;
    }

-- ---- vectors

abbrev shape_of_vector : ℕ → ℕ → ℕ → VectorShape
shape_of_vector at w n = record { first = at + 4; width = w; count = n }

vector_stands : (b : List ℕ) (at w n : ℕ) (rest : List ℕ) → At b at (low_first 4 n ++ rest) → n < 2 ^ 32 → w * n ≤ length rest → vector_at b at w ≡ Some (shape_of_vector at w n)
vector_stands b at w n rest a small long =
    vector_here b at w n (number_at_place b at four n (At-prefix b at (low_first 4 n) rest a) small) (omega (arith, At-within b at (low_first 4 n ++ rest) a, length-append (low_first 4 n) rest))

numbers_read : (b : List ℕ) (v : VectorShape) (w : Wide) (i : ℕ) (ns : List ℕ) → v.width ≡ wide w → At b (element v i) (numbers_of (wide w) ns) → AllByRecursion (λ n. n < 2 ^ (8 * wide w)) ns → ReadsNumbers b v i ns
numbers_read b v w i [] e a range = tt
numbers_read b v w i (n ∷ ns) e a range =
    let here = number_at_place b (element v i) w n (At-prefix b (element v i) (low_first (wide w) n) (numbers_of (wide w) ns) a) range.0 in
    let next : element v (suc i) ≡ element v i + length (low_first (wide w) n) = omega (arith, length-low (wide w) n, ap (λ (x : ℕ). x * suc i) e, ap (λ (x : ℕ). x * i) e) in
    (ap (number b (element v i)) e ∙ here, numbers_read b v w (suc i) ns e (At-behind b (element v i) (element v (suc i)) (low_first (wide w) n) (numbers_of (wide w) ns) a next) range.1)

vector_read : (b : List ℕ) (at : ℕ) (w : Wide) (ns : List ℕ) → At b at (low_first 4 (length ns) ++ numbers_of (wide w) ns) → length ns < 2 ^ 32 → AllByRecursion (λ n. n < 2 ^ (8 * wide w)) ns → ReadsVector b at (wide w) ns
vector_read b at w ns a small range =
    let rest : List ℕ = numbers_of (wide w) ns in
    let first = At-behind b at (element (shape_of_vector at (wide w) (length ns)) 0) (low_first 4 (length ns)) rest a (omega arith) in
    (shape_of_vector at (wide w) (length ns), vector_stands b at (wide w) (length ns) rest a small (omega (arith, length-numbers_of (wide w) ns)), refl, numbers_read b (shape_of_vector at (wide w) (length ns)) w 0 ns refl first range)

bytes_read : (b : List ℕ) (at : ℕ) (xs rest : List ℕ) → At b at (low_first 4 (length xs) ++ (xs ++ rest)) → length xs < 2 ^ 32 → bytes_at b at ≡ Some xs
bytes_read b at xs rest a small =
    let stands = vector_stands b at 1 (length xs) (xs ++ rest) a small (omega (arith, length-append xs rest)) in
    let here = At-prefix b (at + 4) xs rest (At-behind b at (at + 4) (low_first 4 (length xs)) (xs ++ rest) a refl) in
    ap (option_map (λ (v : VectorShape). take v.count (drop v.first b))) stands ∙ ap Some (At-piece b (at + 4) xs here)

text_read : (b : List ℕ) (at : ℕ) (xs : List ℕ) → IsUtf8 xs → size_of (text xs) < 2 ^ 32 → At b at (bytes_of (text xs)) → text_at b at ≡ Some xs
text_read b at xs utf8 short a =
    let laid : List ℕ = low_first 4 (length xs) ++ xs ++ 0 ∷ [] in
    let zeros : List ℕ = replicate (gap (length laid)) 0 in
    let here : At b at (low_first 4 (length xs) ++ (xs ++ (0 ∷ zeros))) = At-same b at (laid ++ zeros) _ a (ap (λ (ys : List ℕ). low_first 4 (length xs) ++ ys) (append_assoc xs (0 ∷ []) zeros)) in
    text_here b at xs (bytes_read b at xs (0 ∷ zeros) here (omega (arith, short))) utf8

-- ---- the whole tree

at_start : (b : List ℕ) (at : ℕ) (t : Tree) → head t ≡ 0 → Reads b at t → Reads b (at + head t) t
at_start b at t e r = subst (λ (p : ℕ). Reads b p t) (omega (arith, e)) r

-- what stays to be read of a vector of offsets: q is where its next target's first byte is, from its own first byte
record Row (b : List ℕ) (v : VectorShape) (i : ℕ) (ts : Trees) (q at : ℕ) : Type 0 where
  width : v.width ≡ 4
  first : v.first ≡ at + 4
  offsets_at : At b (at + (4 + 4 * i)) (offsets_of ts (4 + 4 * i) q)
  targets_at : At b (at + q) (trees_bytes ts)
  behind : 4 + 4 * (i + tree_count ts) ≤ q
  short : q + trees_size ts < 2 ^ 32

row_next : (b : List ℕ) (v : VectorShape) (i : ℕ) (t : Tree) (ts : Trees) (q at : ℕ) → Row b v i (tree t ts) q at → Row b v (suc i) ts (q + size_of t) at
row_next b v i t ts q at r =
    let rest = At-behind b (at + (4 + 4 * i)) (at + (4 + 4 * suc i)) (low_first 4 (q + head t - (4 + 4 * i))) (offsets_of ts (4 + 4 * i + 4) (q + size_of t)) r.offsets_at (omega arith) in
    record {
      width = r.width;
      first = r.first;
      offsets_at = subst (λ (p : ℕ). At b (at + (4 + 4 * suc i)) (offsets_of ts p (q + size_of t))) (omega arith) rest;
      targets_at = At-behind b (at + q) (at + (q + size_of t)) (bytes_of t) (trees_bytes ts) r.targets_at (omega (arith, length-bytes_of t));
      behind = omega (arith, r.behind);
      short = omega (arith, r.short);
    }

row_follows : (b : List ℕ) (v : VectorShape) (i : ℕ) (t : Tree) (ts : Trees) (q at : ℕ) → Row b v i (tree t ts) q at → follow b (element v i) ≡ Some (at + q + head t)
row_follows b v i t ts q at r =
    let there : element v i ≡ at + (4 + 4 * i) = omega (arith, r.first, ap (λ (w : ℕ). w * i) r.width) in
    let here = At-prefix b (at + (4 + 4 * i)) (low_first 4 (q + head t - (4 + 4 * i))) (offsets_of ts (4 + 4 * i + 4) (q + size_of t)) r.offsets_at in
    ap (follow b) there ∙ followed b (at + (4 + 4 * i)) (4 + 4 * i) (q + head t) (at + q + head t) here (omega (arith, r.behind)) (omega (arith, r.short, head_within t)) (omega (arith, r.behind))

first_row : (b : List ℕ) (at : ℕ) (ts : Trees) → At b at (bytes_of (offsets ts)) → size_of (offsets ts) < 2 ^ 32 → Row b (shape_of_vector at 4 (tree_count ts)) 0 ts (own_size (offsets ts)) at
first_row b at ts a short =
    let own = At-prefix b at (own_bytes (offsets ts)) (trees_bytes ts) a in
    let laid = At-prefix b at (low_first 4 (tree_count ts) ++ offsets_of ts 4 (own_size (offsets ts))) (replicate (gap (length (low_first 4 (tree_count ts) ++ offsets_of ts 4 (own_size (offsets ts))))) 0) own in
    record {
      width = refl;
      first = refl;
      offsets_at = At-behind b at (at + (4 + 4 * 0)) (low_first 4 (tree_count ts)) (offsets_of ts 4 (own_size (offsets ts))) laid refl;
      targets_at = At-behind b at (at + own_size (offsets ts)) (own_bytes (offsets ts)) (trees_bytes ts) a (ap (λ (n : ℕ). at + n) (sym (length-own_bytes (offsets ts))));
      behind = omega arith;
      short = short;
    }

offsets_stand : (b : List ℕ) (at : ℕ) (ts : Trees) → At b at (bytes_of (offsets ts)) → size_of (offsets ts) < 2 ^ 32 → vector_at b at 4 ≡ Some (shape_of_vector at 4 (tree_count ts))
offsets_stand b at ts a short =
    let own = At-prefix b at (own_bytes (offsets ts)) (trees_bytes ts) a in
    let laid = At-prefix b at (low_first 4 (tree_count ts) ++ offsets_of ts 4 (own_size (offsets ts))) (replicate (gap (length (low_first 4 (tree_count ts) ++ offsets_of ts 4 (own_size (offsets ts))))) 0) own in
    vector_stands b at 4 (tree_count ts) (offsets_of ts 4 (own_size (offsets ts))) laid (omega (arith, short)) (omega (arith, length-offsets_of ts 4 (own_size (offsets ts))))

mutual
  reads_tree : (b : List ℕ) (at : ℕ) (t : Tree) → InRange t → tables_fit t ≡ true → size_of t < 2 ^ 32 → At b at (bytes_of t) → Reads b (at + head t) t
  reads_tree b at (table s) range fit short a =
      let sizes = and_split (nat_le (vtable_size s) 65535 && nat_le (inline_size s) 65535) (targets_fit s) fit in
      let both = and_split (nat_le (vtable_size s) 65535) (nat_le (inline_size s) 65535) sizes.0 in
      let parts = parts_of b at s (leb-true _ _ both.0) (leb-true _ _ both.1) a in
      (ap (option_map (λ (x : TableShape). x.place)) (table_stands b at s parts), reads_slots b (shape_of_table at s) 0 s (first_places s) (round_up (vtable_size s)) (own_size (table s)) at range sizes.1 (first_walk b at s parts short))
  reads_tree b at (offsets ts) range fit short a =
      at_start b at (offsets ts) refl (shape_of_vector at 4 (tree_count ts), offsets_stand b at ts a short, refl, reads_trees b (shape_of_vector at 4 (tree_count ts)) 0 ts (own_size (offsets ts)) at range fit (first_row b at ts a short))
  reads_tree b at (bytes xs) range fit short a =
      at_start b at (bytes xs) refl (bytes_read b at xs (replicate (gap (length (low_first 4 (length xs) ++ xs))) 0) a (omega (arith, short)))
  reads_tree b at (text xs) range fit short a =
      at_start b at (text xs) refl (text_read b at xs range short a)
  reads_tree b at (numbers xs) range fit short a =
      at_start b at (numbers xs) refl (vector_read b at four xs (At-prefix b at (low_first 4 (length xs) ++ numbers_of 4 xs) (replicate (gap (length (low_first 4 (length xs) ++ numbers_of 4 xs))) 0) a) (omega (arith, short)) range)
  reads_tree b at (records xs) range fit short a =
      at_start b at (records xs) refl (vector_read b at eight xs (At-prefix b at (low_first 4 (length xs) ++ numbers_of 8 xs) (replicate (gap (length (low_first 4 (length xs) ++ numbers_of 8 xs))) 0) a) (omega (arith, short)) range)

  reads_slots : (b : List ℕ) (t : TableShape) (k : ℕ) (s : SlotTrees) (p : Places) (h q base : ℕ) → SlotsInRange s → targets_fit s ≡ true → Walk b t k s p h q base → ReadsSlots b t.place k s
  reads_slots b t k no_slots p h q base range fit w = λ j n le. field_past b t t.place j n w.stands (omega (arith, w.size, le))
  reads_slots b t k (absent s) p h q base range fit w = (λ n. absent_field b t k n (slot_count s) (entries s p) w.stands w.size w.entries_at, reads_slots b t (suc k) s p h q base range fit (walk_absent b t k s p h q base w))
  reads_slots b t k (number_slot v n s) p h q base range fit w = (number_found b t k n v s p h q base w range.0, reads_slots b t (suc k) s (after p v) h q base range.1 fit (walk_number b t k n v s p h q base w))
  reads_slots b t k (signed_slot z s) p h q base range fit w = (signed_found b t k z s p h q base w range.0, reads_slots b t (suc k) s (after p one) h q base range.1 fit (walk_signed b t k z s p h q base w))
  reads_slots b t k (target_slot u s) p h q base range fit w =
      let fits = and_split (tables_fit u) (targets_fit s) fit in (
        (base + q + head u, target_found b t k u s p h q base w, reads_tree b (base + q) u range.0 fits.0 (omega (arith, w.short)) (At-prefix b (base + q) (bytes_of u) (targets_bytes s) w.targets_at)),
        reads_slots b t (suc k) s (after p four) h (q + size_of u) base range.1 fits.1 (walk_target b t k u s p h q base w),
      )

  reads_trees : (b : List ℕ) (v : VectorShape) (i : ℕ) (ts : Trees) (q at : ℕ) → TreesInRange ts → trees_fit ts ≡ true → Row b v i ts q at → ReadsTrees b v i ts
  reads_trees b v i no_trees q at range fit r = tt
  reads_trees b v i (tree t ts) q at range fit r =
      let fits = and_split (tables_fit t) (trees_fit ts) fit in (
        (at + q + head t, row_follows b v i t ts q at r, reads_tree b (at + q) t range.0 fits.0 (omega (arith, r.short)) (At-prefix b (at + q) (bytes_of t) (trees_bytes ts) r.targets_at)),
        reads_trees b v (suc i) ts (q + size_of t) at range.1 fits.1 (row_next b v i t ts q at r),
      )

root_found : (b : List ℕ) (s : SlotTrees) (p : ℕ) → number b 0 4 ≡ Some p → table_place b p ≡ Some p → root_place b ≡ Some p
root_found b s p e f = ap (λ (o : Option ℕ). option_map (λ (x : TableShape). x.place) (o >>= table_at b)) e ∙ f

-- What is laid out is read again: the buffer begins with the place of the tree.
pub read_again_lem : (s : SlotTrees) (b : List ℕ) → InRange (table s) → layout_of (table s) ≡ Some b → ReadsAgain b (table s)
unfolding layout_of
read_again_lem s b range e =
    let t : Tree = table s in
    let g = guard_some (tables_fit t && nat_le (8 + size_of t) 4_294_967_295) (whole_of t) b e in
    let fits = and_split (tables_fit t) (nat_le (8 + size_of t) 4_294_967_295) g.0 in
    let short : 8 + size_of t ≤ 4_294_967_295 = leb-true _ _ fits.1 in
    let all : At b 0 (whole_of t) = record { before = []; behind = []; parts = sym g.1 ∙ sym (append-nil (whole_of t)); place = refl } in
    let prefix = At-prefix b 0 (low_first 4 (8 + head t)) (low_first 4 0) (At-prefix b 0 (low_first 4 (8 + head t) ++ low_first 4 0) (bytes_of t) all) in
    let root : number b 0 4 ≡ Some (8 + head t) = number_at_place b 0 four (8 + head t) prefix (omega (arith, short, head_within t)) in
    let tree = At-behind b 0 8 (low_first 4 (8 + head t) ++ low_first 4 0) (bytes_of t) all refl in
    let reads = reads_tree b 8 t range fits.0 (omega (arith, short)) tree in
    (8 + head t, root_found b s (8 + head t) root reads.0, reads)
