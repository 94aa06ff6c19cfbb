-- How a node leads to the places of its buffers.
use Rattle.std.proofs.Common.{◌≡◌, ℕ, ◌+◌, ◌*◌, ◌<◌, ◌≤◌, Bool, true, false, cond, leb, List, [], ◌∷◌, length, get_or, take, drop, Option, Some, None, refl, sym, ap, ◌∙◌, arith, ℤ, pos, ◌-ℤ◌}
use Rattle.std.specs.Prelude.{option_and_then, ◌==◌, ◌&&◌, nat_le, if◌then◌else◌}
use Rattle.std.specs.Option.{option_map}
use Rattle.std.specs.Int.{w16, w32, cast_signed, from_le_bytes}
use Rattle.std.proofs.lemmas.Bool.{leb-false}
use Rattle.std.proofs.lemmas.List.{get_or-take, get_or-drop}
use Rattle.vortex_flat.specs.Numbers.{number, natural}
use Rattle.vortex_flat.specs.Table.{TableShape, fits, table_at, field_in, field_at}
use Rattle.vortex_flat.specs.Targets.{VectorShape, follow, if_present, or_empty, target_field, vector_at, vector_field}
use Rattle.vortex_flat.proofs.NumbersLemmas.{number_2, number_within, piece_here}
use Rattle.vortex_flat.proofs.TableLemmas.{bind_some, guard_some, stands}
use Rattle.vortex_body.specs.declared.schema.TheConstants.{NODE_BUFFERS}

-- what leads from the node at place p to the first of the places of its buffers
pub record Leads (b : List ℕ) (p first : ℕ) : Type 0 where
  pub table : TableShape
  pub entry : ℕ
  pub distance : ℕ
  pub table_is : table_at b p ≡ Some table
  pub entry_within : table.vtable + 12 ≤ length b
  pub entry_is : number b (table.vtable + 4 + 2 * NODE_BUFFERS) 2 ≡ Some entry
  pub distance_is : number b (p + entry) 4 ≡ Some distance
  pub within : p + entry + distance + 4 ≤ length b
  pub first_is : p + entry + distance + 4 ≡ first

-- ---- taking definitions apart

present : {A B : Type 0} (o : Option (Option A)) (f : A → Option B) (y : B) → if_present o f ≡ Some (Some y) → (x : A) × (o ≡ Some (Some x)) × (f x ≡ Some y)
present None f y e = absurd cc
present (Some None) f y e = absurd cc
present {B = B} (Some (Some x)) f y e = (x, refl, by (f x) e)
  where
    by : (o : Option B) → option_map Some o ≡ Some (Some y) → o ≡ Some y
    by None e = absurd cc
    by (Some z) e = ap Some (let same : z ≡ y = cc in same)

not_empty : (field : Option (Option VectorShape)) (v : VectorShape) → or_empty 4 field ≡ Some v → 0 < v.count → field ≡ Some (Some v)
not_empty None v e lt = absurd cc
not_empty (Some None) v e lt = absurd (let none : 0 ≡ v.count = ap (λ (w : VectorShape). w.count) (by e) in omega (arith, none, lt))
  where
    by : ◌≡◌ {A = Option VectorShape} (Some (record { first = 0; width = 4; count = 0 })) (Some v) → ◌≡◌ {A = VectorShape} (record { first = 0; width = 4; count = 0 }) v
    by e = cc
not_empty (Some (Some w)) v e lt = ap (λ (u : VectorShape). Some (Some u)) (by w e)
  where
    by : (w : VectorShape) → Some w ≡ Some v → w ≡ v
    by w e = cc

starts : (b : List ℕ) (p : ℕ) (v : VectorShape) → vector_at b p 4 ≡ Some v → (p + 4 ≤ length b) × (p + 4 ≡ v.first)
unfolding vector_at
starts b p v e =
    let n = bind_some (number b p 4) (λ n. cond (leb (p + 4 + 4 * n) (length b)) (Some (record { first = p + 4; width = 4; count = n })) None) v e in
    let g = guard_some (leb (p + 4 + 4 * n.0) (length b)) (record { first = p + 4; width = 4; count = n.0 }) v n.2 in
    (number_within b p 4 n.0 n.1, ap (λ (s : VectorShape). s.first) g.1)

entry_of : (b : List ℕ) (t : TableShape) (k w j : ℕ) → field_in b t k w ≡ Some (Some j) → (entry : ℕ) × (4 + 2 * k < t.vtable_size) × (number b (t.vtable + 4 + 2 * k) 2 ≡ Some entry) × (t.place + entry ≡ j)
unfolding field_in
entry_of b t k w j e = by (leb t.vtable_size (4 + 2 * k)) refl e
  where
    behind : ℕ → Option (Option ℕ)
    behind entry = if entry == 0 then Some None else (if nat_le 4 entry && nat_le (entry + w) t.inline_size then Some (Some (t.place + entry)) else None)

    last : (entry : ℕ) (z c : Bool) → cond z (Some None) (cond c (Some (Some (t.place + entry))) None) ≡ Some (Some j) → t.place + entry ≡ j
    last entry true c e = absurd cc
    last entry false true e = cc
    last entry false false e = absurd cc

    by : (s : Bool) → leb t.vtable_size (4 + 2 * k) ≡ s → cond s (Some None) (option_and_then behind (number b (t.vtable + 4 + 2 * k) 2)) ≡ Some (Some j) → (entry : ℕ) × (4 + 2 * k < t.vtable_size) × (number b (t.vtable + 4 + 2 * k) 2 ≡ Some entry) × (t.place + entry ≡ j)
    by true h e = absurd cc
    by false h e =
        let entry = bind_some (number b (t.vtable + 4 + 2 * k) 2) behind (Some j) e in
        (entry.0, leb-false t.vtable_size (4 + 2 * k) h, entry.1, last entry.0 (entry.0 == 0) (nat_le 4 entry.0 && nat_le (entry.0 + w) t.inline_size) entry.2)

mapped : (f : ℕ → ℕ) (o : Option ℕ) (y : ℕ) → option_map f o ≡ Some y → (x : ℕ) × (o ≡ Some x) × (f x ≡ y)
mapped f (Some x) y e = (x, refl, cc)
mapped f None y e = absurd cc

pub leads : (b : List ℕ) (p : ℕ) (v : VectorShape) → or_empty 4 (vector_field b p NODE_BUFFERS 4) ≡ Some v → 0 < v.count → Leads b p v.first
leads b p v e lt =
    let i = present (target_field b p NODE_BUFFERS) (λ i. vector_at b i 4) v (not_empty (vector_field b p NODE_BUFFERS 4) v e lt) in
    let j = present (field_at b p NODE_BUFFERS 4) (follow b) i.0 i.1 in
    let t = bind_some (table_at b p) (λ t. field_in b t NODE_BUFFERS 4) (Some j.0) j.1 in
    let entry = entry_of b t.0 NODE_BUFFERS 4 j.0 t.2 in
    let here : p + entry.0 ≡ j.0 = ap (λ q. q + entry.0) (sym (stands b p t.0 t.1).place) ∙ entry.3 in
    let d = mapped (λ distance. j.0 + distance) (number b j.0 4) i.0 j.2 in
    let s = starts b i.0 v i.2 in
    record {
      table = t.0;
      entry = entry.0;
      distance = d.0;
      table_is = t.1;
      entry_within = omega (arith, number_within b (t.0.vtable + 4 + 2 * NODE_BUFFERS) 2 entry.0 entry.2);
      entry_is = entry.2;
      distance_is = ap (λ q. number b q 4) here ∙ d.1;
      within = omega (arith, here, d.2, s.0);
      first_is = omega (arith, here, d.2, s.1);
    }

-- ---- the place of the vtable

pub no_table : (b : List ℕ) (p x : ℕ) (t : TableShape) → table_at b p ≡ None → table_at b p ≡ Some t → x ≡ t.vtable
no_table b p x t e h = absurd (by (table_at b p) e h)
  where
    by : (o : Option TableShape) → o ≡ None → o ≡ Some t → ⊥
    by None e h = cc
    by (Some u) e h = cc

same_number : (o : Option ℕ) (m n : ℕ) → o ≡ Some m → o ≡ Some n → m ≡ n
same_number None m n e h = absurd cc
same_number (Some k) m n e h = cc

-- a table whose vtable is there
abbrev after : List ℕ → ℕ → ℕ → Option TableShape
after b p v =
    option_and_then (λ z. option_and_then (λ g. cond (fits (record { place = p; vtable = v; vtable_size = z; inline_size = g }) (length b)) (Some (record { place = p; vtable = v; vtable_size = z; inline_size = g })) None) (number b (v + 2) 2)) (number b v 2)

vtable_after : (b : List ℕ) (p v : ℕ) (t : TableShape) → after b p v ≡ Some t → v ≡ t.vtable
vtable_after b p v t e =
    let z = bind_some (number b v 2) (λ z. option_and_then (λ g. cond (fits (record { place = p; vtable = v; vtable_size = z; inline_size = g }) (length b)) (Some (record { place = p; vtable = v; vtable_size = z; inline_size = g })) None) (number b (v + 2) 2)) t e in
    let g = bind_some (number b (v + 2) 2) (λ g. cond (fits (record { place = p; vtable = v; vtable_size = z.0; inline_size = g }) (length b)) (Some (record { place = p; vtable = v; vtable_size = z.0; inline_size = g })) None) t z.2 in
    let w = guard_some (fits (record { place = p; vtable = v; vtable_size = z.0; inline_size = g.0 }) (length b)) (record { place = p; vtable = v; vtable_size = z.0; inline_size = g.0 }) t g.2 in
    ap (λ (s : TableShape). s.vtable) w.1

pub vtable_is : (b : List ℕ) (p n x : ℕ) (t : TableShape) → number b p 4 ≡ Some n → natural (pos p -ℤ cast_signed w32 n) ≡ Some x → table_at b p ≡ Some t → x ≡ t.vtable
unfolding table_at
vtable_is b p n x t e f h =
    let back = bind_some (option_map (cast_signed w32) (number b p 4)) (λ back. option_and_then (after b p) (natural (pos p -ℤ back))) t h in
    let v = bind_some (natural (pos p -ℤ back.0)) (after b p) t back.2 in
    let same : cast_signed w32 n ≡ back.0 = by (cast_signed w32 n) back.0 (sym (ap (option_map (cast_signed w32)) e) ∙ back.1) in
    same_number (natural (pos p -ℤ cast_signed w32 n)) x v.0 f (ap (λ z. natural (pos p -ℤ z)) same ∙ v.1) ∙ vtable_after b p v.0 t v.2
  where
    by : (y z : ℤ) → Some y ≡ Some z → y ≡ z
    by y z e = cc

-- ---- numbers of two bytes

in_piece : (b : List ℕ) (i k j : ℕ) → k < 2 → i + k ≡ j → get_or (take 2 (drop i b)) k 0 ≡ get_or b j 0
in_piece b i k j lt e = get_or-take 2 (drop i b) k 0 lt ∙ get_or-drop i b k 0 ∙ ap (λ n. get_or b n 0) e

pub two_bytes : (b : List ℕ) (i : ℕ) → i + 2 ≤ length b → number b i 2 ≡ Some (from_le_bytes w16 (get_or b i 0 ∷ get_or b (i + 1) 0 ∷ []))
two_bytes b i h =
    number_2 b i (take 2 (drop i b)) (piece_here b i 2 h)
    ∙ (λ k. Some (from_le_bytes w16 (in_piece b i 0 i (omega arith) (omega arith) k ∷ in_piece b i 1 (i + 1) (omega arith) refl k ∷ [])))

-- ---- what the code has read

-- the entry stands within the buffer
pub vtable_within : (b : List ℕ) (p first x : ℕ) → Leads b p first → ((t : TableShape) → table_at b p ≡ Some t → x ≡ t.vtable) → x + 4 + 2 * NODE_BUFFERS + 2 ≤ length b
vtable_within b p first x l is = omega (arith, is l.table l.table_is, l.entry_within)

read_entry : (b : List ℕ) (p first x entry : ℕ) (l : Leads b p first) → ((t : TableShape) → table_at b p ≡ Some t → x ≡ t.vtable) → Some entry ≡ number b (x + 4 + 2 * NODE_BUFFERS) 2 → entry ≡ l.entry
read_entry b p first x entry l is e =
    same_number (number b (x + 4 + 2 * NODE_BUFFERS) 2) entry l.entry (sym e) (ap (λ v. number b (v + 4 + 2 * NODE_BUFFERS) 2) (is l.table l.table_is) ∙ l.entry_is)

pub entry_read : (b : List ℕ) (p first x entry : ℕ) (l : Leads b p first) → ((t : TableShape) → table_at b p ≡ Some t → x ≡ t.vtable) → (read k : ℕ) → entry ≡ read → Some read ≡ number b (x + 4 + 2 * k) 2 → k ≡ NODE_BUFFERS → entry ≡ l.entry
entry_read b p first x entry l is read k same h field = read_entry b p first x entry l is (ap Some same ∙ h ∙ ap (λ n. number b (x + 4 + 2 * n) 2) field)

-- where the distance stands, and what it is
pub distance_here : (b : List ℕ) (p first entry : ℕ) (l : Leads b p first) → entry ≡ l.entry → number b (p + entry) 4 ≡ Some l.distance
distance_here b p first entry l e = ap (λ n. number b (p + n) 4) e ∙ l.distance_is

pub distance_read : (b : List ℕ) (p first entry distance : ℕ) (l : Leads b p first) → entry ≡ l.entry → number b (p + entry) 4 ≡ Some distance → distance ≡ l.distance
distance_read b p first entry distance l e h = same_number (number b (p + entry) 4) distance l.distance h (distance_here b p first entry l e)

pub not_missing : (b : List ℕ) (p first entry : ℕ) (l : Leads b p first) → entry ≡ l.entry → number b (p + entry) 4 ≡ None → ⊥
not_missing b p first entry l e h = by (number b (p + entry) 4) (distance_here b p first entry l e) h
  where
    by : (o : Option ℕ) → o ≡ Some l.distance → o ≡ None → ⊥
    by None e h = cc
    by (Some k) e h = cc

-- the distance stands within the buffer
pub field_within : (b : List ℕ) (p first entry : ℕ) (l : Leads b p first) → entry ≡ l.entry → p + entry + 4 ≤ length b
field_within b p first entry l e = omega (arith, e, l.within)

pub target_within : (b : List ℕ) (p first entry distance : ℕ) (l : Leads b p first) → entry ≡ l.entry → number b (p + entry) 4 ≡ Some distance → p + entry + distance + 4 ≤ length b
target_within b p first entry distance l e h = omega (arith, e, distance_read b p first entry distance l e h, l.within)

pub first_read : (b : List ℕ) (p first entry distance : ℕ) (l : Leads b p first) → entry ≡ l.entry → number b (p + entry) 4 ≡ Some distance → p + entry + distance + 4 ≡ first
first_read b p first entry distance l e h = omega (arith, e, distance_read b p first entry distance l e h, l.first_is)
