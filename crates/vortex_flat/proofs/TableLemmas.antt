-- What stands at a place, step by step.
use Rattle.std.proofs.Common.{◌≡◌, ℕ, zero, suc, ◌+◌, ◌*◌, ◌^◌, ◌≤◌, ◌<◌, ◌%◌, Bool, true, false, cond, eqb, ◌≢◌, inl, inr, subst, List, length, Option, Some, None, refl, sym, ap, ◌∙◌, arith, pos, ◌-ℤ◌}
use Rattle.std.specs.Prelude.{IfSome, ◌&&◌, ◌==◌, ◌⊎◌, nat_le, if◌then◌else◌}
use Rattle.std.specs.Option.{option_map}
use Rattle.std.specs.Int.{w32, cast_signed}
use Rattle.std.proofs.lemmas.Bool.{leb-true, le-leb, lt-leb}
use Rattle.std.proofs.Math.Dec.{eqb-suc-zero}
use Rattle.vortex_flat.specs.Numbers.{number, natural}
use Rattle.vortex_prelude.specs.Chain.{◌>>=◌}
use Rattle.vortex_flat.specs.Table.{TableShape, fits, table_at, field_in, field_at}
use Rattle.vortex_flat.proofs.NumbersLemmas.{number_past}

shape : ℕ → ℕ → ℕ → ℕ → TableShape
shape p v z g = record { place = p; vtable = v; vtable_size = z; inline_size = g }

pub table_no_back : (b : List ℕ) (p : ℕ) → number b p 4 ≡ None → table_at b p ≡ None
unfolding table_at
table_no_back b p e = rw e refl

-- what follows the place of the vtable
after_vtable : List ℕ → ℕ → ℕ → Option TableShape
after_vtable b p v = do
  z ← number b v 2
  g ← number b (v + 2) 2
  if fits (record { place = p; vtable = v; vtable_size = z; inline_size = g }) (length b) then Some (record { place = p; vtable = v; vtable_size = z; inline_size = g }) else None

table_from : (b : List ℕ) (p n : ℕ) → number b p 4 ≡ Some n → table_at b p ≡ natural (pos p -ℤ cast_signed w32 n) >>= after_vtable b p
unfolding table_at after_vtable
table_from b p n e = rw e refl

no_vtable : (b : List ℕ) (p : ℕ) (v : Option ℕ) → IfSome v (λ v. 2 ^ 64 ≤ v) → length b < 2 ^ 64 → v >>= after_vtable b p ≡ None
unfolding after_vtable
no_vtable b p None h lt = refl
no_vtable b p (Some v) h lt = rw (number_past b v 2 (omega arith)) refl

pub table_no_vtable : (b : List ℕ) (p n : ℕ) → number b p 4 ≡ Some n → IfSome (natural (pos p -ℤ cast_signed w32 n)) (λ v. 2 ^ 64 ≤ v) → length b < 2 ^ 64 → table_at b p ≡ None
table_no_vtable b p n e h lt = table_from b p n e ∙ no_vtable b p (natural (pos p -ℤ cast_signed w32 n)) h lt

pub table_no_size : (b : List ℕ) (p n v : ℕ) → number b p 4 ≡ Some n → natural (pos p -ℤ cast_signed w32 n) ≡ Some v → number b v 2 ≡ None → table_at b p ≡ None
unfolding after_vtable
table_no_size b p n v e f g = table_from b p n e ∙ rw (f, g) refl

pub table_no_inline : (b : List ℕ) (p n v z : ℕ) → number b p 4 ≡ Some n → natural (pos p -ℤ cast_signed w32 n) ≡ Some v → number b v 2 ≡ Some z → number b (v + 2) 2 ≡ None → table_at b p ≡ None
unfolding after_vtable
table_no_inline b p n v z e f g h = table_from b p n e ∙ rw (f, g, h) refl

-- what the code has read of a table
pub record Reads (b : List ℕ) (t : TableShape) (n : ℕ) : Type 0 where
  pub back : number b t.place 4 ≡ Some n
  pub vtable : natural (pos t.place -ℤ cast_signed w32 n) ≡ Some t.vtable
  pub vtable_size : number b t.vtable 2 ≡ Some t.vtable_size
  pub inline_size : number b (t.vtable + 2) 2 ≡ Some t.inline_size

table_is : (b : List ℕ) (t : TableShape) (n : ℕ) → Reads b t n → table_at b t.place ≡ (if fits t (length b) then Some t else None)
unfolding after_vtable
table_is b t n r = table_from b t.place n r.back ∙ rw (r.vtable, r.vtable_size, r.inline_size) refl

pub table_here : (b : List ℕ) (t : TableShape) (n : ℕ) → Reads b t n → true ≡ fits t (length b) → table_at b t.place ≡ Some t
table_here b t n r e = table_is b t n r ∙ ap (λ (c : Bool). if c then Some t else None) (sym e)

pub table_unfit : (b : List ℕ) (t : TableShape) (n : ℕ) → Reads b t n → false ≡ fits t (length b) → table_at b t.place ≡ None
table_unfit b t n r e = table_is b t n r ∙ ap (λ (c : Bool). if c then Some t else None) (sym e)

pub bind_some : {A B : Type 0} (o : Option A) (f : A → Option B) (y : B) → (o >>= f) ≡ Some y → (x : A) × (o ≡ Some x) × (f x ≡ Some y)
bind_some (Some x) f y e = (x, refl, e)
bind_some None f y e = absurd cc

pub guard_some : {A : Type 0} (c : Bool) (x y : A) → cond c (Some x) None ≡ Some y → (c ≡ true) × (x ≡ y)
guard_some true x y e = (refl, cc)
guard_some false x y e = absurd cc

pub and_split : (a b : Bool) → a && b ≡ true → (a ≡ true) × (b ≡ true)
and_split true b e = (refl, e)
and_split false b e = absurd cc

-- what the sizes and places of a table keep to
pub record Sized (b : List ℕ) (t : TableShape) : Type 0 where
  pub vtable_least : 4 ≤ t.vtable_size
  pub vtable_within : t.vtable + t.vtable_size ≤ length b
  pub inline_least : 4 ≤ t.inline_size
  pub inline_within : t.place + t.inline_size ≤ length b

sized_from_fits : (b : List ℕ) (t : TableShape) → fits t (length b) ≡ true → Sized b t
sized_from_fits b t e =
    let one = and_split ((t.vtable_size % 2 == 0) && nat_le 4 t.vtable_size && nat_le (t.vtable + t.vtable_size) (length b) && nat_le 4 t.inline_size) (nat_le (t.place + t.inline_size) (length b)) e in
    let two = and_split ((t.vtable_size % 2 == 0) && nat_le 4 t.vtable_size && nat_le (t.vtable + t.vtable_size) (length b)) (nat_le 4 t.inline_size) one.0 in
    let three = and_split ((t.vtable_size % 2 == 0) && nat_le 4 t.vtable_size) (nat_le (t.vtable + t.vtable_size) (length b)) two.0 in
    let four = and_split (t.vtable_size % 2 == 0) (nat_le 4 t.vtable_size) three.0 in
    record { vtable_least = leb-true _ _ four.1; vtable_within = leb-true _ _ three.1; inline_least = leb-true _ _ two.1; inline_within = leb-true _ _ one.1 }

-- what a table that stands somewhere is
pub record Stands (b : List ℕ) (p : ℕ) (t : TableShape) : Type 0 where
  pub place : t.place ≡ p
  pub sized : Sized b t

stands_after : (b : List ℕ) (p v : ℕ) (t : TableShape) → after_vtable b p v ≡ Some t → Stands b p t
unfolding after_vtable
stands_after b p v t e =
    let z = bind_some (number b v 2) (λ z. number b (v + 2) 2 >>= λ g. if fits (record { place = p; vtable = v; vtable_size = z; inline_size = g }) (length b) then Some (record { place = p; vtable = v; vtable_size = z; inline_size = g }) else None) t e in
    let g = bind_some (number b (v + 2) 2) (λ g. if fits (record { place = p; vtable = v; vtable_size = z.0; inline_size = g }) (length b) then Some (record { place = p; vtable = v; vtable_size = z.0; inline_size = g }) else None) t z.2 in
    let w = guard_some (fits (record { place = p; vtable = v; vtable_size = z.0; inline_size = g.0 }) (length b)) (record { place = p; vtable = v; vtable_size = z.0; inline_size = g.0 }) t g.2 in
    subst (λ (s : TableShape). Stands b p s) w.1 (record { place = refl; sized = sized_from_fits b (record { place = p; vtable = v; vtable_size = z.0; inline_size = g.0 }) w.0 })

pub stands : (b : List ℕ) (p : ℕ) (t : TableShape) → table_at b p ≡ Some t → Stands b p t
unfolding table_at after_vtable
stands b p t e =
    let back = bind_some (option_map (cast_signed w32) (number b p 4)) (λ back. natural (pos p -ℤ back) >>= after_vtable b p) t e in
    let v = bind_some (natural (pos p -ℤ back.0)) (after_vtable b p) t back.2 in
    stands_after b p v.0 t v.2

-- a table stands at its own place
pub at_own_place : (b : List ℕ) (p : ℕ) (t : TableShape) → table_at b p ≡ Some t → table_at b t.place ≡ Some t
at_own_place b p t e = subst (λ (q : ℕ). table_at b q ≡ Some t) (sym (stands b p t e).place) e

pub table_sized : (b : List ℕ) (p : ℕ) (t : TableShape) → table_at b p ≡ Some t → Sized b t
table_sized b p t e = (stands b p t e).sized

ne-eqb : (n : ℕ) → n ≢ 0 → eqb n 0 ≡ false
ne-eqb zero h = absurd (h refl)
ne-eqb (suc n) h = eqb-suc-zero n

both_fail : {A : Type 0} (a b : Bool) (x : A) → b ≡ false → (if a && b then Some x else None) ≡ None
both_fail true b x e = rw e refl
both_fail false b x e = refl

field_is : (b : List ℕ) (t : TableShape) (p k w : ℕ) → table_at b p ≡ Some t → field_at b p k w ≡ field_in b t k w
field_is b t p k w e = rw e refl

pub field_past : (b : List ℕ) (t : TableShape) (p k w : ℕ) → table_at b p ≡ Some t → t.vtable_size ≤ 4 + 2 * k → field_at b p k w ≡ Some None
unfolding field_in
field_past b t p k w e h = field_is b t p k w e ∙ rw le-leb refl

pub field_no_entry : (b : List ℕ) (t : TableShape) (p k w : ℕ) → table_at b p ≡ Some t → 4 + 2 * k < t.vtable_size → number b (t.vtable + (4 + 2 * k)) 2 ≡ None → field_at b p k w ≡ None
unfolding field_in
field_no_entry b t p k w e h n =
    let m : number b (t.vtable + 4 + 2 * k) 2 ≡ None = ap (λ (i : ℕ). number b i 2) (omega arith) ∙ n in
    field_is b t p k w e ∙ rw (lt-leb, m) refl

entry_of : (b : List ℕ) (t : TableShape) (p k w entry : ℕ) → table_at b p ≡ Some t → 4 + 2 * k < t.vtable_size → number b (t.vtable + (4 + 2 * k)) 2 ≡ Some entry
    → field_at b p k w ≡ (if entry == 0 then Some None else (if nat_le 4 entry && nat_le (entry + w) t.inline_size then Some (Some (t.place + entry)) else None))
unfolding field_in
entry_of b t p k w entry e h n =
    let m : number b (t.vtable + 4 + 2 * k) 2 ≡ Some entry = ap (λ (i : ℕ). number b i 2) (omega arith) ∙ n in
    field_is b t p k w e ∙ rw (lt-leb, m) refl

pub field_zero : (b : List ℕ) (t : TableShape) (p k w entry : ℕ) → table_at b p ≡ Some t → 4 + 2 * k < t.vtable_size → number b (t.vtable + (4 + 2 * k)) 2 ≡ Some entry → entry ≡ 0 → field_at b p k w ≡ Some None
field_zero b t p k w entry e h n z = entry_of b t p k w entry e h n ∙ rw z refl

off_entry : (w inline place entry : ℕ) → entry ≢ 0 → (entry < 4) ⊎ (inline < entry + w) → (if entry == 0 then Some None else (if nat_le 4 entry && nat_le (entry + w) inline then Some (Some (place + entry)) else None)) ≡ None
off_entry w inline place entry z (inl h) = rw (ne-eqb, lt-leb) refl
off_entry w inline place entry z (inr h) = rw ne-eqb (both_fail (nat_le 4 entry) (nat_le (entry + w) inline) (Some (place + entry)) (lt-leb _ _ h))

pub field_off : (b : List ℕ) (t : TableShape) (p k w entry : ℕ) → table_at b p ≡ Some t → 4 + 2 * k < t.vtable_size → number b (t.vtable + (4 + 2 * k)) 2 ≡ Some entry → entry ≢ 0 → (entry < 4) ⊎ (t.inline_size < entry + w) → field_at b p k w ≡ None
field_off b t p k w entry e h n z off = entry_of b t p k w entry e h n ∙ off_entry w t.inline_size t.place entry z off

pub field_here : (b : List ℕ) (t : TableShape) (p k w entry : ℕ) → table_at b p ≡ Some t → 4 + 2 * k < t.vtable_size → number b (t.vtable + (4 + 2 * k)) 2 ≡ Some entry → entry ≢ 0 → 4 ≤ entry → entry + w ≤ t.inline_size → field_at b p k w ≡ Some (Some (t.place + entry))
field_here b t p k w entry e h n z least within = entry_of b t p k w entry e h n ∙ rw (ne-eqb, le-leb, le-leb) refl
