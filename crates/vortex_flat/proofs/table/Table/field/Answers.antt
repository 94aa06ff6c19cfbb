use Rattle.std.proofs.Common.{◌≡◌, ℕ, ◌+◌, ◌*◌, Some, None, refl, ap, ◌∙◌, arith, inl, inr}
use Rattle.vortex_flat.specs.Numbers.{number}
use Rattle.vortex_flat.specs.inner.Shape.{shape_of}
use Rattle.vortex_flat.proofs.NumbersLemmas.{passes_on}
use Rattle.vortex_flat.proofs.TableLemmas.{field_no_entry, field_zero, field_off, field_here}
use Rattle.vortex_flat.proofs.table.Table.field.Goals as goal
use Rattle.vortex_flat.proofs.table.Table.field.Goals.{then-entry-lt4-via-then-entry-lt4, then-entry-lt4-via-else-entry-lt4+then-from-entry}

pub returns-then-entry-eq0 : goal.returns-then-entry-eq0
returns-then-entry-eq0 c =
    let b = c.self.inside.bytes.now in
    let t = shape_of c.self.inside.shape in
    let entry : number b (t.vtable + (4 + 2 * c.args.k)) 2 ≡ Some c.in_ok-u16_at.field-0 = ap (λ (i : ℕ). number b i 2) (omega arith) ∙ c.in_ok-u16_at.ensures in
    rw (← c.self.view_is) (field_zero b t t.place c.args.k c.args.width c.in_ok-u16_at.field-0 c.self.invariant (omega arith) entry (omega arith))

pub returns-then-entry-lt4 : goal.returns-then-entry-lt4
returns-then-entry-lt4 c =
    let b = c.self.inside.bytes.now in
    let t = shape_of c.self.inside.shape in
    let entry : number b (t.vtable + (4 + 2 * c.args.k)) 2 ≡ Some c.in_ok-u16_at.field-0 = ap (λ (i : ℕ). number b i 2) (omega arith) ∙ c.in_ok-u16_at.ensures in
    elim c.then-entry-lt4.branch [
      | then-entry-lt4-via-then-entry-lt4 w ↦ (refl, rw (← c.self.view_is) (field_off b t t.place c.args.k c.args.width c.in_ok-u16_at.field-0 c.self.invariant (omega arith) entry (omega arith) (inl (omega arith))))
      | then-entry-lt4-via-else-entry-lt4+then-from-entry w ↦ (refl, rw (← c.self.view_is) (field_off b t t.place c.args.k c.args.width c.in_ok-u16_at.field-0 c.self.invariant (omega arith) entry (omega arith) (inr (omega arith))))
    ]

pub returns-in_err-u16_at : goal.returns-in_err-u16_at
returns-in_err-u16_at c =
    let b = c.self.inside.bytes.now in
    let t = shape_of c.self.inside.shape in
    let entry : number b (t.vtable + (4 + 2 * c.args.k)) 2 ≡ None = ap (λ (i : ℕ). number b i 2) (omega arith) ∙ c.in_err-u16_at.ensures.1 in
    passes_on (λ x. x) c.from_residual.result c.in_err-u16_at.field-0.0 _ c.from_residual.ensures.1 c.in_err-u16_at.ensures.0 (rw (← c.self.view_is) (field_no_entry b t t.place c.args.k c.args.width c.self.invariant (omega arith) entry))

pub returns : goal.returns
returns c =
    let b = c.self.inside.bytes.now in
    let t = shape_of c.self.inside.shape in
    let entry : number b (t.vtable + (4 + 2 * c.args.k)) 2 ≡ Some c.in_ok-u16_at.field-0 = ap (λ (i : ℕ). number b i 2) (omega arith) ∙ c.in_ok-u16_at.ensures in
    let here = field_here b t t.place c.args.k c.args.width c.in_ok-u16_at.field-0 c.self.invariant (omega arith) entry (omega arith) (omega arith) (omega arith) in
    rw (← c.self.view_is) (here ∙ ap (λ (e : ℕ). Some (Some (t.place + e))) (omega arith))
