use Rattle.std.proofs.Common.{◌≡◌, ℕ, ◌+◌, ◌*◌, ◌^◌, ◌<◌, ◌∙◌, length, ap, subst, Bool, true, List}
use Rattle.std.proofs.Common.{Option, None}
use Rattle.vortex_number.specs.PType.{byte_width_of}
use Rattle.vortex_dict.specs.inner.Numbers.{place_in}
use Rattle.vortex_dict.proofs.NumberLemmas.{one_value, one_values, one_too_large, one_places}
use Rattle.vortex_dict.proofs.NumberLemmas.{places_looked}
use Rattle.vortex_dict.proofs.numbers.Numbers.find_or_put.Goals as goal

abbrev IsRoom : {T : Type 0} → List T → Option ℕ → Bool → ℕ → Type 0
IsRoom values found may width = found ≡ None → (may ≡ true) × (width * (length values + 1) < 2 ^ 32) × (length values + 1 < 2 ^ 32)

pub invariant_of-self : goal.invariant_of-self
invariant_of-self g c =
    let width = c.byte_width-width.ensures ∙ ap byte_width_of c.PTYPE.ensures in
    let new = subst (IsRoom c.self.inside.values.items (place_in g.T.PartialEq.eq g.T.Ord.cmp c.self.inside.codes None c.args.number) c.args.may_add) width c.in-Some.ensures.new in
    one_places _ g.met.T.NativeValue.eq_law g.T.Ord.cmp (byte_width_of g.T.NativePType.PTYPE) c.self.inside.values.items c.self.inside.codes c.self.inside.ordered c.self.inside.null c.args.number c.self.invariant c.in-Some.ensures.by_hash c.in-Some.added.place c.in-Some.ensures.place _ c.in-Some.ensures.values c.args.may_add new c.look.new.codes c.in-Some.ensures.inserted

pub returns-clause-values : goal.returns-clause-values
returns-clause-values g c =
    let width = c.byte_width-width.ensures ∙ ap byte_width_of c.PTYPE.ensures in
    let new = subst (IsRoom c.self.inside.values.items (place_in g.T.PartialEq.eq g.T.Ord.cmp c.self.inside.codes None c.args.number) c.args.may_add) width c.in-Some.ensures.new in
    rw (← c.self.view_is) (c.put_in_order.ensures ∙ one_values _ g.met.T.NativeValue.eq_law g.T.Ord.cmp (byte_width_of g.T.NativePType.PTYPE) c.self.inside.values.items c.self.inside.codes c.self.inside.ordered c.self.inside.null c.args.number c.self.invariant c.in-Some.ensures.by_hash c.in-Some.added.place c.in-Some.ensures.place _ c.in-Some.ensures.values c.args.may_add new)

pub returns-clause-code : goal.returns-clause-code
returns-clause-code g c =
    let width = c.byte_width-width.ensures ∙ ap byte_width_of c.PTYPE.ensures in
    let new = subst (IsRoom c.self.inside.values.items (place_in g.T.PartialEq.eq g.T.Ord.cmp c.self.inside.codes None c.args.number) c.args.may_add) width c.in-Some.ensures.new in
    rw (← c.self.view_is) (one_value _ g.met.T.NativeValue.eq_law g.T.Ord.cmp (byte_width_of g.T.NativePType.PTYPE) c.self.inside.values.items c.self.inside.codes c.self.inside.ordered c.self.inside.null c.args.number c.self.invariant c.in-Some.ensures.by_hash c.in-Some.added.place c.in-Some.ensures.place _ c.in-Some.ensures.values c.args.may_add new)

pub returns-clause-too_large : goal.returns-clause-too_large
returns-clause-too_large g c =
    let width = c.byte_width-width.ensures ∙ ap byte_width_of c.PTYPE.ensures in
    let new = subst (IsRoom c.self.inside.values.items (place_in g.T.PartialEq.eq g.T.Ord.cmp c.self.inside.codes None c.args.number) c.args.may_add) width c.in-Some.ensures.new in
    rw (← c.self.view_is) (one_too_large _ g.met.T.NativeValue.eq_law g.T.Ord.cmp (byte_width_of g.T.NativePType.PTYPE) c.self.inside.values.items c.self.inside.codes c.self.inside.ordered c.self.inside.null c.args.number c.self.invariant c.in-Some.ensures.by_hash c.in-Some.added.place c.in-Some.ensures.place _ c.in-Some.ensures.values c.args.may_add new _ _)

pub invariant_of-self-in_default : goal.invariant_of-self-in_default
invariant_of-self-in_default g c = places_looked _ g.met.T.NativeValue.eq_law g.T.Ord.cmp (byte_width_of g.T.NativePType.PTYPE) c.self.inside.values.items c.self.inside.codes c.self.inside.ordered c.self.inside.null c.self.invariant _ c.look.new.codes c.in_default.ensures.same c.in_default.ensures.stays
