use Rattle.std.proofs.Common.{rules, ◌≡◌, ◌+◌, ◌*◌, ◌^◌, ◌<◌, length, ap, subst, ◌∙◌, [], ◌∷◌, ◌++◌}
use Rattle.std.proofs.Common.{arith}
use Rattle.std.specs.Option.{option_eq}
use Rattle.vortex_number.specs.PType.{byte_width_of}
use Rattle.vortex_codes.specs.Places.{place_of}
use Rattle.vortex_dict.proofs.NumberLemmas.{places_more}
use Rattle.vortex_dict.proofs.numbers.Numbers.add.Goals as goal

pub invariant_of-self-2 : goal.invariant_of-self-2
invariant_of-self-2 g c =
    let few : c.len-count.result ≡ length c.self.inside.values.items = search rules in
    places_more _ g.met.T.NativeValue.eq_law g.T.Ord.cmp (byte_width_of g.T.NativePType.PTYPE) c.self.inside.values.items _ c.self.inside.codes c.insert.new.codes c.self.inside.ordered c.insert.new.ordered c.self.inside.null c.insert.new.null c.args.value c.len-count.result c.self.invariant
    (ap (place_of (option_eq g.T.PartialEq.eq) c.args.value) c.self.view_is ∙ c.requires)
    (c.push_reserved.ensures.items ∙ ap (λ vs. vs ++ c.args.value ∷ []) c.in_ok-reserve.ensures.items) few (omega (arith, c.if-count.false)) (subst (λ w. w * (c.len-count.result + 1) < 2 ^ 32) (c.byte_width.ensures ∙ ap byte_width_of c.PTYPE.ensures) (c.has_room.ensures.0 (search rules))) c.in_ok-insert.ensures.inserted
