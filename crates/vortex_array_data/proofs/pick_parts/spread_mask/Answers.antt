use Rattle.std.proofs.Common.{rules, ◌≡◌, ◌<◌, ◌-◌, ◌∙◌, ◌++◌, ap, suc, length, replicate, false, List, Bool, ℕ, arith}
use Rattle.vortex_mask.specs.Truths.{places_of}
use Rattle.vortex_array_data.specs.inner.PickedPlaces.{start_in}
use Rattle.vortex_array_data.proofs.PickPlaces.{spread_none, spread_more, spread_all}
use Rattle.vortex_array_data.proofs.pick_parts.spread_mask.Goals as goal

pub loop-i-init : goal.loop-i-init
loop-i-init c = record {
  spread = spread_none (start_in c.args.parts.now) c.args.mask.now c.in_ok-out.out c.start-from.result c.start-from.ensures
      (c.in_ok-out.ensures ∙ ap (λ (l : List Bool). l ++ replicate c.start-from.result false) c.new.ensures);
  from = c.start-from.ensures;
}

pub loop-i-preserved : goal.loop-i-preserved
loop-i-preserved c =
    let lt : c.loop-i.i < length c.args.mask.now = omega (arith, c.len-n.ensures, c.loop-i-test.true) in
    let next : c.start-to.result ≡ start_in c.args.parts.now (suc c.loop-i.i) =
    c.start-to.ensures ∙ ap (start_in c.args.parts.now) (omega arith) in
    let size : c.start-to.result - c.loop-i.from ≡ start_in c.args.parts.now (suc c.loop-i.i) - start_in c.args.parts.now c.loop-i.i =
    ap (λ (j : ℕ). j - c.loop-i.from) next
    ∙ ap (λ (j : ℕ). start_in c.args.parts.now (suc c.loop-i.i) - j) c.loop-i.invariant.from in
    record {
      spread = spread_more (start_in c.args.parts.now) c.args.mask.now c.loop-i.out c.in_ok-out-2.out c.loop-i.i
          (c.start-to.result - c.loop-i.from) c.value.result c.loop-i.invariant.spread lt
          (c.requires.starts.rise c.loop-i.i (suc c.loop-i.i) (omega arith) (omega (arith, lt)))
          size c.value.ensures c.in_ok-out-2.ensures;
      from = c.start-to.ensures;
    }

pub returns-in-Ok : goal.returns-in-Ok
returns-in-Ok c =
    let all : c.loop-i.i ≡ length c.args.mask.now = search rules in
    let from : c.loop-i.from ≡ start_in c.args.parts.now (length c.args.mask.now) =
    c.loop-i.invariant.from ∙ ap (start_in c.args.parts.now) all in
    let done = spread_all (start_in c.args.parts.now) c.args.mask.now c.loop-i.out c.in_ok-out-3.out c.loop-i.i
    (c.args.end - c.loop-i.from) c.args.end c.loop-i.invariant.spread all c.requires.starts.within
    (ap (λ (j : ℕ). c.args.end - j) from) c.in_ok-out-3.ensures in
    (ap length c.in-Ok.ensures ∙ done.0, ap places_of c.in-Ok.ensures ∙ done.1)
