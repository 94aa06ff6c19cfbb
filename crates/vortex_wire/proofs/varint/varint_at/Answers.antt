use Rattle.std.proofs.Common.{◌<◌, arith}
use Rattle.vortex_wire.proofs.Reading.{tenth, ended, not_tenth, scale_grows, goes_on, cut}
use Rattle.vortex_wire.proofs.varint.varint_at.Goals as goal

pub returns-then-byte-gt1 : goal.returns-then-byte-gt1
returns-then-byte-gt1 c =
    tenth c.args.bytes.now c.loop-index.index c.loop-index.value c.loop-index.scale c.from-byte.result c.loop-index.invariant c.loop-index-test.true c.from-byte.ensures c.if-index.true c.if-byte-gt1.true

pub returns-then-byte-lt128 : goal.returns-then-byte-lt128
returns-then-byte-lt128 c =
    ended c.args.bytes.now c.loop-index.index c.loop-index.value c.loop-index.scale c.from-byte.result c.loop-index.invariant c.loop-index-test.true c.from-byte.ensures c.if-byte-lt128.true c.else-index.either

pub overflow_mul-scale : goal.overflow_mul-scale
overflow_mul-scale c =
    omega (arith, scale_grows c.loop-index.index c.loop-index.scale c.loop-index.invariant.within (not_tenth _ _ c.if-byte-lt128.false c.else-index.either) c.loop-index.invariant.scale_is)

pub loop-index-preserved : goal.loop-index-preserved
loop-index-preserved c =
    let byte : c.from-byte.result < 256 = omega (arith, c.from-byte.ensures, c.type_inv.bytes c.loop-index.index) in
    goes_on c.args.bytes.now c.loop-index.index c.loop-index.value c.loop-index.scale c.from-byte.result c.loop-index.invariant c.loop-index-test.true c.from-byte.ensures byte c.if-byte-lt128.false (not_tenth _ _ c.if-byte-lt128.false c.else-index.either)

pub returns : goal.returns
returns c = cut c.args.bytes.now c.loop-index.index c.loop-index.value c.loop-index.scale c.loop-index.invariant c.loop-index-test.false
