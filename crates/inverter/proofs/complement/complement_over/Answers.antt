use Rattle.std.proofs.Common.{◌≤◌, get_or, arith}
use Rattle.stage.specs.Lists.{within_at}
use Rattle.inverter.proofs.InPlace.{flip_more, flipped_whole}
use Rattle.inverter.proofs.complement.complement_over.Goals as goal

pub other_bit-requires : goal.other_bit-requires
other_bit-requires c =
    omega (arith, c.loop-bit.invariant.rest c.loop-bit.bit-index (omega arith), within_at 1 c.args.bits.now c.loop-bit.bit-index c.requires)

pub loop-bit-preserved : goal.loop-bit-preserved
loop-bit-preserved c =
    let small : get_or c.loop-bit.bits c.loop-bit.bit-index 0 ≤ 1 = omega (arith, c.loop-bit.invariant.rest c.loop-bit.bit-index (omega arith), within_at 1 c.args.bits.now c.loop-bit.bit-index c.requires) in
    flip_more c.args.bits.now c.loop-bit.bits c.loop-bit.bit-index c.other_bit.result (omega arith) small c.other_bit.ensures c.loop-bit.invariant

pub returns : goal.returns
returns c =
    flipped_whole c.loop-bit.bit-index c.args.bits.now c.loop-bit.bits (omega arith) c.loop-bit.auto.bits c.loop-bit.invariant
