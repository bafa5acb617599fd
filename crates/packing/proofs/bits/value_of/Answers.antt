use Rattle.std.proofs.Common.{arith}
use Rattle.packing.proofs.BitLaws.{one_bit_more, all_bits_read, few_bits_read}
use Rattle.packing.proofs.bits.value_of.Goals as goal

pub loop-bit-preserved : goal.loop-bit-preserved
loop-bit-preserved c =
    one_bit_more c.args.bits.now c.loop-bit.bit-index c.loop-bit.number (omega arith) (omega arith) c.loop-bit.invariant

pub returns : goal.returns
returns c = record {
  value = all_bits_read c.args.bits.now c.loop-bit.bit-index c.loop-bit.number (omega arith) c.loop-bit.invariant.0;
  bound = few_bits_read c.loop-bit.bit-index c.loop-bit.number (omega (arith, c.requires)) c.loop-bit.invariant.1;
}
