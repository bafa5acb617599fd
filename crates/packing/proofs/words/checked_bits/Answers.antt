use Rattle.std.proofs.Common.{refl, arith}
use Rattle.packing.proofs.WordCalls.{header_checked}
use Rattle.packing.proofs.words.checked_bits.Goals as goal

pub returns : goal.returns
returns c =
    header_checked c.args.header c.header_bits-bits.result c.code.result _ _ _ c.code.new.res c.header_bits-bits.ensures refl refl (omega (arith, c.code.auto.res)) c.code.ensures.answer c.code.ensures.buffers
