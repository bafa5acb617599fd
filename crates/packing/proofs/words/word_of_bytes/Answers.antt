use Rattle.std.proofs.Common.{refl, arith}
use Rattle.packing.proofs.WordCalls.{five_unpacked}
use Rattle.packing.proofs.words.word_of_bytes.Goals as goal

pub returns : goal.returns
returns c =
    five_unpacked c.args.bytes.now c.code.result _ _ _ c.code.new.res (omega arith) (λ i. omega (arith, c.fits-bytes i)) refl refl (omega (arith, c.code.auto.res)) c.code.ensures.answer c.code.ensures.buffers
