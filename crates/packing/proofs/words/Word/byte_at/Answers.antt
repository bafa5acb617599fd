use Rattle.std.proofs.Common.{arith}
use Rattle.packing.proofs.WordCalls.{byte_fits}
use Rattle.packing.proofs.words.Word.byte_at.Goals as goal

pub overflow_cast-result : goal.overflow_cast-result
overflow_cast-result c =
    omega (arith, byte_fits c.args.self.now.bits c.args.at c.value_of.result (omega arith) c.requires c.args.self.now.are_bits c.value_of.ensures.value)
