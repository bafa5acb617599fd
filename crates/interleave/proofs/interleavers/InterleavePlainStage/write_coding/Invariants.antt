use Rattle.std.proofs.Common.{◌≡◌}
use Rattle.interleave.specs.Interleavings.{goes_to}
use Rattle.interleave.proofs.CallLaws.{Put}
use Rattle.interleave.proofs.interleavers.InterleavePlainStage.write_coding.Given as goal

abbrev pub invariant-loop-bit : goal.invariant-loop-bit
invariant-loop-bit l =
    record {
      block : l.walk.block.now ≡ l.self.block;
      place : l.walk.bit ≡ l.bit-index;
      put : Put (goes_to l.self.block.width l.self.block.rows) l.list l.coded l.bit-index;
    }
