use Rattle.std.proofs.Common.{◌≡◌}
use Rattle.interleave.specs.Interleavings.{goes_to}
use Rattle.interleave.proofs.CallLaws.{Fetching}
use Rattle.interleave.proofs.interleavers.InterleavePlainStage.regain.Given as goal

abbrev pub invariant-loop-bit : goal.invariant-loop-bit
invariant-loop-bit l =
    record {
      block : l.walk.block.now ≡ l.self.block;
      place : l.walk.bit ≡ l.bit-index;
      fetched : Fetching (goes_to l.self.block.width l.self.block.rows) l.received l.list l.bit-index;
    }
