use Rattle.std.proofs.Common.{◌≡◌, ◌+◌, ◌≤◌, length}
use Rattle.convolution.specs.Convolutions.{tail, convolved}
use Rattle.convolution.proofs.CodingLaws.{Putting}
use Rattle.convolution.proofs.convolutions.ConvolvePlainStage.write_coding.Given as goal

abbrev pub invariant-loop-i : goal.invariant-loop-i
invariant-loop-i l = Putting l.list l.coded l.i l.register

abbrev pub invariant-loop-i-2 : goal.invariant-loop-i-2
invariant-loop-i-2 l =
    record {
      put : Putting l.list l.coded l.i l.register;
      whole : length l.list + tail ≤ l.i → l.coded ≡ convolved l.list;
    }
