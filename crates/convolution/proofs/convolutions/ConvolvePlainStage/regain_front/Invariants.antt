use Rattle.std.proofs.Common.{◌≡◌, ◌+◌, ◌*◌}
use Rattle.convolution.specs.Convolutions.{tail}
use Rattle.convolution.proofs.InPlace.{TakingFront}
use Rattle.convolution.proofs.convolutions.ConvolvePlainStage.regain_front.Given as goal

abbrev pub invariant-loop-i : goal.invariant-loop-i
invariant-loop-i l =
    record {
      whole : 2 * (l.reach + tail) ≡ l.n;
      front : TakingFront l.reach l.n l.initial.res l.res l.i l.register;
    }
