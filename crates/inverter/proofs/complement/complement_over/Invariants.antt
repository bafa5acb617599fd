use Rattle.inverter.proofs.InPlace.{Flipping}
use Rattle.inverter.proofs.complement.complement_over.Given as goal

abbrev pub invariant-loop-bit : goal.invariant-loop-bit
invariant-loop-bit l = Flipping l.initial.bits l.bits l.bit-index
