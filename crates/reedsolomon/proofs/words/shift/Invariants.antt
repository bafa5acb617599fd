use Rattle.reedsolomon.specs.Words.{Shifted}
use Rattle.reedsolomon.proofs.words.shift.Given as goal

abbrev pub invariant-loop-i : goal.invariant-loop-i
invariant-loop-i l = Shifted l.feedback l.generator l.initial.register l.register l.i
