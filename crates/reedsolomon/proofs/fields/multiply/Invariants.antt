use Rattle.reedsolomon.specs.Fields.{product, Multiplying}
use Rattle.reedsolomon.proofs.fields.multiply.Given as goal

abbrev pub invariant-loop-rest : goal.invariant-loop-rest
invariant-loop-rest l = Multiplying l.sum l.power l.rest (product l.a l.b)

abbrev pub decreases-loop-rest : goal.decreases-loop-rest
decreases-loop-rest l = l.rest
