use Rattle.std.proofs.Common.{arith}
use Rattle.reedsolomon.proofs.MultiplyLaws.{multiplied_more, multiplied_all}
use Rattle.reedsolomon.proofs.fields.multiply.Goals as goal

pub loop-rest-preserved : goal.loop-rest-preserved
loop-rest-preserved c =
    multiplied_more c.loop-rest.sum c.loop-rest.power c.loop-rest.rest c.times_lowest-sum.result c.double-power.result _ c.loop-rest.invariant c.times_lowest-sum.ensures c.double-power.ensures

pub returns : goal.returns
returns c = multiplied_all c.loop-rest.sum c.loop-rest.power c.loop-rest.rest _ (omega arith) c.loop-rest.invariant
