use Rattle.std.proofs.Common.{take}
use Rattle.phases.proofs.DifferenceLoops.{Adding}
use Rattle.phases.proofs.differences.DifferencePlainStage.write_coding.Given as goal

abbrev pub invariant-loop-i : goal.invariant-loop-i
invariant-loop-i l = Adding (take l.self.count l.self.row) l.list l.coded l.i
