use Rattle.std.proofs.Common.{take}
use Rattle.phases.proofs.InPlace.{Adding}
use Rattle.phases.proofs.differences.DifferencePlainStage.code_front.Given as goal

abbrev pub invariant-loop-i : goal.invariant-loop-i
invariant-loop-i l = Adding (take l.self.count l.self.row) (take l.n l.initial.res) l.res l.i
