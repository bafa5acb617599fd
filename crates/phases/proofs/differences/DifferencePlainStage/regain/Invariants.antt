use Rattle.std.proofs.Common.{take}
use Rattle.phases.specs.Differences.{Turning}
use Rattle.phases.proofs.differences.DifferencePlainStage.regain.Given as goal

abbrev pub invariant-loop-i : goal.invariant-loop-i
invariant-loop-i l = Turning (take l.self.count l.self.row) l.received l.list l.i
