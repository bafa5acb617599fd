use Rattle.phases.specs.Maps.{Unmapping}
use Rattle.phases.proofs.maps.MapPlainStage.regain.Given as goal

abbrev pub invariant-loop-i : goal.invariant-loop-i
invariant-loop-i l = Unmapping l.self.bits l.received l.list l.i
