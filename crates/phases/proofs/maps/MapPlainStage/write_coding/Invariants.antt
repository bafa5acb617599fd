use Rattle.phases.proofs.MapLoops.{Mapping}
use Rattle.phases.proofs.maps.MapPlainStage.write_coding.Given as goal

abbrev pub invariant-loop-i : goal.invariant-loop-i
invariant-loop-i l = Mapping l.self.bits l.list l.coded l.i
