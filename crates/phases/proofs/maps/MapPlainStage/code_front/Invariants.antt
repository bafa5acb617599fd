use Rattle.std.proofs.Common.{◌≡◌, length, take}
use Rattle.phases.proofs.InPlace.{Mapping}
use Rattle.phases.proofs.maps.MapPlainStage.code_front.Given as goal

abbrev pub invariant-loop-i : goal.invariant-loop-i
invariant-loop-i l = (length l.res ≡ length l.initial.res) × Mapping l.self.bits (take l.n l.initial.res) l.res l.i
