use Rattle.std.proofs.Common.{◌≡◌, map, take}
use Rattle.inverter.specs.Complement.{flip}
use Rattle.inverter.proofs.complement.complement_all.Given as goal

abbrev pub invariant-loop-i : goal.invariant-loop-i
invariant-loop-i l = take l.i l.others ≡ map flip (take l.i l.bits)
