use Rattle.std.proofs.Common.{◌≡◌, ◌*◌, take}
use Rattle.codings.specs.Repeats.{repeated}
use Rattle.codings.proofs.repeats.RepeatPlainStage.write_coding.Given as goal

abbrev pub invariant-loop-i : goal.invariant-loop-i
invariant-loop-i l = take (l.i * l.self.times) l.coded ≡ repeated l.self.times (take l.i l.list)
