use Rattle.std.proofs.Common.{◌≡◌, ◌*◌, length, take, get_or}
use Rattle.codings.specs.NearestBits.{nearest_bit}
use Rattle.codings.specs.RepeatLaws.{Copies}
use Rattle.codings.proofs.InPlace.{Gathered}
use Rattle.codings.proofs.repeats.RepeatPlainStage.regain_front.Given as goal

abbrev pub invariant-loop-i : goal.invariant-loop-i
invariant-loop-i l =
    (length l.res ≡ length l.initial.res)
    × Gathered (λ k. nearest_bit (get_or (take l.n l.initial.res) (k * l.self.times) 0)) l.initial.res l.res l.i
    × Copies l.self.times (take l.n l.initial.res) (l.i * l.self.times)
