use Rattle.std.proofs.Common.{◌≡◌, ◌*◌, ℕ, ◌<◌, drop, get_or}
use Rattle.codings.specs.NearestBits.{nearest_bit}
use Rattle.codings.specs.RepeatLaws.{Copies}
use Rattle.codings.proofs.repeats.RepeatPlainStage.regain.Given as goal

abbrev pub invariant-loop-i : goal.invariant-loop-i
invariant-loop-i l =
    (goal.iterator-loop-i).can_next l.i-iterator
    × (goal.iterator-loop-i).is_finite l.i-iterator
    × (l.i-iterator.iter.size ≡ l.self.times)
    × (l.i-iterator.iter.rest.now ≡ drop (l.i-iterator.count * l.self.times) l.received)
    × ((k : ℕ) → k < l.i-iterator.count → get_or l.list k 0 ≡ nearest_bit (get_or l.received (k * l.self.times) 0))
    × Copies l.self.times l.received (l.i-iterator.count * l.self.times)
