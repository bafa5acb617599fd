use Rattle.std.proofs.Common.{◌≡◌, ◌*◌, ℕ, ◌<◌, drop, get_or}
use Rattle.codings.specs.Unpackers.{byte_at}
use Rattle.codings.proofs.unpackers.pack.Given as goal

abbrev pub invariant-loop-i : goal.invariant-loop-i
invariant-loop-i l =
    (goal.iterator-loop-i).can_next l.i-iterator
    × (goal.iterator-loop-i).is_finite l.i-iterator
    × (l.i-iterator.iter.size ≡ 8)
    × (l.i-iterator.iter.rest.now ≡ drop (l.i-iterator.count * 8) l.bits)
    × ((k : ℕ) → k < l.i-iterator.count → get_or l.bytes k 0 ≡ byte_at l.bits (k * 8))
