-- The bytes so far are those that the word writes.
use Rattle.std.proofs.Common.{◌≡◌, map, vec_items}
use Rattle.wording.specs.Hexes.{byte_at}
use Rattle.std.specs.List.{range_with_len}
use Rattle.wording.proofs.hexes.list_of.Given as goal

abbrev pub invariant-loop-high : goal.invariant-loop-high
invariant-loop-high l = vec_items l.list ≡ map (byte_at l.fn.word) (range_with_len 0 l.high-index)
