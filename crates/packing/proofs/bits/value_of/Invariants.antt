use Rattle.std.proofs.Common.{◌≡◌, ◌+◌, ◌*◌, ◌^◌, ◌≤◌, drop}
use Rattle.packing.specs.Bits.{value, value_behind}
use Rattle.packing.proofs.bits.value_of.Given as goal

abbrev pub invariant-loop-bit : goal.invariant-loop-bit
invariant-loop-bit l = (value_behind l.number (drop l.bit-index l.bits) ≡ value l.bits) × (l.number + 255 ≤ 255 * 2 ^ l.bit-index)
