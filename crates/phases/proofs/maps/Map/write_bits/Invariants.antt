use Rattle.std.proofs.Common.{◌≡◌, ℕ, ◌<◌, get_or}
use Rattle.phases.specs.Maps.{bit_of}
use Rattle.phases.proofs.maps.Map.write_bits.Given as goal

abbrev pub invariant-loop-place : goal.invariant-loop-place
invariant-loop-place l = (j : ℕ) → j < l.place → get_or l.group j 0 ≡ bit_of l.self.bits l.number j
