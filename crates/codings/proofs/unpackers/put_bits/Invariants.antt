use Rattle.std.proofs.Common.{◌≡◌, ℕ, ◌<◌, get_or}
use Rattle.codings.specs.Unpackers.{bit_of}
use Rattle.codings.proofs.unpackers.put_bits.Given as goal

abbrev pub invariant-loop-k : goal.invariant-loop-k
invariant-loop-k l = (j : ℕ) → j < l.k → get_or l.eight j 0 ≡ bit_of l.byte j
