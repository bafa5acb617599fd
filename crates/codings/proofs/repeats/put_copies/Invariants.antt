use Rattle.std.proofs.Common.{◌≡◌, ℕ, ◌<◌, get_or}
use Rattle.codings.proofs.repeats.put_copies.Given as goal

abbrev pub invariant-loop-copy : goal.invariant-loop-copy
invariant-loop-copy l = (j : ℕ) → j < l.copy-index → get_or l.copies j 0 ≡ l.bit
