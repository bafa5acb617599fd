use Rattle.std.proofs.Common.{◌≡◌, ◌*◌}
use Rattle.codings.specs.Scramblers.{up_to, window}
use Rattle.codings.proofs.InPlace.{Scrambling}
use Rattle.codings.proofs.scramblers.mix_over.Given as goal

abbrev pub invariant-loop-byte : goal.invariant-loop-byte
invariant-loop-byte l = (l.window ≡ window (up_to (8 * l.byte-index))) × Scrambling l.initial.list l.list l.byte-index
