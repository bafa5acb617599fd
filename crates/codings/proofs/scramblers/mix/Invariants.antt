use Rattle.std.proofs.Common.{◌≡◌, ◌*◌, take}
use Rattle.codings.specs.Scramblers.{up_to, window, scrambled}
use Rattle.codings.proofs.scramblers.mix.Given as goal

abbrev pub invariant-loop-i : goal.invariant-loop-i
invariant-loop-i l = (l.window ≡ window (up_to (8 * l.i))) × (take l.i l.mixed ≡ take l.i (scrambled 0 l.list))
