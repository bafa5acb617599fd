use Rattle.std.proofs.Common.{◌≡◌, drop}
use Rattle.codings.specs.Polynomials.{remainder, fed_all}
use Rattle.codings.specs.Checks.{generator, cells}
use Rattle.codings.proofs.checks.divide.Given as goal

abbrev pub invariant-loop-bit : goal.invariant-loop-bit
invariant-loop-bit l = fed_all generator (cells l.register) (drop l.bit-index l.message) ≡ remainder generator l.message
