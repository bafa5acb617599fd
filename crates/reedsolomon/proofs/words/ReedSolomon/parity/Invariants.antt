use Rattle.reedsolomon.proofs.RegisterLaws.{Dividing}
use Rattle.reedsolomon.proofs.words.ReedSolomon.parity.Given as goal

abbrev pub invariant-loop-byte : goal.invariant-loop-byte
invariant-loop-byte l = Dividing l.generator l.message l.byte-index l.register
