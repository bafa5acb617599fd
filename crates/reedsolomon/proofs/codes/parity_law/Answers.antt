use Rattle.reedsolomon.specs.GeneratorLaws.{parity_law}
use Rattle.reedsolomon.proofs.codes.parity_law.Goals as goal

pub returns : goal.returns
returns c = parity_law
