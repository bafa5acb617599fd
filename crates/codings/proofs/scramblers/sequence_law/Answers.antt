use Rattle.codings.specs.SequenceLaws.{sequence_law}
use Rattle.codings.proofs.scramblers.sequence_law.Goals as goal

pub returns : goal.returns
returns c = sequence_law
