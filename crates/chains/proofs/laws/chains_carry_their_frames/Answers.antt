use Rattle.chains.proofs.HeaderSteps.{header_carries}
use Rattle.chains.proofs.PayloadSteps.{payload_carries}
use Rattle.chains.proofs.laws.chains_carry_their_frames.Goals as goal

pub returns : goal.returns
returns c = record { header = header_carries; payload_of = payload_carries }
