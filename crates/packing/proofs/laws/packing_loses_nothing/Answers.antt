use Rattle.packing.proofs.PackingLaws.{packing_loses_nothing}
use Rattle.packing.proofs.laws.packing_loses_nothing.Goals as goal

pub returns : goal.returns
returns c = packing_loses_nothing
