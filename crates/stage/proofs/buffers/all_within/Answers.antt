use Rattle.stage.specs.Lists.{none_above}
use Rattle.stage.proofs.buffers.all_within.Goals as goal

pub returns : goal.returns
returns c = none_above c.args.highest c.args.list.now c.first_above.result c.is_none.result c.first_above.ensures c.is_none.ensures
