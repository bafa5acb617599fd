use Rattle.rows.proofs.CarrierLaws.{gathered_held}
use Rattle.rows.proofs.gathering.gather_all.Goals as goal

pub returns : goal.returns
returns c =
    gathered_held c.args.tm c.args.cells.now c.args.buffer.now _ _ c.requires c.gather.ensures.value c.gather.auto.buffer c.gather.ensures.buffer
