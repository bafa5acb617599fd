use Rattle.stage.specs.Lists.{within_at}
use Rattle.inverter.proofs.complement.complement_all.Goals as goal

pub other_bit-requires : goal.other_bit-requires
other_bit-requires c = within_at 1 c.args.bits.now c.loop-i.i c.requires.bits
