use Rattle.interleave.specs.MoveLaws.{interleaving_keeps}
use Rattle.interleave.proofs.interleavers.interleaving_keeps_the_promise.Goals as goal

pub returns : goal.returns
returns c = interleaving_keeps
