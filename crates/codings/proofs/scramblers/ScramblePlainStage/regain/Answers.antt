use Rattle.codings.specs.ScrambleLaws.{scrambled_again}
use Rattle.codings.proofs.scramblers.ScramblePlainStage.regain.Goals as goal

pub returns : goal.returns
returns c = scrambled_again c.args.received.now c.mix.new.mixed c.type_inv.received c.mix.ensures
