use Rattle.chains.proofs.MadeChains.{made_means}
use Rattle.chains.proofs.calls.chain_of.Goals as goal

pub returns : goal.returns
returns c =
    record {
      value = c.new.ensures;
      meaning = made_means c.args.header c.args.reference.now c.new.result c.new.ensures;
    }
