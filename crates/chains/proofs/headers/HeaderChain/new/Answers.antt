use Rattle.std.proofs.Common.{◌∙◌}
use Rattle.chains.proofs.MadeChains.{header_made}
use Rattle.chains.proofs.headers.HeaderChain.new.Goals as goal

pub returns : goal.returns
returns c = c.piled_over.ensures ∙ header_made c.args.reference.now c.if-reference-ne-CARRIERS.false
