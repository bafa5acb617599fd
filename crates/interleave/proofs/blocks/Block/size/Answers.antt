use Rattle.std.proofs.Common.{mul-pos}
use Rattle.interleave.proofs.blocks.Block.size.Goals as goal

pub returns-clause-some : goal.returns-clause-some
returns-clause-some c = mul-pos c.args.self.now.some c.args.self.now.many
