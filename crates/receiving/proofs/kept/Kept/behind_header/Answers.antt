use Rattle.receiving.proofs.KeptLaws.{behind_front}
use Rattle.receiving.proofs.kept.Kept.behind_header.Goals as goal

pub returns-clause-cells : goal.returns-clause-cells
returns-clause-cells c = let k = c.args.self.now in behind_front k.rows k.cells
