use Rattle.receiving.proofs.DecisionLaws.{decisions_exact}
use Rattle.receiving.proofs.HistoryLaw.{history_law}
use Rattle.receiving.proofs.laws.nothing_lost_altered_or_invented.Goals as goal

pub returns : goal.returns
returns c = history_law decisions_exact
