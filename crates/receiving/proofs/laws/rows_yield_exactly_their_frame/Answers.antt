use Rattle.receiving.proofs.DecisionLaws.{decisions_exact}
use Rattle.receiving.proofs.YieldLaw.{yield_law}
use Rattle.receiving.proofs.laws.rows_yield_exactly_their_frame.Goals as goal

pub returns : goal.returns
returns c = yield_law decisions_exact
