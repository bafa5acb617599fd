use Rattle.phases.specs.Recurrences.{recurrence}
use Rattle.phases.proofs.differences.cells_follow_the_recurrence.Goals as goal

pub returns : goal.returns
returns c = recurrence
