use Rattle.frame.proofs.FirstRefusal.{refused_with_the_first_that_applies}
use Rattle.frame.proofs.laws.refused_with_the_first_that_applies.Goals as goal

pub returns : goal.returns
returns c = refused_with_the_first_that_applies
