use Rattle.codings.proofs.DivisionLaws.{remainder_divides}
use Rattle.codings.proofs.polynomials.remainder_law.Goals as goal

pub returns : goal.returns
returns c = remainder_divides
