use Rattle.frame.specs.Lengths.{legal_length}
use Rattle.std.proofs.Common.{rules}
use Rattle.frame.proofs.lengths.legal_length.Goals as goal

pub returns-in-Ok : goal.returns-in-Ok
unfolding legal_length
returns-in-Ok c = search rules

pub returns-in-Err : goal.returns-in-Err
unfolding legal_length
returns-in-Err c = search rules
