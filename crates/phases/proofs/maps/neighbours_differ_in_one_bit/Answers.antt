use Rattle.phases.specs.Tables.{gray_maps}
use Rattle.phases.proofs.maps.neighbours_differ_in_one_bit.Goals as goal

pub returns : goal.returns
returns c = gray_maps
