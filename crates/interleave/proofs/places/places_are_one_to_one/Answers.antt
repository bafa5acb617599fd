use Rattle.interleave.specs.PlaceLaws.{places_one_to_one}
use Rattle.interleave.proofs.places.places_are_one_to_one.Goals as goal

pub returns : goal.returns
returns c = places_one_to_one
