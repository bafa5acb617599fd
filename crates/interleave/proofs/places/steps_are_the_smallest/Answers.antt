use Rattle.interleave.specs.SearchLaws.{finds_the_smallest}
use Rattle.interleave.proofs.places.steps_are_the_smallest.Goals as goal

pub returns : goal.returns
returns c = finds_the_smallest
