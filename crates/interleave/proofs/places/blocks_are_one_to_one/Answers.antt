use Rattle.interleave.specs.PlaceLaws.{block_one_to_one}
use Rattle.interleave.proofs.places.blocks_are_one_to_one.Goals as goal

pub returns : goal.returns
returns c = block_one_to_one
