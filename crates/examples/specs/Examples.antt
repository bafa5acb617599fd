-- The worked examples, together: sizes and refusals of headers, packed headers, the scrambled zeros, the
-- convolved single bit, and where three bits of a block go.
use Rattle.codings.specs.Scramblers.{ScrambleExample}
use Rattle.convolution.specs.Convolutions.{SingleOne}
use Rattle.frame.specs.Examples.{Worked_examples}
use Rattle.interleave.specs.Places.{PlacesByHand}
use Rattle.packing.specs.Examples.{Packing_examples}

pub record Examples : Type 0 where
  pub sizes : Worked_examples
  pub packed_headers : Packing_examples
  pub scrambled_zeros : ScrambleExample
  pub convolved_one : SingleOne
  pub interleaved_bits : PlacesByHand
