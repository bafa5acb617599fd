-- What the chains mean, by the chain.
use Rattle.std.specs.Prelude.{◌≡◌, Ok, Err, Result}
use Rattle.chains.specs.declared.choices.Choice.{Choice}
use Rattle.chains.specs.declared.wholes.Chain.{Chain}
use Rattle.chains.specs.declared.refusals.ChainRefusal.{ChainRefusal}
use Rattle.chains.specs.Makings.{of_bits, of_cells, of_line, of_pile}
use Rattle.codings.specs.Checks.{checking}
use Rattle.codings.specs.declared.checks.Check.{Check}
use Rattle.codings.specs.declared.fills.Fill.{Fill}
use Rattle.codings.specs.declared.repeats.Repeat.{Repeat}
use Rattle.codings.specs.declared.scramblers.Scramble.{Scramble}
use Rattle.codings.specs.declared.unpackers.UnpackBits.{UnpackBits}
use Rattle.convolution.specs.declared.convolutions.Convolve.{Convolve}
use Rattle.interleave.specs.declared.interleavers.Interleave.{Interleave}
use Rattle.phases.specs.declared.differences.Difference.{Difference}
use Rattle.phases.specs.declared.maps.Map.{Map}
use Rattle.reedsolomon.specs.declared.words.ReedSolomon.{ReedSolomon}
use Rattle.stage.specs.declared.piles.Pile.{Pile}
use Rattle.codings.specs.Meanings.{of_repeat}
use Rattle.convolution.specs.Convolutions.{convolution}
use Rattle.stage.specs.Model.{Model, plain}

-- The piles that the two chains are made of.
abbrev pub HeaderChain : Type 0
HeaderChain = Chain (Pile (Pile (Pile Check Convolve) Repeat) (Pile (Pile Interleave Map) Difference))

abbrev pub PayloadChain : Type 0
PayloadChain =
    Chain (Pile (Pile (Pile (Pile Scramble ReedSolomon) (Pile UnpackBits Convolve)) Fill) (Choice (Pile Repeat (Pile (Pile Interleave Map) Difference)) (Pile (Pile Interleave Map) Difference)))

-- What the header chain means.
abbrev pub of_header_chain : HeaderChain → Model
of_header_chain s =
    of_pile (of_pile (of_pile (λ _. plain checking) (λ _. plain convolution)) of_repeat) of_cells s.pile

-- What the payload chain means.
abbrev pub of_payload_chain : PayloadChain → Model
of_payload_chain s = of_pile of_bits of_line s.pile

-- A payload chain that was made has this meaning.
abbrev pub Means : Result PayloadChain ChainRefusal → Model → Type 0
Means (Ok s) m = of_payload_chain s ≡ m
Means (Err e) m = Unit {0}
