-- Piles of stages whose settings may be refused.
use Rattle.std.specs.Prelude.{ℕ, ◌+◌, ◌*◌, ◌/◌, List, Ok, Err, Result}
use Rattle.chains.specs.Chains.{header_carriers, header_copies, header_rows, robust_copies, convolved_bits}
use Rattle.chains.specs.Choices.{one_of}
use Rattle.chains.specs.declared.choices.Choice.{Choice}
use Rattle.codings.specs.Checks.{checking}
use Rattle.codings.specs.declared.fills.Fill.{Fill}
use Rattle.codings.specs.declared.repeats.Repeat.{Repeat}
use Rattle.codings.specs.declared.scramblers.Scramble.{Scramble}
use Rattle.codings.specs.declared.unpackers.UnpackBits.{UnpackBits}
use Rattle.codings.specs.Fills.{made_fill}
use Rattle.codings.specs.Meanings.{of_fill, of_repeat}
use Rattle.codings.specs.Repeats.{made_repeat}
use Rattle.codings.specs.Scramblers.{scrambling}
use Rattle.codings.specs.Unpackers.{unpacking}
use Rattle.convolution.specs.declared.convolutions.Convolve.{Convolve}
use Rattle.convolution.specs.Convolutions.{convolution}
use Rattle.frame.specs.declared.modulations.Modulation.{Modulation}
use Rattle.frame.specs.declared.modulations.Modulation.TheVariants.{Robust, Dbpsk, Dqpsk, D8psk}
use Rattle.frame.specs.Modulations.{bits_per_cell, copies, correctable}
use Rattle.interleave.specs.declared.interleavers.Interleave.{Interleave}
use Rattle.interleave.specs.Interleavings.{made_interleave}
use Rattle.interleave.specs.Meanings.{of_interleave}
use Rattle.phases.specs.declared.differences.Difference.{Difference}
use Rattle.phases.specs.declared.maps.Map.{Map}
use Rattle.phases.specs.Differences.{made_difference}
use Rattle.phases.specs.Maps.{made_map}
use Rattle.phases.specs.Meanings.{of_difference, of_map}
use Rattle.reedsolomon.specs.declared.words.ReedSolomon.{ReedSolomon}
use Rattle.reedsolomon.specs.Meanings.{of_reed_solomon}
use Rattle.reedsolomon.specs.Words.{made_words}
use Rattle.stage.specs.declared.faults.Refusal.{Refusal}
use Rattle.stage.specs.declared.piles.Pile.{Pile}
use Rattle.stage.specs.Model.{Model, plain, pile}

-- What a pile means, by what its members mean.
abbrev pub of_pile : {A B : Type 0} → (A → Model) → (B → Model) → Pile A B → Model
of_pile first second p = pile (first p.first) (second p.second)

-- What the stages from bits to cells mean.
abbrev pub of_cells : Pile (Pile Interleave Map) Difference → Model
of_cells = of_pile (of_pile of_interleave of_map) of_difference

-- What the stages from payload bytes to coded bits mean.
abbrev pub of_bits : Pile (Pile (Pile Scramble ReedSolomon) (Pile UnpackBits Convolve)) Fill → Model
of_bits =
    of_pile
    (of_pile (of_pile (λ _. plain (scrambling 0)) of_reed_solomon) (of_pile (λ _. plain unpacking) (λ _. plain convolution)))
    of_fill

-- What the stages from coded bits to cells mean, with or without copies.
abbrev pub of_line : Choice (Pile Repeat (Pile (Pile Interleave Map) Difference)) (Pile (Pile Interleave Map) Difference) → Model
of_line = one_of (of_pile of_repeat of_cells) of_cells

-- The pile of two stages, or the first refusal of their settings.
abbrev pub piled : Result Model Refusal → Result Model Refusal → Result Model Refusal
piled (Ok a) (Ok b) = Ok (pile a b)
piled (Ok a) (Err e) = Err e
piled (Err e) (Ok b) = Err e
piled (Err e) (Err e') = Err e

-- The stages from bits to cells.
abbrev pub piled_cells : ℕ → ℕ → ℕ → List ℕ → Result Model Refusal
piled_cells m n b reference = piled (piled (made_interleave m n b) (made_map b)) (made_difference reference)

-- The stages of the header chain.
abbrev pub piled_header : List ℕ → Result Model Refusal
piled_header reference =
    piled
    (piled (Ok (pile (plain checking) (plain convolution))) (made_repeat header_copies))
    (piled_cells header_carriers header_rows 1 reference)

-- The stages from payload bytes to coded bits, for T, the bytes of a block, and the coded bits.
abbrev pub piled_bits : ℕ → ℕ → ℕ → Result Model Refusal
piled_bits t bytes total =
    piled
    (piled (piled (Ok (plain (scrambling 0))) (made_words t)) (Ok (pile (plain unpacking) (plain convolution))))
    (made_fill (convolved_bits bytes) total)

-- A robust payload's bits are repeated before they go on.
abbrev pub repeated_first : Modulation → Result Model Refusal → Result Model Refusal
repeated_first Robust line = piled (made_repeat robust_copies) line
repeated_first Dbpsk line = line
repeated_first Dqpsk line = line
repeated_first D8psk line = line

-- The stages of a payload chain, for so many bytes of payload, m live carriers and n rows.
abbrev pub piled_payload : Modulation → ℕ → ℕ → ℕ → List ℕ → Result Model Refusal
piled_payload mo bytes m n reference =
    piled
    (piled_bits (correctable mo) (bytes + 2 * correctable mo) (m * n * bits_per_cell mo / copies mo))
    (repeated_first mo (piled_cells m n (bits_per_cell mo) reference))
