-- The two chains of the frame coder: piles of stages, in each of which the first is nearer the host
-- and the second nearer the line.
use Rattle.std.specs.Prelude.{ℕ, ◌+◌, ◌*◌, Bool, ◌&&◌, List, length, ◌==◌}
use Rattle.codings.specs.Checks.{checking}
use Rattle.codings.specs.Fills.{filling}
use Rattle.codings.specs.Repeats.{repetition}
use Rattle.codings.specs.Scramblers.{scrambling}
use Rattle.codings.specs.Unpackers.{unpacking}
use Rattle.convolution.specs.Convolutions.{convolution}
use Rattle.frame.specs.declared.headers.Header.{Header}
use Rattle.frame.specs.declared.modulations.Modulation.{Modulation}
use Rattle.frame.specs.declared.modulations.Modulation.TheVariants.{Robust, Dbpsk, Dqpsk, D8psk}
use Rattle.frame.specs.Answers.{block}
use Rattle.frame.specs.Laws.{bits}
use Rattle.frame.specs.Modulations.{modulation_of, bits_per_cell, correctable}
use Rattle.frame.specs.Sizes.{live_carriers, payload_rows}
use Rattle.interleave.specs.Interleavings.{interleaving}
use Rattle.phases.specs.Differences.{difference}
use Rattle.phases.specs.Maps.{mapping}
use Rattle.reedsolomon.specs.Words.{words}
use Rattle.stage.specs.Model.{Model, plain, pile}
use Rattle.stage.specs.Plain.{within}

-- Header rows have a cell on each of the 36 carriers, and there are 13 of them.
abbrev pub header_carriers : ℕ
header_carriers = 36

abbrev pub header_rows : ℕ
header_rows = 13

-- Each coded bit of a header is sent 6 times, and each of a robust payload 4 times.
abbrev pub header_copies : ℕ
header_copies = 6

abbrev pub robust_copies : ℕ
robust_copies = 4

-- From bits to cells: b blocks of n rows of m bits are interleaved, each b bits make an increment,
-- and each increment turns the cell a row earlier, the first row the reference.
abbrev pub to_cells : ℕ → ℕ → ℕ → List ℕ → Model
to_cells m n b reference = pile (pile (plain (interleaving m n b)) (plain (mapping b))) (plain (difference reference))

-- The header chain: 28 bits are checked, convolved and sent six times each, one bit to a cell.
unfoldable pub header_chain : List ℕ → Model
header_chain reference =
    pile
    (pile (pile (plain checking) (plain convolution)) (plain (repetition header_copies)))
    (to_cells header_carriers header_rows 1 reference)

-- The bits that the convolution puts out for a block of so many bytes: two for each bit of the
-- block, and for each of the six zeros behind it.
abbrev pub convolved_bits : ℕ → ℕ
convolved_bits bytes = 16 * bytes + 12

-- From bytes to coded bits: scrambled, followed by 2T bytes of parity up to a block, unpacked,
-- convolved, and filled up with zeros to a total.
abbrev pub to_bits : ℕ → ℕ → ℕ → Model
to_bits t bytes total =
    pile
    (pile (pile (plain (scrambling 0)) (plain (words t))) (pile (plain unpacking) (plain convolution)))
    (plain (filling (convolved_bits bytes) total))

-- A robust payload's bits are repeated; those of any other go on as they are.
abbrev pub with_copies : Modulation → Model → Model
with_copies Robust line = pile (plain (repetition robust_copies)) line
with_copies Dbpsk line = line
with_copies Dqpsk line = line
with_copies D8psk line = line

-- The payload chain of a header: from payload bytes to the live cells of the payload rows.
unfoldable pub payload_chain : Header → List ℕ → Model
payload_chain h reference =
    pile
    (to_bits (correctable (modulation_of h.modulation)) (block h) (bits h))
    (with_copies (modulation_of h.modulation) (to_cells (live_carriers h.tm) (payload_rows h.fl) (bits_per_cell (modulation_of h.modulation)) reference))

-- Whether a reference has so many cells, each a phase.
abbrev pub is_row : ℕ → List ℕ → Bool
is_row m reference = length reference == m && within 7 reference
