-- The sizes that a modulation, a frame length and a tone map give.
use Rattle.std.specs.Prelude.{ℕ, ◌+◌, ◌-◌, ◌*◌, ◌/◌, cond, count_ones, nat_lt}
use Rattle.frame.specs.declared.modulations.Modulation.{Modulation}
use Rattle.frame.specs.Modulations.{bits_per_cell, copies, correctable}

-- m: the carriers that are live for the payload, six for each one among the tone map's bits.
abbrev pub live_carriers : ℕ → ℕ
live_carriers tm = 6 * count_ones tm

-- n: the payload rows, four for each unit of the frame length.
abbrev pub payload_rows : ℕ → ℕ
payload_rows fl = 4 * fl

-- The rows of the whole frame: thirteen of header, then the payload's.
abbrev pub row_count : ℕ → ℕ
row_count fl = 13 + payload_rows fl

-- P: the bits that the payload rows carry, each of its copies counted once.
abbrev pub coded_bits : Modulation → ℕ → ℕ → ℕ
coded_bits mo fl tm = live_carriers tm * payload_rows fl * bits_per_cell mo / copies mo

-- R: the bytes of the Reed-Solomon block. Half of the coded bits are left by the convolution, six of
-- these are its tail, and eight make a byte; below twelve coded bits there is no block.
abbrev pub block_bytes : Modulation → ℕ → ℕ → ℕ
block_bytes mo fl tm = cond (nat_lt (coded_bits mo fl tm) 12) 0 ((coded_bits mo fl tm / 2 - 6) / 8)

-- The parity bytes of a block.
abbrev pub parity_bytes : Modulation → ℕ
parity_bytes mo = 2 * correctable mo

-- N: the payload's bytes, what parity leaves of the block.
abbrev pub payload_bytes : Modulation → ℕ → ℕ → ℕ
payload_bytes mo fl tm = block_bytes mo fl tm - parity_bytes mo
