-- Unpacking: each byte as eight bits, highest first.
use Rattle.std.specs.Prelude.{ℕ, ◌+◌, ◌-◌, ◌*◌, ◌/◌, ◌%◌, ◌^◌, List, map, Option, slice_index}
use Rattle.std.specs.List.{range_with_len, flat_map}
use Rattle.stage.specs.Plain.{Plain}
use Rattle.codings.specs.NearestBits.{nearest_bit}
use Rattle.codings.specs.Groups.{grouped_length, group_count}

-- The most bytes that are taken.
abbrev pub most_bytes : ℕ
most_bytes = 255

-- The bit k of a byte, counted from its highest: what stands at 2 to the power 7 − k.
abbrev pub bit_of : ℕ → ℕ → ℕ
bit_of byte k = byte / 2 ^ (7 - k) % 2

-- The eight bits of a byte, highest first.
abbrev pub eight_bits : ℕ → List ℕ
eight_bits byte = map (bit_of byte) (range_with_len 0 8)

-- Each byte is replaced by its eight bits.
abbrev pub unpacked : List ℕ → List ℕ
unpacked xs = flat_map eight_bits xs

-- The length in bits, and the length in bytes.
abbrev pub unpacked_length : ℕ → Option ℕ
unpacked_length n = grouped_length most_bytes 8 n

abbrev pub packed_length : ℕ → Option ℕ
packed_length n = group_count most_bytes 8 n

-- The byte whose bits are given, highest first.
abbrev pub byte_of : (ℕ → ℕ) → ℕ
byte_of bit = 128 * bit 0 + 64 * bit 1 + 32 * bit 2 + 16 * bit 3 + 8 * bit 4 + 4 * bit 5 + 2 * bit 6 + bit 7

-- The byte whose bits are nearest to the eight elements from a place on.
abbrev pub byte_at : List ℕ → ℕ → ℕ
byte_at ys at = byte_of (λ k. nearest_bit (slice_index ys (at + k)))

-- The message nearest to a received list: the byte of each eight elements.
abbrev pub packed : ℕ → List ℕ → List ℕ
packed n ys = map (λ i. byte_at ys (i * 8)) (range_with_len 0 n)

-- The stage that unpacks bytes to bits.
abbrev pub unpacking : Plain
unpacking =
    record {
      number = 4;
      takes = 255;
      puts = 1;
      coded_length = unpacked_length;
      message_length = packed_length;
      coding = unpacked;
      guess = packed;
    }
