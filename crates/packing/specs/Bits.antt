-- A header as bits, in the order of sending, each field highest bit first.
use Rattle.std.specs.Prelude.{ℕ, zero, suc, ◌+◌, ◌*◌, ◌/◌, ◌%◌, ◌^◌, List, [], ◌∷◌, ◌++◌, take, drop}
use Rattle.frame.specs.declared.headers.Header.{Header}

-- The lowest `width` bits of a number, highest first.
abbrev pub bits_of : ℕ → ℕ → List ℕ
bits_of zero number = []
bits_of (suc width) number = number / 2 ^ width % 2 ∷ bits_of width number

-- A number with more bits behind it.
abbrev pub value_behind : ℕ → List ℕ → ℕ
value_behind number [] = number
value_behind number (bit ∷ bits) = value_behind (2 * number + bit) bits

-- The number that bits write, the first of them highest.
abbrev pub value : List ℕ → ℕ
value bits = value_behind 0 bits

-- How many bits a header has before its check.
abbrev pub header_length : ℕ
header_length = 28

-- The bits of a header as they are sent: PDC, MOD, FL, TM[7] to TM[0], TM[8], DT.
abbrev pub sent_bits : Header → List ℕ
sent_bits h =
    bits_of 8 h.pdc
    ++ (bits_of 2 h.modulation
    ++ (bits_of 6 h.fl ++ (bits_of 8 h.tm ++ (bits_of 1 (h.tm / 256) ++ bits_of 3 h.dt))))

-- The same under a name that proofs open only where they have to.
unfoldable pub header_bits : Header → List ℕ
header_bits h = sent_bits h

-- `count` bits from a place on.
abbrev pub part : ℕ → ℕ → List ℕ → List ℕ
part place count bits = take count (drop place bits)

-- The header that 28 bits write, in the order of sending.
abbrev pub read_header : List ℕ → Header
read_header bits =
    record {
      pdc = value (part 0 8 bits);
      modulation = value (part 8 2 bits);
      fl = value (part 10 6 bits);
      tm = 256 * value (part 24 1 bits) + value (part 16 8 bits);
      dt = value (part 25 3 bits);
    }

-- The same under a name that proofs open only where they have to.
unfoldable pub header_from : List ℕ → Header
header_from bits = read_header bits
