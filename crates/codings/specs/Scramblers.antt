-- The scrambler: bytes are XORed with a bit sequence, the highest bit of each byte first.
use Rattle.std.specs.Prelude.{◌≡◌, ℕ, zero, suc, ◌+◌, ◌*◌, ◌/◌, ◌%◌, ◌<◌, min, cond, List, [], ◌∷◌, map, replicate, Some, None, Option, bit_and, bit_or, bit_xor, nat_le, slice_index}
use Rattle.stage.specs.Plain.{Plain}

-- One bit more of a sequence that is written latest bit first: the XOR of those 7 and 4 earlier.
abbrev pub one_more : List ℕ → List ℕ
one_more bits = bit_xor (slice_index bits 6) (slice_index bits 3) ∷ bits

-- The first n bits of the sequence, latest first; behind them stand the seven before its start,
-- which are 1.
abbrev pub up_to : ℕ → List ℕ
up_to zero = replicate 7 1
up_to (suc n) = one_more (up_to n)

-- Bit n of the sequence, counted from 0 at its start.
abbrev pub bit : ℕ → ℕ
bit n = slice_index (up_to (suc n)) 0

-- Eight bits of the sequence from place n on as a byte, the first the highest.
abbrev pub byte : ℕ → ℕ
byte n =
    128 * bit n + 64 * bit (n + 1) + 32 * bit (n + 2) + 16 * bit (n + 3) + 8 * bit (n + 4) + 4 * bit (n + 5) + 2 * bit (n + 6) + bit (n + 7)

-- Bytes XORed with the sequence from place n on, eight bits of it for each.
abbrev pub scrambled : ℕ → List ℕ → List ℕ
scrambled n [] = []
scrambled n (x ∷ xs) = bit_xor x (byte n) ∷ scrambled (n + 8) xs

-- Up to 255 bytes are scrambled, and as many are put out.
abbrev pub longest : ℕ
longest = 255

abbrev pub short_length : ℕ → Option ℕ
short_length n = cond (nat_le n longest) (Some n) None

-- The byte nearest to a received element; every received byte is its own.
abbrev pub nearest_byte : ℕ → ℕ
nearest_byte y = min y 255

-- The stage that scrambles from place `start` of the sequence on. Scrambling again takes it back.
abbrev pub scrambling : ℕ → Plain
scrambling start =
    record {
      number = 2;
      takes = 255;
      puts = 255;
      coded_length = short_length;
      message_length = short_length;
      coding = scrambled start;
      guess = λ n ys. scrambled start (map nearest_byte ys);
    }

-- The law of the sequence. With the seven bits before its start counted too, `counted` is 1 at the
-- first seven places, and from there on each bit is the XOR of those 7 and 4 earlier.
abbrev pub counted : ℕ → ℕ
counted i = slice_index (up_to i) 6

pub record SequenceLaw : Type 0 where
  pub ones : (i : ℕ) → i < 7 → counted i ≡ 1
  pub recurrence : (i : ℕ) → counted (i + 7) ≡ bit_xor (counted i) (counted (i + 3))
  pub from_start : (n : ℕ) → bit n ≡ counted (n + 7)

-- Two bytes that are 0 show the first sixteen bits.
abbrev pub ScrambleExample : Type 0
ScrambleExample = scrambled 0 (0 ∷ 0 ∷ []) ≡ 14 ∷ 242 ∷ []

-- The latest eight bits of a sequence as a byte, the latest the lowest.
abbrev pub window : List ℕ → ℕ
window bits =
    128 * slice_index bits 7 + 64 * slice_index bits 6 + 32 * slice_index bits 5 + 16 * slice_index bits 4 + 8 * slice_index bits 3 + 4 * slice_index bits 2 + 2 * slice_index bits 1 + slice_index bits 0

-- The window four bits on: each of the four is the XOR of bits that the window has already.
abbrev pub four_on : ℕ → ℕ
four_on w = bit_or (w * 16 % 256) (bit_and (bit_xor (w / 8) w) 15)
