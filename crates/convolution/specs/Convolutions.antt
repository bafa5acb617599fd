-- The convolutional code of rate one half: each bit of the message, and each of six zeros behind
-- it, gives two bits X and Y, the XOR of itself and some of the six bits before it.
use Rattle.std.specs.Prelude.{◌≡◌, ℕ, zero, suc, ◌+◌, ◌-◌, ◌*◌, ◌/◌, ◌%◌, min, cond, ◌&&◌, List, [], ◌∷◌, ◌++◌, map, length, Some, None, Option, ◌==◌, bit_xor, nat_le, slice_index}
use Rattle.std.specs.List.{range_with_len}
use Rattle.stage.specs.Plain.{Plain}

-- The most bits that are taken.
abbrev pub most_bits : ℕ
most_bits = 2040

-- How many zeros follow the message.
abbrev pub tail : ℕ
tail = 6

-- The bit so many places back from place i: 0 before the start, and 0 behind the message.
abbrev pub bit : List ℕ → ℕ → ℕ → ℕ
bit xs i back = cond (nat_le back i) (slice_index xs (i - back)) 0

-- How far back the bits stand that make up X, and those that make up Y.
abbrev pub x_taps : List ℕ
x_taps = 0 ∷ 1 ∷ 2 ∷ 3 ∷ 6 ∷ []

abbrev pub y_taps : List ℕ
y_taps = 0 ∷ 2 ∷ 3 ∷ 5 ∷ 6 ∷ []

-- The XOR of the bits at the taps, seen from place i.
abbrev pub tapped : List ℕ → ℕ → List ℕ → ℕ
tapped xs i [] = 0
tapped xs i (back ∷ taps) = bit_xor (bit xs i back) (tapped xs i taps)

-- Element j of the coding: X of place j / 2 if j is even, and Y of it if j is odd.
abbrev pub output : List ℕ → ℕ → ℕ
output xs j = cond (j % 2 == 0) (tapped xs (j / 2) x_taps) (tapped xs (j / 2) y_taps)

-- The coding of a message.
abbrev pub convolved : List ℕ → List ℕ
convolved xs = map (output xs) (range_with_len 0 (2 * (length xs + tail)))

-- The length of the coding, and that of the message.
abbrev pub convolved_length : ℕ → Option ℕ
convolved_length n = cond (nat_le n most_bits) (Some (2 * (n + tail))) None

abbrev pub plain_length : ℕ → Option ℕ
plain_length k = cond (k % 2 == 0 && (nat_le (2 * tail) k && nat_le k (2 * (most_bits + tail)))) (Some (k / 2 - tail)) None

-- The bit nearest to a received element: itself, or 1 where it is no bit.
abbrev pub nearest_bit : ℕ → ℕ
nearest_bit y = min y 1

-- The message of n bits nearest to a received list: each bit is the one that makes X right after
-- the bits before it, that is the received X, XORed with the X that a 0 would give.
abbrev pub nearest : ℕ → List ℕ → List ℕ
nearest zero ys = []
nearest (suc n) ys = nearest n ys ++ bit_xor (nearest_bit (slice_index ys (2 * n))) (tapped (nearest n ys) n x_taps) ∷ []

-- The stage.
abbrev pub convolution : Plain
convolution =
    record {
      number = 5;
      takes = 1;
      puts = 1;
      coded_length = convolved_length;
      message_length = plain_length;
      coding = convolved;
      guess = nearest;
    }

-- A message of the single bit 1 is coded as 11 10 11 11 00 01 11.
abbrev pub SingleOne : Type 0
SingleOne = convolved (1 ∷ []) ≡ 1 ∷ 1 ∷ 1 ∷ 0 ∷ 1 ∷ 1 ∷ 1 ∷ 1 ∷ 0 ∷ 0 ∷ 0 ∷ 1 ∷ 1 ∷ 1 ∷ []
