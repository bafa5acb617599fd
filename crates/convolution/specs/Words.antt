-- Seven bits in a row as one number, the newest in the lowest place: what the code's register holds.
use Rattle.std.specs.Prelude.{ℕ, ◌+◌, ◌*◌, ◌/◌, cond, List, bit_and, bit_xor, nat_lt}
use Rattle.convolution.specs.Convolutions.{bit, nearest_bit}

-- The six bits before place i, the newest in the lowest place.
abbrev pub past : List ℕ → ℕ → ℕ
past xs i = bit xs i 1 + 2 * bit xs i 2 + 4 * bit xs i 3 + 8 * bit xs i 4 + 16 * bit xs i 5 + 32 * bit xs i 6

-- X and Y of a word: its lowest digit after the word, moved down by each tap, is XORed together.
abbrev pub word_x : ℕ → ℕ
word_x word = bit_and (bit_xor (bit_xor (bit_xor (bit_xor word (word / 2)) (word / 4)) (word / 8)) (word / 64)) 1

abbrev pub word_y : ℕ → ℕ
word_y word = bit_and (bit_xor (bit_xor (bit_xor (bit_xor word (word / 4)) (word / 8)) (word / 32)) (word / 64)) 1

-- The bit that makes X right after the bits in a register, or 0 behind the message.
abbrev pub fitting_bit : ℕ → ℕ → ℕ → ℕ → ℕ
fitting_bit i count register x = cond (nat_lt i count) (bit_xor (nearest_bit x) (word_x (2 * register))) 0
