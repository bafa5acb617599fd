-- Lists of bytes as text: two lower-case hexadecimal digits for each, or a dash for the empty list.
use Rattle.std.specs.Prelude.{ℕ, ◌+◌, ◌-◌, ◌*◌, ◌/◌, ◌%◌, Bool, cond, ◌&&◌, ◌||◌, List, [], ◌∷◌, map, length, Some, None, codes, Option, ◌==◌, nat_le, nat_lt, slice_index}
use Rattle.std.specs.List.{list_all, range_with_len}
use Rattle.std.specs.Str.{bytes_eq}

-- Whether a character is 0 to 9 or a to f.
abbrev pub is_hex : ℕ → Bool
is_hex c = (nat_le 48 c && nat_le c 57) || (nat_le 97 c && nat_le c 102)

-- The value of a hexadecimal digit.
abbrev pub digit_value : ℕ → ℕ
digit_value c = cond (nat_le c 57) (c - 48) (c - 87)

-- Whether all characters are hexadecimal digits.
abbrev pub all_hex : List ℕ → Bool
all_hex word = list_all is_hex word

-- Byte i is written by the digits 2i and 2i + 1, the high one first.
abbrev pub byte_at : List ℕ → ℕ → ℕ
byte_at word i = 16 * digit_value (slice_index word (2 * i)) + digit_value (slice_index word (2 * i + 1))

-- Whether a word writes a list by digits: all are digits, and there is an even number of them.
abbrev pub in_digits : List ℕ → Bool
in_digits word = length word % 2 == 0 && all_hex word

-- The list that a word writes, if it writes one.
abbrev pub list_of : List ℕ → Option (List ℕ)
list_of word =
    cond (bytes_eq word (codes "-")) (Some [])
    (cond (in_digits word) (Some (map (byte_at word) (range_with_len 0 (length word / 2)))) None)

-- The digit with this value: 0 to 9 and then the letters.
abbrev pub digit_of : ℕ → ℕ
digit_of v = cond (nat_lt v 10) (48 + v) (87 + v)

-- The digits of a list.
abbrev pub digits_of : List ℕ → List ℕ
digits_of [] = []
digits_of (x ∷ xs) = digit_of (x / 16) ∷ (digit_of (x % 16) ∷ digits_of xs)

-- The text of a list.
abbrev pub hex_of : List ℕ → List ℕ
hex_of [] = codes "-"
hex_of (x ∷ xs) = digits_of (x ∷ xs)
