-- Lists of cells as text: one character for each, 0 to 9 and then a to z, or a dash for the empty list.
use Rattle.std.specs.Prelude.{ℕ, zero, suc, ◌*◌, min, Bool, cond, ◌&&◌, ◌||◌, List, [], ◌++◌, map, take, drop, Some, None, codes, Option, nat_le}
use Rattle.wording.specs.Calls.{then_read, with_rest}
use Rattle.wording.specs.Hexes.{digit_of, digit_value}
use Rattle.wording.specs.Words.{read_word}
use Rattle.std.specs.List.{list_all}
use Rattle.std.specs.Str.{bytes_eq}

-- Whether a character is 0 to 9 or a to z.
abbrev pub is_cell : ℕ → Bool
is_cell c = (nat_le 48 c && nat_le c 57) || (nat_le 97 c && nat_le c 122)

-- Whether all characters are those of cells.
abbrev pub all_cells : List ℕ → Bool
all_cells word = list_all is_cell word

-- The cells that a word writes, if it writes any.
abbrev pub cells_of : List ℕ → Option (List ℕ)
cells_of word =
    cond (bytes_eq word (codes "-")) (Some []) (cond (all_cells word) (Some (map digit_value word)) None)

-- A word that is a list of cells.
abbrev pub read_cells : List (List ℕ) → Option (List ℕ × List (List ℕ))
read_cells ws = then_read (read_word ws) (λ w rest. with_rest (cells_of w) rest)

-- The highest cell that a character is for.
abbrev pub highest_cell : ℕ
highest_cell = 35

-- The character of a cell. No word writes a higher cell than the highest, and no call makes one: it
-- would be written as the highest.
abbrev pub cell_char : ℕ → ℕ
cell_char cell = digit_of (min cell highest_cell)

-- The cells of a row.
abbrev pub row_length : ℕ
row_length = 36

-- Row k of the rows that stand one behind the other.
abbrev pub row_of : List ℕ → ℕ → List ℕ
row_of cells k = take row_length (drop (row_length * k) cells)

-- A text with a row behind it, as a word of its own.
abbrev pub with_row : List ℕ → List ℕ → List ℕ
with_row text row = (text ++ codes " ") ++ map cell_char row

-- A text with the first n rows behind it.
abbrev pub with_rows : List ℕ → List ℕ → ℕ → List ℕ
with_rows text cells zero = text
with_rows text cells (suc n) = with_row (with_rows text cells n) (row_of cells n)
