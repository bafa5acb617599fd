-- What `record` is answered: the rows of a recording, and how many cells are left behind them.
use Rattle.std.specs.Prelude.{ℕ, zero, suc, ◌/◌, ◌%◌, List, [], length, codes, Option}
use Rattle.wording.specs.Cells.{row_length, with_rows}
use Rattle.wording.specs.Lasts.{last_cells}
use Rattle.wording.specs.Texts.{labelled}
use Rattle.std.specs.Option.{option_map}

-- A text with the length of the short part behind it, if there is one.
abbrev pub with_short : List ℕ → ℕ → List ℕ
with_short text zero = text
with_short text (suc left) = labelled text (codes " short ") (suc left)

-- The text of how many whole rows cells have.
abbrev pub count_text : List ℕ → List ℕ
count_text cells = labelled [] (codes "rows ") (length cells / row_length)

-- The text of a recording.
abbrev pub record_text : List ℕ → List ℕ
record_text cells =
    with_short (with_rows (count_text cells) cells (length cells / row_length)) (length cells % row_length)

-- `record CELLS`
abbrev pub record_reply : List (List ℕ) → Option (List ℕ)
record_reply ws = option_map record_text (last_cells ws)
