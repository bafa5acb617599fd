-- Readings of the last words of a line: nothing may stand behind them.
use Rattle.std.specs.Prelude.{ℕ, List, Option}
use Rattle.wording.specs.Calls.{nothing_behind, read_header, read_list, read_number, then_read}
use Rattle.frame.specs.declared.headers.Header.{Header}
use Rattle.wording.specs.Cells.{read_cells}
use Rattle.wording.specs.Texts.{served}

-- A list, and the line's end.
abbrev pub last_list : List (List ℕ) → Option (List ℕ)
last_list ws = then_read (read_list ws) (λ xs rest. nothing_behind xs rest)

-- Cells, and the line's end.
abbrev pub last_cells : List (List ℕ) → Option (List ℕ)
last_cells ws = then_read (read_cells ws) (λ xs rest. nothing_behind xs rest)

-- The length of a buffer to lend, and the line's end.
abbrev pub last_room : List (List ℕ) → Option ℕ
last_room ws = then_read (read_number ws) (λ n rest. nothing_behind (served n) rest)

-- A header, and the line's end.
abbrev pub last_header : List (List ℕ) → Option Header
last_header ws = then_read (read_header ws) (λ h rest. nothing_behind h rest)
