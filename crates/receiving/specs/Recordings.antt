-- Reading a recording: cells of rows, one behind the other, and how many rows were read.
use Rattle.std.specs.Prelude.{ℕ, ◌+◌, ◌-◌, ◌*◌, cond, List, length, Some, None, Ok, Err, Option, Result, ◌==◌, nat_lt}
use Rattle.rows.specs.Carriers.{carriers, row_at}
use Rattle.receiving.specs.declared.recordings.RecordRefusal.{RecordRefusal}
use Rattle.receiving.specs.declared.recordings.RecordRefusal.TheVariants.{Short}
use Rattle.receiving.specs.declared.recordings.RecordedRow.{RecordedRow}
use Rattle.receiving.specs.declared.recordings.Recording.{Recording}

-- The number of the refusal.
abbrev pub record_number : RecordRefusal → ℕ
record_number (Short left) = 9

-- The cells of a recording, and how many of its rows were read.
abbrev pub recorded : Recording → List ℕ
recorded r = r.cells.now

abbrev pub rows_read : Recording → ℕ
rows_read r = r.row

-- A row that is read: its number, the place of its first cell, and its cells.
pub record Read : Type 0 where
  pub number : ℕ
  pub place : ℕ
  pub cells : List ℕ

abbrev pub shown_row : Result RecordedRow RecordRefusal → Result Read RecordRefusal
shown_row (Ok r) = Ok (record { number = r.number; place = r.place; cells = r.cells.now })
shown_row (Err e) = Err e

abbrev pub shown : Option (Result RecordedRow RecordRefusal) → Option (Result Read RecordRefusal)
shown (Some r) = Some (shown_row r)
shown None = None

-- Row k of a recording.
abbrev pub read : List ℕ → ℕ → Read
read cells k = record { number = k; place = carriers * k; cells = row_at k cells }

-- How many cells there are behind the first k rows.
abbrev pub cells_left : List ℕ → ℕ → ℕ
cells_left cells k = length cells - carriers * k

-- What follows the first k rows: nothing, a part too short for a row, or row k.
abbrev pub next_row : List ℕ → ℕ → Option (Result Read RecordRefusal)
next_row cells k =
    cond
    (cells_left cells k == 0)
    None
    (Some (cond (nat_lt (cells_left cells k) carriers) (Err (Short (cells_left cells k))) (Ok (read cells k))))

-- How many rows are read then.
abbrev pub next_count : List ℕ → ℕ → ℕ
next_count cells k = cond (nat_lt (cells_left cells k) carriers) k (k + 1)
