-- The rows of a frame under a reference.
use Rattle.std.specs.Prelude.{◌≡◌, ℕ, true, List, length, take, drop}
use Rattle.std.specs.List.{flat_map}
use Rattle.stage.specs.Model.{coding}
use Rattle.stage.specs.Plain.{within}
use Rattle.frame.specs.declared.headers.Header.{Header}
use Rattle.frame.specs.Answers.{Legal, payload}
use Rattle.frame.specs.Sizes.{row_count}
use Rattle.packing.specs.Bits.{header_bits}
use Rattle.chains.specs.Chains.{header_chain, payload_chain}
use Rattle.rows.specs.Carriers.{Silent, gathered, row_at, whole_rows}

-- The header's rows, their cells, and the last of them, from which the payload's phases go on.
abbrev pub header_rows : ℕ
header_rows = 13

abbrev pub header_cells : ℕ
header_cells = 468

abbrev pub last_header_row : ℕ
last_header_row = 12

-- The cells of rows, one row behind the other.
abbrev pub cells_of : List (List ℕ) → List ℕ
cells_of rows = flat_map (λ row. row) rows

-- A frame: a legal header with its payload of exactly N bytes.
pub record Frame (h : Header) (bytes : List ℕ) : Type 0 where
  pub legal_header : Legal h
  pub exactly : length bytes ≡ payload h
  pub bytes_only : within 255 bytes ≡ true

-- The cells are those of the header under the reference.
abbrev pub HeaderCells : List ℕ → Header → List ℕ → Type 0
HeaderCells reference h cells = cells ≡ coding (header_chain reference) (header_bits h)

-- The reference of a payload: the live cells of the last header row.
abbrev pub payload_reference : Header → List ℕ → List ℕ
payload_reference h cells = gathered h.tm (row_at last_header_row cells)

-- The cells behind the header's are those of the payload: on live carriers the payload's coding
-- from the last header row on, elsewhere phases or silence.
pub record PayloadCells (h : Header) (bytes cells : List ℕ) : Type 0 where
  pub on_live : gathered h.tm (drop header_cells cells) ≡ coding (payload_chain h (payload_reference h cells)) bytes
  pub elsewhere : Silent h.tm (drop header_cells cells)

-- The rows are those of the frame under the reference: as many as its header says, of 36 cells, the
-- header's and then the payload's.
pub record RowsOf (reference : List ℕ) (h : Header) (bytes : List ℕ) (rows : List (List ℕ)) : Type 0 where
  pub frame : Frame h bytes
  pub count : length rows ≡ row_count h.fl
  pub whole : whole_rows rows ≡ true
  pub header : HeaderCells reference h (take header_cells (cells_of rows))
  pub payload : PayloadCells h bytes (cells_of rows)
