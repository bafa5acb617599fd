-- What is known of the cells that a receiver keeps: those of the first thirteen rows are phases.
use Rattle.std.specs.Prelude.{ℕ, ◌*◌, Bool, List, take}
use Rattle.stage.specs.Plain.{within}
use Rattle.rows.specs.Carriers.{carriers, highest_phase}
use Rattle.rows.specs.Rows.{header_cells}

-- The most rows of a frame.
abbrev pub most_rows : ℕ
most_rows = 265

-- The cells of so many rows at the front of a list.
abbrev pub cells_of_rows : ℕ → List ℕ → List ℕ
cells_of_rows rows cells = take (carriers * rows) cells

-- Whether the header's cells among those are phases.
abbrev pub front_is_phases : ℕ → List ℕ → Bool
front_is_phases rows cells = within highest_phase (take header_cells (cells_of_rows rows cells))
