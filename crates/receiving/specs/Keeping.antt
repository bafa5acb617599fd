-- The rows that a receiver keeps: how many, and their cells.
use Rattle.std.specs.Prelude.{ℕ, List}
use Rattle.receiving.specs.declared.kept.Kept.{Kept}
use Rattle.receiving.specs.Fronts.{cells_of_rows}

abbrev pub rows_kept : Kept → ℕ
rows_kept k = k.rows

abbrev pub kept : Kept → List ℕ
kept k = cells_of_rows k.rows k.cells
