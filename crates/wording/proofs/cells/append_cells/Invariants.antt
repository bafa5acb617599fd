-- The characters of the cells behind have been added.
use Rattle.std.proofs.Common.{◌≡◌, ◌++◌, map, take, vec_items}
use Rattle.wording.specs.Cells.{cell_char}
use Rattle.wording.proofs.cells.append_cells.Given as goal

abbrev pub invariant-loop-cell : goal.invariant-loop-cell
invariant-loop-cell l = vec_items l.text ≡ vec_items l.initial.text ++ map cell_char (take l.cell-index l.cells)
