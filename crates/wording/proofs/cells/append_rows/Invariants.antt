-- The rows behind have been added, and the others are left.
use Rattle.std.proofs.Common.{◌≡◌, ◌*◌, drop, vec_items}
use Rattle.wording.specs.Cells.{with_rows}
use Rattle.wording.proofs.cells.append_rows.Given as goal

abbrev pub invariant-loop : goal.invariant-loop
invariant-loop l = (vec_items l.text ≡ with_rows (vec_items l.initial.text) l.cells l.counter) × (l.rest ≡ drop (36 * l.counter) l.cells)
