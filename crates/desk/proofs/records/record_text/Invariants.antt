-- The rows read so far have been added; each turn reads one more.
use Rattle.std.proofs.Common.{◌≡◌, ◌-◌, ◌*◌, length, vec_items}
use Rattle.desk.specs.Records.{count_text}
use Rattle.wording.specs.Cells.{with_rows}
use Rattle.receiving.specs.Recordings.{recorded, rows_read}
use Rattle.desk.proofs.records.record_text.Given as goal

abbrev pub invariant-loop-next : goal.invariant-loop-next
invariant-loop-next l =
    (recorded l.recording ≡ l.cells)
    × (vec_items l.text ≡ with_rows (count_text l.cells) l.cells (rows_read l.recording))

abbrev pub decreases-loop-next : goal.decreases-loop-next
decreases-loop-next l = length l.cells - 36 * rows_read l.recording
