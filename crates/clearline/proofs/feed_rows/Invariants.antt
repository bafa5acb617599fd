-- What is fed and what is left to feed are all rows.
use Rattle.std.proofs.Common.{◌≡◌}
use Rattle.receiving.specs.Laws.{fed_all}
use Rattle.receiving.specs.Receivers.{view}
use Rattle.rows.specs.Carriers.{rows_in}
use Rattle.clearline.proofs.DeliveryLaws.{Feeding}
use Rattle.clearline.proofs.feed_rows.Given as goal

abbrev pub invariant-loop-row : goal.invariant-loop-row
invariant-loop-row l =
    (l.row-iterator.iter.size ≡ 36) × Feeding (fed_all (view l.initial.receiver) (rows_in l.rows l.cells)) (view l.receiver) l.row-iterator.n l.row-iterator.iter.rest.now
