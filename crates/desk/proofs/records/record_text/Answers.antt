use Rattle.std.proofs.Common.{Some, sym, ap, ◌∙◌}
use Rattle.desk.proofs.RecordLaws.{one_more_recorded}
use Rattle.receiving.specs.Recordings.{shown}
use Rattle.desk.proofs.records.record_text.Goals as goal

pub loop-next-preserved : goal.loop-next-preserved
loop-next-preserved c = (
  c.next_row.ensures.cells ∙ c.loop-next.invariant.0,
  one_more_recorded _ _ _ c.args.cells.now _ _ _ c.in-Ok.row c.loop-next.invariant.0 c.loop-next.invariant.1
      (ap (λ n. shown (Some n)) (sym c.in-Ok.is) ∙ c.in-Some.ensures.value)
      c.in_ok-append_row-in-Ok.ensures
      c.next_row.ensures.count,
)
