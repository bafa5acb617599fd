use Rattle.std.proofs.Common.{drop, take, ap, ◌∙◌}
use Rattle.wording.proofs.CellLaws.{one_more_row, rest_behind_row}
use Rattle.std.proofs.lemmas.List.{drop_min, take_min}
use Rattle.wording.proofs.cells.append_rows.Goals as goal

pub loop-preserved : goal.loop-preserved
loop-preserved c = (
  one_more_row _ _ _ _ c.args.cells.now _ c.loop.counter c.loop.invariant.0 c.loop.invariant.1
      (c.split_at.ensures.front ∙ ap (λ n. take n c.loop.rest.now) c.min.ensures ∙ take_min 36 c.loop.rest.now)
      c.in_ok-append_row.ensures,
  rest_behind_row _ _ c.args.cells.now c.loop.counter c.loop.invariant.1
      (c.split_at.ensures.back ∙ ap (λ n. drop n c.loop.rest.now) c.min.ensures ∙ drop_min 36 c.loop.rest.now),
)
