use Rattle.std.proofs.Common.{◌∙◌}
use Rattle.clearline.proofs.DeliveryLaws.{feeding_more}
use Rattle.clearline.proofs.feed_rows.Goals as goal

pub loop-row-preserved : goal.loop-row-preserved
loop-row-preserved c =
    let size = c.loop-row.invariant.0 in
    let step = c.in-Some.ensures.steps in
    (step.0.0 ∙ size, feeding_more _ _ _ _ _ _ _ c.in-Some.row.now step.1 step.0.1.0 (step.0.1.1 ∙ size) c.feed.ensures.after c.loop-row.invariant.1)
