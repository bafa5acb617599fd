use Rattle.std.proofs.Common.{sym, ap, ◌∙◌}
use Rattle.receiving.specs.Laws.{fed_all}
use Rattle.receiving.specs.Receivers.{view}
use Rattle.receiving.specs.Steps.{started}
use Rattle.rows.specs.Carriers.{rows_in}
use Rattle.clearline.proofs.DeliveryLaws.{delivered, not_delivered, same_taken}
use Rattle.clearline.proofs.deliver.Goals as goal

pub returns-in-Ok-take : goal.returns-in-Ok-take
returns-in-Ok-take c = λ rows s room.
    let d = delivered
    c.args.header
    c.args.reference.now
    c.args.bytes.now
    c.args.cells.now
    c.send.new.cells
    c.args.out.now
    c.take.new.out
    c.in-Ok.rows
    rows
    (view c.feed_rows.new.receiver)
    c.take.result
    s
    c.in-Ok.ensures.answer
    c.in-Ok.ensures.law
    (c.feed_rows.ensures ∙ ap (λ v. fed_all v (rows_in c.in-Ok.rows c.send.new.cells)) (c.start.ensures.after ∙ ap (λ v. started v c.args.reference.now) c.new-receiver.ensures))
    c.take.ensures.value
    c.take.ensures.buffer
    room in
    (same_taken _ _ (sym c.in-Ok-take.is ∙ d.0), d.1)

pub returns-in-Err : goal.returns-in-Err
returns-in-Err c = λ rows s room.
    let d = delivered
    c.args.header
    c.args.reference.now
    c.args.bytes.now
    c.args.cells.now
    c.send.new.cells
    c.args.out.now
    c.take.new.out
    c.in-Ok.rows
    rows
    (view c.feed_rows.new.receiver)
    c.take.result
    s
    c.in-Ok.ensures.answer
    c.in-Ok.ensures.law
    (c.feed_rows.ensures ∙ ap (λ v. fed_all v (rows_in c.in-Ok.rows c.send.new.cells)) (c.start.ensures.after ∙ ap (λ v. started v c.args.reference.now) c.new-receiver.ensures))
    c.take.ensures.value
    c.take.ensures.buffer
    room in
    absurd (not_delivered _ _ (sym c.in-Err.is ∙ d.0))
