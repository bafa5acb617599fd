use Rattle.std.proofs.Common.{length, get_or, take, sym, ap, ◌∙◌, arith}
use Rattle.std.proofs.lemmas.Bool.{leb-true, leb-false}
use Rattle.phases.specs.Differences.{earlier}
use Rattle.phases.specs.DifferenceLaws.{whole_rows_is}
use Rattle.phases.proofs.DifferenceLoops.{turn_more, turned, not_turned}
use Rattle.phases.proofs.differences.DifferencePlainStage.regain.Goals as goal

pub loop-i-preserved : goal.loop-i-preserved
loop-i-preserved c =
    let row = take c.args.self.now.count c.args.self.now.row in
    let long = (whole_rows_is (length row) (length c.args.received.now) (length c.args.list.now) c.requires).1 in
    turn_more row c.args.received.now c.loop-i.list c.loop-i.i c.cell_before.result c.turn.result (omega arith) (leb-true (get_or c.args.received.now c.loop-i.i 0) 7 (sym c.is_cell.ensures ∙ c.if-not-is_cell.false))
    (c.cell_before.ensures ∙ ap (λ r. earlier r c.args.received.now c.loop-i.i) c.reference-reference.ensures.row)
    c.turn.ensures
    c.loop-i.invariant

pub returns-then-not-is_cell : goal.returns-then-not-is_cell
returns-then-not-is_cell c =
    let row = take c.args.self.now.count c.args.self.now.row in
    let long = (whole_rows_is (length row) (length c.args.received.now) (length c.args.list.now) c.requires).1 in
    not_turned row c.args.received.now c.loop-i.list c.loop-i.i c.args.self.now.legal (omega arith) (omega arith) (leb-false (get_or c.args.received.now c.loop-i.i 0) 7 (sym c.is_cell.ensures ∙ c.if-not-is_cell.true)) c.loop-i.invariant

pub returns : goal.returns
returns c =
    let row = take c.args.self.now.count c.args.self.now.row in
    let long = (whole_rows_is (length row) (length c.args.received.now) (length c.args.list.now) c.requires).1 in
    turned row c.args.received.now c.loop-i.list c.loop-i.i c.args.self.now.legal (omega arith) (omega arith) c.loop-i.invariant
