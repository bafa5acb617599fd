use Rattle.std.proofs.Common.{length, take, ap, ◌∙◌, arith}
use Rattle.phases.specs.Differences.{earlier}
use Rattle.phases.specs.DifferenceLaws.{whole_rows_is}
use Rattle.phases.proofs.DifferenceLoops.{add_more, added}
use Rattle.phases.proofs.differences.DifferencePlainStage.write_coding.Goals as goal

pub loop-i-preserved : goal.loop-i-preserved
loop-i-preserved c =
    let row = take c.args.self.now.count c.args.self.now.row in
    let long = (whole_rows_is (length row) (length c.args.list.now) (length c.args.coded.now) c.requires.long).1 in
    add_more row c.args.list.now c.loop-i.coded c.loop-i.i c.cell_before.result c.sum.result c.args.self.now.legal (omega arith)
    (c.cell_before.ensures ∙ ap (λ r. earlier r c.loop-i.coded c.loop-i.i) c.reference-reference.ensures.row)
    c.sum.ensures
    c.loop-i.invariant

pub returns : goal.returns
returns c =
    let row = take c.args.self.now.count c.args.self.now.row in
    let long = (whole_rows_is (length row) (length c.args.list.now) (length c.args.coded.now) c.requires.long).1 in
    added row c.args.list.now c.loop-i.coded c.loop-i.i (omega arith) (omega arith) c.loop-i.invariant
