use Rattle.std.proofs.Common.{length, take, ap, ◌∙◌, arith}
use Rattle.std.proofs.lemmas.List.{length-take-le}
use Rattle.phases.specs.Differences.{earlier}
use Rattle.phases.specs.DifferenceLaws.{whole_rows_is}
use Rattle.phases.proofs.InPlace.{add_none, add_next, added_front}
use Rattle.phases.proofs.differences.DifferencePlainStage.code_front.Goals as goal

pub loop-i-init : goal.loop-i-init
loop-i-init c = add_none (take c.args.self.now.count c.args.self.now.row) c.args.res.now c.args.n c.requires.front

pub loop-i-preserved : goal.loop-i-preserved
loop-i-preserved c =
    let row = take c.args.self.now.count c.args.self.now.row in
    let same = (whole_rows_is (length row) c.args.n c.args.reach c.requires.long).1 in
    add_next row (take c.args.n c.args.res.now) c.loop-i.res c.loop-i.i c.cell_before.result c.sum.result c.args.self.now.legal
    (omega (arith, length-take-le c.args.n c.args.res.now c.requires.front))
    (omega (arith, c.requires.room, c.loop-i.auto.res))
    (c.cell_before.ensures ∙ ap (λ r. earlier r c.loop-i.res c.loop-i.i) c.reference-reference.ensures.row)
    c.sum.ensures
    c.loop-i.invariant

pub returns-clause-coded : goal.returns-clause-coded
returns-clause-coded c =
    let row = take c.args.self.now.count c.args.self.now.row in
    let same = (whole_rows_is (length row) c.args.n c.args.reach c.requires.long).1 in
    added_front row c.args.n c.args.reach c.loop-i.i c.args.res.now c.loop-i.res same c.requires.front c.loop-i.auto.res (omega arith) c.loop-i.invariant
