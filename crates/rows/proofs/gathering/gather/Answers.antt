use Rattle.std.proofs.Common.{arith}
use Rattle.std.proofs.lemmas.List.{set_past}
use Rattle.std.proofs.lemmas.Grind.{common_steps}
use Rattle.rows.proofs.GatherLaws.{gathered_few, gathering_all, gathering_turn}
use Rattle.rows.proofs.gathering.gather.Goals as goal

pub overflow_add-count : goal.overflow_add-count
overflow_add-count c =
    omega (arith, gathered_few c.args.tm c.args.cells.now _ c.loop-place.place c.loop-place.count _ c.loop-place.invariant)

pub loop-place-preserved : goal.loop-place-preserved
loop-place-preserved c =
    gathering_turn _ _ _ _ _ _ _ _ c.loop-place-test.true (grind (arith, common_steps)) (grind (arith, common_steps, set_past)) c.loop-place.invariant

pub returns : goal.returns
returns c =
    let g = gathering_all c.args.tm c.args.cells.now _ c.loop-place.place _ _ c.loop-place-test.false c.loop-place.invariant in
    record { value = g.0; buffer = g.1 }
