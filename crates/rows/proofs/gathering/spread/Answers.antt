use Rattle.std.proofs.Common.{◌<◌, length, arith}
use Rattle.std.proofs.lemmas.Grind.{common_steps}
use Rattle.rows.proofs.GatherLaws.{read_next, spreading_all, spreading_turn}
use Rattle.rows.proofs.gathering.spread.Goals as goal

pub loop-place-preserved : goal.loop-place-preserved
loop-place-preserved c =
    let inside : c.loop-place.place < length c.loop-place.cells = omega (arith, c.loop-place-test.true, c.loop-place.auto.cells) in
    spreading_turn _ _ _ _ _ _ _ inside (grind (arith, common_steps, read_next)) (grind (arith, common_steps, read_next)) c.loop-place.invariant

pub returns : goal.returns
returns c = spreading_all c.args.tm c.args.given.now _ c.loop-place.place _ _ c.loop-place.auto.cells c.loop-place-test.false c.loop-place.invariant
