use Rattle.std.proofs.Common.{arith}
use Rattle.interleave.proofs.WalkLaws.{goes_along, goes_down}
use Rattle.interleave.proofs.walks.Walk.onward.Goals as goal

pub invariant_of-result : goal.invariant_of-result
invariant_of-result c =
    let walk = c.args.self.now in
    let block = walk.block.now in
    record {
      at = goes_along block.steps block.width block.rows block.along walk.bit walk.column walk.row walk.target walk.base _ _ block.some block.many block.least block.on c.if-self-block.true walk.at c.goes_on-row.ensures.row c.goes_on-row.ensures.target;
      few = omega arith;
    }

pub invariant_of-result-2 : goal.invariant_of-result-2
invariant_of-result-2 c =
    let walk = c.args.self.now in
    let block = walk.block.now in
    record {
      at = goes_down block.steps block.width block.rows block.down walk.bit walk.column walk.row walk.target walk.base _ _ _ block.some block.many block.least block.back c.if-self-block.false walk.at c.goes_on-row-2.ensures.row c.goes_on-row-2.ensures.target c.base_onward.ensures;
      few = omega arith;
    }
