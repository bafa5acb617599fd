use Rattle.std.proofs.Common.{◌+◌, sym, mod-eq_of_lt, arith}
use Rattle.interleave.proofs.WalkLaws.{less_end, walk_row}
use Rattle.interleave.proofs.walks.Walk.goes_on.Goals as goal

pub returns-then-row-self-clause-row : goal.returns-then-row-self-clause-row
returns-then-row-self-clause-row c = sym (mod-eq_of_lt c.if-row-self.true)

pub returns-clause-row : goal.returns-clause-row
returns-clause-row c =
    let walk = c.args.self.now in
    let inside = walk_row _ _ _ _ _ _ _ _ walk.block.now.many walk.at in
    less_end (walk.row + c.args.stride.rows) walk.block.now.rows (omega (arith, c.if-row-self.false)) (omega (arith, inside, c.requires.rows))
