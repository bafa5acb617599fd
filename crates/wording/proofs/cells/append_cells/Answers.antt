use Rattle.wording.proofs.CellLaws.{all_mapped, one_more_mapped}
use Rattle.wording.proofs.cells.append_cells.Goals as goal

pub loop-cell-preserved : goal.loop-cell-preserved
loop-cell-preserved c =
    one_more_mapped _ _ _ _ c.args.cells.now c.loop-cell.cell-index _ c.loop-cell-test.true
    c.loop-cell.invariant
    c.cell_char.ensures
    c.in_ok-push.ensures.items

pub returns : goal.returns
returns c = all_mapped _ _ _ c.args.cells.now c.loop-cell.cell-index c.loop-cell-test.false c.loop-cell.invariant
