use Rattle.std.proofs.Common.{[]}
use Rattle.wording.proofs.CellLaws.{all_mapped, one_more_mapped}
use Rattle.wording.proofs.HexLaws.{passes_at}
use Rattle.wording.proofs.cells.cells_in.Goals as goal

pub digit_value-requires : goal.digit_value-requires
digit_value-requires c = passes_at _ _ _ c.requires c.loop-character-test.true

pub loop-character-preserved : goal.loop-character-preserved
loop-character-preserved c =
    one_more_mapped _ [] _ _ c.args.word.now c.loop-character.character-index _ c.loop-character-test.true
    c.loop-character.invariant
    c.digit_value.ensures.value
    c.in_ok-push.ensures.items

pub returns : goal.returns
returns c = all_mapped _ [] _ c.args.word.now c.loop-character.character-index c.loop-character-test.false c.loop-character.invariant
