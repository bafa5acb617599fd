use Rattle.wording.proofs.HexLaws.{all_digits, two_more_digits}
use Rattle.wording.proofs.hexes.append_digits.Goals as goal

pub loop-byte-preserved : goal.loop-byte-preserved
loop-byte-preserved c =
    two_more_digits _ _ _ _ c.args.list.now c.loop-byte.byte-index _ _ c.loop-byte-test.true
    c.loop-byte.invariant
    c.digit_of.ensures
    c.in_ok-push.ensures.items
    c.digit_of-in-loop-byte.ensures
    c.in_ok-push-2.ensures.items

pub returns : goal.returns
returns c = all_digits _ _ c.args.list.now c.loop-byte.byte-index c.loop-byte-test.false c.loop-byte.invariant
