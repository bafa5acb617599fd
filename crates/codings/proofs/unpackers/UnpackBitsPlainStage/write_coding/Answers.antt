use Rattle.std.proofs.Common.{arith}
use Rattle.codings.specs.Unpackers.{most_bytes, eight_bits}
use Rattle.codings.specs.GroupLaws.{grouped_is, groups_more, groups_all}
use Rattle.codings.specs.UnpackLaws.{eight}
use Rattle.codings.proofs.unpackers.UnpackBitsPlainStage.write_coding.Goals as goal

pub loop-i-preserved : goal.loop-i-preserved
loop-i-preserved c =
    groups_more eight_bits 8 eight c.loop-i.i _ c.args.list.now c.loop-i.coded c.put_bits.new.eight (omega arith) (omega (arith, c.loop-i.auto.coded, (grouped_is most_bytes 8 _ _ c.requires.long).1)) c.put_bits.ensures c.loop-i.invariant

pub returns : goal.returns
returns c =
    groups_all eight_bits 8 c.loop-i.i c.args.list.now c.loop-i.coded (omega arith) (omega (arith, c.loop-i.auto.coded, (grouped_is most_bytes 8 _ _ c.requires.long).1)) c.loop-i.invariant
