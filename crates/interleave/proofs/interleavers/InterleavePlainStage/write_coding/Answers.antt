use Rattle.std.proofs.Common.{◌≡◌, ◌*◌, ◌<◌, ◌≤◌, get_or, length, ◌∙◌, arith}
use Rattle.std.proofs.lemmas.Grind.{common_steps}
use Rattle.interleave.specs.Interleavings.{goes_to}
use Rattle.interleave.specs.MoveLaws.{exactly_is, known_few, known_one_to_one}
use Rattle.interleave.proofs.CallLaws.{put_more, put_all}
use Rattle.interleave.proofs.interleavers.InterleavePlainStage.write_coding.Goals as goal

pub bounds-coded-place : goal.bounds-coded-place
bounds-coded-place c =
    let m = c.args.self.now.block.width in
    let n = c.args.self.now.block.rows in
    let count = m * n * c.args.self.now.blocks in
    let same = exactly_is count (length c.args.list.now) (length c.args.coded.now) c.requires.long in
    let goes : c.place.result ≡ goes_to m n c.loop-bit.bit-index = cc in
    let here : c.loop-bit.bit-index < length c.args.list.now = grind (arith, common_steps) in
    omega (arith, goes, same.0, same.1, c.loop-bit.auto.coded, (known_one_to_one m n c.args.self.now.blocks c.args.self.now.known).inside c.loop-bit.bit-index (omega (arith, here, same.0)))

pub onward-walk-requires : goal.onward-walk-requires
onward-walk-requires c =
    let m = c.args.self.now.block.width in
    let n = c.args.self.now.block.rows in
    let count = m * n * c.args.self.now.blocks in
    let same = exactly_is count (length c.args.list.now) (length c.args.coded.now) c.requires.long in
    let few = known_few m n c.args.self.now.blocks c.args.self.now.known in
    let here : c.loop-bit.bit-index < length c.args.list.now = grind (arith, common_steps) in
    omega (arith, same.0, here, c.loop-bit.invariant.place)

pub loop-bit-preserved : goal.loop-bit-preserved
loop-bit-preserved c =
    let m = c.args.self.now.block.width in
    let n = c.args.self.now.block.rows in
    let b = c.args.self.now.blocks in
    let same = exactly_is (m * n * b) (length c.args.list.now) (length c.args.coded.now) c.requires.long in
    let goes : c.place.result ≡ goes_to m n c.loop-bit.bit-index = cc in
    let here : c.loop-bit.bit-index < length c.args.list.now = grind (arith, common_steps) in
    record {
      block = c.onward-walk.ensures.block ∙ c.loop-bit.invariant.block;
      place = omega (arith, c.onward-walk.ensures.bit, c.loop-bit.invariant.place);
      put = put_more (m * n * b) (goes_to m n) c.args.list.now c.loop-bit.coded c.loop-bit.bit-index c.place.result _ (known_one_to_one m n b c.args.self.now.known) (omega (arith, here, same.0)) (omega (arith, same.1, c.loop-bit.auto.coded)) goes (grind (arith, common_steps)) c.loop-bit.invariant.put;
    }

pub returns : goal.returns
returns c =
    let m = c.args.self.now.block.width in
    let n = c.args.self.now.block.rows in
    let b = c.args.self.now.blocks in
    let same = exactly_is (m * n * b) (length c.args.list.now) (length c.args.coded.now) c.requires.long in
    let done : length c.args.list.now ≤ c.loop-bit.bit-index = grind (arith, common_steps) in
    put_all (m * n * b) (goes_to m n) c.loop-bit.bit-index c.args.list.now c.loop-bit.coded (known_one_to_one m n b c.args.self.now.known) (omega (arith, done, same.0)) (omega (arith, same.1, c.loop-bit.auto.coded)) c.loop-bit.invariant.put
