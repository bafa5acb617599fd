use Rattle.std.proofs.Common.{◌≡◌, ◌+◌, ◌*◌, ◌<◌, length, take, sym, ◌∙◌, arith}
use Rattle.std.proofs.lemmas.List.{length-take-le}
use Rattle.convolution.specs.Convolutions.{tail}
use Rattle.convolution.proofs.RegainingLaws.{turn_is, bit_small, stop_at_x, stop_at_y}
use Rattle.convolution.proofs.InPlace.{front_ready, front_more, front_stops, front_regained}
use Rattle.convolution.proofs.convolutions.ConvolvePlainStage.regain_front.Goals as goal

pub word_of-word-requires-clause-bit : goal.word_of-word-requires-clause-bit
word_of-word-requires-clause-bit c =
    let r = front_ready c.args.reach c.args.n c.args.res.now c.loop-i.res c.loop-i.i c.loop-i.register c.loop-i.invariant.whole c.requires.front c.loop-i-test.true c.loop-i.invariant.front in
    bit_small _ _ _ _ _ _ _ r c.bit_at-bit.ensures

pub returns-then-res-i-clause-regained : goal.returns-then-res-i-clause-regained
returns-then-res-i-clause-regained c =
    let r = front_ready c.args.reach c.args.n c.args.res.now c.loop-i.res c.loop-i.i c.loop-i.register c.loop-i.invariant.whole c.requires.front c.loop-i-test.true c.loop-i.invariant.front in
    let u = turn_is _ _ _ _ _ _ _ _ r c.bit_at-bit.ensures c.word_of-word.ensures in
    let long : 2 * (c.args.reach + tail) ≡ length (take c.args.n c.args.res.now) = c.loop-i.invariant.whole ∙ sym (length-take-le c.args.n c.args.res.now c.requires.front) in
    front_stops c.args.reach c.args.n _ c.args.res.now c.loop-i.res (omega (arith, c.requires.room, c.loop-i.auto.res)) (stop_at_x _ _ _ _ _ _ _ _ _ long r u c.x_of.ensures c.if-res-i.true)

pub returns-then-res-i-2-clause-regained : goal.returns-then-res-i-2-clause-regained
returns-then-res-i-2-clause-regained c =
    let r = front_ready c.args.reach c.args.n c.args.res.now c.loop-i.res c.loop-i.i c.loop-i.register c.loop-i.invariant.whole c.requires.front c.loop-i-test.true c.loop-i.invariant.front in
    let u = turn_is _ _ _ _ _ _ _ _ r c.bit_at-bit.ensures c.word_of-word.ensures in
    let long : 2 * (c.args.reach + tail) ≡ length (take c.args.n c.args.res.now) = c.loop-i.invariant.whole ∙ sym (length-take-le c.args.n c.args.res.now c.requires.front) in
    front_stops c.args.reach c.args.n _ c.args.res.now c.loop-i.res (omega (arith, c.requires.room, c.loop-i.auto.res)) (stop_at_y _ _ _ _ _ _ _ _ _ _ long r u c.x_of.ensures c.if-res-i.false c.y_of.ensures c.if-res-i-2.true)

pub loop-i-preserved : goal.loop-i-preserved
loop-i-preserved c =
    let r = front_ready c.args.reach c.args.n c.args.res.now c.loop-i.res c.loop-i.i c.loop-i.register c.loop-i.invariant.whole c.requires.front c.loop-i-test.true c.loop-i.invariant.front in
    let u = turn_is _ _ _ _ _ _ _ _ r c.bit_at-bit.ensures c.word_of-word.ensures in
    let inside : c.loop-i.i < length c.loop-i.res = omega (arith, c.loop-i-test.true, c.loop-i.invariant.whole, c.requires.front, c.loop-i.auto.res) in
    record {
      whole = c.loop-i.invariant.whole;
      front = front_more c.args.reach c.args.n c.args.res.now c.loop-i.res c.loop-i.i c.loop-i.register c.bit_at-bit.result c.word_of-word.result _ _ inside r u c.x_of.ensures c.if-res-i.false c.y_of.ensures c.if-res-i-2.false c.loop-i.invariant.front;
    }

pub returns-clause-regained : goal.returns-clause-regained
returns-clause-regained c =
    front_regained c.args.reach c.args.n c.args.res.now c.loop-i.res c.loop-i.i c.loop-i.register c.loop-i.invariant.whole c.requires.front (omega (arith, c.requires.room, c.loop-i.auto.res)) (omega (arith, c.loop-i-test.false)) c.loop-i.invariant.front
