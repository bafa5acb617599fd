use Rattle.std.proofs.Common.{ℕ, List, ◌≡◌, ◌+◌, ◌*◌, ◌<◌, length, get_or, ap, ◌∙◌, arith}
use Rattle.std.specs.Iterator.Adapters.{enumerate_count}
use Rattle.convolution.specs.Convolutions.{tail, nearest}
use Rattle.convolution.specs.NearestLaws.{plain_is}
use Rattle.convolution.proofs.RegainingLaws.{ready, pairs_on, pairs_end, turn_is, bit_small, stop_at_x, stop_at_y, bit_written, bit_kept, take_more, take_all}
use Rattle.convolution.proofs.convolutions.ConvolvePlainStage.regain.Goals as goal
use Rattle.convolution.proofs.convolutions.ConvolvePlainStage.regain.Goals.{then-i-list, else-i-list}

pub word_of-word-requires-clause-bit : goal.word_of-word-requires-clause-bit
word_of-word-requires-clause-bit c =
    let r = ready _ _ _ _ _ _ _ _ c.in-Some.i c.loop-i.register c.loop-i.invariant.pairs c.loop-i.invariant.taken c.in-Some.ensures.steps.1 c.in-Some.ensures.steps.0.1.0 c.in-Some.ensures.steps.0.1.1 in
    bit_small _ _ _ _ _ _ _ r c.bit_at-bit.ensures

pub returns-then-pair-x_of : goal.returns-then-pair-x_of
returns-then-pair-x_of c =
    let r = ready _ _ _ _ _ _ _ _ c.in-Some.i c.loop-i.register c.loop-i.invariant.pairs c.loop-i.invariant.taken c.in-Some.ensures.steps.1 c.in-Some.ensures.steps.0.1.0 c.in-Some.ensures.steps.0.1.1 in
    let long = plain_is (length c.args.list.now) (length c.args.received.now) c.requires in
    let room : 2 * (length c.loop-i.list + tail) ≡ length c.args.received.now = omega (arith, long.1, c.loop-i.auto.list) in
    let u = turn_is _ _ _ _ _ _ _ _ r c.bit_at-bit.ensures c.word_of-word.ensures in
    stop_at_x _ _ _ _ _ _ _ _ _ room r u c.x_of.ensures c.if-pair-x_of.true

pub bounds-pair-1 : goal.bounds-pair-1
bounds-pair-1 c =
    let r = ready _ _ _ _ _ _ _ _ c.in-Some.i c.loop-i.register c.loop-i.invariant.pairs c.loop-i.invariant.taken c.in-Some.ensures.steps.1 c.in-Some.ensures.steps.0.1.0 c.in-Some.ensures.steps.0.1.1 in
    omega (arith, r.at.long)

pub returns-then-pair-y_of : goal.returns-then-pair-y_of
returns-then-pair-y_of c =
    let r = ready _ _ _ _ _ _ _ _ c.in-Some.i c.loop-i.register c.loop-i.invariant.pairs c.loop-i.invariant.taken c.in-Some.ensures.steps.1 c.in-Some.ensures.steps.0.1.0 c.in-Some.ensures.steps.0.1.1 in
    let long = plain_is (length c.args.list.now) (length c.args.received.now) c.requires in
    let room : 2 * (length c.loop-i.list + tail) ≡ length c.args.received.now = omega (arith, long.1, c.loop-i.auto.list) in
    let u = turn_is _ _ _ _ _ _ _ _ r c.bit_at-bit.ensures c.word_of-word.ensures in
    stop_at_y _ _ _ _ _ _ _ _ _ _ room r u c.x_of.ensures c.if-pair-x_of.false c.y_of.ensures c.if-pair-y_of.true

pub loop-i-preserved : goal.loop-i-preserved
loop-i-preserved c =
    let r = ready _ _ _ _ _ _ _ _ c.in-Some.i c.loop-i.register c.loop-i.invariant.pairs c.loop-i.invariant.taken c.in-Some.ensures.steps.1 c.in-Some.ensures.steps.0.1.0 c.in-Some.ensures.steps.0.1.1 in
    let u = turn_is _ _ _ _ _ _ _ _ r c.bit_at-bit.ensures c.word_of-word.ensures in
    let h = c.in-Some.ensures.steps in
    let next : enumerate_count c.next.new.self ≡ c.in-Some.i + 1 = omega arith in
    let written : (k : ℕ) → k < c.in-Some.i + 1 → k < length c.loop-i.list → get_or c.if-i-list.list k 0 ≡ get_or (nearest (length c.loop-i.list) c.args.received.now) k 0 =
    elim c.if-i-list.branch [
      | then-i-list w ↦ λ k b h. ap (λ (zs : List ℕ). get_or zs k 0) w.list-is ∙ bit_written _ _ _ _ _ _ _ w.if-i-list.true u r.taken k b h
      | else-i-list w ↦ λ k b h. ap (λ (zs : List ℕ). get_or zs k 0) w.list-is ∙ bit_kept _ _ _ _ _ w.if-i-list.false r.taken k b h
    ] in
    record {
      pairs = pairs_on _ _ _ _ _ _ _ _ c.loop-i.invariant.pairs h.0.1.0 h.0.1.1 h.0.0 h.2;
      taken = take_more (length c.loop-i.list) (length c.if-i-list.list) c.args.received.now c.loop-i.list c.if-i-list.list c.in-Some.pair.now c.in-Some.i _ c.loop-i.register c.bit_at-bit.result _ _ _ c.if-i-list.auto.list next written r u c.x_of.ensures c.if-pair-x_of.false c.y_of.ensures c.if-pair-y_of.false;
    }

pub returns : goal.returns
returns c =
    let h = c.in-None.ensures.steps in
    let long = plain_is (length c.args.list.now) (length c.args.received.now) c.requires in
    let room : 2 * (length c.loop-i.list + tail) ≡ length c.args.received.now = omega (arith, long.1, c.loop-i.auto.list) in
    take_all c.args.received.now c.loop-i.list _ c.loop-i.register room (pairs_end _ _ _ _ (length c.loop-i.list) c.loop-i.invariant.pairs h.0.1.0 room) c.loop-i.invariant.taken
