use Rattle.std.proofs.Common.{◌+◌, refl, sym, arith}
use Rattle.std.proofs.lemmas.List.{get_or_past}
use Rattle.stage.specs.Model.{plain}
use Rattle.stage.specs.Legality.{legal_within}
use Rattle.stage.specs.Lists.{within_at}
use Rattle.convolution.specs.Convolutions.{convolution}
use Rattle.convolution.specs.NearestLaws.{convolved_is}
use Rattle.convolution.proofs.CodingLaws.{InHand, pair_more, put_all}
use Rattle.convolution.proofs.convolutions.ConvolvePlainStage.write_coding.Goals as goal

pub word_of-requires-clause-bit : goal.word_of-requires-clause-bit
word_of-requires-clause-bit c =
    within_at 1 c.args.list.now c.loop-i.i (legal_within (plain convolution) c.args.list.now c.requires.list)

pub loop-i-preserved : goal.loop-i-preserved
loop-i-preserved c =
    let xs = c.args.list.now in
    let long = convolved_is _ _ c.requires.long in
    let h : InHand xs c.loop-i.i c.loop-i.i _ = record { inside = omega arith; place = refl; value = refl } in
    pair_more xs c.loop-i.coded _ c.loop-i.i c.loop-i.register _ _ _ (legal_within (plain convolution) xs c.requires.list) (omega (arith, h.inside, long.1, c.loop-i.auto.coded)) h c.word_of.ensures c.put_pair-register.ensures.register c.put_pair-register.ensures.pair c.loop-i.invariant

pub loop-i-2-preserved : goal.loop-i-2-preserved
loop-i-2-preserved c =
    let xs = c.args.list.now in
    let i = c.loop-i-2.i in
    let long = convolved_is _ _ c.requires.long in
    let h : InHand xs i i 0 = record { inside = omega arith; place = refl; value = sym (get_or_past xs i 0 (omega arith)) } in
    let put = pair_more xs c.loop-i-2.coded _ i c.loop-i-2.register _ 0 _ (legal_within (plain convolution) xs c.requires.list) (omega (arith, h.inside, long.1, c.loop-i-2.auto.coded)) h c.word_of-in-loop-i-2.ensures c.put_pair-register-in-loop-i-2.ensures.register c.put_pair-register-in-loop-i-2.ensures.pair c.loop-i-2.invariant.put in
    record {
      put = put;
      whole = λ most. put_all xs c.put_pair-register-in-loop-i-2.new.coded (i + 1) _ (omega (arith, long.1, c.loop-i-2.auto.coded, c.put_pair-register-in-loop-i-2.auto.coded)) most put;
    }
