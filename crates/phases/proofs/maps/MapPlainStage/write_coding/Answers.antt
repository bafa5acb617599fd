use Rattle.std.proofs.Common.{◌+◌, ◌-◌, ◌*◌, Some, length, get_or, refl, sym, ap, ◌∙◌, arith}
use Rattle.stage.specs.Model.{plain}
use Rattle.stage.specs.Legality.{legal_within}
use Rattle.phases.specs.Maps.{mapping}
use Rattle.phases.specs.MapLengths.{mapped_is}
use Rattle.phases.proofs.MapLoops.{group_there, group_bits, map_more, mapped_all}
use Rattle.phases.proofs.maps.MapPlainStage.write_coding.Goals as goal

pub number_written-requires-clause-digits : goal.number_written-requires-clause-digits
number_written-requires-clause-digits c =
    let b = c.args.self.now.bits in
    let i = c.loop-i.i in
    let xs = c.args.list.now in
    let k = length c.args.coded.now in
    let group = group_there b i ((i + 1) * b - i * b) k xs (omega arith) (mapped_is b (length xs) k c.requires.long) c.loop-i-test.true in
    group_bits _ _ _ _ _ group (legal_within (plain (mapping b)) xs c.requires.list)

pub loop-i-preserved : goal.loop-i-preserved
loop-i-preserved c =
    let b = c.args.self.now.bits in
    let i = c.loop-i.i in
    let xs = c.args.list.now in
    let k = length c.args.coded.now in
    let w = c.number_written.result in
    let group = group_there b i ((i + 1) * b - i * b) k xs (omega arith) (mapped_is b (length xs) k c.requires.long) c.loop-i-test.true in
    let whole = mapped_is b (length xs) (length c.loop-i.coded) (c.requires.long ∙ ap Some (sym c.loop-i.auto.coded)) in
    map_more b xs c.loop-i.coded _ _ _ i _ w _ c.args.self.now.width whole group refl refl c.number_written.ensures.value (ap (λ t. get_or t w 0) c.tables.ensures.increments) c.loop-i.invariant

pub returns : goal.returns
returns c =
    let b = c.args.self.now.bits in
    let xs = c.args.list.now in
    let whole = mapped_is b (length xs) (length c.loop-i.coded) (c.requires.long ∙ ap Some (sym c.loop-i.auto.coded)) in
    mapped_all b xs c.loop-i.coded c.loop-i.i whole (omega (arith, c.loop-i-test.false, c.loop-i.auto.coded)) c.loop-i.invariant
