use Rattle.std.proofs.Common.{◌+◌, ◌-◌, ◌*◌, take, get_or, refl, rules, ap, ◌∙◌, arith}
use Rattle.stage.specs.Model.{plain}
use Rattle.stage.specs.Legality.{legal_within}
use Rattle.phases.specs.Maps.{mapping}
use Rattle.phases.specs.MapLengths.{mapped_is}
use Rattle.phases.specs.Widths.{width_some}
use Rattle.phases.proofs.InPlace.{map_none, next_inside, next_bits, map_next, mapped_front}
use Rattle.phases.proofs.maps.MapPlainStage.code_front.Goals as goal

pub loop-i-init : goal.loop-i-init
loop-i-init c = (refl, map_none c.args.self.now.bits c.args.n c.args.res.now c.requires.front)

pub slice_bounds-group-end : goal.slice_bounds-group-end
slice_bounds-group-end c =
    omega (arith, next_inside c.args.self.now.bits c.args.n c.args.reach c.loop-i.i (mapped_is c.args.self.now.bits c.args.n c.args.reach c.requires.long) c.loop-i-test.true, c.requires.front, c.loop-i.invariant.0)

pub number_written-requires-clause-digits : goal.number_written-requires-clause-digits
number_written-requires-clause-digits c =
    let b = c.args.self.now.bits in
    let i = c.loop-i.i in
    let whole = mapped_is b c.args.n c.args.reach c.requires.long in
    next_bits b c.args.n c.args.reach i ((i + 1) * b - i * b) c.args.res.now c.loop-i.res (width_some b c.args.self.now.width) (omega arith) whole c.requires.front c.loop-i-test.true (legal_within (plain (mapping b)) (take c.args.n c.args.res.now) c.requires.list) c.loop-i.invariant.1

pub loop-i-preserved : goal.loop-i-preserved
loop-i-preserved c =
    let b = c.args.self.now.bits in
    let i = c.loop-i.i in
    let w = c.number_written.result in
    let whole = mapped_is b c.args.n c.args.reach c.requires.long in (
      search rules,
      map_next b c.args.n c.args.reach i ((i + 1) * b - i * b) w _ c.args.res.now c.loop-i.res (width_some b c.args.self.now.width) (omega arith) whole c.requires.front c.loop-i-test.true (omega (arith, c.requires.room, c.loop-i.invariant.0)) c.number_written.ensures.value (ap (λ t. get_or t w 0) c.tables.ensures.increments) c.loop-i.invariant.1,
    )

pub returns-clause-coded : goal.returns-clause-coded
returns-clause-coded c =
    let b = c.args.self.now.bits in
    mapped_front b c.args.n c.args.reach c.loop-i.i c.args.res.now c.loop-i.res (mapped_is b c.args.n c.args.reach c.requires.long) c.requires.front (omega (arith, c.requires.room, c.loop-i.invariant.0)) (omega arith) c.loop-i.invariant.1
