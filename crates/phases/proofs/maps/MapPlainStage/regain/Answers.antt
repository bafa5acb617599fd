use Rattle.std.proofs.Common.{◌≡◌, length, get_or, Some, sym, ap, ◌∙◌, arith}
use Rattle.phases.specs.Maps.{increment_of, number_of, unmapped_length}
use Rattle.phases.proofs.MapLoops.{unmap_more, unmapped, not_unmapped}
use Rattle.phases.proofs.maps.MapPlainStage.regain.Goals as goal

pub returns-then-increments-number : goal.returns-then-increments-number
returns-then-increments-number c =
    let b = c.args.self.now.bits in
    let y = get_or c.args.received.now c.loop-i.i 0 in
    let w = c.number_for-number.result in
    let number : w ≡ number_of b y = c.number_for-number.ensures ∙ ap (λ t. get_or t y 0) c.tables.ensures.numbers in
    not_unmapped b c.args.received.now c.loop-i.list c.loop-i.i c.args.self.now.width
    (c.requires ∙ ap Some (sym c.loop-i.auto.list))
    c.loop-i-test.true
    (λ e. c.if-increments-number.true (ap (λ t. get_or t w 0) c.tables.ensures.increments ∙ ap (increment_of b) number ∙ e))
    c.loop-i.invariant

pub loop-i-preserved : goal.loop-i-preserved
loop-i-preserved c =
    let y = get_or c.args.received.now c.loop-i.i 0 in
    let w = c.number_for-number.result in
    unmap_more
    c.args.self.now.bits
    c.args.received.now
    c.args.list.now
    c.loop-i.list
    c.write_bits.new.group
    c.loop-i.i
    _
    w
    c.requires
    c.loop-i.auto.list
    (omega arith)
    (omega arith)
    (c.number_for-number.ensures ∙ ap (λ t. get_or t y 0) c.tables.ensures.numbers)
    (sym (ap (λ t. get_or t w 0) c.tables.ensures.increments) ∙ c.if-increments-number.false)
    c.write_bits.ensures
    c.loop-i.invariant

pub returns : goal.returns
returns c =
    let long : unmapped_length c.args.self.now.bits (length c.args.received.now) ≡ Some (length c.loop-i.list) = c.requires ∙ ap Some (sym c.loop-i.auto.list) in
    unmapped c.args.self.now.bits c.args.received.now c.loop-i.list c.loop-i.i c.args.self.now.width long (omega arith) (omega arith) c.loop-i.invariant
