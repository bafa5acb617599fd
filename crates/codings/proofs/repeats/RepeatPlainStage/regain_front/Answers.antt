use Rattle.std.proofs.Common.{◌+◌, ◌*◌, take, get_or, refl, rules, ◌∙◌, arith}
use Rattle.std.proofs.lemmas.List.{length-take-le, get_or-take}
use Rattle.codings.specs.NearestBits.{nearest_bit}
use Rattle.codings.specs.RepeatLaws.{known_is_small, copies_of, head_bit, copies_next, heads_regained, no_copy_found}
use Rattle.codings.proofs.InPlace.{gathered_more, part_next}
use Rattle.codings.proofs.repeats.RepeatPlainStage.regain_front.Goals as goal

pub returns-in-Err-clause-regained : goal.returns-in-Err-clause-regained
returns-in-Err-clause-regained c =
    let t = c.args.self.now.times in
    let received = take c.args.n c.args.res.now in
    let p = (known_is_small t c.args.self.now.known).0 in
    let whole = copies_of t c.args.n c.args.reach c.args.self.now.known c.requires.long in
    let long = length-take-le c.args.n c.args.res.now c.requires.front in
    let short = length-take-le c.args.reach c.loop-i.res (omega (arith, c.requires.room, c.loop-i.invariant.0)) in
    let group = part_next (λ k. nearest_bit (get_or received (k * t) 0)) c.args.res.now c.loop-i.res c.args.n t c.loop-i.i c.args.reach p c.loop-i-test.true whole c.requires.front c.loop-i.invariant.0 c.loop-i.invariant.1 in
    let head = head_bit t c.loop-i.i _ received _ _ p group refl in
    no_copy_found t c.loop-i.i c.args.reach c.loop-i.i _ c.in-Err.place received (take c.args.reach c.loop-i.res) _ _ p refl short (long ∙ whole) group head c.in-Err.ensures c.loop-i.invariant.2

pub loop-i-preserved : goal.loop-i-preserved
loop-i-preserved c =
    let t = c.args.self.now.times in
    let received = take c.args.n c.args.res.now in
    let p = (known_is_small t c.args.self.now.known).0 in
    let whole = copies_of t c.args.n c.args.reach c.args.self.now.known c.requires.long in
    let group = part_next (λ k. nearest_bit (get_or received (k * t) 0)) c.args.res.now c.loop-i.res c.args.n t c.loop-i.i c.args.reach p c.loop-i-test.true whole c.requires.front c.loop-i.invariant.0 c.loop-i.invariant.1 in
    let head = head_bit t c.loop-i.i c.in-Ok.bit received _ _ p group c.in-Ok.ensures.0 in (
      search rules,
      gathered_more (λ k. nearest_bit (get_or received (k * t) 0)) c.args.res.now c.loop-i.res c.loop-i.i c.in-Ok.bit (omega (arith, c.loop-i-test.true, c.requires.room, c.loop-i.invariant.0)) head c.loop-i.invariant.1,
      copies_next t c.loop-i.i (c.loop-i.i + 1) c.in-Ok.bit received _ _ p refl group head c.in-Ok.ensures.1 c.loop-i.invariant.2,
    )

pub returns-clause-regained : goal.returns-clause-regained
returns-clause-regained c =
    let t = c.args.self.now.times in
    let received = take c.args.n c.args.res.now in
    let p = (known_is_small t c.args.self.now.known).0 in
    let whole = copies_of t c.args.n c.args.reach c.args.self.now.known c.requires.long in
    let long = length-take-le c.args.n c.args.res.now c.requires.front in
    let short = length-take-le c.args.reach c.loop-i.res (omega (arith, c.requires.room, c.loop-i.invariant.0)) in
    heads_regained t c.args.reach c.loop-i.i received (take c.args.reach c.loop-i.res) p (omega arith) short (long ∙ whole) (λ k l. get_or-take c.args.reach c.loop-i.res k 0 (omega arith) ∙ c.loop-i.invariant.1.moved k l) c.loop-i.invariant.2
