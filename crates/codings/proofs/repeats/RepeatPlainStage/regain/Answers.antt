use Rattle.std.proofs.Common.{◌∙◌, ◌*◌, length, get_or, refl, rules, arith}
use Rattle.codings.specs.NearestBits.{nearest_bit}
use Rattle.codings.specs.GroupLaws.{chunk_next, chunks_done, chunk_inside, written_more}
use Rattle.codings.specs.RepeatLaws.{known_is_small, copies_of, head_bit, copies_next, heads_regained, no_copy_found}
use Rattle.codings.proofs.repeats.RepeatPlainStage.regain.Goals as goal

pub returns-in-Err : goal.returns-in-Err
returns-in-Err c =
    let t = c.args.self.now.times in
    let p = (known_is_small t c.args.self.now.known).0 in
    let whole = copies_of t _ _ c.args.self.now.known c.requires in
    let steps = c.in-Some.ensures.steps in
    let chunk = chunk_next c.args.received.now _ c.in-Some.copies.now _ t _ _ p c.loop-i.invariant.2 c.loop-i.invariant.3 steps.0.1 in
    let head = head_bit t _ _ _ _ _ p chunk refl in
    no_copy_found t _ _ _ _ _ _ c.loop-i.list _ _ p steps.1 c.loop-i.auto.list whole chunk head c.in-Err.ensures c.loop-i.invariant.5

pub loop-i-preserved : goal.loop-i-preserved
loop-i-preserved c =
    let t = c.args.self.now.times in
    let p = (known_is_small t c.args.self.now.known).0 in
    let whole = copies_of t _ _ c.args.self.now.known c.requires in
    let steps = c.in-Some.ensures.steps in
    let chunk = chunk_next c.args.received.now _ c.in-Some.copies.now _ t _ _ p c.loop-i.invariant.2 c.loop-i.invariant.3 steps.0.1 in
    let head = head_bit t _ c.in-Ok.bit _ _ _ p chunk c.in-Ok.ensures.0 in
    let inside = chunk_inside t c.loop-i.i-iterator.count (length c.args.list.now) (omega (arith, chunk.inside, whole)) p in (
      search rules,
      search rules,
      steps.0.0 ∙ c.loop-i.invariant.2,
      chunk.behind _ steps.2,
      written_more (λ k. nearest_bit (get_or c.args.received.now (k * t) 0)) c.loop-i.list _ _ _ _ steps.1 (omega (arith, inside, c.loop-i.auto.list)) steps.2 head c.loop-i.invariant.4,
      copies_next t _ _ _ _ _ _ p steps.2 chunk head c.in-Ok.ensures.1 c.loop-i.invariant.5,
    )

pub returns : goal.returns
returns c =
    let t = c.args.self.now.times in
    let p = (known_is_small t c.args.self.now.known).0 in
    let whole = copies_of t _ _ c.args.self.now.known c.requires in
    let done = chunks_done c.args.received.now _ t _ (length c.args.list.now) c.loop-i.invariant.3 (omega (arith, c.in-None.ensures.steps.0.1.0, c.loop-i.invariant.2)) whole in
    heads_regained t (length c.args.list.now) _ c.args.received.now c.loop-i.list p done c.loop-i.auto.list whole c.loop-i.invariant.4 c.loop-i.invariant.5
