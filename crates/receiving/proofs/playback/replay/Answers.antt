use Rattle.std.proofs.Common.{◌+◌, ◌++◌, map, drop, vec_items, ap, ◌∙◌}
use Rattle.std.proofs.lemmas.List.{map_push}
use Rattle.receiving.specs.Histories.{after, answer}
use Rattle.receiving.specs.Playback.{answer_in, answers_of, call_of}
use Rattle.receiving.specs.Receivers.{view}
use Rattle.receiving.proofs.ScriptLaws.{played_all, played_more}
use Rattle.receiving.proofs.playback.replay.Goals as goal

pub loop-step-preserved : goal.loop-step-preserved
loop-step-preserved c =
    let v = view c.loop-step.receiver in
    ap
    (λ q. q ++ answers_of (view c.play.new.receiver) (map call_of (drop (c.loop-step.step-index + 1) c.args.script.now)))
    (ap (map answer_in) c.in_ok-push.ensures.items ∙ map_push answer_in (vec_items c.loop-step.replies) c.in_ok-reply.reply)
    ∙ played_more
    c.args.script.now
    c.loop-step.step-index
    c.step-item.result
    (map answer_in (vec_items c.loop-step.replies))
    v
    (view c.play.new.receiver)
    (answer_in c.in_ok-reply.reply)
    c.loop-step-test.true
    (c.in_ok-reply.ensures.value ∙ ap (λ s. answer v (call_of s)) c.step-item.is)
    (c.in_ok-reply.ensures.after ∙ ap (λ s. after v (call_of s)) c.step-item.is)
    c.loop-step.invariant

pub returns : goal.returns
returns c =
    played_all
    c.args.script.now
    c.loop-step.step-index
    (map answer_in (vec_items c.loop-step.replies))
    (view c.loop-step.receiver)
    c.loop-step-test.false
    c.loop-step.invariant
