-- The replies so far, and the answers to the steps that are left, are the answers to the whole script.
use Rattle.std.proofs.Common.{◌≡◌, ◌++◌, map, drop, vec_items}
use Rattle.receiving.specs.Playback.{answer_in, answers_of, call_of}
use Rattle.receiving.specs.Receivers.{view}
use Rattle.receiving.specs.Steps.{fresh}
use Rattle.receiving.proofs.playback.replay.Given as goal

abbrev pub invariant-loop-step : goal.invariant-loop-step
invariant-loop-step l = map answer_in (vec_items l.replies) ++ answers_of (view l.receiver) (map call_of (drop l.step-index l.script)) ≡ answers_of fresh (map call_of l.script)
