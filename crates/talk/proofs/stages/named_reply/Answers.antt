use Rattle.std.proofs.Common.{rules}
use Rattle.codings.specs.Repeats.{made_repeat}
use Rattle.phases.specs.Maps.{made_map}
use Rattle.reedsolomon.specs.Words.{made_words}
use Rattle.talk.proofs.stages.named_reply.Goals as goal

pub returns-then-eq-5 : goal.returns-then-eq-5
returns-then-eq-5 c = let h = c.number_reply.ensures made_words (λ n r p. search rules) in search rules

pub returns-then-eq-6 : goal.returns-then-eq-6
returns-then-eq-6 c = let h = c.number_reply-then-eq-6.ensures made_repeat (λ n r p. p) in search rules

pub returns-then-eq-7 : goal.returns-then-eq-7
returns-then-eq-7 c = let h = c.number_reply-then-eq-7.ensures made_map (λ n r p. p) in search rules
