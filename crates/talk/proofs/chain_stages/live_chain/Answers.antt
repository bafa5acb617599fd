use Rattle.std.proofs.Common.{refl, ap, ◌∙◌}
use Rattle.chains.specs.Calls.{made_payload_chain}
use Rattle.talk.proofs.LiveLaws.{live_front}
use Rattle.talk.proofs.chain_stages.live_chain.Goals as goal

pub returns : goal.returns
returns c =
    c.new.ensures
    ∙ ap (made_payload_chain c.args.header)
    (c.front.ensures ∙ live_front _ _ _ _ _ c.requires refl c.gather-count.ensures.value c.gather-count.ensures.buffer)
