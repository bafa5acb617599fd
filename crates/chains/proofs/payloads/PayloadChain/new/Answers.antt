use Rattle.std.proofs.Common.{refl, ◌∙◌}
use Rattle.frame.proofs.Legality.{sized_is_legal}
use Rattle.chains.proofs.payloads.PayloadChain.new.Goals as goal

pub over_row-requires : goal.over_row-requires
over_row-requires c =
    let h = c.args.header in
    let sized = sized_is_legal h h _ _ refl c.in_ok-bytes.ensures in
    record { legal = sized.0; bytes = sized.1; row = c.if-reference-live_carriers.false ∙ c.live_carriers.ensures.value }
