use Rattle.std.proofs.Common.{◌≡◌, IfOk, vec_items, sym, subst}
use Rattle.desk.specs.Receiving.{part_text}
use Rattle.desk.proofs.receives.part_text.Goals as goal

pub returns-in-Payload : goal.returns-in-Payload
returns-in-Payload c =
    subst (λ p. IfOk c.word_text-in-Payload.result (λ t. vec_items t ≡ part_text p)) (sym c.in-Payload.is) c.word_text-in-Payload.ensures
