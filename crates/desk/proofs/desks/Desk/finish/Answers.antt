use Rattle.std.proofs.Common.{sym, ap, ◌∙◌}
use Rattle.desk.specs.Desks.{desk_view}
use Rattle.wording.specs.Texts.{refused_text}
use Rattle.std.specs.Option.{option_map}
use Rattle.desk.proofs.TurnLaws.{finishes_turn, refused_turn}
use Rattle.desk.proofs.desks.Desk.finish.Goals as goal

pub returns-in_ok-text-in-Ok : goal.returns-in_ok-text-in-Ok
returns-in_ok-text-in-Ok c =
    let f = c.in-Ok.ensures in
    finishes_turn (desk_view c.args.self.now) _ c.in-Some.begun.header c.args.bytes.now _ _ _ _
    (ap (option_map (λ b. b.header)) (sym c.take.ensures.value ∙ c.in-Some.is))
    f.0
    f.1
    (ap (option_map (λ b. b.header)) c.take.ensures.after)
    c.as_slice.ensures.value
    c.in_ok-text-in-Ok.ensures

pub returns-in_ok-text-in-Err : goal.returns-in_ok-text-in-Err
returns-in_ok-text-in-Err c =
    let f = c.in-Err.ensures in
    refused_turn (desk_view c.args.self.now) c.in-Some.begun.header _ c.args.bytes.now _ _ _
    (ap (option_map (λ b. b.header)) (sym c.take.ensures.value ∙ c.in-Some.is))
    f.0
    f.1.0
    f.1.1
    (c.in_ok-text-in-Err.ensures ∙ ap refused_text c.number.ensures)
