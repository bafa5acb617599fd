use Rattle.std.proofs.Common.{ℕ, replicate, sym, ap, ◌∙◌}
use Rattle.desk.specs.Desks.{desk_view}
use Rattle.desk.specs.Sending.{begin_asked}
use Rattle.desk.proofs.TurnLaws.{begins_turn, zeros_only}
use Rattle.desk.proofs.desks.Desk.begin.Goals as goal

pub returns-in_ok-text-in-Ok : goal.returns-in_ok-text-in-Ok
returns-in_ok-text-in-Ok c =
    let f = c.in-Ok.ensures in
    begins_turn (desk_view c.args.self.now) (begin_asked c.args.request.now) _ _ _ _ _
    (zeros_only c.in_ok-cells.cells.items c.in_ok-cells.ensures.items ∙ ap (λ (n : ℕ). replicate {A = ℕ} n 0) (sym c.in_ok-cells.cells.ok.0 ∙ c.in_ok-cells.ensures.len))
    c.as_slice.ensures.value
    f.0
    f.1
    c.in_ok-text-in-Ok.ensures
