use Rattle.std.proofs.Common.{ℕ, Option, length, sym, subst, arith}
use Rattle.stage.specs.Agreement.{Regains}
use Rattle.reedsolomon.specs.Words.{words}
use Rattle.reedsolomon.proofs.CallLaws.{Received, right_parity, wrong_parity}
use Rattle.reedsolomon.proofs.words.ReedSolomonPlainStage.regain.Goals as goal

pub returns-in_err-place : goal.returns-in_err-place
returns-in_err-place c =
    let t = c.args.self.now.strength in
    let given : Received t (length c.args.list.now) c.args.received.now c.split_at.result.0.now c.split_at.result.1.now =
    record { lengths = c.requires; bytes = λ i. omega (arith, c.type_inv.received i); front = c.split_at.ensures.front; back = c.split_at.ensures.back } in
    subst (λ (o : Option ℕ). Regains (words t) c.args.received.now o c.copy_from_slice.new.self) (sym c.from_residual.ensures)
    (right_parity _ _ _ _ _ given c.copy_from_slice.new.self c.copy_from_slice.ensures.len c.copy_from_slice.ensures.after c.in_err-place.ensures)

pub returns : goal.returns
returns c =
    let given : Received c.args.self.now.strength (length c.args.list.now) c.args.received.now c.split_at.result.0.now c.split_at.result.1.now =
    record { lengths = c.requires; bytes = λ i. omega (arith, c.type_inv.received i); front = c.split_at.ensures.front; back = c.split_at.ensures.back } in
    wrong_parity _ _ _ _ _ given c.copy_from_slice.new.self c.in_ok-place.place c.copy_from_slice.ensures.len c.in_ok-place.ensures
