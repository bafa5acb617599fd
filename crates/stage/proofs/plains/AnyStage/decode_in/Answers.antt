use Rattle.std.proofs.Common.{◌≡◌, ℕ, ◌≤◌, Option, length, take, Some, Err, ap, sym, subst, ◌∙◌, arith}
use Rattle.std.proofs.lemmas.List.{length-take-le}
use Rattle.stage.specs.Agreement.{Regains}
use Rattle.stage.specs.AgreementLaws.{regained_accepts, regained_refuses, reached_fits}
use Rattle.stage.specs.Faults.{fault_at}
use Rattle.stage.proofs.plains.AnyStage.decode_in.Goals as goal

pub returns-in-None : goal.returns-in-None
returns-in-None g c =
    let p = g.P.PlainStage.meaning c.args.self.now in
    let e : p.message_length c.args.n ≡ Some c.in-Some.length = sym c.message_length.ensures ∙ c.in-Some.is in
    let fits = reached_fits c.args.n c.in-Some.length (length c.args.res.now) (p.message_length c.args.n) e c.requires.result_room in
    let left = c.regain_front.new.res in
    let room : c.in-Some.length ≤ length left = omega (arith, fits.1, c.regain_front.auto.res) in
    let at = ap p.message_length (length-take-le c.args.n c.args.res.now c.requires.front) ∙ e ∙ ap Some (sym (length-take-le c.in-Some.length left room)) in
    let whole = subst (λ (o : Option ℕ). Regains p (take c.args.n c.args.res.now) o (take c.in-Some.length left)) c.in-None.is c.regain_front.ensures in
    (regained_accepts p (g.met.P.PlainStage.sound c.args.self.now) (take c.args.n c.args.res.now) (take c.in-Some.length left) at whole, room)

pub returns-in-Some-regain_front : goal.returns-in-Some-regain_front
returns-in-Some-regain_front g c =
    let p = g.P.PlainStage.meaning c.args.self.now in
    let e : p.message_length c.args.n ≡ Some c.in-Some.length = sym c.message_length.ensures ∙ c.in-Some.is in
    let fits = reached_fits c.args.n c.in-Some.length (length c.args.res.now) (p.message_length c.args.n) e c.requires.result_room in
    let left = c.regain_front.new.res in
    let room : c.in-Some.length ≤ length left = omega (arith, fits.1, c.regain_front.auto.res) in
    let at = ap p.message_length (length-take-le c.args.n c.args.res.now c.requires.front) ∙ e ∙ ap Some (sym (length-take-le c.in-Some.length left room)) in
    let partly = subst (λ (o : Option ℕ). Regains p (take c.args.n c.args.res.now) o (take c.in-Some.length left)) c.in-Some-regain_front.is c.regain_front.ensures in
    let same : fault_at p.number c.in-Some-regain_front.place ≡ c.from-in-Some-regain_front.result = cc in
    regained_refuses p (g.met.P.PlainStage.sound c.args.self.now) (take c.args.n c.args.res.now) (take c.in-Some.length left) c.in-Some-regain_front.place at partly ∙ ap Err same
