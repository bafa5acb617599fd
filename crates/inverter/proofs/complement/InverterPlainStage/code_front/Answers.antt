use Rattle.std.proofs.Common.{◌≡◌, ◌-◌, true, take, sym, subst, ℕ, arith}
use Rattle.stage.specs.Plain.{within}
use Rattle.stage.specs.Model.{plain}
use Rattle.stage.specs.Legality.{legal_within}
use Rattle.inverter.specs.Complement.{complement}
use Rattle.inverter.specs.Complements.{any_length_is}
use Rattle.inverter.proofs.InPlace.{flipped_coded}
use Rattle.inverter.proofs.complement.InverterPlainStage.code_front.Goals as goal

pub complement_over-requires : goal.complement_over-requires
complement_over-requires c =
    let same : c.args.reach - 0 ≡ c.args.n = omega (arith, (any_length_is c.args.n c.args.reach c.requires.long).1) in
    subst (λ (m : ℕ). within 1 (take m c.args.res.now) ≡ true) (sym same) (legal_within (plain complement) (take c.args.n c.args.res.now) c.requires.list)

pub returns-clause-coded : goal.returns-clause-coded
returns-clause-coded c =
    let same : c.args.reach - 0 ≡ c.args.n = omega (arith, (any_length_is c.args.n c.args.reach c.requires.long).1) in
    flipped_coded c.args.n c.args.reach (c.args.reach - 0) _ c.args.res.now c.complement_over.new.bits c.requires.long c.requires.front same c.complement_over.ensures
