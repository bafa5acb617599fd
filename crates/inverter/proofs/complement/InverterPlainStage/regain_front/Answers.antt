use Rattle.std.proofs.Common.{◌≡◌, ◌-◌, ℕ, take, Some, None, subst, arith}
use Rattle.stage.specs.Lists.{within_from}
use Rattle.stage.specs.Searches.{FirstAbove}
use Rattle.inverter.specs.Complements.{bits_agree, bits_agree_up_to}
use Rattle.inverter.proofs.InPlace.{flipped_coded}
use Rattle.inverter.proofs.complement.InverterPlainStage.regain_front.Goals as goal

pub returns-in-Some-clause-regained : goal.returns-in-Some-clause-regained
returns-in-Some-clause-regained c =
    let whole : c.args.n - 0 ≡ c.args.n = omega arith in
    let found = subst (λ (m : ℕ). FirstAbove 1 (take m c.args.res.now) (Some c.in-Some.place)) whole c.in-Some.ensures in
    (bits_agree_up_to 0 (take c.args.n c.args.res.now) c.in-Some.place found, found.0)

pub complement_over-requires : goal.complement_over-requires
complement_over-requires c = within_from 1 (take (c.args.n - 0) c.args.res.now) c.in_default.ensures

pub returns-clause-regained : goal.returns-clause-regained
returns-clause-regained c =
    let whole : c.args.n - 0 ≡ c.args.n = omega arith in
    let bits = subst (λ (m : ℕ). FirstAbove 1 (take m c.args.res.now) None) whole c.in_default.ensures in (
      bits_agree 0 (take c.args.n c.args.res.now) bits,
      flipped_coded c.args.n c.args.reach (c.args.n - 0) _ c.args.res.now c.complement_over.new.bits c.requires.long c.requires.front whole c.complement_over.ensures,
    )
