use Rattle.stage.specs.Lists.{within_from}
use Rattle.inverter.specs.Complements.{bits_agree, bits_agree_up_to}
use Rattle.inverter.proofs.complement.InverterPlainStage.regain.Goals as goal

pub returns-in-Some : goal.returns-in-Some
returns-in-Some c =
    let h = c.in-Some.ensures in
    (bits_agree_up_to 0 c.args.received.now c.in-Some.place h, h.0)

pub complement_all-requires-clause-bits : goal.complement_all-requires-clause-bits
complement_all-requires-clause-bits c = within_from 1 c.args.received.now c.in_default.ensures

pub returns : goal.returns
returns c = (bits_agree 0 c.args.received.now c.in_default.ensures, c.complement_all.ensures)
