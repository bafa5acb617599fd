use Rattle.codings.proofs.InPlace.{mixed_regained}
use Rattle.codings.proofs.scramblers.ScramblePlainStage.regain_front.Goals as goal

pub returns-clause-regained : goal.returns-clause-regained
returns-clause-regained c =
    mixed_regained c.args.n c.args.reach _ c.args.res.now c.mix_over.new.list c.requires.long c.requires.front c.type_inv.res c.mix_over.ensures
