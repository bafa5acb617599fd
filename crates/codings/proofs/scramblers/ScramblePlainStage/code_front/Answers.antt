use Rattle.std.proofs.Common.{◌≡◌, ◌-◌, arith}
use Rattle.codings.specs.ScrambleLaws.{short_is}
use Rattle.codings.proofs.InPlace.{mixed_coded}
use Rattle.codings.proofs.scramblers.ScramblePlainStage.code_front.Goals as goal

pub returns-clause-coded : goal.returns-clause-coded
returns-clause-coded c =
    let same : c.args.reach - 0 ≡ c.args.n = omega (arith, (short_is c.args.n c.args.reach c.requires.long).1) in
    mixed_coded c.args.n c.args.reach (c.args.reach - 0) _ c.args.res.now c.mix_over.new.list c.requires.long c.requires.front same c.mix_over.ensures
