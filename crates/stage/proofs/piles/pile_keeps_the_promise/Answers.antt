use Rattle.std.proofs.Common.{sym, ◌∙◌}
use Rattle.stage.specs.Legality.{fitting}
use Rattle.stage.specs.PilePromise.{law_of_piles}
use Rattle.stage.proofs.Misfits.{law_of_misfits}
use Rattle.stage.proofs.piles.pile_keeps_the_promise.Goals as goal

pub returns : goal.returns
returns g c =
    let a = g.A.Stage.model c.args.pair.now.first in
    let b = g.B.Stage.model c.args.pair.now.second in
    record {
      value = c.fit.ensures;
      law = λ fitted.
          let f = sym c.fit.ensures ∙ fitted in
          let fit = fitting a b f in
          law_of_piles a b (g.met.A.Stage.keeps c.args.pair.now.first fit.first) (g.met.B.Stage.keeps c.args.pair.now.second fit.second) f;
      misfit = λ unfitted. law_of_misfits a b (sym c.fit.ensures ∙ unfitted);
    }
