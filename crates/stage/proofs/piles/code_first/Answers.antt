use Rattle.std.proofs.Common.{◌≡◌, length, take, ap, arith}
use Rattle.std.proofs.lemmas.List.{length-take-le}
use Rattle.stage.specs.Model.{code_room, pile}
use Rattle.stage.specs.Legality.{fitting, legal_fits}
use Rattle.stage.proofs.Calling.{middle_legal, middle_code_room}
use Rattle.stage.proofs.piles.code_first.Goals as goal

pub returns : goal.returns
returns g c =
    let a = g.A.Stage.model c.args.pair.now.first in
    let b = g.B.Stage.model c.args.pair.now.second in
    let given = take c.args.n c.args.res.now in
    let left = c.code_in.new.res in
    let f = fitting a b (legal_fits (pile a b) given c.requires.list) in
    let pa = g.met.A.Stage.keeps c.args.pair.now.first f.first in
    let same : code_room (pile a b) (length given) ≡ code_room (pile a b) c.args.n =
    ap (code_room (pile a b)) (length-take-le c.args.n c.args.res.now c.requires.front) in
    record {
      coded = c.code_in.ensures;
      list = middle_legal a b given left c.code_in.result f pa c.requires.list c.code_in.ensures;
      work_room = middle_code_room a b given left c.code_in.result _ f pa c.requires.list c.code_in.ensures (omega (arith, same, c.requires.work_room, c.code_in.auto.work));
      result_room = middle_code_room a b given left c.code_in.result _ f pa c.requires.list c.code_in.ensures (omega (arith, same, c.requires.result_room, c.code_in.auto.res));
    }
