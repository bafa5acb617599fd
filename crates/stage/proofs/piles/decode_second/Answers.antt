use Rattle.std.proofs.Common.{◌≡◌, length, take, ap, arith}
use Rattle.std.proofs.lemmas.List.{length-take-le}
use Rattle.stage.specs.Model.{decode_room, pile}
use Rattle.stage.specs.Legality.{fitting}
use Rattle.stage.proofs.Calling.{room_behind}
use Rattle.stage.proofs.piles.decode_second.Goals as goal

pub returns : goal.returns
returns g c =
    let a = g.A.Stage.model c.args.pair.now.first in
    let b = g.B.Stage.model c.args.pair.now.second in
    let given = take c.args.n c.args.res.now in
    let f = fitting a b c.requires.fit in
    let pb = g.met.B.Stage.keeps c.args.pair.now.second f.second in
    let same : decode_room (pile a b) (length given) ≡ decode_room (pile a b) c.args.n =
    ap (decode_room (pile a b)) (length-take-le c.args.n c.args.res.now c.requires.front) in
    record {
      left = c.decode_in.ensures;
      rooms = room_behind a b given c.decode_in.new.work c.decode_in.new.res c.decode_in.result pb (omega (arith, same, c.requires.work_room, c.decode_in.auto.work)) (omega (arith, same, c.requires.result_room, c.decode_in.auto.res)) c.decode_in.ensures;
    }
