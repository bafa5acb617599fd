use Rattle.std.proofs.Common.{◌≡◌, ◌-◌, take, ap, ◌∙◌, arith}
use Rattle.stage.proofs.Calling.{answered_means_legal, decoded_again}
use Rattle.inverter.proofs.line.arrives.Goals as goal

pub returns : goal.returns
returns g c =
    let sent = c.in_ok-length.ensures in
    let received = c.in_ok-arrived.ensures in
    let m = g.S.Stage.model c.args.stage.now in
    let l = answered_means_legal m c.args.list.now c.in_ok-length.length _ _ sent.answer in
    let whole : c.in_ok-length.length - 0 ≡ c.in_ok-length.length = omega arith in
    decoded_again m c.args.list.now _ _ (g.met.S.Stage.keeps c.args.stage.now) l.0 (ap (λ k. take k c.code.new.res) whole ∙ sent.buffers.0) received.buffers.0
