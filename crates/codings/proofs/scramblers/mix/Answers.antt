use Rattle.std.proofs.Common.{arith}
use Rattle.codings.specs.ScrambleLaws.{window_moved, window_again, mixed_more, mixed_all}
use Rattle.codings.proofs.scramblers.mix.Goals as goal

pub loop-i-preserved : goal.loop-i-preserved
loop-i-preserved c =
    let e = window_moved c.loop-i.i c.loop-i.window c.next_byte-window.result c.loop-i.invariant.0 c.next_byte-window.ensures in (
      window_again c.loop-i.i c.next_byte-window.result e,
      mixed_more c.args.list.now c.loop-i.mixed c.loop-i.i c.next_byte-window.result (omega arith) (omega (arith, c.requires, c.loop-i.auto.mixed)) e c.loop-i.invariant.1,
    )

pub returns : goal.returns
returns c =
    mixed_all c.args.list.now c.loop-i.mixed c.loop-i.i (omega arith) (omega (arith, c.requires, c.loop-i.auto.mixed)) c.loop-i.invariant.1
