use Rattle.std.proofs.Common.{arith}
use Rattle.codings.specs.ScrambleLaws.{window_moved, window_again}
use Rattle.codings.proofs.InPlace.{mixed_more, mixed_whole}
use Rattle.codings.proofs.scramblers.mix_over.Goals as goal

pub loop-byte-preserved : goal.loop-byte-preserved
loop-byte-preserved c =
    let i = c.loop-byte.byte-index in
    let e = window_moved i c.loop-byte.window c.next_byte-window.result c.loop-byte.invariant.0 c.next_byte-window.ensures in (
      window_again i c.next_byte-window.result e,
      mixed_more c.args.list.now c.loop-byte.list i c.next_byte-window.result (omega arith) e c.loop-byte.invariant.1,
    )

pub returns : goal.returns
returns c =
    mixed_whole c.loop-byte.byte-index c.args.list.now c.loop-byte.list (omega arith) c.loop-byte.auto.list c.loop-byte.invariant.1
