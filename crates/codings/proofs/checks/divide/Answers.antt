use Rattle.std.proofs.Common.{arith}
use Rattle.codings.specs.CheckLaws.{divided_more}
use Rattle.codings.proofs.checks.divide.Goals as goal

pub loop-bit-preserved : goal.loop-bit-preserved
loop-bit-preserved c =
    divided_more c.args.message.now c.loop-bit.bit-index c.loop-bit.register c.shift-register.result (omega arith) c.shift-register.ensures c.loop-bit.invariant
