use Rattle.std.proofs.Common.{◌≡◌, ◌*◌, take}
use Rattle.codings.specs.Unpackers.{unpacked}
use Rattle.codings.proofs.unpackers.UnpackBitsPlainStage.write_coding.Given as goal

abbrev pub invariant-loop-i : goal.invariant-loop-i
invariant-loop-i l = take (l.i * 8) l.coded ≡ unpacked (take l.i l.list)
