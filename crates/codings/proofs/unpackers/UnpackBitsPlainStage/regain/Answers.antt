use Rattle.std.proofs.Common.{length}
use Rattle.codings.specs.UnpackLaws.{eights, bits_regained, no_bit_found}
use Rattle.codings.proofs.unpackers.UnpackBitsPlainStage.regain.Goals as goal

pub returns-in-Some : goal.returns-in-Some
returns-in-Some c =
    no_bit_found c.args.received.now c.args.list.now c.in-Some.place (eights _ _ c.requires) c.in-Some.ensures

pub returns : goal.returns
returns c =
    bits_regained (length c.args.list.now) c.args.received.now c.pack.new.bytes c.pack.auto.bytes (eights _ _ c.requires) c.in_default.ensures c.pack.ensures
