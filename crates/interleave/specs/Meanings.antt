-- What the stage means, by the stage.
use Rattle.interleave.specs.declared.interleavers.Interleave.{Interleave}
use Rattle.interleave.specs.Interleavings.{interleaving}
use Rattle.stage.specs.Model.{Model, plain}

-- Interleaving as many blocks of the size that the stage is set to.
abbrev pub of_interleave : Interleave → Model
of_interleave s = plain (interleaving s.block.width s.block.rows s.blocks)
