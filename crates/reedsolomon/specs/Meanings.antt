-- What the stage means, by the stage.
use Rattle.reedsolomon.specs.declared.words.ReedSolomon.{ReedSolomon}
use Rattle.reedsolomon.specs.Words.{words}
use Rattle.stage.specs.Model.{Model, plain}

-- Parity of the strength that the stage is set to.
abbrev pub of_reed_solomon : ReedSolomon → Model
of_reed_solomon s = plain (words s.strength)
