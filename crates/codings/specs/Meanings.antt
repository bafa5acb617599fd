-- What the stages with settings mean, by the stage.
use Rattle.codings.specs.declared.fills.Fill.{Fill}
use Rattle.codings.specs.declared.repeats.Repeat.{Repeat}
use Rattle.codings.specs.Fills.{filling}
use Rattle.codings.specs.Repeats.{repetition}
use Rattle.stage.specs.Model.{Model, plain}

-- Filling up to the stage's total.
abbrev pub of_fill : Fill → Model
of_fill s = plain (filling s.bits s.total)

-- Repeating as often as the stage is set to.
abbrev pub of_repeat : Repeat → Model
of_repeat s = plain (repetition s.times)
