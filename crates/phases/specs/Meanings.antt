-- What the stages mean, by the stage.
use Rattle.std.specs.Prelude.{take}
use Rattle.phases.specs.declared.differences.Difference.{Difference}
use Rattle.phases.specs.declared.maps.Map.{Map}
use Rattle.phases.specs.Differences.{difference}
use Rattle.phases.specs.Maps.{mapping}
use Rattle.stage.specs.Model.{Model, plain}

-- Mapping as many bits as the stage is set to.
abbrev pub of_map : Map → Model
of_map s = plain (mapping s.bits)

-- The difference stage over its reference.
abbrev pub of_difference : Difference → Model
of_difference s = plain (difference (take s.count s.row))
