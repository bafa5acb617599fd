-- What the two stages have in common: the longest list.
use Rattle.std.specs.Prelude.{ℕ}

-- The most bits, increments or cells that a list of these stages has.
abbrev pub most_elements : ℕ
most_elements = 9072
