-- What a receiver holds by its phase: how many rows it keeps, and how many bytes it has.
use Rattle.std.specs.Prelude.{ℕ, ◌+◌}
use Rattle.frame.specs.Sizes.{row_count}
use Rattle.rows.specs.Rows.{header_rows}
use Rattle.receiving.specs.Fronts.{most_rows}
use Rattle.receiving.specs.declared.states.Phase.{Phase}
use Rattle.receiving.specs.declared.states.Phase.TheVariants.{Deaf, Heading, Loading, Whole}

-- The most bytes of a payload's block.
abbrev pub most_bytes : ℕ
most_bytes = 255

-- As many rows are kept at least, and fewer than so many while there are more to come.
abbrev pub at_least : Phase → ℕ
at_least Deaf = 0
at_least (Heading r) = 0
at_least (Loading l) = header_rows
at_least (Whole h n) = 0

abbrev pub fewer_than : Phase → ℕ
fewer_than Deaf = most_rows + 1
fewer_than (Heading r) = header_rows
fewer_than (Loading l) = row_count l.header.fl
fewer_than (Whole h n) = most_rows + 1

-- The bytes of a whole frame's payload.
abbrev pub bytes_of : Phase → ℕ
bytes_of Deaf = 0
bytes_of (Heading r) = 0
bytes_of (Loading l) = 0
bytes_of (Whole h n) = n
