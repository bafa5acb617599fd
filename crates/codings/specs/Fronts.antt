-- Codings that put a message of one length in front, and what is made of it behind.
use Rattle.std.specs.Prelude.{ℕ, cond, List, ◌++◌, map, take, Some, None, Option, ◌==◌}
use Rattle.codings.specs.NearestBits.{nearest_bit}

-- The one legal length, and what it leads to.
abbrev pub only_length : ℕ → ℕ → ℕ → Option ℕ
only_length legal reached n = cond (n == legal) (Some reached) None

-- A message with what is made of it behind it.
abbrev pub with_tail : (List ℕ → List ℕ) → List ℕ → List ℕ
with_tail tail message = message ++ tail message

-- The message nearest to a received list stands in its front.
abbrev pub nearest_front : ℕ → List ℕ → List ℕ
nearest_front n received = map nearest_bit (take n received)
