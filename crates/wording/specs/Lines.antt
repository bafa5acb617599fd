-- What a line is: its end, and whether it gets an answer.
use Rattle.std.specs.Prelude.{ℕ, ◌-◌, Bool, cond, not, ◌&&◌, ◌||◌, List, length, take, ◌==◌, slice_index}

-- Whether a line, without its end, is empty or begins with #.
abbrev pub skipped : List ℕ → Bool
skipped bs = length bs == 0 || slice_index bs 0 == 35

-- Whether a list ends with this byte.
abbrev pub ends_with : ℕ → List ℕ → Bool
ends_with b bs = not (length bs == 0) && slice_index bs (length bs - 1) == b

-- The list without this byte at its end, if it ends with it.
abbrev pub without_last : ℕ → List ℕ → List ℕ
without_last b bs = cond (ends_with b bs) (take (length bs - 1) bs) bs

-- A line's end is a line feed, with or without a carriage return before it.
abbrev pub without_end : List ℕ → List ℕ
without_end bs = cond (ends_with 10 bs) (without_last 13 (without_last 10 bs)) bs
