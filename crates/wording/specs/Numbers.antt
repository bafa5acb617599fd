-- What number a word writes.
use Rattle.std.specs.Prelude.{ℕ, ◌+◌, ◌-◌, ◌*◌, Bool, cond, not, ◌&&◌, List, [], ◌∷◌, length, Some, None, Option, ◌==◌, nat_le}
use Rattle.std.specs.Str.{all_ascii_digits}

-- The largest number that the protocol has.
abbrev pub most : ℕ
most = 4294967295

-- The number that decimal digits write, after those of n.
abbrev pub value_after : ℕ → List ℕ → ℕ
value_after n [] = n
value_after n (c ∷ cs) = value_after (10 * n + (c - 48)) cs

-- The number that decimal digits write.
abbrev pub value : List ℕ → ℕ
value w = value_after 0 w

-- Whether a word is a numeral: one digit at least, nothing but digits, and not above the most.
abbrev pub numeral : List ℕ → Bool
numeral w = not (length w == 0) && (all_ascii_digits w && nat_le (value w) most)

-- The number that a word writes, if it is a numeral.
abbrev pub number_of : List ℕ → Option ℕ
number_of w = cond (numeral w) (Some (value w)) None
