-- How long the lists of one call become.
use Rattle.std.specs.Prelude.{ℕ, max, Bool, ◌&&◌, Some, None, Option, nat_le}
use Rattle.stage.specs.declared.outline.Span.{Span}

-- The length behind two stages in turn; none where either does not have the length it is given.
abbrev pub through : Option ℕ → (ℕ → Option ℕ) → Option ℕ
through None next = None
through (Some k) next = next k

-- The longest of the lists so far and those that follow from the list reached, if one is reached.
abbrev pub longest_with : ℕ → Option ℕ → (ℕ → ℕ) → ℕ
longest_with longest None onward = longest
longest_with longest (Some k) onward = max longest (onward k)

-- The lists of one plain stage: the given one, and the one it leads to, if there is one.
abbrev pub one_step : ℕ → Option ℕ → Span
one_step given reached = record { longest = longest_with given reached (λ k. k); last = reached }

-- The lists of two members in turn.
abbrev pub two_steps : Span → Span → Span
two_steps near far = record { longest = max near.longest far.longest; last = far.last }

-- Whether the work buffer and the result buffer both have the room that a call needs.
abbrev pub roomy : ℕ → ℕ → ℕ → Bool
roomy room work result = nat_le room work && nat_le room result
