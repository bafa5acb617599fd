-- The bits nearest to received elements.
use Rattle.std.specs.Prelude.{ℕ, min}

-- The bit nearest to a received element: itself, or 1 where it is no bit.
abbrev pub nearest_bit : ℕ → ℕ
nearest_bit y = min y 1
