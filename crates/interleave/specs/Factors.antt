-- Numbers without a common factor, and the smallest of them from a start on.
use Rattle.std.specs.Prelude.{◌≡◌, ℕ, zero, suc, ◌+◌, ◌%◌, ◌<◌, ◌≤◌, Bool, true, cond, not, ◌&&◌, ◌||◌, ◌==◌, nat_lt}

-- One number divides another.
abbrev pub Divides : ℕ → ℕ → Type 0
Divides d a = a % d ≡ 0

-- Every number that divides both is 1.
abbrev pub NoCommonFactor : ℕ → ℕ → Type 0
NoCommonFactor a b = (d : ℕ) → Divides d a → Divides d b → d ≡ 1

-- The smallest number from `start` on that has no common factor with m.
pub record Smallest (m start k : ℕ) : Type 0 where
  pub from : start ≤ k
  pub apart : NoCommonFactor k m
  pub least : (j : ℕ) → start ≤ j → j < k → NoCommonFactor j m → ⊥

-- Whether a number divides two others.
abbrev pub divides_both : ℕ → ℕ → ℕ → Bool
divides_both d a b = a % d == 0 && b % d == 0

-- Whether none of the numbers from 2 to below `end` divides both.
abbrev pub apart_below : ℕ → ℕ → ℕ → Bool
apart_below zero a b = true
apart_below (suc d) a b = apart_below d a b && (nat_lt d 2 || not (divides_both d a b))

-- Whether two numbers have no common factor, tried up to the second.
abbrev pub are_apart : ℕ → ℕ → Bool
are_apart a b = apart_below (b + 1) a b

-- The first of `count` numbers from `start` on that has no common factor with m, else the next.
abbrev pub first_apart : ℕ → ℕ → ℕ → ℕ
first_apart m zero start = start
first_apart m (suc count) start = cond (are_apart start m) start (first_apart m count (start + 1))

-- The smallest one: among m numbers in a row one has no common factor with m.
abbrev pub smallest_apart : ℕ → ℕ → ℕ
smallest_apart m start = first_apart m m start

-- The law of the search.
abbrev pub FindsTheSmallest : Type 0
FindsTheSmallest = (m start : ℕ) → 0 < m → Smallest m start (smallest_apart m start)
