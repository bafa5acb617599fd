-- Lists made of groups of one width.
use Rattle.std.specs.Prelude.{ℕ, ◌*◌, ◌/◌, ◌%◌, cond, ◌&&◌, Some, None, Option, ◌==◌, nat_le}

-- The length of n groups, of which there may be so many; and how many groups have a length.
abbrev pub grouped_length : ℕ → ℕ → ℕ → Option ℕ
grouped_length most width n = cond (nat_le n most) (Some (n * width)) None

abbrev pub group_count : ℕ → ℕ → ℕ → Option ℕ
group_count most width n = cond (n % width == 0 && nat_le n (most * width)) (Some (n / width)) None
