-- Complementing bits.
use Rattle.std.specs.Prelude.{ℕ, ◌-◌, cond, map, Some, None, Option, nat_le}
use Rattle.stage.specs.Plain.{Plain}
use Rattle.stage.specs.Model.{longest_list}

-- The other bit.
abbrev pub flip : ℕ → ℕ
flip x = 1 - x

-- A list of every length that any stage may have is legal, and its coding is as long.
abbrev pub any_length : ℕ → Option ℕ
any_length n = cond (nat_le n longest_list) (Some n) None

-- The stage that complements bits; the message nearest to a received list is its complement.
abbrev pub complement : Plain
complement =
    record {
      number = 101;
      takes = 1;
      puts = 1;
      coded_length = any_length;
      message_length = any_length;
      coding = map flip;
      guess = λ n ys. map flip ys;
    }
