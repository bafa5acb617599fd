-- A closing mark behind a list of bits.
use Rattle.std.specs.Prelude.{ℕ, ◌+◌, ◌-◌, min, cond, ◌&&◌, List, [], ◌∷◌, ◌++◌, map, take, Some, None, Option, nat_le, nat_lt}
use Rattle.stage.specs.Plain.{Plain}
use Rattle.stage.specs.Model.{longest_list}

-- The bit nearest to a received element: itself, or 1 where it is no bit.
abbrev pub nearest_bit : ℕ → ℕ
nearest_bit y = min y 1

-- The closing mark is one bit that is 1.
abbrev pub mark : List ℕ
mark = 1 ∷ []

-- A marked list is longer by one; the longest list that any stage may have is the longest marked.
abbrev pub marked_length : ℕ → Option ℕ
marked_length n = cond (nat_lt n longest_list) (Some (n + 1)) None

abbrev pub unmarked_length : ℕ → Option ℕ
unmarked_length n = cond (nat_lt 0 n && nat_le n longest_list) (Some (n - 1)) None

-- The stage that puts a closing mark behind a list of bits; the message nearest to a received list
-- is the list before its last element.
abbrev pub marking : Plain
marking =
    record {
      number = 102;
      takes = 1;
      puts = 1;
      coded_length = marked_length;
      message_length = unmarked_length;
      coding = λ xs. xs ++ mark;
      guess = λ n ys. map nearest_bit (take n ys);
    }
