-- From bits to phase increments, by the three phase tables. An increment is a phase in eighths of
-- a turn.
use Rattle.std.specs.Prelude.{◌≡◌, ℕ, zero, suc, ◌+◌, ◌-◌, ◌*◌, ◌/◌, ◌%◌, ◌^◌, ◌<◌, ◌≤◌, Bool, true, cond, ◌&&◌, List, [], ◌∷◌, map, length, Some, None, Ok, Err, Option, Result, ◌==◌, bit_xor, count_ones, nat_le, slice_index}
use Rattle.std.specs.List.{range_with_len}
use Rattle.stage.specs.declared.faults.Refusal.{Refusal}
use Rattle.stage.specs.declared.faults.Refusal.TheVariants.{Setting}
use Rattle.stage.specs.Model.{Model, plain}
use Rattle.stage.specs.Plain.{Plain}
use Rattle.phases.specs.Settings.{most_elements}

-- An increment carries 1, 2 or 3 bits.
abbrev pub is_width : ℕ → Bool
is_width b = nat_le 1 b && nat_le b 3

-- The increment for each number that b bits write.
abbrev pub two_phases : List ℕ
two_phases = 0 ∷ 4 ∷ []

abbrev pub four_phases : List ℕ
four_phases = 0 ∷ 2 ∷ 6 ∷ 4 ∷ []

abbrev pub eight_phases : List ℕ
eight_phases = 0 ∷ 1 ∷ 3 ∷ 2 ∷ 7 ∷ 6 ∷ 4 ∷ 5 ∷ []

abbrev pub phase_table : ℕ → List ℕ
phase_table b = cond (b == 1) two_phases (cond (b == 2) four_phases eight_phases)

abbrev pub increment_of : ℕ → ℕ → ℕ
increment_of b w = slice_index (phase_table b) w

-- The other way, the number that each increment stands for; 0 for an increment not in use.
abbrev pub two_numbers : List ℕ
two_numbers = 0 ∷ 0 ∷ 0 ∷ 0 ∷ 1 ∷ 0 ∷ 0 ∷ 0 ∷ []

abbrev pub four_numbers : List ℕ
four_numbers = 0 ∷ 0 ∷ 1 ∷ 0 ∷ 3 ∷ 0 ∷ 2 ∷ 0 ∷ []

abbrev pub eight_numbers : List ℕ
eight_numbers = 0 ∷ 1 ∷ 3 ∷ 2 ∷ 6 ∷ 7 ∷ 5 ∷ 4 ∷ []

abbrev pub number_table : ℕ → List ℕ
number_table b = cond (b == 1) two_numbers (cond (b == 2) four_numbers eight_numbers)

abbrev pub number_of : ℕ → ℕ → ℕ
number_of b y = slice_index (number_table b) y

-- The increments in use lie evenly on the circle; behind the last of them comes the first again.
abbrev pub in_use : ℕ → ℕ → ℕ
in_use b k = k % 2 ^ b * (8 / 2 ^ b)

-- The rule of the tables, those of a Gray map: each number has its own increment, each increment
-- in use its number, and neighbours on the circle differ in one bit.
pub record Gray (b : ℕ) : Type 0 where
  pub back : (w : ℕ) → w < 2 ^ b → number_of b (increment_of b w) ≡ w
  pub there : (k : ℕ) → k < 2 ^ b → increment_of b (number_of b (in_use b k)) ≡ in_use b k
  pub neighbours : (k : ℕ) → k < 2 ^ b → count_ones (bit_xor (number_of b (in_use b k)) (number_of b (in_use b (k + 1)))) ≡ 1

abbrev pub GrayMaps : Type 0
GrayMaps = (b : ℕ) → is_width b ≡ true → Gray b

-- The number that c bits from a place on write, the first of them highest.
abbrev pub written : List ℕ → ℕ → ℕ → ℕ
written xs place zero = 0
written xs place (suc c) = 2 * written xs place c + slice_index xs (place + c)

-- Bit j of the b bits that write w.
abbrev pub bit_of : ℕ → ℕ → ℕ → ℕ
bit_of b w j = w / 2 ^ (b - 1 - j) % 2

-- Increment i is that of the number which bits b × i to b × i + b − 1 write.
abbrev pub increments : ℕ → List ℕ → List ℕ
increments b xs = map (λ i. increment_of b (written xs (i * b) b)) (range_with_len 0 (length xs / b))

-- The first n bits that the increments `ys` stand for.
abbrev pub bits : ℕ → ℕ → List ℕ → List ℕ
bits b n ys = map (λ i. bit_of b (number_of b (slice_index ys (i / b))) (i % b)) (range_with_len 0 n)

-- A list of bits has whole increments.
abbrev pub mapped_length : ℕ → ℕ → Option ℕ
mapped_length b n = cond (nat_le n most_elements && n % b == 0) (Some (n / b)) None

abbrev pub unmapped_length : ℕ → ℕ → Option ℕ
unmapped_length b n = cond (nat_le n (most_elements / b)) (Some (n * b)) None

-- The stage; the message nearest to received increments are the bits that they stand for.
abbrev pub mapping : ℕ → Plain
mapping b =
    record {
      number = 9;
      takes = 1;
      puts = 7;
      coded_length = mapped_length b;
      message_length = unmapped_length b;
      coding = increments b;
      guess = bits b;
    }

-- The stage that a count of bits makes, or the refusal of a bad one.
abbrev pub made_map : ℕ → Result Model Refusal
made_map b = cond (is_width b) (Ok (plain (mapping b))) (Err Setting)

-- The c elements of a list from a place on are bits.
abbrev pub BitsAt : List ℕ → ℕ → ℕ → Type 0
BitsAt xs place c = (j : ℕ) → j < c → slice_index xs (place + j) ≤ 1

-- A list is the b bits that write w.
abbrev pub Written : ℕ → ℕ → List ℕ → Type 0
Written b w group = (j : ℕ) → j < b → slice_index group j ≡ bit_of b w j

-- The first `count` elements of `ys` are increments in use, and their bits stand in a list.
pub record Unmapping (b : ℕ) (ys : List ℕ) (list : List ℕ) (count : ℕ) : Type 0 where
  pub in_table : (k : ℕ) → k < count → increment_of b (number_of b (slice_index ys k)) ≡ slice_index ys k
  pub unmapped : (k : ℕ) → k < count * b → slice_index list k ≡ bit_of b (number_of b (slice_index ys (k / b))) (k % b)
