-- From phase increments to cells: each increment turns the cell that was put out a row earlier.
-- Phases are counted in eighths of a turn and added modulo 8.
use Rattle.std.specs.Prelude.{◌≡◌, ℕ, zero, suc, ◌+◌, ◌-◌, ◌*◌, ◌/◌, ◌%◌, ◌<◌, ◌≤◌, Bool, cond, ◌&&◌, List, map, length, Some, None, Ok, Err, Option, Result, ◌==◌, nat_le, nat_lt, slice_index}
use Rattle.std.specs.List.{range_with_len}
use Rattle.stage.specs.declared.faults.Refusal.{Refusal}
use Rattle.stage.specs.declared.faults.Refusal.TheVariants.{Setting}
use Rattle.stage.specs.Model.{Model, plain}
use Rattle.stage.specs.Plain.{Plain, within}
use Rattle.phases.specs.Settings.{most_elements}

-- A row has 6 to 36 cells, in steps of 6.
abbrev pub row_length : ℕ → Bool
row_length m = (nat_le 6 m && nat_le m 36) && m % 6 == 0

-- A reference is one row of phases.
abbrev pub is_reference : List ℕ → Bool
is_reference reference = row_length (length reference) && within 7 reference

-- The cell in row r and column c: the increment there, added to the cell a row earlier in that
-- column. The reference is the row before the first.
abbrev pub cell_in : List ℕ → List ℕ → ℕ → ℕ → ℕ
cell_in reference xs zero c = (slice_index xs c + slice_index reference c) % 8
cell_in reference xs (suc r) c = (slice_index xs (suc r * length reference + c) + cell_in reference xs r c) % 8

-- Cell i, the rows being put out one after the other.
abbrev pub cell : List ℕ → List ℕ → ℕ → ℕ
cell reference xs i = cell_in reference xs (i / length reference) (i % length reference)

-- The cells that the increments `xs` lead to.
abbrev pub cells : List ℕ → List ℕ → List ℕ
cells reference xs = map (cell reference xs) (range_with_len 0 (length xs))

-- What stands a row before place i of the cells `ys`.
abbrev pub earlier : List ℕ → List ℕ → ℕ → ℕ
earlier reference ys i = cond (nat_lt i (length reference)) (slice_index reference i) (slice_index ys (i - length reference))

-- The law of the cells: each one is its increment and the cell m places before, added modulo 8;
-- the first m are added to the reference.
abbrev pub Recurrence : Type 0
Recurrence =
    (reference xs : List ℕ) (i : ℕ) → 0 < length reference → i < length xs
    → slice_index (cells reference xs) i ≡ (slice_index xs i + earlier reference (cells reference xs) i) % 8

-- The increment from one cell to the next in its column, modulo 8.
abbrev pub turn_between : ℕ → ℕ → ℕ
turn_between y before = (y + (8 - before % 8)) % 8

-- The increments that lead to the first n cells of `ys`.
abbrev pub turns : List ℕ → ℕ → List ℕ → List ℕ
turns reference n ys = map (λ i. turn_between (slice_index ys i) (earlier reference ys i)) (range_with_len 0 n)

-- A list has whole rows of m.
abbrev pub whole_rows : ℕ → ℕ → Option ℕ
whole_rows m n = cond (nat_le n most_elements && n % m == 0) (Some n) None

-- The stage; the message nearest to received cells are the increments between them.
abbrev pub difference : List ℕ → Plain
difference reference =
    record {
      number = 10;
      takes = 7;
      puts = 7;
      coded_length = whole_rows (length reference);
      message_length = whole_rows (length reference);
      coding = cells reference;
      guess = turns reference;
    }

-- The stage that a reference makes, or the refusal of a bad one.
abbrev pub made_difference : List ℕ → Result Model Refusal
made_difference reference = cond (is_reference reference) (Ok (plain (difference reference))) (Err Setting)

-- The first `count` elements of `ys` are cells and `list` holds the increments between them.
pub record Turning (reference : List ℕ) (ys : List ℕ) (list : List ℕ) (count : ℕ) : Type 0 where
  pub phases : (k : ℕ) → k < count → slice_index ys k ≤ 7
  pub turned : (k : ℕ) → k < count → slice_index list k ≡ turn_between (slice_index ys k) (earlier reference ys k)
