-- Where the interleaver puts the bits of a block of n rows of m.
use Rattle.std.specs.Prelude.{◌≡◌, ℕ, ◌+◌, ◌*◌, ◌/◌, ◌%◌, ◌<◌}
use Rattle.interleave.specs.Factors.{NoCommonFactor, smallest_apart}

-- The four numbers by which rows and columns are stepped through.
pub record Steps : Type 0 where
  pub column_by_column : ℕ
  pub column_by_row : ℕ
  pub row_by_row : ℕ
  pub row_by_column : ℕ

-- The row to which the bit in row j and column i goes.
abbrev pub row_to : Steps → ℕ → ℕ → ℕ → ℕ
row_to s n j i = (j * s.row_by_row + i * s.row_by_column) % n

-- The column to which it goes, once its row is known.
abbrev pub column_to : Steps → ℕ → ℕ → ℕ → ℕ
column_to s m row i = (i * s.column_by_column + row * s.column_by_row) % m

-- The place to which bit q of a block goes.
abbrev pub place_by : Steps → ℕ → ℕ → ℕ → ℕ
place_by s m n q = row_to s n (q / m) (q % m) * m + column_to s m (row_to s n (q / m) (q % m)) (q % m)

-- From this number on the steps are sought.
abbrev pub first_step : ℕ
first_step = 1

-- The steps of a block: for the columns the two smallest numbers that have no common factor with
-- m, for the rows the two smallest that have none with n.
abbrev pub steps_of : ℕ → ℕ → Steps
steps_of m n =
    record {
      column_by_column = smallest_apart m first_step;
      column_by_row = smallest_apart m (smallest_apart m first_step + 1);
      row_by_row = smallest_apart n first_step;
      row_by_column = smallest_apart n (smallest_apart n first_step + 1);
    }

-- The place to which bit q goes in a block of n rows of m.
abbrev pub place : ℕ → ℕ → ℕ → ℕ
place m n q = place_by (steps_of m n) m n q

-- A function takes the numbers below `count` one-to-one to numbers below `count`.
pub record OneToOne (count : ℕ) (f : ℕ → ℕ) : Type 0 where
  pub inside : (q : ℕ) → q < count → f q < count
  pub apart : (q r : ℕ) → q < count → r < count → f q ≡ f r → q ≡ r

-- The law of places: with any steps of which two have no common factor with the length and the
-- count of the rows, bits of a block go one-to-one to places of the block.
abbrev pub PlacesOneToOne : Type 0
PlacesOneToOne =
    (s : Steps) (m n : ℕ) → 0 < m → 0 < n → NoCommonFactor s.column_by_column m → NoCommonFactor s.row_by_row n → OneToOne (m * n) (place_by s m n)

-- The same of the stage's own steps, for blocks of any size.
abbrev pub BlockOneToOne : Type 0
BlockOneToOne = (m n : ℕ) → 0 < m → 0 < n → OneToOne (m * n) (place m n)

-- In a block of 13 rows of 36, the bits 1, 36 and 467 go to 83, 41 and 163.
abbrev pub PlacesByHand : Type 0
PlacesByHand = (place 36 13 1 ≡ 83) × ((place 36 13 36 ≡ 41) × (place 36 13 467 ≡ 163))
