-- A walk through the bits of a list of blocks, one by one.
use Rattle.std.specs.Prelude.{◌≡◌, ℕ, ◌+◌, ◌-◌, ◌*◌, ◌/◌, ◌%◌}
use Rattle.interleave.specs.declared.strides.Steps as declared
use Rattle.interleave.specs.declared.strides.Stride.{Stride}
use Rattle.interleave.specs.Places.{Steps, row_to, column_to}

-- Four numbers as steps: from column to column and from row to row, each of columns and then of rows.
abbrev pub stepping : ℕ → ℕ → ℕ → ℕ → Steps
stepping mi mj nj ni = record { column_by_column = mi; column_by_row = mj; row_by_row = nj; row_by_column = ni }

-- The numbers of a block as its steps.
abbrev pub steps_in : declared.Steps → Steps
steps_in s = stepping s.column_by_column s.column_by_row s.row_by_row s.row_by_column

-- The walk stands at bit t: it has that bit's column, the row and the column to which the bit goes,
-- and the place where its block begins.
pub record At (s : Steps) (m n t column row target base : ℕ) : Type 0 where
  pub column_is : column ≡ t % (m * n) % m
  pub row_is : row ≡ row_to s n (t % (m * n) / m) (t % (m * n) % m)
  pub target_is : target ≡ column_to s m row (t % (m * n) % m)
  pub base_is : base ≡ t / (m * n) * (m * n)

-- What is added from a column to the next in its row: the new row goes on by its step, and the new
-- column with it, and back by all rows where the new row begins again.
pub record Along (s : declared.Steps) (m n : ℕ) (d : Stride) : Type 0 where
  pub rows_are : d.rows ≡ s.row_by_column % n
  pub on_is : d.on ≡ (s.column_by_column + d.rows * s.column_by_row) % m
  pub over_is : d.over ≡ (s.column_by_column + d.rows * s.column_by_row + (m - n * s.column_by_row % m)) % m

-- What is added from the last column of a row to the first of the next: a row more, and all columns
-- but one less.
pub record Down (s : declared.Steps) (m n : ℕ) (d : Stride) : Type 0 where
  pub rows_are : d.rows ≡ (s.row_by_row + (n - (m - 1) * s.row_by_column % n)) % n
  pub on_is : d.on ≡ (d.rows * s.column_by_row + (m - (m - 1) * s.column_by_column % m)) % m
  pub over_is : d.over ≡ (d.rows * s.column_by_row + (m - (m - 1) * s.column_by_column % m) + (m - n * s.column_by_row % m)) % m
