-- Carriers of a row, and the cells on live ones. Rows stand one behind the other in a list of cells,
-- each from the lowest carrier upward.
use Rattle.std.specs.Prelude.{◌≡◌, ℕ, zero, suc, ◌+◌, ◌*◌, ◌/◌, ◌%◌, ◌^◌, ◌≤◌, Bool, true, false, cond, ◌&&◌, List, [], ◌∷◌, map, length, take, drop, ◌==◌, nat_le, slice_index}
use Rattle.std.specs.List.{range_with_len}
use Rattle.stage.specs.Plain.{within}

-- The carriers of a row.
abbrev pub carriers : ℕ
carriers = 36

-- The carriers of a sub-band.
abbrev pub band_carriers : ℕ
band_carriers = 6

-- The highest phase of a cell, in eighths of a turn, and the mark of a silent carrier.
abbrev pub highest_phase : ℕ
highest_phase = 7

abbrev pub silence : ℕ
silence = 8

-- Whether a carrier is live under a tone map: bit k of the map is for the carriers of sub-band k.
abbrev pub live : ℕ → ℕ → Bool
live tm carrier = tm / 2 ^ (carrier / band_carriers) % 2 == 1

-- Whether the cell at a place of rows lies on a live carrier.
abbrev pub live_cell : ℕ → ℕ → Bool
live_cell tm place = live tm (place % carriers)

-- The cells that are kept of those from a place on.
abbrev pub kept_from : (ℕ → Bool) → ℕ → List ℕ → List ℕ
kept_from keeps place [] = []
kept_from keeps place (x ∷ xs) =
    cond (keeps place) (x ∷ kept_from keeps (place + 1) xs) (kept_from keeps (place + 1) xs)

-- The live cells of rows, row by row, the lowest carrier first.
unfoldable pub gathered : ℕ → List ℕ → List ℕ
gathered tm cells = kept_from (live_cell tm) 0 cells

-- A list laid over the front of a buffer; what the buffer has no room for is left out.
abbrev pub laid_over : List ℕ → List ℕ → List ℕ
laid_over [] buffer = buffer
laid_over (x ∷ xs) [] = []
laid_over (x ∷ xs) (b ∷ buffer) = x ∷ laid_over xs buffer

-- How many of the places before this one are kept.
abbrev pub count_before : (ℕ → Bool) → ℕ → ℕ
count_before keeps zero = 0
count_before keeps (suc place) = count_before keeps place + cond (keeps place) 1 0

-- The cell at a place of rows whose live cells are given: the next of these on a live carrier, and
-- silence elsewhere.
abbrev pub spread_cell : ℕ → List ℕ → ℕ → ℕ
spread_cell tm given place = cond (live_cell tm place) (slice_index given (count_before (live_cell tm) place)) silence

-- So many cells of rows whose live cells are given.
unfoldable pub spread : ℕ → ℕ → List ℕ → List ℕ
spread tm count given = map (spread_cell tm given) (range_with_len 0 count)

-- A reference is a row of 36 phases.
abbrev pub is_reference : List ℕ → Bool
is_reference row = length row == carriers && within highest_phase row

-- The highest number that a cell on a carrier may be: a phase on a live one, or silence elsewhere.
abbrev pub highest_on : ℕ → ℕ → ℕ
highest_on tm carrier = cond (live tm carrier) highest_phase silence

-- Whether the cells from a carrier on are no higher than they may be.
abbrev pub cells_fit : ℕ → ℕ → List ℕ → Bool
cells_fit tm carrier [] = true
cells_fit tm carrier (x ∷ xs) = nat_le x (highest_on tm carrier) && cells_fit tm (carrier + 1) xs

-- Whether a payload row can be one: 36 cells, each no higher than its carrier allows.
abbrev pub row_fits : ℕ → List ℕ → Bool
row_fits tm row = length row == carriers && cells_fit tm 0 row

-- The cells of rows that are not on live carriers are phases or silence.
abbrev pub Silent : ℕ → List ℕ → Type 0
Silent tm cells = (place : ℕ) → live_cell tm place ≡ false → slice_index cells place ≤ silence

-- Row k of the rows that stand one behind the other.
abbrev pub row_at : ℕ → List ℕ → List ℕ
row_at k cells = take carriers (drop (carriers * k) cells)

-- The first n of the rows that stand one behind the other.
abbrev pub rows_in : ℕ → List ℕ → List (List ℕ)
rows_in zero cells = []
rows_in (suc n) cells = take carriers cells ∷ rows_in n (drop carriers cells)

-- Whether every row has 36 cells.
abbrev pub whole_rows : List (List ℕ) → Bool
whole_rows [] = true
whole_rows (row ∷ rows) = length row == carriers && whole_rows rows
