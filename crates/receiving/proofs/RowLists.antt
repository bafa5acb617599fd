-- Rows one behind the other: lengths, fronts and rests of their cells.
use Rattle.std.proofs.Common.{◌≡◌, ℕ, zero, suc, ◌+◌, ◌*◌, ◌<◌, ◌≤◌, true, eqb, List, [], ◌∷◌, ◌++◌, length, get_or, take, drop, sym, refl, ap, ◌∙◌, subst, arith}
use Rattle.std.proofs.lemmas.List.{drop_at, drop-drop, get_or-drop, get_or-take, flat_map_more, length-append, length-drop, length-take, take_all, take-append-le}
use Rattle.std.proofs.lemmas.Bool.{and_from, and_parts, eq-eqb, eqb-true}
use Rattle.stage.specs.Plain.{within}
use Rattle.stage.specs.Lists.{within_at, within_from}
use Rattle.rows.specs.Carriers.{carriers, highest_phase, is_reference, row_at, row_fits, cells_fit, whole_rows}
use Rattle.rows.specs.Rows.{cells_of, header_cells, header_rows, last_header_row}

-- the rows with one more behind them
abbrev pub with_row : List (List ℕ) → List ℕ → List (List ℕ)
with_row rows row = rows ++ (row ∷ [])

pub cells_with_row : (rows : List (List ℕ)) (row : List ℕ) → cells_of (with_row rows row) ≡ cells_of rows ++ row
cells_with_row rows row = sym (flat_map_more (λ r. r) [] rows row)

pub length_with_row : (rows : List (List ℕ)) (row : List ℕ) → length (with_row rows row) ≡ length rows + 1
length_with_row rows row = length-append rows (row ∷ [])

-- a reference has 36 cells, and so has a row that fits
pub reference_whole : (row : List ℕ) → is_reference row ≡ true → eqb (length row) carriers ≡ true
reference_whole row h = (and_parts (eqb (length row) carriers) (within highest_phase row) h).0

pub fitting_whole : (tm : ℕ) (row : List ℕ) → row_fits tm row ≡ true → eqb (length row) carriers ≡ true
fitting_whole tm row h = (and_parts (eqb (length row) carriers) (cells_fit tm 0 row) h).0

-- rows of 36 cells with one more of 36 cells behind them
pub whole_with_row : (rows : List (List ℕ)) (row : List ℕ) → whole_rows rows ≡ true → eqb (length row) carriers ≡ true → whole_rows (with_row rows row) ≡ true
whole_with_row [] row w e = and_from (eqb (length row) carriers) true e refl
whole_with_row (r ∷ rows) row w e =
    let parts = and_parts (eqb (length r) carriers) (whole_rows rows) w in
    and_from
    (eqb (length r) carriers)
    (whole_rows (with_row rows row))
    parts.0
    (whole_with_row rows row parts.1 e)

pub cells_length : (rows : List (List ℕ)) → whole_rows rows ≡ true → length (cells_of rows) ≡ 36 * length rows
cells_length [] w = refl
cells_length (row ∷ rows) w =
    let parts = and_parts (eqb (length row) carriers) (whole_rows rows) w in
    let e = eqb-true (length row) carriers parts.0 in
    omega (arith, length-append row (cells_of rows), cells_length rows parts.1)

-- the cells behind the first n rows are those of the other rows
pub cells_behind : (n : ℕ) (rows : List (List ℕ)) → whole_rows rows ≡ true → n ≤ length rows → drop (36 * n) (cells_of rows) ≡ cells_of (drop n rows)
cells_behind zero rows w l = refl
cells_behind (suc n) [] w l = absurd (omega arith)
cells_behind (suc n) (row ∷ rows) w l =
    let parts = and_parts (eqb (length row) carriers) (whole_rows rows) w in
    let e = eqb-true (length row) carriers parts.0 in
    let s : 36 * suc n ≡ 36 + 36 * n = omega arith in
    ap (λ (k : ℕ). drop k (row ++ cells_of rows)) s
    ∙ sym (drop-drop (36 * n) 36 (row ++ cells_of rows))
    ∙ ap (drop (36 * n)) (drop_at row (cells_of rows) 36 e)
    ∙ cells_behind n rows parts.1 (omega arith)

pub whole_behind : (n : ℕ) (rows : List (List ℕ)) → whole_rows rows ≡ true → whole_rows (drop n rows) ≡ true
whole_behind zero rows w = w
whole_behind (suc n) [] w = refl
whole_behind (suc n) (row ∷ rows) w =
    whole_behind n rows (and_parts (eqb (length row) carriers) (whole_rows rows) w).1

-- a row behind thirteen leaves the header's cells as they are
pub header_front : (rows : List (List ℕ)) (row : List ℕ) → whole_rows rows ≡ true → header_rows ≤ length rows
    → take header_cells (cells_of (with_row rows row)) ≡ take header_cells (cells_of rows)
header_front rows row w l =
    let e = cells_length rows w in
    ap (take header_cells) (cells_with_row rows row) ∙ take-append-le header_cells (cells_of rows) row (omega arith)

-- the cells of thirteen rows are the header's
pub header_all : (rows : List (List ℕ)) → whole_rows rows ≡ true → length rows ≡ header_rows → take header_cells (cells_of rows) ≡ cells_of rows
header_all rows w l = let e = cells_length rows w in take_all header_cells (cells_of rows) (omega arith)

-- the last header row is a reference if the header's cells are phases
last_row_at : (cells : List ℕ) (i : ℕ) → i < carriers → get_or (row_at last_header_row cells) i 0 ≡ get_or (take header_cells cells) (432 + i) 0
last_row_at cells i l =
    get_or-take 36 (drop 432 cells) i 0 l
    ∙ get_or-drop 432 cells i 0
    ∙ sym (get_or-take header_cells cells (432 + i) 0 (omega arith))

pub last_row_phases : (cells : List ℕ) → header_cells ≤ length cells → within highest_phase (take header_cells cells) ≡ true
    → is_reference (row_at last_header_row cells) ≡ true
last_row_phases cells l w =
    let e : length (row_at last_header_row cells) ≡ carriers = omega (arith, length-take 36 (drop 432 cells), length-drop 432 cells) in
    and_from
    (eqb (length (row_at last_header_row cells)) carriers)
    (within highest_phase (row_at last_header_row cells))
    (eq-eqb (length (row_at last_header_row cells)) carriers e)
    (within_from highest_phase (row_at last_header_row cells) (λ i s.
    subst
    (λ (x : ℕ). x ≤ highest_phase)
    (sym (last_row_at cells i (omega arith)))
    (within_at highest_phase (take header_cells cells) (432 + i) w)))
