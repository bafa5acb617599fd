-- Rows kept one behind the other, of which the first thirteen are phases.
use Rattle.std.proofs.Common.{◌≡◌, ℕ, ◌+◌, ◌-◌, ◌*◌, ◌<◌, ◌≤◌, true, eqb, leb, List, [], ◌∷◌, ◌++◌, length, take, drop, sym, ap, ◌∙◌, ⊎_elim, arith}
use borrow.Rule.Slice.PartMut.{put_mid}
use Rattle.std.proofs.lemmas.List.{drop-take, length-drop, length-take, length-take-le, take_all, take-append-le, take-take}
use Rattle.std.proofs.lemmas.Slice.{between_is, take-put_mid}
use Rattle.std.proofs.lemmas.Bool.{and_from, and_parts, cases_lt, eq-eqb}
use Rattle.stage.specs.Plain.{within}
use Rattle.packing.proofs.BitLaws.{within_drop, within_take}
use Rattle.rows.specs.Carriers.{is_reference, row_at}
use Rattle.receiving.specs.Fronts.{cells_of_rows, front_is_phases}

both_within : (high : ℕ) (xs ys : List ℕ) → within high xs ≡ true → within high ys ≡ true → within high (xs ++ ys) ≡ true
both_within high [] ys h w = w
both_within high (x ∷ xs) ys h w =
    let parts = and_parts (leb x high) (within high xs) h in
    and_from (leb x high) (within high (xs ++ ys)) parts.0 (both_within high xs ys parts.1 w)

-- One row more stands behind the others.
pub row_appended : (rows k : ℕ) (cells part row : List ℕ) → part ≡ row → length row ≡ 36 → 36 * rows ≤ length cells
    → cells_of_rows (rows + 1) (put_mid (36 * rows) k cells part) ≡ cells_of_rows rows cells ++ row
row_appended rows k cells part row e l h =
    let long : length part ≡ 36 = ap length e ∙ l in
    take-put_mid (36 * rows) k cells part (36 * (rows + 1)) (omega arith) h ∙ ap (λ q. take (36 * rows) cells ++ q) e

-- With a row more, which is of phases if it is the header's, the front is still of phases.
phases_more : (rows : ℕ) (front row : List ℕ) → length front ≡ 36 * rows → (rows < 13 → within 7 row ≡ true) → within 7 (take 468 front) ≡ true → within 7 (take 468 (front ++ row)) ≡ true
phases_more rows front row l w inv =
    ⊎_elim
    (λ few.
    within_take 7 468 (front ++ row) (both_within 7 front row (ap (within 7) (sym (take_all 468 front (omega arith))) ∙ inv) (w few)))
    (λ many. ap (within 7) (take-append-le 468 front row (omega arith)) ∙ inv)
    (cases_lt rows 13)

pub front_stays_phases : (rows k : ℕ) (cells part row : List ℕ) → part ≡ row → length row ≡ 36 → 36 * rows ≤ length cells → (rows < 13 → within 7 row ≡ true)
    → front_is_phases rows cells ≡ true → front_is_phases (rows + 1) (put_mid (36 * rows) k cells part) ≡ true
front_stays_phases rows k cells part row e l h w inv =
    ap (λ q. within 7 (take 468 q)) (row_appended rows k cells part row e l h)
    ∙ phases_more rows (take (36 * rows) cells) row (length-take-le (36 * rows) cells h) w inv

-- A row of the front is one of all cells.
pub row_of_front : (rows k : ℕ) (cells : List ℕ) → k < rows → take 36 (drop (36 * k) cells) ≡ row_at k (cells_of_rows rows cells)
row_of_front rows k cells h =
    sym (drop-take (36 * k) 36 cells)
    ∙ ap (drop (36 * k)) (sym (take-take (36 * k + 36) (36 * rows) cells (omega arith)))
    ∙ drop-take (36 * k) 36 (take (36 * rows) cells)

-- A header row is of phases.
pub header_row_refers : (rows k : ℕ) (cells : List ℕ) → 36 * rows ≤ length cells → 13 ≤ rows → k < 13 → front_is_phases rows cells ≡ true → is_reference (take 36 (drop (36 * k) cells)) ≡ true
header_row_refers rows k cells h many few inv =
    let row = take 36 (drop (36 * k) cells) in
    let front = take 468 (take (36 * rows) cells) in
    let same : row ≡ drop (36 * k) (take (36 * k + 36) front) =
    sym (drop-take (36 * k) 36 cells)
    ∙ ap (drop (36 * k)) (sym (take-take (36 * k + 36) 468 (take (36 * rows) cells) (omega arith) ∙ take-take (36 * k + 36) (36 * rows) cells (omega arith))) in
    and_from
    (eqb (length row) 36)
    (within 7 row)
    (eq-eqb (length row) 36 (omega (arith, length-take 36 (drop (36 * k) cells), length-drop (36 * k) cells)))
    (ap (within 7) same ∙ within_drop 7 (36 * k) (take (36 * k + 36) front) (within_take 7 (36 * k + 36) front inv))

-- The cells behind the header's rows.
pub behind_front : (rows : ℕ) (cells : List ℕ) → take (36 * rows - 468) (drop 468 cells) ≡ drop 468 (cells_of_rows rows cells)
behind_front rows cells = between_is cells 468 (36 * rows)
