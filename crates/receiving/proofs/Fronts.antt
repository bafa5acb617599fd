-- Rows in front of others, and what holds of a row among them.
use Rattle.std.proofs.Common.{◌≡◌, ℕ, zero, suc, ◌+◌, ◌*◌, ◌<◌, ◌≤◌, Bool, true, ◌&&◌, eqb, leb, List, [], ◌∷◌, ◌++◌, length, take, drop, sym, refl, ap, ◌∙◌, arith}
use lib.Seq.{take-append-add, take-append-le}
use Rattle.std.proofs.lemmas.List.{append_assoc}
use Rattle.std.proofs.lemmas.Bool.{and_from, and_parts, eqb-true}
use Rattle.stage.specs.Plain.{within}
use Rattle.rows.specs.Carriers.{carriers, highest_phase, is_reference, row_fits, whole_rows}
use Rattle.rows.specs.Rows.{cells_of, header_cells, header_rows}
use Rattle.receiving.proofs.Counts.{all_fit}
use Rattle.receiving.proofs.RowLists.{cells_length, with_row}

pub cells_append : (front rest : List (List ℕ)) → cells_of (front ++ rest) ≡ cells_of front ++ cells_of rest
cells_append [] rest = refl
cells_append (row ∷ front) rest =
    ap (λ cells. row ++ cells) (cells_append front rest) ∙ sym (append_assoc row (cells_of front) (cells_of rest))

-- the header's cells are those of any thirteen rows or more in front
pub header_of_front : (front rest : List (List ℕ)) → whole_rows front ≡ true → header_rows ≤ length front
    → take header_cells (cells_of front) ≡ take header_cells (cells_of (front ++ rest))
header_of_front front rest w l =
    let n = cells_length front w in
    sym (ap (take header_cells) (cells_append front rest) ∙ take-append-le header_cells (cells_of front) (cells_of rest) (omega arith))

-- one of the first rows, where they are all references
abbrev pub all_refer : List (List ℕ) → Bool
all_refer [] = true
all_refer (row ∷ rows) = is_reference row && all_refer rows

within_parts : (high : ℕ) (xs ys : List ℕ) → within high (xs ++ ys) ≡ true → (within high xs ≡ true) × (within high ys ≡ true)
within_parts high [] ys w = (refl, w)
within_parts high (x ∷ xs) ys w =
    let parts = and_parts (leb x high) (within high (xs ++ ys)) w in
    let more = within_parts high xs ys parts.1 in
    (and_from (leb x high) (within high xs) parts.0 more.0, more.1)

pub phases_refer : (k : ℕ) (rows : List (List ℕ)) → whole_rows rows ≡ true → within highest_phase (take (36 * k) (cells_of rows)) ≡ true → all_refer (take k rows) ≡ true
phases_refer zero rows w p = refl
phases_refer (suc k) [] w p = refl
phases_refer (suc k) (row ∷ rows) w p =
    let parts = and_parts (eqb (length row) carriers) (whole_rows rows) w in
    let e = eqb-true (length row) carriers parts.0 in
    let n : 36 * suc k ≡ length row + 36 * k = omega arith in
    let split = ap (λ (m : ℕ). take m (row ++ cells_of rows)) n ∙ take-append-add row (cells_of rows) (36 * k) in
    let each = within_parts highest_phase row (take (36 * k) (cells_of rows)) (sym (ap (within highest_phase) split) ∙ p) in
    and_from
    (is_reference row)
    (all_refer (take k rows))
    (and_from (eqb (length row) carriers) (within highest_phase row) parts.0 each.0)
    (phases_refer k rows parts.1 each.1)

pub refers_at : (k : ℕ) (front : List (List ℕ)) (row : List ℕ) (rest : List (List ℕ)) → all_refer (take k (front ++ row ∷ rest)) ≡ true
    → length front < k → is_reference row ≡ true
refers_at zero front row rest a l = absurd (omega arith)
refers_at (suc k) [] row rest a l = (and_parts (is_reference row) (all_refer (take k rest)) a).0
refers_at (suc k) (first ∷ front) row rest a l =
    refers_at k front row rest (and_parts (is_reference first) (all_refer (take k (front ++ row ∷ rest))) a).1 (omega arith)

-- one of the other rows, where they all fit
pub fits_at : (k tm : ℕ) (front : List (List ℕ)) (row : List ℕ) (rest : List (List ℕ)) → all_fit tm (drop k (front ++ row ∷ rest)) ≡ true
    → k ≤ length front → row_fits tm row ≡ true
fits_at zero tm [] row rest a l = (and_parts (row_fits tm row) (all_fit tm rest) a).0
fits_at zero tm (first ∷ front) row rest a l =
    fits_at zero tm front row rest (and_parts (row_fits tm first) (all_fit tm (front ++ row ∷ rest)) a).1 (omega arith)
fits_at (suc k) tm [] row rest a l = absurd (omega arith)
fits_at (suc k) tm (first ∷ front) row rest a l = fits_at k tm front row rest a (omega arith)

-- a row behind the front, with the others behind it
pub row_moves : (front : List (List ℕ)) (row : List ℕ) (rest : List (List ℕ)) → with_row front row ++ rest ≡ front ++ row ∷ rest
row_moves front row rest = append_assoc front (row ∷ []) rest
