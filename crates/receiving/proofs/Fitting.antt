-- Rows that fit a tone map, and the cells that they have on live carriers and elsewhere.
use Rattle.std.proofs.Common.{◌≡◌, ℕ, zero, suc, ◌+◌, ◌%◌, ◌<◌, ◌≤◌, Bool, true, false, cond, eqb, leb, List, [], ◌∷◌, ◌++◌, length, get_or, refl, subst, arith}
use Rattle.std.proofs.lemmas.List.{get_or-append-add, get_or_append_left, length-append}
use Rattle.std.proofs.lemmas.Bool.{and_from, and_parts, eqb-true, le-leb, leb-true}
use Rattle.stage.specs.Plain.{within}
use Rattle.stage.specs.Lists.{within_at}
use Rattle.rows.specs.Carriers.{Silent, carriers, cells_fit, gathered, highest_on, highest_phase, kept_from, live, live_cell, row_fits, silence, whole_rows}
use Rattle.rows.specs.Rows.{cells_of}
use Rattle.receiving.proofs.Counts.{all_fit}

highest_on_low : (b : Bool) → cond b highest_phase silence ≤ silence
highest_on_low true = omega arith
highest_on_low false = omega arith

-- cells that fit are phases or silence
fitting_low : (tm carrier : ℕ) (xs : List ℕ) → cells_fit tm carrier xs ≡ true → within silence xs ≡ true
fitting_low tm carrier [] f = refl
fitting_low tm carrier (x ∷ xs) f =
    let parts = and_parts (leb x (highest_on tm carrier)) (cells_fit tm (carrier + 1) xs) f in
    let l : x ≤ silence = omega (arith, leb-true x (highest_on tm carrier) parts.0, highest_on_low (live tm carrier)) in
    and_from (leb x silence) (within silence xs) (le-leb x silence l) (fitting_low tm (carrier + 1) xs parts.1)

within_append : (high : ℕ) (xs ys : List ℕ) → within high xs ≡ true → within high ys ≡ true → within high (xs ++ ys) ≡ true
within_append high [] ys v w = w
within_append high (x ∷ xs) ys v w =
    let parts = and_parts (leb x high) (within high xs) v in
    and_from (leb x high) (within high (xs ++ ys)) parts.0 (within_append high xs ys parts.1 w)

rows_low : (tm : ℕ) (rows : List (List ℕ)) → all_fit tm rows ≡ true → within silence (cells_of rows) ≡ true
rows_low tm [] a = refl
rows_low tm (row ∷ rows) a =
    let parts = and_parts (row_fits tm row) (all_fit tm rows) a in
    let fit = (and_parts (eqb (length row) carriers) (cells_fit tm 0 row) parts.0).1 in
    within_append silence row (cells_of rows) (fitting_low tm 0 row fit) (rows_low tm rows parts.1)

pub fitting_rows_are_silent : (tm : ℕ) (rows : List (List ℕ)) → all_fit tm rows ≡ true → Silent tm (cells_of rows)
fitting_rows_are_silent tm rows a place dead = within_at silence (cells_of rows) place (rows_low tm rows a)

-- where the kept cells are phases and the others silence at most, no cell is higher than its
-- carrier allows
kept_rest : (b : Bool) (x : ℕ) (xs : List ℕ) → within highest_phase (cond b (x ∷ xs) xs) ≡ true → within highest_phase xs ≡ true
kept_rest true x xs w = (and_parts (leb x highest_phase) (within highest_phase xs) w).1
kept_rest false x xs w = w

kept_first : (b : Bool) (x : ℕ) (xs : List ℕ) → within highest_phase (cond b (x ∷ xs) xs) ≡ true → (b ≡ false → x ≤ silence) → x ≤ cond b highest_phase silence
kept_first true x xs w s = leb-true x highest_phase (and_parts (leb x highest_phase) (within highest_phase xs) w).0
kept_first false x xs w s = s refl

kept_low : (tm place : ℕ) (xs : List ℕ) → within highest_phase (kept_from (live_cell tm) place xs) ≡ true
    → ((i at : ℕ) → at ≡ place + i → live_cell tm at ≡ false → get_or xs i 0 ≤ silence)
    → (i at : ℕ) → at ≡ place + i → i < length xs → get_or xs i 0 ≤ highest_on tm (at % carriers)
kept_low tm place [] w s i at e l = absurd (omega arith)
kept_low tm place (x ∷ xs) w s zero at e l =
    let q : place ≡ at = omega arith in
    subst
    (λ (p : ℕ). x ≤ highest_on tm (p % carriers))
    q
    (kept_first (live_cell tm place) x (kept_from (live_cell tm) (place + 1) xs) w (s 0 place (omega arith)))
kept_low tm place (x ∷ xs) w s (suc i) at e l =
    kept_low
    tm
    (place + 1)
    xs
    (kept_rest (live_cell tm place) x (kept_from (live_cell tm) (place + 1) xs) w)
    (λ j p q. s (suc j) p (omega arith))
    i
    at
    (omega arith)
    (omega arith)

gathered_low : (tm : ℕ) (cells : List ℕ) → within highest_phase (gathered tm cells) ≡ true → Silent tm cells
    → (i : ℕ) → i < length cells → get_or cells i 0 ≤ highest_on tm (i % carriers)
unfolding gathered
gathered_low tm cells w s i l =
    kept_low tm 0 cells w (λ j at e dead. let q : at ≡ j = omega arith in s j (subst (λ (p : ℕ). live_cell tm p ≡ false) q dead)) i i (omega arith) l

-- and so the rows fit
cells_fit_from : (tm carrier : ℕ) (xs : List ℕ) → ((i at : ℕ) → at ≡ carrier + i → i < length xs → get_or xs i 0 ≤ highest_on tm at) → cells_fit tm carrier xs ≡ true
cells_fit_from tm carrier [] low = refl
cells_fit_from tm carrier (x ∷ xs) low =
    and_from
    (leb x (highest_on tm carrier))
    (cells_fit tm (carrier + 1) xs)
    (le-leb x (highest_on tm carrier) (low 0 carrier (omega arith) (omega arith)))
    (cells_fit_from tm (carrier + 1) xs (λ i at e l. low (suc i) at (omega arith) (omega arith)))

low_rows_fit : (tm : ℕ) (rows : List (List ℕ)) → whole_rows rows ≡ true
    → ((i : ℕ) → i < length (cells_of rows) → get_or (cells_of rows) i 0 ≤ highest_on tm (i % carriers)) → all_fit tm rows ≡ true
low_rows_fit tm [] w low = refl
low_rows_fit tm (row ∷ rows) w low =
    let parts = and_parts (eqb (length row) carriers) (whole_rows rows) w in
    let e = eqb-true (length row) carriers parts.0 in
    let long = length-append row (cells_of rows) in
    let first : (i at : ℕ) → at ≡ 0 + i → i < length row → get_or row i 0 ≤ highest_on tm at = λ i at q l.
    let m : i % carriers ≡ at = omega arith in
    subst
    (λ (x : ℕ). x ≤ highest_on tm at)
    (get_or_append_left row (cells_of rows) 0 i l)
    (subst (λ (c : ℕ). get_or (row ++ cells_of rows) i 0 ≤ highest_on tm c) m (low i (omega arith))) in
    let rest : (i : ℕ) → i < length (cells_of rows) → get_or (cells_of rows) i 0 ≤ highest_on tm (i % carriers) = λ i l.
    let m : (length row + i) % carriers ≡ i % carriers = omega arith in
    subst
    (λ (x : ℕ). x ≤ highest_on tm (i % carriers))
    (get_or-append-add row (cells_of rows) i 0)
    (subst (λ (c : ℕ). get_or (row ++ cells_of rows) (length row + i) 0 ≤ highest_on tm c) m (low (length row + i) (omega arith))) in
    and_from
    (row_fits tm row)
    (all_fit tm rows)
    (and_from (eqb (length row) carriers) (cells_fit tm 0 row) parts.0 (cells_fit_from tm 0 row first))
    (low_rows_fit tm rows parts.1 rest)

pub phases_and_silence_fit : (tm : ℕ) (rows : List (List ℕ)) → whole_rows rows ≡ true → Silent tm (cells_of rows)
    → within highest_phase (gathered tm (cells_of rows)) ≡ true → all_fit tm rows ≡ true
phases_and_silence_fit tm rows w s g = low_rows_fit tm rows w (gathered_low tm (cells_of rows) g s)
