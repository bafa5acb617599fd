-- Rows that stand one behind the other in a list of cells.
use Rattle.std.proofs.Common.{◌≡◌, ℕ, zero, suc, ◌+◌, ◌*◌, ◌<◌, ◌≤◌, true, eqb, List, [], ◌∷◌, ◌++◌, length, take, drop, sym, refl, ap, ◌∙◌, arith, length-drop, length-take, take_all, take_at}
use Rattle.std.proofs.lemmas.List.{drop-take}
use Rattle.std.proofs.lemmas.Bool.{and_from, eq-eqb}
use Rattle.std.proofs.lemmas.Bool.Decides.{nat_tests}
use Rattle.frame.specs.declared.headers.Header.{Header}
use Rattle.frame.specs.Answers.{Legal}
use Rattle.stage.specs.Plain.{within}
use Rattle.packing.proofs.BitLaws.{within_drop, within_take}
use Rattle.rows.specs.Carriers.{is_reference, row_at, rows_in, whole_rows}
use Rattle.rows.specs.Rows.{cells_of}

-- The tone map of a legal header has nothing but the six sub-bands.
pub legal_tone_map_low : (h : Header) → Legal h → h.tm < 64
legal_tone_map_low h l = grind (arith, nat_tests)

pub rows_in_count : (n : ℕ) (cells : List ℕ) → length (rows_in n cells) ≡ n
rows_in_count zero cells = refl
rows_in_count (suc n) cells = ap suc (rows_in_count n (drop 36 cells))

pub rows_in_whole : (n : ℕ) (cells : List ℕ) → 36 * n ≤ length cells → whole_rows (rows_in n cells) ≡ true
rows_in_whole zero cells h = refl
rows_in_whole (suc n) cells h =
    and_from
    (eqb (length (take 36 cells)) 36)
    (whole_rows (rows_in n (drop 36 cells)))
    (eq-eqb (length (take 36 cells)) 36 (omega (arith, length-take 36 cells)))
    (rows_in_whole n (drop 36 cells) (omega (arith, length-drop 36 cells)))

take_none : (n : ℕ) → take {A = ℕ} n [] ≡ []
take_none zero = refl
take_none (suc n) = refl

-- The first a elements and the b behind them are the first a + b.
take_both : (a b : ℕ) (xs : List ℕ) → take a xs ++ take b (drop a xs) ≡ take (a + b) xs
take_both zero b xs = let e : b ≡ 0 + b = omega arith in ap (λ q. take q xs) e
take_both (suc a) b [] = let e : suc a + b ≡ suc (a + b) = omega arith in rw e (take_none b)
take_both (suc a) b (x ∷ xs) =
    let e : suc a + b ≡ suc (a + b) = omega arith in
    rw e (ap {B = List ℕ} (λ r. x ∷ r) (take_both a b xs))

pub rows_in_cells : (n : ℕ) (cells : List ℕ) → cells_of (rows_in n cells) ≡ take (36 * n) cells
rows_in_cells zero cells = refl
rows_in_cells (suc n) cells =
    let e : 36 * suc n ≡ 36 + 36 * n = omega arith in
    ap (λ q. take 36 cells ++ q) (rows_in_cells n (drop 36 cells)) ∙ take_both 36 (36 * n) cells ∙ ap (λ q. take q cells) (sym e)

-- The last header row lies in the header's cells, whatever stands behind them.
pub last_row_of_front : (front rest : List ℕ) → length front ≡ 468 → row_at 12 (front ++ rest) ≡ row_at 12 front
last_row_of_front front rest l =
    sym (drop-take 432 36 (front ++ rest))
    ∙ ap (drop 432) (take_at front rest 468 l ∙ sym (take_all 468 front (omega arith)))
    ∙ drop-take 432 36 front

pub last_row_refers : (cells : List ℕ) → length cells ≡ 468 → within 7 cells ≡ true → is_reference (row_at 12 cells) ≡ true
last_row_refers cells l w =
    and_from
    (eqb (length (row_at 12 cells)) 36)
    (within 7 (row_at 12 cells))
    (eq-eqb (length (row_at 12 cells)) 36 (omega (arith, length-take 36 (drop 432 cells), length-drop 432 cells)))
    (within_take 7 36 (drop 432 cells) (within_drop 7 432 cells w))
