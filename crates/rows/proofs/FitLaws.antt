-- The cells of a row with their places fit their carriers exactly if the row's cells do.
use Rattle.std.proofs.Common.{◌≡◌, ℕ, zero, suc, ◌+◌, ◌*◌, ◌/◌, ◌%◌, ◌^◌, ◌<◌, ◌≤◌, Bool, cond, ◌&&◌, ◌==◌, leb, List, [], ◌∷◌, ◌++◌, length, take, drop, sym, refl, ap, ◌∙◌, arith, length-drop, length-take}
use Rattle.std.proofs.Math.Bool.{and_assoc}
use Rattle.std.proofs.lemmas.List.{take-append-drop}
use Rattle.std.specs.List.{enumerate_from, list_all}
use Rattle.std.specs.Simd.{first_chunks}
use Rattle.stage.specs.Plain.{within}
use Rattle.rows.specs.Carriers.{cells_fit, highest_on}

-- Whether the cell at a place is no higher than its carrier allows.
abbrev pub place_fits : ℕ → ℕ × ℕ → Bool
place_fits tm p = leb p.1 (highest_on tm (p.0 % 36))

pub places_fit : (tm carrier : ℕ) (row : List ℕ) → carrier + length row ≤ 36 → list_all (place_fits tm) (enumerate_from carrier row) ≡ cells_fit tm carrier row
places_fit tm carrier [] h = refl
places_fit tm carrier (x ∷ row) h =
    let e : carrier % 36 ≡ carrier = omega arith in
    ap (λ k. leb x (highest_on tm k) && list_all (place_fits tm) (enumerate_from (carrier + 1) row)) e
    ∙ ap (λ b. leb x (highest_on tm carrier) && b) (places_fit tm (carrier + 1) row (omega arith))

-- Whether the cells of a sub-band are no higher than it allows.
abbrev pub band_fits : ℕ → ℕ × List ℕ → Bool
band_fits tm p = within (highest_on tm (6 * (p.0 % 6))) p.1

-- The cells from a carrier on, before others.
cells_before : (tm carrier : ℕ) (xs ys : List ℕ) → cells_fit tm carrier (xs ++ ys) ≡ (cells_fit tm carrier xs && cells_fit tm (carrier + length xs) ys)
cells_before tm carrier [] ys = let e : carrier ≡ carrier + 0 = omega arith in ap (λ k. cells_fit tm k ys) e
cells_before tm carrier (x ∷ xs) ys =
    let e : (carrier + 1) + length xs ≡ carrier + suc (length xs) = omega arith in
    ap (λ b. leb x (highest_on tm carrier) && b) (cells_before tm (carrier + 1) xs ys)
    ∙ sym (and_assoc (leb x (highest_on tm carrier)) (cells_fit tm (carrier + 1) xs) (cells_fit tm ((carrier + 1) + length xs) ys))
    ∙ ap (λ k. (leb x (highest_on tm carrier) && cells_fit tm (carrier + 1) xs) && cells_fit tm k ys) e

-- The highest number of a carrier of a sub-band.
highest_of_band : (tm band carrier : ℕ) → 6 * band ≤ carrier → carrier < 6 * band + 6 → highest_on tm (6 * band) ≡ highest_on tm carrier
highest_of_band tm band carrier low high =
    let e : (6 * band) / 6 ≡ carrier / 6 = omega arith in
    ap (λ k. cond (tm / 2 ^ k % 2 == 1) 7 8) e

-- The cells of one sub-band fit exactly if they are within its highest number.
cells_within : (tm band carrier : ℕ) (xs : List ℕ) → 6 * band ≤ carrier → carrier + length xs ≤ 6 * band + 6 → within (highest_on tm (6 * band)) xs ≡ cells_fit tm carrier xs
cells_within tm band carrier [] low high = refl
cells_within tm band carrier (x ∷ xs) low high =
    ap (λ h. leb x h && within (highest_on tm (6 * band)) xs) (highest_of_band tm band carrier low (omega arith))
    ∙ ap (λ b. leb x (highest_on tm carrier) && b) (cells_within tm band (carrier + 1) xs (omega arith) (omega arith))

-- The sub-bands of a row fit exactly if its cells do.
pub bands_fit : (tm band n : ℕ) (row : List ℕ) → band + n ≡ 6 → length row ≡ 6 * n → list_all (band_fits tm) (enumerate_from band (first_chunks 6 n row)) ≡ cells_fit tm (6 * band) row
bands_fit tm band zero [] six long = refl
bands_fit tm band zero (x ∷ row) six long = absurd (omega arith)
bands_fit tm band (suc n) row six long =
    let first : length (take 6 row) ≡ 6 = omega (arith, length-take 6 row) in
    let low : band % 6 ≡ band = omega arith in
    let next : 6 * (band + 1) ≡ 6 * band + length (take 6 row) = omega arith in
    let rest = list_all (band_fits tm) (enumerate_from (band + 1) (first_chunks 6 n (drop 6 row))) in
    ap (λ k. within (highest_on tm (6 * k)) (take 6 row) && rest) low
    ∙ ap (λ b. b && rest) (cells_within tm band (6 * band) (take 6 row) (omega arith) (omega arith))
    ∙ ap (λ b. cells_fit tm (6 * band) (take 6 row) && b) (bands_fit tm (band + 1) n (drop 6 row) (omega arith) (omega (arith, length-drop 6 row)) ∙ ap (λ k. cells_fit tm k (drop 6 row)) next)
    ∙ sym (cells_before tm (6 * band) (take 6 row) (drop 6 row))
    ∙ ap (cells_fit tm (6 * band)) (take-append-drop 6 row)
