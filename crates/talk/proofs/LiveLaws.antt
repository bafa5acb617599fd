-- The live cells of a row, gathered into a buffer that is as long.
use Rattle.std.proofs.Common.{◌≡◌, ℕ, ◌+◌, ◌≤◌, Bool, true, false, cond, eqb, List, [], ◌∷◌, length, take, drop, refl, ap, ◌∙◌, arith}
use Rattle.rows.proofs.GatherLaws.{laid_fits}
use Rattle.rows.specs.Carriers.{gathered, is_reference, kept_from, laid_over, live_cell}
use Rattle.stage.specs.Plain.{within}
use Rattle.std.proofs.lemmas.List.{take_at}
use Rattle.std.proofs.lemmas.Bool.{and_parts, eqb-true}

kept_few : (keeps : ℕ → Bool) (place : ℕ) (xs : List ℕ) → length (kept_from keeps place xs) ≤ length xs
kept_few keeps place [] = omega arith
kept_few keeps place (x ∷ xs) = of (keeps place) (kept_few keeps (place + 1) xs)
  where
    of : (b : Bool) → length (kept_from keeps (place + 1) xs) ≤ length xs → length (cond b (x ∷ kept_from keeps (place + 1) xs) (kept_from keeps (place + 1) xs)) ≤ length (x ∷ xs)
    of true h = omega arith
    of false h = omega arith

gathered_few : (tm : ℕ) (row : List ℕ) → length (gathered tm row) ≤ length row
unfolding gathered
gathered_few tm row = kept_few (live_cell tm) 0 row

-- what stands in front of the buffer are the live cells
pub live_front : (tm : ℕ) (row buffer after : List ℕ) (n : ℕ) → is_reference row ≡ true → length buffer ≡ 36 → n ≡ length (gathered tm row) → after ≡ laid_over (gathered tm row) buffer → take n after ≡ gathered tm row
live_front tm row buffer after n h long en ea =
    let r : length row ≡ 36 = eqb-true (length row) 36 (and_parts (eqb (length row) 36) (within 7 row) h).0 in
    let few : length (gathered tm row) ≤ length buffer = omega (arith, gathered_few tm row) in
    ap (λ k. take k after) en ∙ ap (take (length (gathered tm row))) (ea ∙ laid_fits (gathered tm row) buffer few)
    ∙ take_at (gathered tm row) (drop (length (gathered tm row)) buffer) (length (gathered tm row)) refl
