-- Text of cells, character by character and row by row.
use Rattle.std.proofs.Common.{◌≡◌, ℕ, suc, ◌+◌, ◌*◌, ◌<◌, ◌≤◌, List, [], ◌∷◌, ◌++◌, map, length, get_or, take, drop, sym, ap, ◌∙◌, append_assoc, arith}
use mathlib.Core.List.{map-append}
use Rattle.wording.specs.Cells.{row_of, with_row, with_rows}
use Rattle.std.proofs.lemmas.List.{drop-drop, take_all, take_more}

-- one more element behind those that a function made of the list so far
pub one_more_mapped : (f : ℕ → ℕ) (front a b xs : List ℕ) (i y : ℕ) → i < length xs → a ≡ front ++ map f (take i xs) → y ≡ f (get_or xs i 0) → b ≡ a ++ (y ∷ []) → b ≡ front ++ map f (take (i + 1) xs)
one_more_mapped f front a b xs i y l ea ey eb =
    let t : map f (take (i + 1) xs) ≡ map f (take i xs) ++ (f (get_or xs i 0) ∷ []) = ap (map f) (take_more xs i 0 l) ∙ map-append f (take i xs) (get_or xs i 0 ∷ []) in
    eb ∙ ap (λ (l : List ℕ). l ++ (y ∷ [])) ea ∙ append_assoc front (map f (take i xs)) (y ∷ [])
    ∙ ap (λ (z : ℕ). front ++ (map f (take i xs) ++ (z ∷ []))) ey ∙ ap (λ (l : List ℕ). front ++ l) (sym t)

pub all_mapped : (f : ℕ → ℕ) (front a xs : List ℕ) (i : ℕ) → length xs ≤ i → a ≡ front ++ map f (take i xs) → a ≡ front ++ map f xs
all_mapped f front a xs i l e = e ∙ ap (λ (ys : List ℕ). front ++ map f ys) (take_all i xs l)

-- one more row behind those so far, and the rows that are left then
pub one_more_row : (front a b part cells rest : List ℕ) (k : ℕ) → a ≡ with_rows front cells k → rest ≡ drop (36 * k) cells → part ≡ take 36 rest → b ≡ with_row a part → b ≡ with_rows front cells (k + 1)
one_more_row front a b part cells rest k ea er ep eb =
    let e : k + 1 ≡ suc k = omega arith in
    eb ∙ ap (λ (p : List ℕ). with_row a p) (ep ∙ ap (take 36) er) ∙ ap (λ (t : List ℕ). with_row t (row_of cells k)) ea
    ∙ ap (with_rows front cells) (sym e)

pub rest_behind_row : (rest after cells : List ℕ) (k : ℕ) → rest ≡ drop (36 * k) cells → after ≡ drop 36 rest → after ≡ drop (36 * (k + 1)) cells
rest_behind_row rest after cells k er ea =
    let e : 36 * k + 36 ≡ 36 * (k + 1) = omega arith in
    ea ∙ ap (drop 36) er ∙ drop-drop 36 (36 * k) cells ∙ ap (λ j. drop j cells) e
