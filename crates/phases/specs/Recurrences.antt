-- The cells follow their recurrence.
use Rattle.std.specs.Prelude.{◌≡◌, ℕ, zero, suc, ◌+◌, ◌-◌, ◌*◌, ◌/◌, ◌%◌, ◌<◌, ◌≤◌, ◌⊎◌, List, length, nat_lt, slice_index}
use Rattle.std.proofs.Common.{sym, ap, subst, ◌∙◌, inl, inr, arith}
use Rattle.std.proofs.lemmas.Nat.{div-add-mod', div-mul-add, mod-mul-add, mod_below}
use Rattle.std.proofs.lemmas.List.FromFn.{get_or-map-range_with_len}
use Rattle.std.proofs.lemmas.Bool.{lt-ltb, le-ltb, cond-true, cond-false, cases_lt}
use Rattle.phases.specs.Differences.{cell_in, cell, cells, earlier, Recurrence}

-- the cell at the place of row r and column c
cell_at_place : (reference xs : List ℕ) (r c : ℕ) → c < length reference → cell reference xs (r * length reference + c) ≡ cell_in reference xs r c
cell_at_place reference xs r c h =
    ap (λ q. cell_in reference xs q ((r * length reference + c) % length reference)) (div-mul-add r (length reference) c h)
    ∙ ap (cell_in reference xs r) (mod-mul-add r (length reference) c h)

-- a cell of the first row is added to the reference
first_row : (reference xs : List ℕ) (i : ℕ) → i < length reference → cell reference xs i ≡ (slice_index xs i + slice_index reference i) % 8
first_row reference xs i h =
    let e : 0 * length reference + i ≡ i = omega arith in
    ap (cell reference xs) (sym e) ∙ cell_at_place reference xs 0 i h

-- a cell of a later row is added to the one a row earlier
later_place : (reference xs : List ℕ) (r c : ℕ) → c < length reference
    → cell reference xs (suc r * length reference + c) ≡ (slice_index xs (suc r * length reference + c) + cell reference xs (r * length reference + c)) % 8
later_place reference xs r c h =
    cell_at_place reference xs (suc r) c h
    ∙ ap (λ y. (slice_index xs (suc r * length reference + c) + y) % 8) (sym (cell_at_place reference xs r c h))

later_row : (reference xs : List ℕ) (i : ℕ) → 0 < length reference → length reference ≤ i
    → cell reference xs i ≡ (slice_index xs i + cell reference xs (i - length reference)) % 8
later_row reference xs i p h = of (i / length reference) (div-add-mod' i (length reference))
  where
    of : (q : ℕ) → q * length reference + i % length reference ≡ i
        → cell reference xs i ≡ (slice_index xs i + cell reference xs (i - length reference)) % 8
    of zero e = let l = mod_below i (length reference) p in absurd (omega arith)
    of (suc r) e =
        let l = mod_below i (length reference) p in
        let before : r * length reference + i % length reference ≡ i - length reference = omega arith in
        subst (λ (k : ℕ). cell reference xs k ≡ (slice_index xs k + cell reference xs (i - length reference)) % 8) e
        (later_place reference xs r (i % length reference) l
        ∙ ap (λ k. (slice_index xs (suc r * length reference + i % length reference) + cell reference xs k) % 8) before)

-- an element of the coding
pub cells_at : (reference xs : List ℕ) (i : ℕ) → i < length xs → slice_index (cells reference xs) i ≡ cell reference xs i
cells_at reference xs i l = get_or-map-range_with_len (cell reference xs) 0 (length xs) i i 0 l (omega arith)

-- a row before the first one stands the reference
pub earlier_first : (reference ys : List ℕ) (i : ℕ) → i < length reference → earlier reference ys i ≡ slice_index reference i
earlier_first reference ys i l = cond-true (nat_lt i (length reference)) _ _ (lt-ltb i (length reference) l)

pub earlier_later : (reference ys : List ℕ) (i : ℕ) → length reference ≤ i → earlier reference ys i ≡ slice_index ys (i - length reference)
earlier_later reference ys i l = cond-false (nat_lt i (length reference)) _ _ (le-ltb i (length reference) l)

-- what stands a row before a place depends on the places before it
pub same_earlier : (reference ys zs : List ℕ) (i : ℕ) → 0 < length reference
    → ((k : ℕ) → k < i → slice_index ys k ≡ slice_index zs k) → earlier reference ys i ≡ earlier reference zs i
same_earlier reference ys zs i p same = of (cases_lt i (length reference))
  where
    of : (i < length reference) ⊎ (length reference ≤ i) → earlier reference ys i ≡ earlier reference zs i
    of (inl l) = earlier_first reference ys i l ∙ sym (earlier_first reference zs i l)
    of (inr l) =
        earlier_later reference ys i l ∙ same (i - length reference) (omega arith) ∙ sym (earlier_later reference zs i l)

-- one more cell, over any buffer that holds the cells before it
pub next_cell : (reference xs ys : List ℕ) (i : ℕ) → 0 < length reference
    → ((k : ℕ) → k < i → slice_index ys k ≡ cell reference xs k)
    → cell reference xs i ≡ (slice_index xs i + earlier reference ys i) % 8
next_cell reference xs ys i p before = of (cases_lt i (length reference))
  where
    of : (i < length reference) ⊎ (length reference ≤ i) → cell reference xs i ≡ (slice_index xs i + earlier reference ys i) % 8
    of (inl l) =
        first_row reference xs i l ∙ ap (λ y. (slice_index xs i + y) % 8) (sym (earlier_first reference ys i l))
    of (inr l) =
        later_row reference xs i p l
        ∙ ap (λ y. (slice_index xs i + y) % 8) (sym (earlier_later reference ys i l ∙ before (i - length reference) (omega arith)))

pub recurrence : Recurrence
recurrence reference xs i p l =
    cells_at reference xs i l ∙ next_cell reference xs (cells reference xs) i p (λ k h. cells_at reference xs k (omega arith))
