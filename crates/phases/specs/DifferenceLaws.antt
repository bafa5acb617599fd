-- The stage that adds increments to the cells a row earlier is sound.
use Rattle.std.specs.Prelude.{◌≡◌, ℕ, zero, suc, ◌+◌, ◌-◌, ◌%◌, ◌<◌, ◌≤◌, true, ◌&&◌, ◌⊎◌, List, length, is_some, Some, Option, ◌==◌, nat_le, slice_index, refl}
use Rattle.std.proofs.Common.{sym, ap, subst, ◌∙◌, inl, inr, arith, below_more}
use Rattle.std.proofs.lemmas.List.FromFn.{length-map-range_with_len, get_or-map-range_with_len}
use Rattle.std.proofs.lemmas.Bool.{and_parts, leb-true, cases_lt}
use Rattle.stage.specs.Plain.{within}
use Rattle.stage.specs.Model.{plain, legal}
use Rattle.stage.specs.Sound.{Sound}
use Rattle.stage.specs.Lists.{value_of_some, within_at, within_from, same_by_places}
use Rattle.stage.specs.Legality.{legal_within, legal_length}
use Rattle.stage.specs.AgreementLaws.{some_under_test}
use Rattle.phases.specs.Settings.{most_elements}
use Rattle.phases.specs.Differences.{row_length, is_reference, cell, cells, earlier, turn_between, turns, whole_rows, difference}
use Rattle.phases.specs.Phases.{turn_small, turn_leads, turn_back}
use Rattle.phases.specs.Recurrences.{earlier_first, earlier_later, same_earlier, recurrence}

-- a reference has cells, and they are phases
pub some_row : (reference : List ℕ) → is_reference reference ≡ true → 0 < length reference
some_row reference h =
    let m = length reference in
    let t = and_parts (row_length m) (within 7 reference) h in
    let u = and_parts (nat_le 6 m && nat_le m 36) (m % 6 == 0) t.0 in
    let v = and_parts (nat_le 6 m) (nat_le m 36) u.0 in
    omega (arith, leb-true 6 m v.0)

reference_phases : (reference : List ℕ) → is_reference reference ≡ true → within 7 reference ≡ true
reference_phases reference h = (and_parts (row_length (length reference)) (within 7 reference) h).1

pub whole_rows_is : (m n k : ℕ) → whole_rows m n ≡ Some k → (n ≤ most_elements) × (n ≡ k)
whole_rows_is m n k h =
    let t = some_under_test (nat_le n most_elements && n % m == 0) n k h in
    let u = and_parts (nat_le n most_elements) (n % m == 0) t.0 in (leb-true n most_elements u.0, t.1)

same_back : (m n k : ℕ) → whole_rows m n ≡ Some k → whole_rows m k ≡ Some n
same_back m n k h =
    let e = (whole_rows_is m n k h).1 in
    subst (λ (j : ℕ). whole_rows m j ≡ Some n) e (h ∙ ap Some (sym e))

-- a length of whole rows that is there leads to itself
pub rows_there : (m n : ℕ) (o : Option ℕ) → o ≡ whole_rows m n → is_some o ≡ true → whole_rows m n ≡ Some n
rows_there m n o e h =
    let v = value_of_some o h in
    sym e ∙ v.1 ∙ ap Some (sym (whole_rows_is m n v.0 (sym e ∙ v.1)).1)

legal_rows : (reference xs : List ℕ) → legal (plain (difference reference)) xs ≡ true → whole_rows (length reference) (length xs) ≡ Some (length xs)
legal_rows reference xs l =
    rows_there (length reference) (length xs) (whole_rows (length reference) (length xs)) refl (legal_length (plain (difference reference)) xs l)

pub cells_length : (reference xs : List ℕ) → length (cells reference xs) ≡ length xs
cells_length reference xs = length-map-range_with_len (cell reference xs) 0 (length xs)

-- what is put out are phases
pub cells_small : (reference xs : List ℕ) (i : ℕ) → 0 < length reference → i < length xs → slice_index (cells reference xs) i ≤ 7
cells_small reference xs i p l = omega (arith, recurrence reference xs i p l)

cells_phases : (reference xs : List ℕ) → 0 < length reference → within 7 (cells reference xs) ≡ true
cells_phases reference xs p =
    within_from 7 (cells reference xs) (λ i l. cells_small reference xs i p (omega (arith, cells_length reference xs)))

-- an element of the guess
pub turns_at : (reference : List ℕ) (n : ℕ) (ys : List ℕ) (i : ℕ) → i < n
    → slice_index (turns reference n ys) i ≡ turn_between (slice_index ys i) (earlier reference ys i)
turns_at reference n ys i l =
    get_or-map-range_with_len (λ k. turn_between (slice_index ys k) (earlier reference ys k)) 0 n i i 0 l (omega arith)

pub turns_length : (reference : List ℕ) (n : ℕ) (ys : List ℕ) → length (turns reference n ys) ≡ n
turns_length reference n ys = length-map-range_with_len (λ k. turn_between (slice_index ys k) (earlier reference ys k)) 0 n

pub turns_phases : (reference : List ℕ) (n : ℕ) (ys : List ℕ) → within 7 (turns reference n ys) ≡ true
turns_phases reference n ys =
    within_from 7 (turns reference n ys) (λ i l.
    let short : i < n = omega (arith, turns_length reference n ys) in
    subst (λ (x : ℕ). x ≤ 7) (sym (turns_at reference n ys i short)) (turn_small (slice_index ys i) (earlier reference ys i)))

-- what stands a row before a place is a phase if all before it are
earlier_small : (reference ys : List ℕ) (i : ℕ) → is_reference reference ≡ true → ((k : ℕ) → k < i → slice_index ys k ≤ 7) → earlier reference ys i ≤ 7
earlier_small reference ys i r small = of (cases_lt i (length reference))
  where
    of : (i < length reference) ⊎ (length reference ≤ i) → earlier reference ys i ≤ 7
    of (inl l) =
        subst (λ (x : ℕ). x ≤ 7) (sym (earlier_first reference ys i l)) (within_at 7 reference i (reference_phases reference r))
    of (inr l) =
        subst (λ (x : ℕ). x ≤ 7) (sym (earlier_later reference ys i l)) (small (i - length reference) (omega (arith, some_row reference r)))

-- the turns between the cells of a list lead to that list
taken_back : (reference xs : List ℕ) → is_reference reference ≡ true → within 7 xs ≡ true → turns reference (length xs) (cells reference xs) ≡ xs
taken_back reference xs r w =
    same_by_places (turns reference (length xs) (cells reference xs)) xs (turns_length reference (length xs) (cells reference xs)) (λ i l.
    let short : i < length xs = omega (arith, turns_length reference (length xs) (cells reference xs)) in
    let p = some_row reference r in
    let e = earlier reference (cells reference xs) i in
    let low : e ≤ 7 = earlier_small reference (cells reference xs) i r (λ k h. cells_small reference xs k p (omega arith)) in
    turns_at reference (length xs) (cells reference xs) i short
    ∙ ap (λ y. turn_between y e) (recurrence reference xs i p short)
    ∙ turn_back (slice_index xs i) e (within_at 7 xs i w) low)

-- as long as the received elements are phases, the turns between them lead to them
regained_next : (reference : List ℕ) (n : ℕ) (ys : List ℕ) (k : ℕ) → is_reference reference ≡ true → k < n
    → ((j : ℕ) → j < k → slice_index ys j ≤ 7) → slice_index ys k ≤ 7
    → ((j : ℕ) → j < k → slice_index (cells reference (turns reference n ys)) j ≡ slice_index ys j)
    → slice_index (cells reference (turns reference n ys)) k ≡ slice_index ys k
regained_next reference n ys k r l small here before =
    let gs = turns reference n ys in
    let p = some_row reference r in
    let short : k < length gs = omega (arith, turns_length reference n ys) in
    let e = earlier reference ys k in
    let low : e ≤ 7 = earlier_small reference ys k r small in
    recurrence reference gs k p short
    ∙ ap (λ y. (slice_index gs k + y) % 8) (same_earlier reference (cells reference gs) ys k p before)
    ∙ ap (λ x. (x + e) % 8) (turns_at reference n ys k l)
    ∙ turn_leads (slice_index ys k) e here low

pub regained : (reference : List ℕ) (n : ℕ) (ys : List ℕ) (k : ℕ) → is_reference reference ≡ true → k ≤ n
    → ((j : ℕ) → j < k → slice_index ys j ≤ 7) → (j : ℕ) → j < k → slice_index (cells reference (turns reference n ys)) j ≡ slice_index ys j
regained reference n ys zero r l small = λ j h. absurd (omega arith)
regained reference n ys (suc k) r l small =
    let before = regained reference n ys k r (omega arith) (λ j h. small j (omega arith)) in
    let here = regained_next reference n ys k r (omega arith) (λ j h. small j (omega arith)) (small k (omega arith)) before in
    λ j h. below_more (λ i. slice_index (cells reference (turns reference n ys)) i ≡ slice_index ys i) k before here j (omega arith)

best : (reference xs ys : List ℕ) (k : ℕ) → is_reference reference ≡ true → length (cells reference xs) ≡ length ys
    → k < length ys → ((j : ℕ) → j < k + 1 → slice_index (cells reference xs) j ≡ slice_index ys j)
    → slice_index (cells reference (turns reference (length xs) ys)) k ≡ slice_index ys k
best reference xs ys k r long l same =
    let count = cells_length reference xs in
    let p = some_row reference r in
    let small : (j : ℕ) → j < k + 1 → slice_index ys j ≤ 7 = λ j h. omega (arith, same j h, cells_small reference xs j p (omega arith)) in
    regained reference (length xs) ys (k + 1) r (omega arith) small k (omega arith)

pub difference_sound : (reference : List ℕ) → is_reference reference ≡ true → Sound (difference reference)
difference_sound reference r =
    let m = length reference in
    record {
      takes_bytes = omega arith;
      puts_bytes = omega arith;
      short_lists = λ n k h. (omega (arith, (whole_rows_is m n k h).0), omega (arith, (whole_rows_is m n k h).0, (whole_rows_is m n k h).1));
      lengths_there = λ n k h. same_back m n k h;
      lengths_back = λ n k h. same_back m k n h;
      stated_length = λ xs l. legal_rows reference xs l ∙ ap Some (sym (cells_length reference xs));
      stated_alphabet = λ xs l. cells_phases reference xs (some_row reference r);
      guess_length = λ n ys h. turns_length reference n ys;
      guess_within = λ n ys h. turns_phases reference n ys;
      guess_back = λ xs l. taken_back reference xs r (legal_within (plain (difference reference)) xs l);
      guess_best = λ xs ys k l long i same. best reference xs ys k r long i same;
    }
