-- Adding increments and taking them back, step by step.
use Rattle.std.proofs.Common.{◌≡◌, ℕ, ◌+◌, ◌%◌, ◌<◌, ◌≤◌, true, List, length, get_or, set, Some, None, sym, ap, ◌∙◌, arith, below_more}
use Rattle.std.proofs.lemmas.List.{get_or-set_same, get_or-set_other}
use Rattle.stage.specs.Agreement.{Regains}
use Rattle.stage.specs.Lists.{same_by_places}
use Rattle.phases.specs.Differences.{is_reference, cell, cells, earlier, turn_between, turns, difference, Turning}
use Rattle.phases.specs.Recurrences.{cells_at, next_cell}
use Rattle.phases.specs.DifferenceLaws.{some_row, cells_length, cells_small, turns_at, turns_length, regained}

-- the first `count` cells are put out
abbrev pub Adding : List ℕ → List ℕ → List ℕ → ℕ → Type 0
Adding reference xs coded count = (k : ℕ) → k < count → get_or coded k 0 ≡ cell reference xs k

-- one increment more is added
pub add_more : (reference xs coded : List ℕ) (i before value : ℕ) → is_reference reference ≡ true → i < length coded
    → before ≡ earlier reference coded i → value ≡ (get_or xs i 0 + before) % 8
    → Adding reference xs coded i → Adding reference xs (set coded i value) (i + 1)
add_more reference xs coded i before value r inside e v f =
    below_more
    (λ k. get_or (set coded i value) k 0 ≡ cell reference xs k)
    i
    (λ k h. get_or-set_other coded i k value 0 (omega arith) ∙ f k h)
    (get_or-set_same coded i value 0 inside
    ∙ v
    ∙ ap (λ y. (get_or xs i 0 + y) % 8) e
    ∙ sym (next_cell reference xs coded i (some_row reference r) f))

-- the cells of all increments are the coding
pub added : (reference xs coded : List ℕ) (i : ℕ) → length coded ≡ length xs → length xs ≤ i → Adding reference xs coded i → coded ≡ cells reference xs
added reference xs coded i long most f =
    let lc = cells_length reference xs in
    same_by_places coded (cells reference xs) (omega arith) (λ k h. f k (omega arith) ∙ sym (cells_at reference xs k (omega arith)))

-- one cell more is turned
pub turn_more : (reference ys list : List ℕ) (i before value : ℕ) → i < length list → get_or ys i 0 ≤ 7
    → before ≡ earlier reference ys i → value ≡ turn_between (get_or ys i 0) before → Turning reference ys list i
    → Turning reference ys (set list i value) (i + 1)
turn_more reference ys list i before value inside small e v f =
    record {
      phases = below_more (λ k. get_or ys k 0 ≤ 7) i f.phases small;
      turned = below_more
          (λ k. get_or (set list i value) k 0 ≡ turn_between (get_or ys k 0) (earlier reference ys k))
          i
          (λ k h. get_or-set_other list i k value 0 (omega arith) ∙ f.turned k h)
          (get_or-set_same list i value 0 inside ∙ v ∙ ap (turn_between (get_or ys i 0)) e);
    }

-- cells are the coding of the increments between them
pub turned : (reference ys list : List ℕ) (i : ℕ) → is_reference reference ≡ true → length list ≡ length ys → length ys ≤ i
    → Turning reference ys list i → Regains (difference reference) ys None list
turned reference ys list i r long most f =
    let n = length list in
    let lt = turns_length reference n ys in (
      record {
        few = omega arith;
        same = λ k h. regained reference n ys n r (omega arith) (λ j l. f.phases j (omega arith)) k (omega arith);
        stop = λ h. absurd (omega arith);
      },
      same_by_places list (turns reference n ys) (omega arith) (λ k h. f.turned k (omega arith) ∙ sym (turns_at reference n ys k h)),
    )

-- the first element that is no cell is where the coding of the increments differs
pub not_turned : (reference ys list : List ℕ) (i : ℕ) → is_reference reference ≡ true → length list ≡ length ys → i < length ys
    → 7 < get_or ys i 0 → Turning reference ys list i → Regains (difference reference) ys (Some i) list
not_turned reference ys list i r long l large f =
    let n = length list in
    let lt = turns_length reference n ys in (
      record {
        few = omega arith;
        same = λ k h. regained reference n ys i r (omega arith) f.phases k h;
        stop = λ h e. omega (arith, cells_small reference (turns reference n ys) i (some_row reference r) (omega arith));
      },
      l,
    )
