-- Where a list first has something that is looked for.
use Rattle.std.specs.Prelude.{◌≡◌, ℕ, ◌<◌, ◌≤◌, List, length, Some, None, Option, ◌≢◌, slice_index}

-- The first element above `highest` stands at a place inside the list, or there is none.
abbrev pub FirstAbove : ℕ → List ℕ → Option ℕ → Type 0
FirstAbove highest list None = (k : ℕ) → k < length list → slice_index list k ≤ highest
FirstAbove highest list (Some place) = (place < length list) × ((k : ℕ) → k < place → slice_index list k ≤ highest) × (highest < slice_index list place)

-- Two lists first differ at a place inside the first, or nowhere in it.
abbrev pub FirstDifference : List ℕ → List ℕ → Option ℕ → Type 0
FirstDifference left right None = (k : ℕ) → k < length left → slice_index left k ≡ slice_index right k
FirstDifference left right (Some place) = (place < length left) × ((k : ℕ) → k < place → slice_index left k ≡ slice_index right k) × (slice_index left place ≢ slice_index right place)
