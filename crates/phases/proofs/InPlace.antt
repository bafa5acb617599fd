-- What holds of a stage that works in place, on the elements at the front of a buffer.
use Rattle.std.specs.Prelude.{◌≡◌, ℕ, ◌+◌, ◌*◌, ◌/◌, ◌%◌, ◌<◌, ◌≤◌, true, List, length, take, drop, set, Ok, Err, Result, ◌≢◌, slice_index}
use Rattle.std.proofs.Common.{sym, ap, ◌∙◌, arith, below_more}
use Rattle.std.proofs.lemmas.Nat.{mul-le}
use Rattle.std.proofs.lemmas.List.{length-take, length-take-le, get_or-take, get_or-drop, get_or-set_same, get_or-set_other}
use Rattle.stage.specs.declared.faults.StageFault.{StageFault}
use Rattle.stage.specs.Faults.{fault_at}
use Rattle.stage.specs.Lists.{within_at, within_from, same_by_places}
use Rattle.stage.specs.Plain.{Plain, within}
use Rattle.stage.specs.Model.{plain, decoding}
use Rattle.phases.specs.Differences.{is_reference, cell, cells, earlier, Turning}
use Rattle.phases.specs.DifferenceLaws.{some_row, cells_length}
use Rattle.phases.specs.Recurrences.{cells_at, next_cell}
use Rattle.phases.specs.Maps.{increment_of, number_of, written, bit_of, increments, Unmapping}
use Rattle.phases.specs.MapLaws.{increments_length, increments_at}
use Rattle.phases.specs.MapLengths.{Whole, whole_bits, bits_inside}
use Rattle.phases.specs.Widths.{same_written}

-- What an in-place decoding of `ys` leaves: the list at the front of the buffer, or the fault.
abbrev pub Restored : Plain → List ℕ → Result ℕ StageFault → List ℕ → Type 0
Restored p ys (Ok n) buffer = (decoding (plain p) ys ≡ Ok (take n buffer)) × (n ≤ length buffer)
Restored p ys (Err f) buffer = decoding (plain p) ys ≡ Err (fault_at f.number f.place)

-- Of n places the first `count` are added up; behind them stands what stood there before.
pub record Adding (reference : List ℕ) (xs : List ℕ) (buffer : List ℕ) (count : ℕ) : Type 0 where
  pub added : (k : ℕ) → k < count → slice_index buffer k ≡ cell reference xs k
  pub rest : (k : ℕ) → count ≤ k → k < length xs → slice_index buffer k ≡ slice_index xs k

-- before the first one nothing is added
pub add_none : (reference before : List ℕ) (n : ℕ) → n ≤ length before → Adding reference (take n before) before 0
add_none reference before n l =
    let long = length-take-le n before l in
    record { added = λ k h. absurd (omega arith); rest = λ k h s. sym (get_or-take n before k 0 (omega arith)) }

-- one increment more is added
pub add_next : (reference xs buffer : List ℕ) (i before value : ℕ) → is_reference reference ≡ true → i < length xs → i < length buffer
    → before ≡ earlier reference buffer i → value ≡ (slice_index buffer i + before) % 8
    → Adding reference xs buffer i → Adding reference xs (set buffer i value) (i + 1)
add_next reference xs buffer i before value r l inside e v f =
    record {
      added = below_more
          (λ k. slice_index (set buffer i value) k ≡ cell reference xs k)
          i
          (λ k h. get_or-set_other buffer i k value 0 (omega arith) ∙ f.added k h)
          (get_or-set_same buffer i value 0 inside
          ∙ v
          ∙ ap (λ x. (x + before) % 8) (f.rest i (omega arith) l)
          ∙ ap (λ y. (slice_index xs i + y) % 8) e
          ∙ sym (next_cell reference xs buffer i (some_row reference r) f.added));
      rest = λ k h s. get_or-set_other buffer i k value 0 (omega arith) ∙ f.rest k (omega arith) s;
    }

-- a front that is wholly added up is the coding
pub added_front : (reference : List ℕ) (n reach i : ℕ) (before after : List ℕ) → n ≡ reach → n ≤ length before → length after ≡ length before
    → reach ≤ i → Adding reference (take n before) after i → take reach after ≡ cells reference (take n before)
added_front reference n reach i before after same l long most f =
    let la = length-take-le reach after (omega arith) in
    let lb = length-take-le n before l in
    let lc = cells_length reference (take n before) in
    same_by_places (take reach after) (cells reference (take n before)) (omega arith) (λ k h.
    get_or-take reach after k 0 (omega arith) ∙ f.added k (omega arith) ∙ sym (cells_at reference (take n before) k (omega arith)))

-- Of n places `count` are turned; the next of them, if there is one, holds no cell.
pub record Turned (reference : List ℕ) (n : ℕ) (ys : List ℕ) (buffer : List ℕ) (count : ℕ) : Type 0 where
  pub few : count ≤ n
  pub done : Turning reference ys buffer count
  pub stop : count < n → 7 < slice_index ys count

-- the bits of increment i do not stand before place i
pub bits_behind : (b i : ℕ) → 0 < b → i ≤ i * b
bits_behind b i p = omega (arith, mul-le i 1 i b (omega arith) (omega arith))

-- Of the bits `xs` the first `count` increments are made; behind them stands what stood there.
pub record Mapping (b : ℕ) (xs : List ℕ) (buffer : List ℕ) (count : ℕ) : Type 0 where
  pub mapped : (k : ℕ) → k < count → slice_index buffer k ≡ increment_of b (written xs (k * b) b)
  pub rest : (k : ℕ) → count ≤ k → k < length xs → slice_index buffer k ≡ slice_index xs k

-- before the first increment nothing is mapped
pub map_none : (b n : ℕ) (before : List ℕ) → n ≤ length before → Mapping b (take n before) before 0
map_none b n before l =
    let long = length-take-le n before l in
    record { mapped = λ k h. absurd (omega arith); rest = λ k h s. sym (get_or-take n before k 0 (omega arith)) }

-- the bits of the next increment lie inside the list
pub next_inside : (b n count i : ℕ) → Whole b n count → i < count → (i + 1) * b ≤ n
next_inside b n count i w l =
    let whole : count * b ≡ n = ap (λ m. m * b) (sym w.count) ∙ whole_bits b n w.rest in
    omega (arith, whole, bits_inside b i count l)

-- and still stand where they stood
next_same : (b n count i size : ℕ) (before buffer : List ℕ) → 0 < b → size ≡ b → Whole b n count → n ≤ length before → i < count
    → Mapping b (take n before) buffer i → (j : ℕ) → j < b
    → slice_index (take size (drop (i * b) buffer)) j ≡ slice_index (take n before) (i * b + j)
next_same b n count i size before buffer p e w inside l f j s =
    get_or-take size (drop (i * b) buffer) j 0 (omega arith)
    ∙ get_or-drop (i * b) buffer j 0
    ∙ f.rest (i * b + j) (omega (arith, bits_behind b i p)) (omega (arith, next_inside b n count i w l, length-take-le n before inside))

pub next_bits : (b n count i size : ℕ) (before buffer : List ℕ) → 0 < b → size ≡ b → Whole b n count → n ≤ length before → i < count
    → within 1 (take n before) ≡ true → Mapping b (take n before) buffer i → within 1 (take size (drop (i * b) buffer)) ≡ true
next_bits b n count i size before buffer p e w inside l bits f =
    within_from 1 (take size (drop (i * b) buffer)) (λ j h.
    omega (arith, next_same b n count i size before buffer p e w inside l f j (omega (arith, length-take size (drop (i * b) buffer))), within_at 1 (take n before) (i * b + j) bits))

-- one increment more is mapped
pub map_next : (b n count i size w value : ℕ) (before buffer : List ℕ) → 0 < b → size ≡ b → Whole b n count → n ≤ length before → i < count
    → i < length buffer → w ≡ written (take size (drop (i * b) buffer)) 0 b → value ≡ increment_of b w → Mapping b (take n before) buffer i
    → Mapping b (take n before) (set buffer i value) (i + 1)
map_next b n count i size w value before buffer p e whole inside l room number v f =
    record {
      mapped = below_more
          (λ k. slice_index (set buffer i value) k ≡ increment_of b (written (take n before) (k * b) b))
          i
          (λ k h. get_or-set_other buffer i k value 0 (omega arith) ∙ f.mapped k h)
          (get_or-set_same buffer i value 0 room ∙ v ∙ ap (increment_of b) (number ∙ same));
      rest = λ k h s. get_or-set_other buffer i k value 0 (omega arith) ∙ f.rest k (omega arith) s;
    }
  where
    same : written (take size (drop (i * b) buffer)) 0 b ≡ written (take n before) (i * b) b
    same =
        same_written (take size (drop (i * b) buffer)) (take n before) 0 (i * b) b (λ j s.
        let at : 0 + j ≡ j = omega arith in
        ap (slice_index (take size (drop (i * b) buffer))) at ∙ next_same b n count i size before buffer p e whole inside l f j s)

-- a front that is wholly mapped is the coding
pub mapped_front : (b n count i : ℕ) (before after : List ℕ) → Whole b n count → n ≤ length before → count ≤ length after → count ≤ i
    → Mapping b (take n before) after i → take count after ≡ increments b (take n before)
mapped_front b n count i before after w inside room most f =
    let lb = length-take-le n before inside in
    let la = length-take-le count after room in
    let many : length (take n before) / b ≡ count = ap (λ m. m / b) lb ∙ w.count in
    let li = increments_length b (take n before) in
    same_by_places (take count after) (increments b (take n before)) (omega (arith, la, li, many)) (λ k h.
    get_or-take count after k 0 (omega arith) ∙ f.mapped k (omega arith) ∙ sym (increments_at b (take n before) k (omega arith)))

-- The first c of the b bits that write w stand in a buffer from a place on; before it nothing changed.
pub record Writing (b : ℕ) (w : ℕ) (place : ℕ) (before : List ℕ) (after : List ℕ) (c : ℕ) : Type 0 where
  pub bits_there : (j : ℕ) → j < c → slice_index after (place + j) ≡ bit_of b w j
  pub kept : (k : ℕ) → k < place → slice_index after k ≡ slice_index before k

-- Of n places `count` are taken back; the next of them, if there is one, is not in use.
pub record Unmapped (b : ℕ) (n : ℕ) (ys : List ℕ) (buffer : List ℕ) (count : ℕ) : Type 0 where
  pub few : count ≤ n
  pub done : Unmapping b ys buffer count
  pub stop : count < n → increment_of b (number_of b (slice_index ys count)) ≢ slice_index ys count
