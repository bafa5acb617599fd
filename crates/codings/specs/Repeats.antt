-- Repetition: each bit several times in a row.
use Rattle.std.specs.Prelude.{◌≡◌, ℕ, ◌*◌, ◌<◌, Bool, cond, ◌||◌, List, map, length, replicate, Some, None, Ok, Err, Option, Result, ◌==◌, ◌≢◌, slice_index}
use Rattle.std.specs.List.{range_with_len, flat_map}
use Rattle.stage.specs.declared.faults.Refusal.{Refusal}
use Rattle.stage.specs.declared.faults.Refusal.TheVariants.{Setting}
use Rattle.stage.specs.Model.{Model, plain}
use Rattle.stage.specs.Plain.{Plain}
use Rattle.codings.specs.NearestBits.{nearest_bit}
use Rattle.codings.specs.Groups.{grouped_length, group_count}

-- A bit is put out 4 times, or 6 times.
abbrev pub known_times : ℕ → Bool
known_times times = times == 4 || times == 6

-- The most bits that are taken.
abbrev pub most_bits : ℕ
most_bits = 2268

-- Each bit is replaced by so many copies of it.
abbrev pub repeated : ℕ → List ℕ → List ℕ
repeated times xs = flat_map (replicate times) xs

-- The length with the copies, and the length without them.
abbrev pub repeated_length : ℕ → ℕ → Option ℕ
repeated_length times n = grouped_length most_bits times n

abbrev pub single_length : ℕ → ℕ → Option ℕ
single_length times n = group_count most_bits times n

-- The message nearest to a received list: of each group of copies the first.
abbrev pub group_heads : ℕ → ℕ → List ℕ → List ℕ
group_heads times n ys = map (λ i. nearest_bit (slice_index ys (i * times))) (range_with_len 0 n)

-- The stage that repeats each bit.
abbrev pub repetition : ℕ → Plain
repetition times =
    record {
      number = 7;
      takes = 1;
      puts = 1;
      coded_length = repeated_length times;
      message_length = single_length times;
      coding = repeated times;
      guess = group_heads times;
    }

-- The stage that a number of copies makes, or the refusal of another number than 4 and 6.
abbrev pub made_repeat : ℕ → Result Model Refusal
made_repeat times = cond (known_times times) (Ok (plain (repetition times))) (Err Setting)

-- The first element that is not the given bit stands at a place inside the list, or there is none.
abbrev pub FirstOther : ℕ → List ℕ → Option ℕ → Type 0
FirstOther bit list None = (k : ℕ) → k < length list → slice_index list k ≡ bit
FirstOther bit list (Some place) = (place < length list) × ((k : ℕ) → k < place → slice_index list k ≡ bit) × (slice_index list place ≢ bit)

-- A group is made of copies of a bit, or the first element that is no copy of the bit nearest to the
-- group's head stands at a place.
abbrev pub Copied : List ℕ → Result ℕ ℕ → Type 0
Copied copies (Ok bit) = (bit ≡ nearest_bit (slice_index copies 0)) × FirstOther bit copies None
Copied copies (Err place) = FirstOther (nearest_bit (slice_index copies 0)) copies (Some place)
