-- What holds of a stage that works in place, on the elements at the front of a buffer.
use Rattle.std.specs.Prelude.{◌≡◌, ℕ, ◌+◌, ◌<◌, ◌≤◌, List, length, take, Ok, Err, Result, ◌≢◌, slice_index}
use Rattle.stage.specs.declared.faults.StageFault.{StageFault}
use Rattle.stage.specs.Faults.{fault_at}
use Rattle.stage.specs.Model.{plain, decoding}
use Rattle.reedsolomon.specs.Words.{words}

-- Of `count` bytes of parity the first `same` stand in a buffer from a place on; the next, if there is one, does not.
pub record Agreeing (count at : ℕ) (check buffer : List ℕ) (same : ℕ) : Type 0 where
  pub few : same ≤ count
  pub equal : (k : ℕ) → k < same → slice_index buffer (at + k) ≡ slice_index check k
  pub stop : same < count → slice_index buffer (at + same) ≢ slice_index check same

-- The message before the parity, or the stage's fault.
abbrev pub Unchecked : ℕ → ℕ → List ℕ → Result ℕ StageFault → Type 0
Unchecked t n buffer (Ok count) = (decoding (plain (words t)) (take n buffer) ≡ Ok (take count buffer)) × (count ≤ length buffer)
Unchecked t n buffer (Err f) = decoding (plain (words t)) (take n buffer) ≡ Err (fault_at f.number f.place)
