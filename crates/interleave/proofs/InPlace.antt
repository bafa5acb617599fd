-- What holds of a stage that works in place, on the elements at the front of a buffer.
use Rattle.std.specs.Prelude.{ℕ, ◌<◌, ◌≤◌, List, map, Ok, Err, Result, slice_index}
use Rattle.std.specs.List.{range_with_len}
use Rattle.stage.specs.declared.faults.StageFault.{StageFault}
use Rattle.stage.specs.declared.faults.ChainFault.{ChainFault}
use Rattle.stage.specs.Faults.{fault_at}
use Rattle.stage.specs.Calls.{Leaves}

-- The first `count` of n elements are bits; the next of them, if there is one, is not.
pub record Leading (n : ℕ) (buffer : List ℕ) (count : ℕ) : Type 0 where
  pub few : count ≤ n
  pub bits : (k : ℕ) → k < count → slice_index buffer k ≤ 1
  pub stop : count < n → 1 < slice_index buffer count

-- The elements of a buffer at the places to which n bits go, in the order of the bits.
abbrev pub gathered : (ℕ → ℕ) → ℕ → List ℕ → List ℕ
gathered f n buffer = map (λ q. slice_index buffer (f q)) (range_with_len 0 n)

-- An answer with a stage's fault as one with that of a chain in which the stage is next to the line.
abbrev pub at_the_line : Result ℕ StageFault → Result ℕ ChainFault
at_the_line (Ok n) = Ok n
at_the_line (Err f) = Err (fault_at f.number f.place)

-- What an in-place decoding with a stage's own fault leaves: the list in front, or the fault.
abbrev pub Takes : Result (List ℕ) ChainFault → Result ℕ StageFault → List ℕ → Type 0
Takes decoded answer buffer = Leaves decoded (at_the_line answer) buffer
