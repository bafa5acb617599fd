-- The fault of a received word, found part by part: first the check, then the seven zeros.
use Rattle.std.specs.Prelude.{ℕ, ◌+◌, List, Some, None, Ok, Err, Option, Result}
use Rattle.std.specs.Option.{option_map}
use Rattle.stage.specs.declared.faults.ChainFault.{ChainFault}
use Rattle.stage.specs.declared.faults.Refusal.{Refusal}
use Rattle.stage.specs.declared.faults.Refusal.TheVariants.{Setting, TooShort, Fault, Illegal, Misfit}
use Rattle.stage.specs.Faults.{fault_at}
use Rattle.stage.specs.Model.{plain, decoding}
use Rattle.stage.specs.Plain.{first_difference}
use Rattle.codings.specs.Checks.{checking, coded_bits}
use Rattle.packing.specs.Bits.{part}
use Rattle.packing.specs.Packings.{fault_in, padding, padding_length}

-- The fault that a stage's decoding was refused with, if it was.
abbrev pub fault_of : Result ℕ Refusal → Option ChainFault
fault_of (Ok n) = None
fault_of (Err (Fault f)) = Some f
fault_of (Err Setting) = None
fault_of (Err TooShort) = None
fault_of (Err Illegal) = None
fault_of (Err Misfit) = None

-- The fault of what stands behind the check: at its first element that is not 0.
abbrev pub zeros_fault : List ℕ → Option ChainFault
zeros_fault zeros = option_map (λ k. fault_at checking.number (coded_bits + k)) (first_difference padding zeros)

-- The first of two faults, where there is one.
abbrev pub first_fault : Option ChainFault → Option ChainFault → Option ChainFault
first_fault (Some f) later = Some f
first_fault None later = later

-- The fault of a word by its parts: the check's, or else that of the zeros.
abbrev pub parts_fault : List ℕ → Option ChainFault
parts_fault word = first_fault (fault_in (decoding (plain checking) (part 0 coded_bits word))) (zeros_fault (part coded_bits padding_length word))
