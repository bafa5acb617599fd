-- Faults and refusals: what is said when a list is not taken.
use Rattle.std.specs.Prelude.{ℕ, ◌+◌, ◌-◌, ◌^◌, min}
use Rattle.stage.specs.declared.faults.StageFault.{StageFault}
use Rattle.stage.specs.declared.faults.ChainFault.{ChainFault}
use Rattle.stage.specs.declared.faults.Refusal.{Refusal}
use Rattle.stage.specs.declared.faults.Refusal.TheVariants.{Setting, TooShort, Fault, Illegal, Misfit}

-- A stage's fault as that of a chain: no plain stage stands nearer the line, so the depth is 0.
abbrev pub at_the_line : StageFault → ChainFault
at_the_line f = record { fault = f; depth = 0 }

-- The fault of a plain stage: its own number, the place in the list it received, and depth 0.
abbrev pub fault_at : ℕ → ℕ → ChainFault
fault_at number place = at_the_line (record { number = number; place = place })

-- The largest depth that a fault can hold. The depths of a pile that fits are far below it.
abbrev pub deepest : ℕ
deepest = 2 ^ 64 - 1

-- A fault seen from a chain with so many more plain stages nearer the line: only the depth grows.
abbrev pub deeper_by : ℕ → ChainFault → ChainFault
deeper_by members f = record { fault = f.fault; depth = min (f.depth + members) deepest }

-- A chain's fault as a refusal, which carries it whole.
abbrev pub refused_for : ChainFault → Refusal
refused_for f = Fault f

-- The number under which a refusal is known.
abbrev pub number_of : Refusal → ℕ
number_of Setting = 1
number_of TooShort = 7
number_of (Fault f) = 10
number_of Illegal = 13
number_of Misfit = 14
