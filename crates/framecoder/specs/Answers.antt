-- What a call tells a program in another language: five plain numbers.
use Rattle.std.specs.Prelude.{ℕ, Ok, Err, Result}
use Rattle.framecoder.specs.declared.answers.Answer.{Answer}
use Rattle.stage.specs.declared.faults.ChainFault.{ChainFault}
use Rattle.stage.specs.declared.faults.Refusal.{Refusal}
use Rattle.stage.specs.declared.faults.Refusal.TheVariants.{Setting, TooShort, Fault, Illegal, Misfit}
use Rattle.stage.specs.Faults.{number_of}

-- A list of n elements lies at the front of the result buffer: no refusal, and no fault.
abbrev pub list_of : ℕ → Answer
list_of n = record { refusal = 0; stage = 0; length = n; place = 0; depth = 0 }

-- A refusal that carries nothing but its number.
abbrev pub bare : ℕ → Answer
bare number = record { refusal = number; stage = 0; length = 0; place = 0; depth = 0 }

-- A received list that is no coding: refusal 10 with the stage, the place and the depth of the fault.
abbrev pub faulty : ChainFault → Answer
faulty f = record { refusal = number_of (Fault f); stage = f.fault.number; length = 0; place = f.fault.place; depth = f.depth }

-- A refusal by its number, with its fault if it has one.
abbrev pub refused : Refusal → Answer
refused (Fault f) = faulty f
refused Setting = bare (number_of Setting)
refused TooShort = bare (number_of TooShort)
refused Illegal = bare (number_of Illegal)
refused Misfit = bare (number_of Misfit)

-- The answer of a call of a stage.
abbrev pub told : Result ℕ Refusal → Answer
told (Ok n) = list_of n
told (Err e) = refused e
