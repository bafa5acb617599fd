-- Worked examples of packed headers. PDC and DT are 0 and the tone map is 63.
use Rattle.std.specs.Prelude.{◌≡◌, ℕ, List, [], ◌∷◌, Ok, Err}
use Rattle.stage.specs.Faults.{fault_at}
use Rattle.frame.specs.Examples.{header}
use Rattle.packing.specs.declared.refusals.UnpackRefusal.{UnpackRefusal}
use Rattle.packing.specs.declared.refusals.UnpackRefusal.TheVariants.{Fault}
use Rattle.packing.specs.Packings.{packed, unpack_answer, unpack_number}

-- The bytes are refused with this refusal, and that has this number.
abbrev pub Refused : List ℕ → UnpackRefusal → ℕ → Type 0
Refused bytes e n = (unpack_answer bytes ≡ Err e) × (unpack_number e ≡ n)

pub record Packing_examples : Type 0 where
  -- DBPSK, FL 2: 00 42 3F 07 80, both ways
  pub dbpsk_2 : packed (header 1 2 63 0) ≡ 0x00 ∷ 0x42 ∷ 0x3F ∷ 0x07 ∷ 0x80 ∷ []
  pub dbpsk_2_back : unpack_answer (0x00 ∷ 0x42 ∷ 0x3F ∷ 0x07 ∷ 0x80 ∷ []) ≡ Ok (header 1 2 63 0)
  -- robust, FL 10: 00 0A 3F 06 00, both ways
  pub robust_10 : packed (header 0 10 63 0) ≡ 0x00 ∷ 0x0A ∷ 0x3F ∷ 0x06 ∷ 0x00 ∷ []
  pub robust_10_back : unpack_answer (0x00 ∷ 0x0A ∷ 0x3F ∷ 0x06 ∷ 0x00 ∷ []) ≡ Ok (header 0 10 63 0)
  -- 00 42 3F 07 00: the last bit of the check is wrong
  pub wrong_check : Refused (0x00 ∷ 0x42 ∷ 0x3F ∷ 0x07 ∷ 0x00 ∷ []) (Fault (fault_at 1 32)) 10
