-- Worked examples of sizes and refusals. PDC and DT are 0 and the tone map is 63 unless given.
use Rattle.std.specs.Prelude.{◌≡◌, ℕ, Ok, Err}
use Rattle.frame.specs.declared.headers.Header.{Header}
use Rattle.frame.specs.declared.refusals.Refusal.{Refusal}
use Rattle.frame.specs.declared.refusals.Refusal.TheVariants.{ToneMap, Reserved, BlockTooShort, BlockTooLong}
use Rattle.frame.specs.Answers.{block, size_answer}
use Rattle.frame.specs.Refusals.{number_of}

-- The header of an example: MOD, FL, TM and DT.
abbrev pub header : ℕ → ℕ → ℕ → ℕ → Header
header mo fl tm dt = record { pdc = 0; modulation = mo; fl = fl; tm = tm; dt = dt }

-- The header is refused with this refusal, and that has this number.
abbrev pub Refused : Header → Refusal → ℕ → Type 0
Refused h e n = (size_answer h ≡ Err e) × (number_of e ≡ n)

pub record Worked_examples : Type 0 where
  -- DBPSK, FL 2: one byte of payload in 21 rows
  pub dbpsk_2 : size_answer (header 1 2 63 0) ≡ Ok (1, 21)
  -- robust, FL 10: thirteen bytes in 53 rows
  pub robust_10 : size_answer (header 0 10 63 0) ≡ Ok (13, 53)
  -- DBPSK, FL 1: a block of eight bytes is too short
  pub dbpsk_1 : Refused (header 1 1 63 0) (BlockTooShort 8) 4
  -- DBPSK, FL 28: a block of 251 bytes, 235 of payload
  pub dbpsk_28_block : block (header 1 28 63 0) ≡ 251
  pub dbpsk_28 : size_answer (header 1 28 63 0) ≡ Ok (235, 125)
  -- DBPSK, FL 29: a block of 260 bytes is too long
  pub dbpsk_29 : Refused (header 1 29 63 0) (BlockTooLong 260) 5
  -- D8PSK, FL 9: a block of 242 bytes
  pub d8psk_9_block : block (header 3 9 63 0) ≡ 242
  pub d8psk_9 : size_answer (header 3 9 63 0) ≡ Ok (226, 49)
  -- D8PSK, FL 10: a block of 269 bytes is too long
  pub d8psk_10 : Refused (header 3 10 63 0) (BlockTooLong 269) 5
  -- an empty tone map with a reserved DT is refused for its tone map
  pub tone_map_before_delimiter : Refused (header 1 2 0 4) (ToneMap 0) 2
  -- a full tone map with a reserved DT is refused for its DT
  pub delimiter : Refused (header 1 2 63 4) (Reserved 4) 3
