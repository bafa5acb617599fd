-- The stage that puts parity behind a message: its lengths, its guess, and what its calls leave.
use Rattle.std.specs.Prelude.{◌≡◌, ℕ, ◌+◌, ◌-◌, ◌*◌, ◌<◌, ◌≤◌, min, cond, ◌&&◌, List, [], ◌∷◌, map, take, Some, None, Ok, Err, Option, Result, ◌==◌, bit_xor, nat_le, slice_index}
use Rattle.stage.specs.declared.faults.Refusal.{Refusal}
use Rattle.stage.specs.declared.faults.Refusal.TheVariants.{Setting}
use Rattle.stage.specs.Plain.{Plain}
use Rattle.stage.specs.Model.{Model, plain}
use Rattle.reedsolomon.specs.Fields.{product}
use Rattle.reedsolomon.specs.Codes.{known_strength, with_parity}

-- A code word has at most as many bytes as the field has elements that are not 0.
abbrev pub longest_word : ℕ
longest_word = 255

-- The length with 2T bytes of parity, and the length without them; a message has a byte at least.
abbrev pub word_length : ℕ → ℕ → Option ℕ
word_length t n = cond (nat_le 1 n && nat_le n (longest_word - 2 * t)) (Some (n + 2 * t)) None

abbrev pub message_length : ℕ → ℕ → Option ℕ
message_length t n = cond (nat_le (2 * t + 1) n && nat_le n longest_word) (Some (n - 2 * t)) None

-- The byte nearest to a received element: itself, or 255 where it is no byte.
abbrev pub nearest_byte : ℕ → ℕ
nearest_byte y = min y 255

-- The stage; the message nearest to a received list is its front.
abbrev pub words : ℕ → Plain
words t =
    record {
      number = 3;
      takes = 255;
      puts = 255;
      coded_length = word_length t;
      message_length = message_length t;
      coding = with_parity t;
      guess = λ n ys. map nearest_byte (take n ys);
    }

-- The stage that a strength makes, or the refusal of another than 4 and 8.
abbrev pub made_words : ℕ → Result Model Refusal
made_words t = cond (known_strength t) (Ok (plain (words t))) (Err Setting)

-- The two generators below their highest coefficient, the shorter filled up.
abbrev pub generator_table : ℕ → List ℕ
generator_table t =
    cond
    (t == 4)
    (227 ∷ 44 ∷ 178 ∷ 71 ∷ 172 ∷ 8 ∷ 224 ∷ 37 ∷ 0 ∷ 0 ∷ 0 ∷ 0 ∷ 0 ∷ 0 ∷ 0 ∷ 0 ∷ [])
    (118 ∷ 52 ∷ 103 ∷ 31 ∷ 104 ∷ 126 ∷ 187 ∷ 232 ∷ 17 ∷ 56 ∷ 183 ∷ 49 ∷ 100 ∷ 81 ∷ 44 ∷ 79 ∷ [])

-- The first `count` cells of a register moved up one power, less a multiple of the generator; the
-- others are as they were.
pub record Shifted (feedback : ℕ) (table before after : List ℕ) (count : ℕ) : Type 0 where
  pub moved : (k : ℕ) → k < count → slice_index after k ≡ bit_xor (slice_index before (k + 1)) (product feedback (slice_index table k))
  pub rest : (k : ℕ) → count ≤ k → slice_index after k ≡ slice_index before k
