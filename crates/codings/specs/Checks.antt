-- The check: behind 28 bits stands their remainder, moved up five powers, by x^5 + x^2 + 1.
use Rattle.std.specs.Prelude.{◌≡◌, ℕ, List, [], ◌∷◌, ◌++◌, map, take, replicate, bit_xor}
use Rattle.stage.specs.Plain.{Plain}
use Rattle.codings.specs.declared.checks.Register.{Register}
use Rattle.codings.specs.Polynomials.{remainder}
pub use Rattle.codings.specs.NearestBits.{nearest_bit}
pub use Rattle.codings.specs.Fronts.{only_length}

-- How many bits are checked, by how many, and how many that makes.
abbrev pub message_bits : ℕ
message_bits = 28

abbrev pub check_bits : ℕ
check_bits = 5

abbrev pub coded_bits : ℕ
coded_bits = 33

-- The generator x^5 + x^2 + 1, by its coefficients below x^5.
abbrev pub generator : List ℕ
generator = 0 ∷ 0 ∷ 1 ∷ 0 ∷ 1 ∷ []

-- A message with its check behind it.
abbrev pub with_check : List ℕ → List ℕ
with_check message = message ++ remainder generator message

-- The stage that appends the check; the message nearest to a received list is its first 28 bits.
abbrev pub checking : Plain
checking =
    record {
      number = 1;
      takes = 1;
      puts = 1;
      coded_length = only_length message_bits coded_bits;
      message_length = only_length coded_bits message_bits;
      coding = with_check;
      guess = λ n ys. map nearest_bit (take n ys);
    }

-- The coefficients that a register of five cells holds, and the cells after one more bit.
abbrev pub cells : Register → List ℕ
cells r = r.x4 ∷ r.x3 ∷ r.x2 ∷ r.x1 ∷ r.x0 ∷ []

abbrev pub shifted : Register → ℕ → Register
shifted r bit =
    record { x4 = r.x3; x3 = r.x2; x2 = bit_xor r.x1 (bit_xor r.x4 bit); x1 = r.x0; x0 = bit_xor r.x4 bit }

-- Worked headers: PDC 0, TM 63 and DT 0, the first with MOD 1 and FL 2, the second with MOD 0 and FL 10.
abbrev pub header_bits : List ℕ → List ℕ
header_bits second-byte = replicate 8 0 ++ (second-byte ++ (0 ∷ 0 ∷ 1 ∷ 1 ∷ 1 ∷ 1 ∷ 1 ∷ 1 ∷ 0 ∷ 0 ∷ 0 ∷ 0 ∷ []))

pub record CheckExamples : Type 0 where
  pub dbpsk : remainder generator (header_bits (0 ∷ 1 ∷ 0 ∷ 0 ∷ 0 ∷ 0 ∷ 1 ∷ 0 ∷ [])) ≡ 0 ∷ 1 ∷ 1 ∷ 1 ∷ 1 ∷ []
  pub robust : remainder generator (header_bits (0 ∷ 0 ∷ 0 ∷ 0 ∷ 1 ∷ 0 ∷ 1 ∷ 0 ∷ [])) ≡ 0 ∷ 1 ∷ 1 ∷ 0 ∷ 0 ∷ []
