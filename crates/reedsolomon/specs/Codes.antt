-- Polynomials over the field of bytes: lists of coefficients, the highest power first. Sums, and
-- moving up and widening, are those of polynomials over two elements, since the sum is XOR there too.
use Rattle.std.specs.Prelude.{◌≡◌, ℕ, zero, suc, ◌*◌, ◌<◌, Bool, true, ◌||◌, List, [], ◌∷◌, ◌++◌, map, length, drop, ◌==◌, bit_xor}
use Rattle.stage.specs.Plain.{within}
use Rattle.codings.specs.Polynomials.{sum, zeros, moved_up, widened, monic, degree}
use Rattle.reedsolomon.specs.Fields.{product, alpha, power}

-- A polynomial times a byte.
abbrev pub scaled : ℕ → List ℕ → List ℕ
scaled c p = map (product c) p

-- The product, one power of the first factor after the other.
abbrev pub times : List ℕ → List ℕ → List ℕ
times [] g = zeros (degree g)
times (c ∷ q) g = sum (moved_up (length q) (scaled c g)) (0 ∷ times q g)

-- The product of x + α^i for i = 1 to n; minus is plus.
unfoldable pub generator : ℕ → List ℕ
generator zero = 1 ∷ []
generator (suc n) = times (1 ∷ power alpha (suc n) ∷ []) (generator n)

-- The value of a polynomial at x, one coefficient after the other (Horner's rule).
abbrev pub value_from : ℕ → ℕ → List ℕ → ℕ
value_from x so_far [] = so_far
value_from x so_far (c ∷ p) = value_from x (bit_xor (product so_far x) c) p

abbrev pub value : ℕ → List ℕ → ℕ
value x p = value_from x 0 p

-- A remainder takes in one more coefficient of a message that is moved up: it moves up one power,
-- and where that and the message give the generator's power, the generator takes it away.
abbrev pub fed : List ℕ → List ℕ → ℕ → List ℕ
fed lower [] byte = []
fed lower (highest ∷ rest) byte = sum (moved_up 1 rest) (scaled (bit_xor highest byte) lower)

abbrev pub fed_all : List ℕ → List ℕ → List ℕ → List ℕ
fed_all lower register [] = register
fed_all lower register (byte ∷ bytes) = fed_all lower (fed lower register byte) bytes

-- The remainder of a message, moved up k powers, by a monic generator of degree k.
abbrev pub remainder : List ℕ → List ℕ → List ℕ
remainder lower message = fed_all lower (zeros (length lower)) message

-- What makes it the remainder: it has degree below k, the moved message is a product with the
-- generator plus the remainder, and no other polynomial of degree below k is. So the message
-- with its remainder behind it is a multiple of the generator.
pub record Divides (lower message : List ℕ) : Type 0 where
  pub below_degree : length (remainder lower message) ≡ length lower
  pub bytes : within 255 (remainder lower message) ≡ true
  pub quotient : List ℕ
  pub quotient_degree : length quotient ≡ length message
  pub quotient_bytes : within 255 quotient ≡ true
  pub whole : moved_up (length lower) message ≡ sum (times quotient (monic lower)) (widened (length message) (remainder lower message))
  pub multiple : message ++ remainder lower message ≡ times quotient (monic lower)
  pub only : (q r : List ℕ) → within 255 q ≡ true → length q ≡ length message → length r ≡ length lower → moved_up (length lower) message ≡ sum (times q (monic lower)) (widened (length message) r) → r ≡ remainder lower message

-- How many damaged bytes a code word is made to survive: 4 or 8.
abbrev pub known_strength : ℕ → Bool
known_strength t = t == 4 || t == 8

-- The coefficients of the generator with 2T roots below its highest.
unfoldable pub lower : ℕ → List ℕ
lower t = drop 1 (generator (2 * t))

-- The parity: the remainder of the message, moved up 2T powers, by the generator.
abbrev pub parity : ℕ → List ℕ → List ℕ
parity t message = remainder (lower t) message

-- The code word: the message with its parity behind it.
abbrev pub with_parity : ℕ → List ℕ → List ℕ
with_parity t message = message ++ parity t message

-- The law of the parity: the generator is monic of degree 2T, the parity is the remainder by it, and
-- the code word is 0 at α to α^2T.
pub record CodeWord (t : ℕ) (message : List ℕ) : Type 0 where
  pub monic_generator : generator (2 * t) ≡ monic (lower t)
  pub generator_degree : length (lower t) ≡ 2 * t
  pub divides : Divides (lower t) message
  pub roots : (i : ℕ) → i < 2 * t → value (power alpha (suc i)) (with_parity t message) ≡ 0

-- It holds of every message of bytes; and that of the remainder for every monic generator besides.
pub record ParityLaw : Type 0 where
  pub words : (t : ℕ) (message : List ℕ) → known_strength t ≡ true → within 255 message ≡ true → CodeWord t message
  pub remainders : (g message : List ℕ) → within 255 g ≡ true → within 255 message ≡ true → Divides g message
