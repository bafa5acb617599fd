-- Polynomials over two elements: lists of coefficients 0 and 1, the highest power first. A list
-- of n coefficients is a polynomial of degree below n.
use Rattle.std.specs.Prelude.{◌≡◌, ℕ, ◌*◌, true, List, [], ◌∷◌, ◌++◌, map, length, replicate, bit_xor}
use Rattle.stage.specs.Plain.{within}

-- The sum of two polynomials with equally many coefficients.
abbrev pub sum : List ℕ → List ℕ → List ℕ
sum [] q = []
sum (a ∷ p) [] = []
sum (a ∷ p) (b ∷ q) = bit_xor a b ∷ sum p q

-- A polynomial times one of the two elements.
abbrev pub scaled : ℕ → List ℕ → List ℕ
scaled c p = map (λ a. c * a) p

-- As many coefficients that are 0.
abbrev pub zeros : ℕ → List ℕ
zeros n = replicate n 0

-- A polynomial moved up k powers.
abbrev pub moved_up : ℕ → List ℕ → List ℕ
moved_up k p = p ++ zeros k

-- The same polynomial, written with n more coefficients for powers that it does not have.
abbrev pub widened : ℕ → List ℕ → List ℕ
widened n p = zeros n ++ p

-- The monic polynomial of degree k whose k lower coefficients are given.
abbrev pub monic : List ℕ → List ℕ
monic lower = 1 ∷ lower

-- The degree of a polynomial whose highest coefficient is not 0.
abbrev pub degree : List ℕ → ℕ
degree [] = 0
degree (a ∷ p) = length p

-- The product, one power of the first factor after the other.
abbrev pub product : List ℕ → List ℕ → List ℕ
product [] g = zeros (degree g)
product (c ∷ q) g = sum (moved_up (length q) (scaled c g)) (0 ∷ product q g)

-- A remainder takes in one more coefficient of a message that is moved up k powers: it moves up
-- one power, and where that and the message give a k-th power, the generator takes it away.
abbrev pub fed : List ℕ → List ℕ → ℕ → List ℕ
fed lower [] bit = []
fed lower (highest ∷ rest) bit = sum (moved_up 1 rest) (scaled (bit_xor highest bit) lower)

abbrev pub fed_all : List ℕ → List ℕ → List ℕ → List ℕ
fed_all lower register [] = register
fed_all lower register (bit ∷ bits) = fed_all lower (fed lower register bit) bits

-- The remainder of a message, moved up k powers, by a monic generator of degree k.
abbrev pub remainder : List ℕ → List ℕ → List ℕ
remainder lower message = fed_all lower (zeros (length lower)) message

-- What makes it the remainder: it has degree below k, the moved message is a product with the
-- generator plus the remainder, and no other polynomial of degree below k is. So the message
-- with its remainder behind it is a multiple of the generator.
pub record Divides (lower message : List ℕ) : Type 0 where
  pub below_degree : length (remainder lower message) ≡ length lower
  pub coefficients : within 1 lower ≡ true → within 1 message ≡ true → within 1 (remainder lower message) ≡ true
  pub quotient : List ℕ
  pub quotient_degree : length quotient ≡ length message
  pub quotient_coefficients : within 1 lower ≡ true → within 1 message ≡ true → within 1 quotient ≡ true
  pub whole : moved_up (length lower) message ≡ sum (product quotient (monic lower)) (widened (length message) (remainder lower message))
  pub multiple : message ++ remainder lower message ≡ product quotient (monic lower)
  pub only : (q r : List ℕ) → length q ≡ length message → length r ≡ length lower → moved_up (length lower) message ≡ sum (product q (monic lower)) (widened (length message) r) → r ≡ remainder lower message

-- The law of the remainder, for every message and every monic generator.
abbrev pub RemainderLaw : Type 0
RemainderLaw = (lower message : List ℕ) → Divides lower message
