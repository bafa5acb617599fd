-- The field of 256 bytes. A byte is a polynomial over two elements, bit k the coefficient of x^k;
-- the sum of two is their XOR, and the product is taken modulo x^8 + x^4 + x^3 + x^2 + 1.
use Rattle.std.specs.Prelude.{◌≡◌, ℕ, zero, suc, ◌+◌, ◌-◌, ◌*◌, ◌/◌, ◌%◌, ◌^◌, ◌<◌, cond, ◌==◌, bit_xor, nat_lt}

-- How many bytes there are.
abbrev pub field_size : ℕ
field_size = 256

-- x^8 + x^4 + x^3 + x^2 + 1.
abbrev pub field_polynomial : ℕ
field_polynomial = 285

-- The coefficient of x^k, 0 or 1.
abbrev pub coefficient : ℕ → ℕ → ℕ
coefficient k a = a / 2 ^ k % 2

-- The product of two polynomials, by the n lowest coefficients of the first.
unfoldable pub polynomial_product : ℕ → ℕ → ℕ → ℕ
polynomial_product zero a b = 0
polynomial_product (suc k) a b = bit_xor (coefficient k a * (b * 2 ^ k)) (polynomial_product k a b)

-- The remainder of a polynomial with n coefficients from x^8 on, by the field's polynomial: the
-- highest of them is taken away first.
unfoldable pub field_remainder : ℕ → ℕ → ℕ
field_remainder zero p = p
field_remainder (suc k) p = field_remainder k (bit_xor p (coefficient (8 + k) p * (field_polynomial * 2 ^ k)))

-- The product of two bytes in the field.
unfoldable pub product : ℕ → ℕ → ℕ
product a b = field_remainder 7 (polynomial_product 8 a b)

-- The product with x: the bits move up, and where that gives x^8, the field's polynomial takes it away.
abbrev pub doubled : ℕ → ℕ
doubled a = cond (nat_lt a 128) (a * 2) (bit_xor ((a - 128) * 2) 29)

-- A byte times the lowest coefficient of another.
abbrev pub lowest_times : ℕ → ℕ → ℕ
lowest_times b a = cond (b % 2 == 1) a 0

-- What is left of a multiplication: a product that, with the sum so far, makes the whole.
pub record Multiplying (sum power rest total : ℕ) : Type 0 where
  pub power_byte : power < field_size
  pub rest_byte : rest < field_size
  pub whole : bit_xor sum (product power rest) ≡ total

-- α, the byte of the polynomial x; its powers are the roots of a generator.
abbrev pub alpha : ℕ
alpha = 2

abbrev pub power : ℕ → ℕ → ℕ
power a zero = 1
power a (suc n) = product a (power a n)

-- What makes the product a remainder: it is a byte, and the product of the two polynomials is a
-- multiple of the field's polynomial plus it.
pub record Reduces (a b : ℕ) : Type 0 where
  pub byte : product a b < field_size
  pub quotient : ℕ
  pub quotient_degree : quotient < 2 ^ 7
  pub whole : polynomial_product 8 a b ≡ bit_xor (polynomial_product 8 quotient field_polynomial) (product a b)

-- The laws of the field, XOR being the sum.
pub record FieldLaws : Type 0 where
  pub reduces : (a b : ℕ) → a < field_size → b < field_size → Reduces a b
  pub commutes : (a b : ℕ) → a < field_size → b < field_size → product a b ≡ product b a
  pub associates : (a b c : ℕ) → a < field_size → b < field_size → c < field_size → product (product a b) c ≡ product a (product b c)
  pub distributes : (a b c : ℕ) → product a (bit_xor b c) ≡ bit_xor (product a b) (product a c)
  pub one : (a : ℕ) → a < field_size → product 1 a ≡ a
  pub nothing : (a : ℕ) → product 0 a ≡ 0
  pub inverse : (a : ℕ) → 0 < a → a < field_size → (b : ℕ) × (b < field_size) × (product a b ≡ 1)
