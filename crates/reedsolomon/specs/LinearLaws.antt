-- The product of bytes goes over to XOR in both factors.
use Rattle.std.specs.Prelude.{◌≡◌, ℕ, zero, suc, ◌+◌, ◌*◌, ◌/◌, ◌%◌, ◌^◌, ◌<◌, bit_xor, refl}
use Rattle.std.proofs.Common.{sym, ap, ap₂, ◌∙◌, arith, pow_pos}
use Rattle.std.proofs.lemmas.Nat.{xor_comm, xor_block, xor_shr, xor_mod}
use Rattle.std.specs.Int.Bits.{xor_assoc, xor_self, xor_zero_r}
use Rattle.reedsolomon.specs.Fields.{field_polynomial, coefficient, polynomial_product, field_remainder, product}

-- of four summands the middle ones may change places
pub interchange : (p q r s : ℕ) → bit_xor (bit_xor p q) (bit_xor r s) ≡ bit_xor (bit_xor p r) (bit_xor q s)
interchange p q r s =
    xor_assoc p q (bit_xor r s)
    ∙ ap (bit_xor p) (sym (xor_assoc q r s) ∙ ap (λ (x : ℕ). bit_xor x s) (xor_comm q r) ∙ xor_assoc r q s)
    ∙ sym (xor_assoc p r (bit_xor q s))

coefficient_xor : (k a b : ℕ) → coefficient k (bit_xor a b) ≡ bit_xor (coefficient k a) (coefficient k b)
coefficient_xor k a b = ap (λ (x : ℕ). x % 2) (xor_shr a b k) ∙ xor_mod (a / 2 ^ k) (b / 2 ^ k) 1

coefficient_small : (k a : ℕ) → coefficient k a < 2
coefficient_small k a = omega arith

no_times : (c : ℕ) → 0 * c ≡ 0
no_times c = omega arith

-- a sum of bits times a number, and a bit times a sum
bits_times : (x y c : ℕ) → x < 2 → y < 2 → bit_xor x y * c ≡ bit_xor (x * c) (y * c)
bits_times zero zero c h k = no_times c ∙ sym (ap (λ (z : ℕ). bit_xor z z) (no_times c))
bits_times zero (suc zero) c h k = sym (ap (λ (z : ℕ). bit_xor z (1 * c)) (no_times c))
bits_times zero (suc (suc y)) c h k = absurd (omega arith)
bits_times (suc zero) zero c h k = sym (ap (λ (z : ℕ). bit_xor (1 * c) z) (no_times c) ∙ xor_zero_r (1 * c))
bits_times (suc zero) (suc zero) c h k = no_times c ∙ sym (xor_self (1 * c))
bits_times (suc zero) (suc (suc y)) c h k = absurd (omega arith)
bits_times (suc (suc x)) y c h k = absurd (omega arith)

one_times : (c : ℕ) → 1 * c ≡ c
one_times c = omega arith

bit_times_sum : (x p q : ℕ) → x < 2 → x * bit_xor p q ≡ bit_xor (x * p) (x * q)
bit_times_sum zero p q h = no_times (bit_xor p q) ∙ sym (ap₂ bit_xor (no_times p) (no_times q))
bit_times_sum (suc zero) p q h = one_times (bit_xor p q) ∙ sym (ap₂ bit_xor (one_times p) (one_times q))
bit_times_sum (suc (suc x)) p q h = absurd (omega arith)

plus_none : (c : ℕ) → c + 0 ≡ c
plus_none c = omega arith

moved_sum : (a b k : ℕ) → bit_xor a b * 2 ^ k ≡ bit_xor (a * 2 ^ k) (b * 2 ^ k)
moved_sum a b k =
    sym (plus_none (bit_xor a b * 2 ^ k))
    ∙ sym (xor_block k a b 0 0 (pow_pos k) (pow_pos k))
    ∙ ap₂ bit_xor (plus_none (a * 2 ^ k)) (plus_none (b * 2 ^ k))

pub polynomial_product_left : (n a b c : ℕ) → polynomial_product n (bit_xor a b) c ≡ bit_xor (polynomial_product n a c) (polynomial_product n b c)
unfolding polynomial_product
polynomial_product_left zero a b c = refl
polynomial_product_left (suc k) a b c =
    let here : coefficient k (bit_xor a b) * (c * 2 ^ k) ≡ bit_xor (coefficient k a * (c * 2 ^ k)) (coefficient k b * (c * 2 ^ k)) =
    ap (λ (x : ℕ). x * (c * 2 ^ k)) (coefficient_xor k a b) ∙ bits_times (coefficient k a) (coefficient k b) (c * 2 ^ k) (coefficient_small k a) (coefficient_small k b) in
    ap₂ bit_xor here (polynomial_product_left k a b c)
    ∙ interchange (coefficient k a * (c * 2 ^ k)) (coefficient k b * (c * 2 ^ k)) (polynomial_product k a c) (polynomial_product k b c)

pub polynomial_product_right : (n a b c : ℕ) → polynomial_product n a (bit_xor b c) ≡ bit_xor (polynomial_product n a b) (polynomial_product n a c)
unfolding polynomial_product
polynomial_product_right zero a b c = refl
polynomial_product_right (suc k) a b c =
    let here : coefficient k a * (bit_xor b c * 2 ^ k) ≡ bit_xor (coefficient k a * (b * 2 ^ k)) (coefficient k a * (c * 2 ^ k)) =
    ap (λ (x : ℕ). coefficient k a * x) (moved_sum b c k) ∙ bit_times_sum (coefficient k a) (b * 2 ^ k) (c * 2 ^ k) (coefficient_small k a) in
    ap₂ bit_xor here (polynomial_product_right k a b c)
    ∙ interchange (coefficient k a * (b * 2 ^ k)) (coefficient k a * (c * 2 ^ k)) (polynomial_product k a b) (polynomial_product k a c)

pub field_remainder_sum : (n p q : ℕ) → field_remainder n (bit_xor p q) ≡ bit_xor (field_remainder n p) (field_remainder n q)
unfolding field_remainder
field_remainder_sum zero p q = refl
field_remainder_sum (suc k) p q =
    let m = field_polynomial * 2 ^ k in
    let x = coefficient (8 + k) p in
    let y = coefficient (8 + k) q in
    let here : bit_xor (bit_xor p q) (coefficient (8 + k) (bit_xor p q) * m) ≡ bit_xor (bit_xor p (x * m)) (bit_xor q (y * m)) =
    ap (λ (z : ℕ). bit_xor (bit_xor p q) (z * m)) (coefficient_xor (8 + k) p q)
    ∙ ap (bit_xor (bit_xor p q)) (bits_times x y m (coefficient_small (8 + k) p) (coefficient_small (8 + k) q))
    ∙ interchange p q (x * m) (y * m) in
    ap (field_remainder k) here ∙ field_remainder_sum k (bit_xor p (x * m)) (bit_xor q (y * m))

pub product_left : (a b c : ℕ) → product (bit_xor a b) c ≡ bit_xor (product a c) (product b c)
unfolding product
product_left a b c =
    ap (field_remainder 7) (polynomial_product_left 8 a b c) ∙ field_remainder_sum 7 (polynomial_product 8 a c) (polynomial_product 8 b c)

pub product_right : (a b c : ℕ) → product a (bit_xor b c) ≡ bit_xor (product a b) (product a c)
unfolding product
product_right a b c =
    ap (field_remainder 7) (polynomial_product_right 8 a b c) ∙ field_remainder_sum 7 (polynomial_product 8 a b) (polynomial_product 8 a c)

pub zero_product : (a : ℕ) → product 0 a ≡ 0
zero_product a = product_left 0 0 a ∙ xor_self (product 0 a)

pub product_zero : (a : ℕ) → product a 0 ≡ 0
product_zero a = product_right a 0 0 ∙ xor_self (product a 0)
