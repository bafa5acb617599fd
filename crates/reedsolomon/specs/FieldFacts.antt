-- The laws of the field: what holds of the powers of two, by tests, holds of all bytes by linearity.
use Rattle.std.specs.Prelude.{◌≡◌, ℕ, zero, suc, ◌+◌, ◌*◌, ◌^◌, ◌<◌, Bool, true, ◌&&◌, ltb, ◌==◌, bit_xor, nat_eq, nat_lt, refl}
use Rattle.std.proofs.Common.{sym, ap, ap₂, subst, ◌∙◌, arith}
use Rattle.std.proofs.lemmas.Nat.{xor_lt}
use Rattle.std.specs.Int.Bits.{xor_self}
use Rattle.std.proofs.lemmas.Bool.{eqb-true, ltb-true, and_parts}
use Rattle.reedsolomon.specs.Fields.{field_size, field_polynomial, coefficient, polynomial_product, field_remainder, product, Reduces, FieldLaws}
use Rattle.reedsolomon.specs.SpanLaws.{all, all_holds, spanned}
use Rattle.reedsolomon.specs.LinearLaws.{interchange, polynomial_product_left, polynomial_product_right, field_remainder_sum, product_left, product_right, zero_product, product_zero}

-- two rules that go over to XOR and agree at the powers of two agree at all bytes
pub same_rules : (f g : ℕ → ℕ) → ((a b : ℕ) → f (bit_xor a b) ≡ bit_xor (f a) (f b)) → ((a b : ℕ) → g (bit_xor a b) ≡ bit_xor (g a) (g b)) → f 0 ≡ g 0 → (n : ℕ) → ((k : ℕ) → k < n → f (2 ^ k) ≡ g (2 ^ k)) → (a : ℕ) → a < 2 ^ n → f a ≡ g a
same_rules f g lf lg none n powers = spanned (λ a. f a ≡ g a) none (λ a b p q. lf a b ∙ ap₂ bit_xor p q ∙ sym (lg a b)) n powers

powers_commute : all (λ j. all (λ k. nat_eq (product (2 ^ j) (2 ^ k)) (product (2 ^ k) (2 ^ j))) 8) 8 ≡ true
unfolding product polynomial_product field_remainder
powers_commute = refl

pub product_comm : (a b : ℕ) → a < field_size → b < field_size → product a b ≡ product b a
product_comm a b ha hb =
    same_rules (λ x. product x b) (λ x. product b x) (λ x y. product_left x y b) (λ x y. product_right b x y) (zero_product b ∙ sym (product_zero b)) 8 at_power a ha
  where
    at_power : (j : ℕ) → j < 8 → product (2 ^ j) b ≡ product b (2 ^ j)
    at_power j l =
        same_rules (λ y. product (2 ^ j) y) (λ y. product y (2 ^ j)) (λ x y. product_right (2 ^ j) x y) (λ x y. product_left x y (2 ^ j)) (product_zero (2 ^ j) ∙ sym (zero_product (2 ^ j))) 8
        (λ k h. eqb-true _ _ (all_holds (λ k. nat_eq (product (2 ^ j) (2 ^ k)) (product (2 ^ k) (2 ^ j))) 8 (all_holds (λ j. all (λ k. nat_eq (product (2 ^ j) (2 ^ k)) (product (2 ^ k) (2 ^ j))) 8) 8 powers_commute j l) k h))
        b hb

abbrev associate : ℕ → ℕ → ℕ → Bool
associate i j k = product (product (2 ^ i) (2 ^ j)) (2 ^ k) == product (2 ^ i) (product (2 ^ j) (2 ^ k))

powers_associate : all (λ i. all (λ j. all (associate i j) 8) 8) 8 ≡ true
unfolding product polynomial_product field_remainder
powers_associate = refl

pub product_assoc : (a b c : ℕ) → a < field_size → b < field_size → c < field_size → product (product a b) c ≡ product a (product b c)
product_assoc a b c ha hb hc =
    same_rules (λ x. product (product x b) c) (λ x. product x (product b c))
    (λ x y. ap (λ z. product z c) (product_left x y b) ∙ product_left (product x b) (product y b) c)
    (λ x y. product_left x y (product b c))
    (ap (λ z. product z c) (zero_product b) ∙ zero_product c ∙ sym (zero_product (product b c)))
    8 first a ha
  where
    third : (i j k : ℕ) → i < 8 → j < 8 → k < 8 → product (product (2 ^ i) (2 ^ j)) (2 ^ k) ≡ product (2 ^ i) (product (2 ^ j) (2 ^ k))
    third i j k hi hj hk =
        eqb-true _ _ (all_holds (associate i j) 8 (all_holds (λ j. all (associate i j) 8) 8 (all_holds (λ i. all (λ j. all (associate i j) 8) 8) 8 powers_associate i hi) j hj) k hk)

    second : (i j : ℕ) → i < 8 → j < 8 → product (product (2 ^ i) (2 ^ j)) c ≡ product (2 ^ i) (product (2 ^ j) c)
    second i j hi hj =
        same_rules (λ x. product (product (2 ^ i) (2 ^ j)) x) (λ x. product (2 ^ i) (product (2 ^ j) x))
        (λ x y. product_right (product (2 ^ i) (2 ^ j)) x y)
        (λ x y. ap (product (2 ^ i)) (product_right (2 ^ j) x y) ∙ product_right (2 ^ i) (product (2 ^ j) x) (product (2 ^ j) y))
        (product_zero (product (2 ^ i) (2 ^ j)) ∙ sym (ap (product (2 ^ i)) (product_zero (2 ^ j)) ∙ product_zero (2 ^ i)))
        8 (λ k hk. third i j k hi hj hk) c hc

    first : (i : ℕ) → i < 8 → product (product (2 ^ i) b) c ≡ product (2 ^ i) (product b c)
    first i hi =
        same_rules (λ x. product (product (2 ^ i) x) c) (λ x. product (2 ^ i) (product x c))
        (λ x y. ap (λ z. product z c) (product_right (2 ^ i) x y) ∙ product_left (product (2 ^ i) x) (product (2 ^ i) y) c)
        (λ x y. ap (product (2 ^ i)) (product_left x y c) ∙ product_right (2 ^ i) (product x c) (product y c))
        (ap (λ z. product z c) (product_zero (2 ^ i)) ∙ zero_product c ∙ sym (ap (product (2 ^ i)) (zero_product c) ∙ product_zero (2 ^ i)))
        8 (λ j hj. second i j hi hj) b hb

powers_of_one : all (λ k. nat_eq (product 1 (2 ^ k)) (2 ^ k)) 8 ≡ true
unfolding product polynomial_product field_remainder
powers_of_one = refl

pub one_product : (a : ℕ) → a < field_size → product 1 a ≡ a
one_product =
    same_rules (λ x. product 1 x) (λ x. x) (λ x y. product_right 1 x y) (λ x y. refl) (product_zero 1) 8
    (λ k h. eqb-true _ _ (all_holds (λ k. nat_eq (product 1 (2 ^ k)) (2 ^ k)) 8 powers_of_one k h))

pub product_one : (a : ℕ) → a < field_size → product a 1 ≡ a
product_one a h = product_comm a 1 h (omega arith) ∙ one_product a h

-- the quotient, as the division finds it
unfoldable quotient_of : ℕ → ℕ → ℕ
quotient_of zero p = 0
quotient_of (suc k) p = coefficient (8 + k) p * 2 ^ k + quotient_of k (bit_xor p (coefficient (8 + k) p * (field_polynomial * 2 ^ k)))

-- a polynomial is a multiple of the field's polynomial and a byte
record Divided (p : ℕ) : Type 0 where
  byte : field_remainder 7 p < field_size
  by : ℕ
  small : by < 2 ^ 7
  whole : p ≡ bit_xor (polynomial_product 8 by field_polynomial) (field_remainder 7 p)

abbrev divided_at : ℕ → Bool
divided_at k =
    (2 ^ k == bit_xor (polynomial_product 8 (quotient_of 7 (2 ^ k)) field_polynomial) (field_remainder 7 (2 ^ k)))
    && (nat_lt (quotient_of 7 (2 ^ k)) 128 && nat_lt (field_remainder 7 (2 ^ k)) 256)

powers_divided : all divided_at 15 ≡ true
unfolding polynomial_product field_remainder quotient_of
powers_divided = refl

none_divided : Divided 0
unfolding polynomial_product field_remainder
none_divided = record { byte = omega arith; by = 0; small = omega arith; whole = refl }

sum_divided : (p q : ℕ) → Divided p → Divided q → Divided (bit_xor p q)
sum_divided p q d e =
    record {
      byte = subst (λ (x : ℕ). x < 256) (sym (field_remainder_sum 7 p q)) (xor_lt 8 (field_remainder 7 p) (field_remainder 7 q) d.byte e.byte);
      by = bit_xor d.by e.by;
      small = xor_lt 7 d.by e.by d.small e.small;
      whole = ap₂ bit_xor d.whole e.whole
          ∙ interchange (polynomial_product 8 d.by field_polynomial) (field_remainder 7 p) (polynomial_product 8 e.by field_polynomial) (field_remainder 7 q)
          ∙ sym (ap₂ bit_xor (polynomial_product_left 8 d.by e.by field_polynomial) (field_remainder_sum 7 p q));
    }

all_divided : (p : ℕ) → p < 2 ^ 15 → Divided p
all_divided = spanned Divided none_divided sum_divided 15 at_power
  where
    at_power : (k : ℕ) → k < 15 → Divided (2 ^ k)
    at_power k l =
        let t = and_parts _ _ (all_holds divided_at 15 powers_divided k l) in
        let u = and_parts _ _ t.1 in
        record {
          byte = ltb-true _ _ u.1;
          by = quotient_of 7 (2 ^ k);
          small = ltb-true _ _ u.0;
          whole = eqb-true _ _ t.0;
        }

powers_short : all (λ j. all (λ k. ltb (polynomial_product 8 (2 ^ j) (2 ^ k)) 32768) 8) 8 ≡ true
unfolding polynomial_product
powers_short = refl

product_short : (a b : ℕ) → a < field_size → b < field_size → polynomial_product 8 a b < 2 ^ 15
product_short a b ha hb =
    spanned (λ x. polynomial_product 8 x b < 2 ^ 15) (none_left b) (λ x y p q. subst (λ (z : ℕ). z < 2 ^ 15) (sym (polynomial_product_left 8 x y b)) (xor_lt 15 _ _ p q)) 8 at_power a ha
  where
    none_left : (y : ℕ) → polynomial_product 8 0 y < 2 ^ 15
    none_left y = subst (λ (z : ℕ). z < 2 ^ 15) (sym (polynomial_product_left 8 0 0 y ∙ xor_self (polynomial_product 8 0 y))) (omega arith)

    none_right : (x : ℕ) → polynomial_product 8 x 0 < 2 ^ 15
    none_right x = subst (λ (z : ℕ). z < 2 ^ 15) (sym (polynomial_product_right 8 x 0 0 ∙ xor_self (polynomial_product 8 x 0))) (omega arith)

    at_power : (j : ℕ) → j < 8 → polynomial_product 8 (2 ^ j) b < 2 ^ 15
    at_power j l =
        spanned (λ y. polynomial_product 8 (2 ^ j) y < 2 ^ 15) (none_right (2 ^ j)) (λ x y p q. subst (λ (z : ℕ). z < 2 ^ 15) (sym (polynomial_product_right 8 (2 ^ j) x y)) (xor_lt 15 _ _ p q)) 8
        (λ k h. ltb-true _ _ (all_holds (λ k. ltb (polynomial_product 8 (2 ^ j) (2 ^ k)) 32768) 8 (all_holds (λ j. all (λ k. ltb (polynomial_product 8 (2 ^ j) (2 ^ k)) 32768) 8) 8 powers_short j l) k h))
        b hb

pub product_reduces : (a b : ℕ) → a < field_size → b < field_size → Reduces a b
unfolding product
product_reduces a b ha hb =
    let d = all_divided (polynomial_product 8 a b) (product_short a b ha hb) in
    record { byte = d.byte; quotient = d.by; quotient_degree = d.small; whole = d.whole }

pub product_byte : (a b : ℕ) → a < field_size → b < field_size → product a b < field_size
product_byte a b ha hb = (product_reduces a b ha hb).byte

-- the squares of a byte one after the other, multiplied
unfoldable inverse_from : ℕ → ℕ → ℕ
inverse_from zero square = 1
inverse_from (suc n) square = product square (inverse_from n (product square square))

-- the 254th power of a byte is its inverse
abbrev inverse_of : ℕ → ℕ
inverse_of a = inverse_from 7 (product a a)

inverses : all (λ k. nat_eq (product (suc k) (inverse_of (suc k))) 1) 255 ≡ true
unfolding product polynomial_product field_remainder inverse_from
inverses = refl

inverse_from_byte : (n a : ℕ) → a < field_size → inverse_from n a < field_size
unfolding inverse_from
inverse_from_byte zero a h = omega arith
inverse_from_byte (suc n) a h = product_byte a (inverse_from n (product a a)) h (inverse_from_byte n (product a a) (product_byte a a h h))

pub inverse : (a : ℕ) → 0 < a → a < field_size → (b : ℕ) × (b < field_size) × (product a b ≡ 1)
inverse zero p h = absurd (omega arith)
inverse (suc a) p h =
    (inverse_of (suc a), inverse_from_byte 7 (product (suc a) (suc a)) (product_byte (suc a) (suc a) h h), eqb-true _ _ (all_holds (λ k. nat_eq (product (suc k) (inverse_of (suc k))) 1) 255 inverses a (omega arith)))

pub field_laws : FieldLaws
field_laws =
    record {
      reduces = product_reduces;
      commutes = product_comm;
      associates = product_assoc;
      distributes = product_right;
      one = one_product;
      nothing = zero_product;
      inverse = inverse;
    }
