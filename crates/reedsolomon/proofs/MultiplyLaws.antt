-- Doubling and adding gives the product.
use Rattle.std.proofs.Common.{◌≡◌, ℕ, zero, suc, ◌-◌, ◌*◌, ◌/◌, ◌%◌, ◌<◌, true, cond, eqb, ltb, sym, refl, ap, ◌∙◌, subst, ap₂, arith}
use lib.Bits.{bit_xor, xor_comm, xor_assoc, xor_shifted, xor_zero_r}
use Rattle.std.proofs.lemmas.Bool.{eqb-true, lt-ltb, cond-true}
use Rattle.reedsolomon.specs.Fields.{field_size, polynomial_product, field_remainder, product, doubled, lowest_times, Multiplying}
use Rattle.reedsolomon.specs.SpanLaws.{all, all_holds}
use Rattle.reedsolomon.specs.LinearLaws.{product_right, product_zero}
use Rattle.reedsolomon.specs.FieldFacts.{product_comm, product_assoc, product_one, product_byte}

all_doubled : all (λ a. eqb (doubled a) (product 2 a)) 256 ≡ true
unfolding product polynomial_product field_remainder
all_doubled = refl

pub doubled_is : (a : ℕ) → a < field_size → doubled a ≡ product 2 a
doubled_is a h = eqb-true _ _ (all_holds (λ a. eqb (doubled a) (product 2 a)) 256 all_doubled a h)

small_doubled : (h : ℕ) → h < 128 → h * 2 ≡ product 2 h
small_doubled h l = sym (cond-true (ltb h 128) (h * 2) (bit_xor ((h - 128) * 2) 29) (lt-ltb h 128 l)) ∙ doubled_is h (omega arith)

doubled_over : (p h : ℕ) → p < field_size → h < 128 → product p (h * 2) ≡ product (doubled p) h
doubled_over p h lp lh =
    ap (product p) (small_doubled h lh)
    ∙ sym (product_assoc p 2 h lp (omega arith) (omega arith))
    ∙ ap (λ z. product z h) (product_comm p 2 lp (omega arith) ∙ sym (doubled_is p lp))

bit_product : (p x : ℕ) → p < field_size → x < 2 → product p x ≡ cond (eqb x 1) p 0
bit_product p zero lp lx = product_zero p
bit_product p (suc zero) lp lx = product_one p lp
bit_product p (suc (suc x)) lp lx = absurd (omega arith)

halves : (p r : ℕ) → p < field_size → r < field_size → product p r ≡ bit_xor (lowest_times r p) (product (doubled p) (r / 2))
halves p r lp lr =
    let e : bit_xor (r / 2 * 2) (r % 2) ≡ r = xor_shifted (r / 2) 1 (r % 2) (omega arith) ∙ omega arith in
    ap (product p) (sym e)
    ∙ product_right p (r / 2 * 2) (r % 2)
    ∙ ap₂ bit_xor (doubled_over p (r / 2) lp (omega arith)) (bit_product p (r % 2) lp (omega arith))
    ∙ xor_comm (product (doubled p) (r / 2)) (lowest_times r p)

doubled_byte : (a : ℕ) → a < field_size → doubled a < field_size
doubled_byte a h = subst (λ (x : ℕ). x < 256) (sym (doubled_is a h)) (product_byte 2 a (omega arith) h)

pub multiplied_more : (sum p r low next total : ℕ) → Multiplying sum p r total → low ≡ lowest_times r p → next ≡ doubled p → Multiplying (bit_xor sum low) next (r / 2) total
multiplied_more sum p r low next total m el en =
    record {
      power_byte = subst (λ (x : ℕ). x < 256) (sym en) (doubled_byte p m.power_byte);
      rest_byte = omega (arith, m.rest_byte);
      whole = ap₂ (λ x y. bit_xor (bit_xor sum x) (product y (r / 2))) el en
          ∙ xor_assoc sum (lowest_times r p) (product (doubled p) (r / 2))
          ∙ ap (bit_xor sum) (sym (halves p r m.power_byte m.rest_byte))
          ∙ m.whole;
    }

pub multiplied_all : (sum p r total : ℕ) → r ≡ 0 → Multiplying sum p r total → sum ≡ total
multiplied_all sum p r total e m =
    sym (xor_zero_r sum) ∙ ap (bit_xor sum) (sym (ap (product p) e ∙ product_zero p)) ∙ m.whole
