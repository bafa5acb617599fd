-- The two generators, and that every code word is 0 at their roots.
use Rattle.std.specs.Prelude.{◌≡◌, ℕ, zero, suc, ◌*◌, ◌<◌, ◌≤◌, true, ◌⊎◌, List, [], ◌∷◌, ◌++◌, length, take, ◌==◌, bit_xor, nat_eq, nat_le, refl}
use Rattle.std.proofs.Common.{sym, ap, ap₂, subst, ◌∙◌, inl, inr, arith}
use Rattle.std.proofs.lemmas.Nat.{xor_lt}
use Rattle.std.proofs.lemmas.List.{length-append}
use Rattle.std.proofs.lemmas.Bool.{or_cases, eqb-true, and_parts, leb-true}
use Rattle.stage.specs.Plain.{within}
use Rattle.codings.specs.Polynomials.{sum, zeros, monic}
use Rattle.codings.specs.PolynomialLaws.{length_zeros}
use Rattle.reedsolomon.specs.Fields.{field_size, polynomial_product, field_remainder, product, alpha, power}
use Rattle.reedsolomon.specs.Codes.{scaled, times, generator, value, value_from, known_strength, lower, CodeWord, ParityLaw}
use Rattle.reedsolomon.specs.Words.{generator_table}
use Rattle.reedsolomon.specs.SpanLaws.{all, all_holds}
use Rattle.reedsolomon.specs.LinearLaws.{interchange, product_left, product_right, zero_product, product_zero}
use Rattle.reedsolomon.specs.FieldFacts.{product_assoc, product_byte}
use Rattle.reedsolomon.specs.ParityLaws.{length_scaled, length_times, remainder_divides}

-- what holds of both strengths
pub each_strength : (P : ℕ → Type 0) → P 4 → P 8 → (t : ℕ) → known_strength t ≡ true → P t
each_strength P four eight t h = of (or_cases (t == 4) (t == 8) h)
  where
    of : ((t == 4) ≡ true) ⊎ ((t == 8) ≡ true) → P t
    of (inl e) = subst P (sym (eqb-true t 4 e)) four
    of (inr e) = subst P (sym (eqb-true t 8 e)) eight

generator_8 : generator 8 ≡ 1 ∷ 227 ∷ 44 ∷ 178 ∷ 71 ∷ 172 ∷ 8 ∷ 224 ∷ 37 ∷ []
unfolding generator product polynomial_product field_remainder
generator_8 = refl

generator_16 : generator 16 ≡ 1 ∷ 118 ∷ 52 ∷ 103 ∷ 31 ∷ 104 ∷ 126 ∷ 187 ∷ 232 ∷ 17 ∷ 56 ∷ 183 ∷ 49 ∷ 100 ∷ 81 ∷ 44 ∷ 79 ∷ []
unfolding generator product polynomial_product field_remainder
generator_16 = refl

-- what is used of a generator
pub record Generating (t : ℕ) : Type 0 where
  pub monic_is : generator (2 * t) ≡ monic (lower t)
  pub long : length (lower t) ≡ 2 * t
  pub bytes : within 255 (lower t) ≡ true
  pub tabled : take (2 * t) (generator_table t) ≡ lower t
  pub roots : all (λ i. nat_eq (value (power alpha (suc i)) (monic (lower t))) 0) (2 * t) ≡ true
  pub small : (0 < t) × (t ≤ 8)

generating_4 : Generating 4
unfolding lower generator product polynomial_product field_remainder
generating_4 = record { monic_is = refl; long = refl; bytes = refl; tabled = refl; roots = refl; small = (omega arith, omega arith) }

generating_8 : Generating 8
unfolding lower generator product polynomial_product field_remainder
generating_8 = record { monic_is = refl; long = refl; bytes = refl; tabled = refl; roots = refl; small = (omega arith, omega arith) }

pub generating : (t : ℕ) → known_strength t ≡ true → Generating t
generating = each_strength Generating generating_4 generating_8

value_sum : (x a b : ℕ) (p q : List ℕ) → length p ≡ length q → value_from x (bit_xor a b) (sum p q) ≡ bit_xor (value_from x a p) (value_from x b q)
value_sum x a b [] [] e = refl
value_sum x a b [] (d ∷ q) e = absurd (omega arith)
value_sum x a b (c ∷ p) [] e = absurd (omega arith)
value_sum x a b (c ∷ p) (d ∷ q) e =
    ap (λ (z : ℕ). value_from x z (sum p q)) (ap (λ (z : ℕ). bit_xor z (bit_xor c d)) (product_left a b x) ∙ interchange (product a x) (product b x) c d)
    ∙ value_sum x (bit_xor (product a x) c) (bit_xor (product b x) d) p q (omega arith)

value_append : (x a : ℕ) (p q : List ℕ) → value_from x a (p ++ q) ≡ value_from x (value_from x a p) q
value_append x a [] q = refl
value_append x a (c ∷ p) q = value_append x (bit_xor (product a x) c) p q

value_zeros : (x n : ℕ) → value x (zeros n) ≡ 0
value_zeros x zero = refl
value_zeros x (suc n) = ap (λ (z : ℕ). value_from x (bit_xor z 0) (zeros n)) (zero_product x) ∙ value_zeros x n

value_scaled : (x c a : ℕ) (p : List ℕ) → x < field_size → c < field_size → a < field_size → within 255 p ≡ true → value_from x (product c a) (scaled c p) ≡ product c (value_from x a p)
value_scaled x c a [] hx hc ha h = refl
value_scaled x c a (d ∷ p) hx hc ha h =
    let t = and_parts (nat_le d 255) (within 255 p) h in
    let small = leb-true d 255 t.0 in
    let e : bit_xor (product (product c a) x) (product c d) ≡ product c (bit_xor (product a x) d) =
    ap (λ (z : ℕ). bit_xor z (product c d)) (product_assoc c a x hc ha hx) ∙ sym (product_right c (product a x) d) in
    ap (λ (z : ℕ). value_from x z (scaled c p)) e
    ∙ value_scaled x c (bit_xor (product a x) d) p hx hc (xor_lt 8 (product a x) d (product_byte a x ha hx) (omega arith)) t.1

-- a multiple of a polynomial is 0 where that is 0
value_times : (x : ℕ) (q g : List ℕ) → x < field_size → within 255 q ≡ true → within 255 (monic g) ≡ true → value x (monic g) ≡ 0 → value x (times q (monic g)) ≡ 0
value_times x [] g hx hq hg root = value_zeros x (length g)
value_times x (c ∷ q) g hx hq hg root =
    let t = and_parts (nat_le c 255) (within 255 q) hq in
    let small = leb-true c 255 t.0 in
    let scaled_root : value x (scaled c (monic g)) ≡ 0 =
    ap (λ (z : ℕ). value_from x z (scaled c (monic g))) (sym (product_zero c)) ∙ value_scaled x c 0 (monic g) hx (omega arith) (omega arith) hg ∙ ap (product c) root ∙ product_zero c in
    let here : value x (scaled c (monic g) ++ zeros (length q)) ≡ 0 =
    value_append x 0 (scaled c (monic g)) (zeros (length q)) ∙ ap (λ (z : ℕ). value_from x z (zeros (length q))) scaled_root ∙ value_zeros x (length q) in
    let more : value x (0 ∷ times q (monic g)) ≡ 0 =
    ap (λ (z : ℕ). value_from x (bit_xor z 0) (times q (monic g))) (zero_product x) ∙ value_times x q g hx t.1 hg root in
    let l : length (scaled c (monic g) ++ zeros (length q)) ≡ length (0 ∷ times q (monic g)) = omega (arith, length-append (scaled c (monic g)) (zeros (length q)), length_scaled c (monic g), length_zeros (length q), length_times q g) in
    value_sum x 0 0 (scaled c (monic g) ++ zeros (length q)) (0 ∷ times q (monic g)) l ∙ ap₂ bit_xor here more

power_byte : (a n : ℕ) → a < field_size → power a n < field_size
power_byte a zero h = omega arith
power_byte a (suc n) h = product_byte a (power a n) h (power_byte a n h)

code_word : (t : ℕ) (message : List ℕ) → known_strength t ≡ true → within 255 message ≡ true → CodeWord t message
code_word t message known h =
    let g = generating t known in
    let d = remainder_divides (lower t) message g.bytes h in
    record {
      monic_generator = g.monic_is;
      generator_degree = g.long;
      divides = d;
      roots = λ i l.
          ap (value (power alpha (suc i))) d.multiple
          ∙ value_times (power alpha (suc i)) d.quotient (lower t) (power_byte 2 (suc i) (omega arith)) d.quotient_bytes g.bytes (eqb-true _ _ (all_holds (λ i. nat_eq (value (power alpha (suc i)) (monic (lower t))) 0) (2 * t) g.roots i l));
    }

pub parity_law : ParityLaw
parity_law = record { words = code_word; remainders = remainder_divides }
