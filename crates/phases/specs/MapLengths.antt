-- Lengths of bits and of the increments they are mapped to.
use Rattle.std.specs.Prelude.{◌≡◌, ℕ, ◌+◌, ◌*◌, ◌/◌, ◌%◌, ◌<◌, ◌≤◌, true, ◌&&◌, Some, None, ◌==◌, nat_le}
use Rattle.std.proofs.Common.{ap, ◌∙◌, arith}
use Rattle.std.proofs.lemmas.Nat.{div-add-mod', div_below, mul-le}
use Rattle.std.proofs.lemmas.Bool.{and_parts, and_from, leb-true, le-leb, eqb-true, eq-eqb, cond-true}
use Rattle.stage.specs.AgreementLaws.{some_under_test}
use Rattle.phases.specs.Settings.{most_elements}
use Rattle.phases.specs.Maps.{is_width, mapped_length, unmapped_length}
use Rattle.phases.specs.Widths.{each_width}

-- n bits are k whole increments, and not too many
pub record Whole (b : ℕ) (n : ℕ) (k : ℕ) : Type 0 where
  pub few : n ≤ most_elements
  pub rest : n % b ≡ 0
  pub count : n / b ≡ k

pub mapped_is : (b n k : ℕ) → mapped_length b n ≡ Some k → Whole b n k
mapped_is b n k h =
    let t = some_under_test (nat_le n most_elements && n % b == 0) (n / b) k h in
    let u = and_parts (nat_le n most_elements) (n % b == 0) t.0 in
    record { few = leb-true n most_elements u.0; rest = eqb-true (n % b) 0 u.1; count = t.1 }

mapped_from : (b n k : ℕ) → Whole b n k → mapped_length b n ≡ Some k
mapped_from b n k w =
    let both = and_from (nat_le n most_elements) (n % b == 0) (le-leb n most_elements w.few) (eq-eqb (n % b) 0 w.rest) in
    cond-true (nat_le n most_elements && n % b == 0) (Some (n / b)) None both ∙ ap Some w.count

pub unmapped_is : (b n k : ℕ) → unmapped_length b k ≡ Some n → (k ≤ most_elements / b) × (k * b ≡ n)
unmapped_is b n k h =
    let t = some_under_test (nat_le k (most_elements / b)) (k * b) n h in (leb-true k (most_elements / b) t.0, t.1)

unmapped_from : (b n k : ℕ) → k ≤ most_elements / b → k * b ≡ n → unmapped_length b k ≡ Some n
unmapped_from b n k l e =
    cond-true (nat_le k (most_elements / b)) (Some (k * b)) None (le-leb k (most_elements / b) l) ∙ ap Some e

whole_there : (b : ℕ) → is_width b ≡ true → (n k : ℕ) → Whole b n k → (k ≤ most_elements / b) × (k * b ≡ n)
whole_there =
    each_width (λ b. (n k : ℕ) → Whole b n k → (k ≤ most_elements / b) × (k * b ≡ n))
    (λ n k w. (omega (arith, w.few, w.rest, w.count), omega (arith, w.few, w.rest, w.count)))
    (λ n k w. (omega (arith, w.few, w.rest, w.count), omega (arith, w.few, w.rest, w.count)))
    (λ n k w. (omega (arith, w.few, w.rest, w.count), omega (arith, w.few, w.rest, w.count)))

whole_back : (b : ℕ) → is_width b ≡ true → (n k : ℕ) → k ≤ most_elements / b → k * b ≡ n → Whole b n k
whole_back =
    each_width (λ b. (n k : ℕ) → k ≤ most_elements / b → k * b ≡ n → Whole b n k)
    (λ n k l e. record { few = omega arith; rest = omega arith; count = omega arith })
    (λ n k l e. record { few = omega arith; rest = omega arith; count = omega arith })
    (λ n k l e. record { few = omega arith; rest = omega arith; count = omega arith })

pub lengths_there : (b : ℕ) → is_width b ≡ true → (n k : ℕ) → mapped_length b n ≡ Some k → unmapped_length b k ≡ Some n
lengths_there b w n k h =
    let t = whole_there b w n k (mapped_is b n k h) in unmapped_from b n k t.0 t.1

pub lengths_back : (b : ℕ) → is_width b ≡ true → (n k : ℕ) → unmapped_length b k ≡ Some n → mapped_length b n ≡ Some k
lengths_back b w n k h =
    let t = unmapped_is b n k h in mapped_from b n k (whole_back b w n k t.0 t.1)

-- there are no more increments than bits
pub fewer_increments : (b : ℕ) → is_width b ≡ true → (n : ℕ) → n / b ≤ n
fewer_increments =
    each_width (λ b. (n : ℕ) → n / b ≤ n) (λ n. omega arith) (λ n. omega arith) (λ n. omega arith)

-- whole increments have all the bits
pub whole_bits : (b n : ℕ) → n % b ≡ 0 → n / b * b ≡ n
whole_bits b n e = omega (arith, div-add-mod' n b)

-- a bit lies in one of the increments
pub bit_inside : (b n i : ℕ) → 0 < b → n % b ≡ 0 → i < n → i / b < n / b
bit_inside b n i p e l = div_below i b (n / b) p (omega (arith, whole_bits b n e))

-- the bits of increment i lie inside
pub bits_inside : (b i k : ℕ) → i < k → i * b + b ≤ k * b
bits_inside b i k l = omega (arith, mul-le (i + 1) b k b (omega arith) (omega arith))
