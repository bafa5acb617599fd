-- Bits so many places back, and their XOR at the taps.
use Rattle.std.specs.Prelude.{◌≡◌, ℕ, ◌+◌, ◌-◌, ◌*◌, ◌/◌, ◌%◌, ◌<◌, ◌≤◌, true, cond, ◌⊎◌, List, [], ◌∷◌, length, ◌==◌, bit_xor, nat_le, slice_index, refl}
use Rattle.std.proofs.Common.{sym, ap, ◌∙◌, inl, inr, arith}
use Rattle.std.proofs.lemmas.Nat.{xor_lt}
use Rattle.std.specs.Int.Bits.{xor_assoc, xor_self, xor_zero_r}
use Rattle.std.proofs.lemmas.List.FromFn.{length-map-range_with_len, get_or-map-range_with_len}
use Rattle.std.proofs.lemmas.Bool.{le-leb, lt-leb, eq-eqb, ne_eqb, cond-true, cond-false, cond_both, cases_lt}
use Rattle.stage.specs.Plain.{within}
use Rattle.stage.specs.Lists.{within_at, within_from}
use Rattle.convolution.specs.Convolutions.{tail, bit, x_taps, y_taps, tapped, output, convolved}

-- the taps of X behind the bit itself
abbrev pub x_past : List ℕ
x_past = 1 ∷ 2 ∷ 3 ∷ 6 ∷ []

pub xor_twice : (x y : ℕ) → bit_xor (bit_xor x y) y ≡ x
xor_twice x y = xor_assoc x y y ∙ ap (bit_xor x) (xor_self y) ∙ xor_zero_r x

pub bit_here : (xs : List ℕ) (i : ℕ) → bit xs i 0 ≡ slice_index xs i
bit_here xs i = cond-true (nat_le 0 i) _ _ (le-leb 0 i (omega arith)) ∙ ap (λ k. slice_index xs k) (omega arith)

pub bit_suc : (xs : List ℕ) (i back : ℕ) → bit xs (i + 1) (back + 1) ≡ bit xs i back
bit_suc xs i back = of (cases_lt i back)
  where
    of : (i < back) ⊎ (back ≤ i) → bit xs (i + 1) (back + 1) ≡ bit xs i back
    of (inl h) =
        cond-false (nat_le (back + 1) (i + 1)) _ _ (lt-leb (back + 1) (i + 1) (omega arith))
        ∙ sym (cond-false (nat_le back i) _ _ (lt-leb back i h))
    of (inr h) =
        cond-true (nat_le (back + 1) (i + 1)) _ _ (le-leb (back + 1) (i + 1) (omega arith))
        ∙ ap (λ k. slice_index xs k) (omega arith)
        ∙ sym (cond-true (nat_le back i) _ _ (le-leb back i h))

pub bit_small : (xs : List ℕ) (i back : ℕ) → within 1 xs ≡ true → bit xs i back ≤ 1
bit_small xs i back w =
    cond_both (nat_le back i) (slice_index xs (i - back)) 0 (λ x. x ≤ 1) (λ _. within_at 1 xs (i - back) w) (λ _. omega arith)

-- the bit depends on that one element alone
pub bit_same : (xs zs : List ℕ) (i back : ℕ) → ((k : ℕ) → k + back ≤ i → slice_index xs k ≡ slice_index zs k) → bit xs i back ≡ bit zs i back
bit_same xs zs i back same = of (cases_lt i back)
  where
    of : (i < back) ⊎ (back ≤ i) → bit xs i back ≡ bit zs i back
    of (inl h) = cond-false (nat_le back i) _ _ (lt-leb back i h) ∙ sym (cond-false (nat_le back i) _ _ (lt-leb back i h))
    of (inr h) =
        cond-true (nat_le back i) _ _ (le-leb back i h)
        ∙ same (i - back) (omega arith)
        ∙ sym (cond-true (nat_le back i) _ _ (le-leb back i h))

pub xor_small : (a b : ℕ) → a ≤ 1 → b ≤ 1 → bit_xor a b ≤ 1
xor_small a b h k = omega (arith, xor_lt 1 a b (omega arith) (omega arith))

pub tapped_small : (xs : List ℕ) (i : ℕ) (taps : List ℕ) → within 1 xs ≡ true → tapped xs i taps ≤ 1
tapped_small xs i [] w = omega arith
tapped_small xs i (back ∷ taps) w = xor_small (bit xs i back) (tapped xs i taps) (bit_small xs i back w) (tapped_small xs i taps w)

-- the XOR at the taps depends on the bits up to the place alone
pub tapped_same : (xs zs : List ℕ) (i : ℕ) (taps : List ℕ) → ((k : ℕ) → k ≤ i → slice_index xs k ≡ slice_index zs k) → tapped xs i taps ≡ tapped zs i taps
tapped_same xs zs i [] same = refl
tapped_same xs zs i (back ∷ taps) same =
    let b = bit_same xs zs i back (λ k h. same k (omega arith)) in
    let t = tapped_same xs zs i taps same in cc

-- and at the taps behind the bit itself on the bits before the place alone
pub x_past_same : (xs zs : List ℕ) (i : ℕ) → ((k : ℕ) → k < i → slice_index xs k ≡ slice_index zs k) → tapped xs i x_past ≡ tapped zs i x_past
x_past_same xs zs i same =
    let a = bit_same xs zs i 1 (λ k h. same k (omega arith)) in
    let b = bit_same xs zs i 2 (λ k h. same k (omega arith)) in
    let c = bit_same xs zs i 3 (λ k h. same k (omega arith)) in
    let d = bit_same xs zs i 6 (λ k h. same k (omega arith)) in cc

pub x_with_past : (xs : List ℕ) (i : ℕ) → tapped xs i x_taps ≡ bit_xor (slice_index xs i) (tapped xs i x_past)
x_with_past xs i = ap (λ b. bit_xor b (tapped xs i x_past)) (bit_here xs i)

pub output_even : (xs : List ℕ) (i : ℕ) → output xs (2 * i) ≡ tapped xs i x_taps
output_even xs i =
    cond-true ((2 * i) % 2 == 0) _ _ (eq-eqb ((2 * i) % 2) 0 (omega arith)) ∙ ap (λ k. tapped xs k x_taps) {x = (2 * i) / 2} {y = i} (omega arith)

pub output_odd : (xs : List ℕ) (i : ℕ) → output xs (2 * i + 1) ≡ tapped xs i y_taps
output_odd xs i =
    cond-false ((2 * i + 1) % 2 == 0) _ _ (ne_eqb ((2 * i + 1) % 2) 0 (λ e. omega arith)) ∙ ap (λ k. tapped xs k y_taps) {x = (2 * i + 1) / 2} {y = i} (omega arith)

pub output_small : (xs : List ℕ) (j : ℕ) → within 1 xs ≡ true → output xs j ≤ 1
output_small xs j w =
    cond_both (j % 2 == 0) _ _ (λ x. x ≤ 1) (λ _. tapped_small xs (j / 2) x_taps w) (λ _. tapped_small xs (j / 2) y_taps w)

pub output_same : (xs zs : List ℕ) (j : ℕ) → ((k : ℕ) → k ≤ j / 2 → slice_index xs k ≡ slice_index zs k) → output xs j ≡ output zs j
output_same xs zs j same =
    let x = tapped_same xs zs (j / 2) x_taps same in
    let y = tapped_same xs zs (j / 2) y_taps same in
    ap (λ v. cond (j % 2 == 0) v (tapped xs (j / 2) y_taps)) x ∙ ap (λ v. cond (j % 2 == 0) (tapped zs (j / 2) x_taps) v) y

pub length_convolved : (xs : List ℕ) → length (convolved xs) ≡ 2 * (length xs + tail)
length_convolved xs = length-map-range_with_len (output xs) 0 (2 * (length xs + tail))

pub convolved_at : (xs : List ℕ) (j : ℕ) → j < 2 * (length xs + tail) → slice_index (convolved xs) j ≡ output xs j
convolved_at xs j l = get_or-map-range_with_len (output xs) 0 (2 * (length xs + tail)) j j 0 l (omega arith)

pub convolved_bits : (xs : List ℕ) → within 1 xs ≡ true → within 1 (convolved xs) ≡ true
convolved_bits xs w =
    within_from 1 (convolved xs) (λ j l. omega (arith, convolved_at xs j (omega (arith, length_convolved xs)), output_small xs j w))
