-- The register against the bits before a place.
use Rattle.std.proofs.Common.{◌≡◌, ℕ, zero, suc, ◌+◌, ◌*◌, ◌/◌, ◌%◌, ◌^◌, ◌<◌, ◌≤◌, Bool, true, ◌&&◌, eqb, List, [], ◌∷◌, get_or, sym, refl, ap, ◌∙◌, arith}
use lib.Bits.{bit_xor, xor_zero_l}
use Rattle.std.proofs.lemmas.Bool.Decides.{Decides-below_and, Decides-eqb}
use Rattle.stage.specs.Plain.{within}
use Rattle.convolution.specs.Convolutions.{bit, x_taps, y_taps, tapped, output}
use Rattle.convolution.specs.Words.{past, word_x, word_y}
use Rattle.convolution.specs.BitLaws.{x_past, bit_here, bit_suc, bit_small, output_even, output_odd}

-- whether two functions agree at all numbers below n
abbrev agree : (ℕ → ℕ) → (ℕ → ℕ) → ℕ → Bool
agree f g zero = true
agree f g (suc n) = eqb (f n) (g n) && agree f g n

tabled : (f g : ℕ → ℕ) (n : ℕ) → agree f g n ≡ true → (k : ℕ) → k < n → f k ≡ g k
tabled f g n h = (Decides-below_and (λ k. eqb (f k) (g k)) (λ k. f k ≡ g k) (agree f g) (λ k. Decides-eqb (f k) (g k)) refl (λ _. refl) n).0 h

-- the XOR of a word's digits at the taps
abbrev word_tapped : ℕ → List ℕ → ℕ
word_tapped word [] = 0
word_tapped word (back ∷ taps) = bit_xor (word / 2 ^ back % 2) (word_tapped word taps)

x_tapped : (word : ℕ) → word < 128 → word_x word ≡ word_tapped word x_taps
x_tapped = tabled word_x (λ w. word_tapped w x_taps) 128 refl

y_tapped : (word : ℕ) → word < 128 → word_y word ≡ word_tapped word y_taps
y_tapped = tabled word_y (λ w. word_tapped w y_taps) 128 refl

-- a word of seven bits: its digits are the bits
digit_0 : (a b c d e f g : ℕ) → a ≤ 1 → (2 * (b + 2 * c + 4 * d + 8 * e + 16 * f + 32 * g) + a) / 1 % 2 ≡ a
digit_0 a b c d e f g h = omega arith

digit_1 : (a b c d e f g : ℕ) → a ≤ 1 → b ≤ 1 → (2 * (b + 2 * c + 4 * d + 8 * e + 16 * f + 32 * g) + a) / 2 % 2 ≡ b
digit_1 a b c d e f g ha hb =
    let q : (2 * (b + 2 * c + 4 * d + 8 * e + 16 * f + 32 * g) + a) / 2 ≡ b + 2 * c + 4 * d + 8 * e + 16 * f + 32 * g = omega arith in
    rw q (omega arith)

digit_2 : (a b c d e f g : ℕ) → a ≤ 1 → b ≤ 1 → c ≤ 1 → (2 * (b + 2 * c + 4 * d + 8 * e + 16 * f + 32 * g) + a) / 4 % 2 ≡ c
digit_2 a b c d e f g ha hb hc =
    let q : (2 * (b + 2 * c + 4 * d + 8 * e + 16 * f + 32 * g) + a) / 4 ≡ c + 2 * d + 4 * e + 8 * f + 16 * g = omega arith in
    rw q (omega arith)

digit_3 : (a b c d e f g : ℕ) → a ≤ 1 → b ≤ 1 → c ≤ 1 → d ≤ 1 → (2 * (b + 2 * c + 4 * d + 8 * e + 16 * f + 32 * g) + a) / 8 % 2 ≡ d
digit_3 a b c d e f g ha hb hc hd =
    let q : (2 * (b + 2 * c + 4 * d + 8 * e + 16 * f + 32 * g) + a) / 8 ≡ d + 2 * e + 4 * f + 8 * g = omega arith in
    rw q (omega arith)

digit_5 : (a b c d e f g : ℕ) → a ≤ 1 → b ≤ 1 → c ≤ 1 → d ≤ 1 → e ≤ 1 → f ≤ 1 → (2 * (b + 2 * c + 4 * d + 8 * e + 16 * f + 32 * g) + a) / 32 % 2 ≡ f
digit_5 a b c d e f g ha hb hc hd he hf =
    let q : (2 * (b + 2 * c + 4 * d + 8 * e + 16 * f + 32 * g) + a) / 32 ≡ f + 2 * g = omega arith in
    rw q (omega arith)

digit_6 : (a b c d e f g : ℕ) → a ≤ 1 → b ≤ 1 → c ≤ 1 → d ≤ 1 → e ≤ 1 → f ≤ 1 → g ≤ 1 → (2 * (b + 2 * c + 4 * d + 8 * e + 16 * f + 32 * g) + a) / 64 % 2 ≡ g
digit_6 a b c d e f g ha hb hc hd he hf hg =
    let q : (2 * (b + 2 * c + 4 * d + 8 * e + 16 * f + 32 * g) + a) / 64 ≡ g = omega arith in
    rw q (omega arith)

x_word : (a b c d e f g : ℕ) → a ≤ 1 → b ≤ 1 → c ≤ 1 → d ≤ 1 → e ≤ 1 → f ≤ 1 → g ≤ 1 → word_tapped (2 * (b + 2 * c + 4 * d + 8 * e + 16 * f + 32 * g) + a) x_taps ≡ bit_xor a (bit_xor b (bit_xor c (bit_xor d (bit_xor g 0))))
x_word a b c d e f g ha hb hc hd he hf hg =
    let p0 = digit_0 a b c d e f g ha in
    let p1 = digit_1 a b c d e f g ha hb in
    let p2 = digit_2 a b c d e f g ha hb hc in
    let p3 = digit_3 a b c d e f g ha hb hc hd in
    let p6 = digit_6 a b c d e f g ha hb hc hd he hf hg in cc

y_word : (a b c d e f g : ℕ) → a ≤ 1 → b ≤ 1 → c ≤ 1 → d ≤ 1 → e ≤ 1 → f ≤ 1 → g ≤ 1 → word_tapped (2 * (b + 2 * c + 4 * d + 8 * e + 16 * f + 32 * g) + a) y_taps ≡ bit_xor a (bit_xor c (bit_xor d (bit_xor f (bit_xor g 0))))
y_word a b c d e f g ha hb hc hd he hf hg =
    let p0 = digit_0 a b c d e f g ha in
    let p2 = digit_2 a b c d e f g ha hb hc in
    let p3 = digit_3 a b c d e f g ha hb hc hd in
    let p5 = digit_5 a b c d e f g ha hb hc hd he hf in
    let p6 = digit_6 a b c d e f g ha hb hc hd he hf hg in cc

pub past_small : (xs : List ℕ) (i : ℕ) → within 1 xs ≡ true → past xs i < 64
past_small xs i w =
    omega (arith, bit_small xs i 1 w, bit_small xs i 2 w, bit_small xs i 3 w, bit_small xs i 4 w, bit_small xs i 5 w, bit_small xs i 6 w)

pub past_start : (xs : List ℕ) → past xs 0 ≡ 0
past_start xs = refl

-- the register moves on by one bit
pub past_suc : (xs : List ℕ) (i : ℕ) → within 1 xs ≡ true → (2 * past xs i + bit xs i 0) % 64 ≡ past xs (i + 1)
past_suc xs i w =
    omega (arith, bit_small xs i 0 w, bit_small xs i 1 w, bit_small xs i 2 w, bit_small xs i 3 w, bit_small xs i 4 w, bit_small xs i 5 w, bit_small xs i 6 w, bit_suc xs i 0, bit_suc xs i 1, bit_suc xs i 2, bit_suc xs i 3, bit_suc xs i 4, bit_suc xs i 5)

-- X and Y of the word that a register and the bit in hand make
word_gives : (xs : List ℕ) (i word : ℕ) → within 1 xs ≡ true → word ≡ 2 * past xs i + bit xs i 0 → (word_x word ≡ tapped xs i x_taps) × (word_y word ≡ tapped xs i y_taps)
word_gives xs i word w e =
    let a = bit_small xs i 0 w in
    let small : 2 * past xs i + bit xs i 0 < 128 = omega (arith, past_small xs i w) in (
      ap word_x e
          ∙ x_tapped (2 * past xs i + bit xs i 0) small
          ∙ x_word (bit xs i 0) (bit xs i 1) (bit xs i 2) (bit xs i 3) (bit xs i 4) (bit xs i 5) (bit xs i 6) a (bit_small xs i 1 w) (bit_small xs i 2 w) (bit_small xs i 3 w) (bit_small xs i 4 w) (bit_small xs i 5 w) (bit_small xs i 6 w),
      ap word_y e
          ∙ y_tapped (2 * past xs i + bit xs i 0) small
          ∙ y_word (bit xs i 0) (bit xs i 1) (bit xs i 2) (bit xs i 3) (bit xs i 4) (bit xs i 5) (bit xs i 6) a (bit_small xs i 1 w) (bit_small xs i 2 w) (bit_small xs i 3 w) (bit_small xs i 4 w) (bit_small xs i 5 w) (bit_small xs i 6 w),
    )

-- X of a register with a 0 behind it is that of the bits before alone
pub register_gives_x : (xs : List ℕ) (i : ℕ) → within 1 xs ≡ true → word_x (2 * past xs i) ≡ tapped xs i x_past
register_gives_x xs i w =
    let z : 2 * past xs i ≡ 2 * past xs i + 0 = omega arith in
    x_tapped (2 * past xs i) (omega (arith, past_small xs i w))
    ∙ ap (λ v. word_tapped v x_taps) z
    ∙ x_word 0 (bit xs i 1) (bit xs i 2) (bit xs i 3) (bit xs i 4) (bit xs i 5) (bit xs i 6) (omega arith) (bit_small xs i 1 w) (bit_small xs i 2 w) (bit_small xs i 3 w) (bit_small xs i 4 w) (bit_small xs i 5 w) (bit_small xs i 6 w)
    ∙ xor_zero_l (tapped xs i x_past)

whole_word : (xs : List ℕ) (i register b word : ℕ) → register ≡ past xs i → b ≡ get_or xs i 0 → word ≡ 2 * register + b → word ≡ 2 * past xs i + bit xs i 0
whole_word xs i register b word held e m = omega (arith, bit_here xs i)

-- what a turn of a loop finds: its word's X and Y are those of the place, and the next register
pub turn_x : (xs : List ℕ) (i register b word : ℕ) → within 1 xs ≡ true → register ≡ past xs i → b ≡ get_or xs i 0 → word ≡ 2 * register + b → word_x word ≡ output xs (2 * i)
turn_x xs i register b word w held e m =
    (word_gives xs i word w (whole_word xs i register b word held e m)).0 ∙ sym (output_even xs i)

pub turn_y : (xs : List ℕ) (i register b word : ℕ) → within 1 xs ≡ true → register ≡ past xs i → b ≡ get_or xs i 0 → word ≡ 2 * register + b → word_y word ≡ output xs (2 * i + 1)
turn_y xs i register b word w held e m =
    (word_gives xs i word w (whole_word xs i register b word held e m)).1 ∙ sym (output_odd xs i)

pub turn_register : (xs : List ℕ) (i register b word : ℕ) → within 1 xs ≡ true → register ≡ past xs i → b ≡ get_or xs i 0 → word ≡ 2 * register + b → word % 64 ≡ past xs (i + 1)
turn_register xs i register b word w held e m =
    ap (λ v. v % 64) (whole_word xs i register b word held e m) ∙ past_suc xs i w
