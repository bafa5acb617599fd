-- The scrambler's sequence: its recurrence, and eight bits of it at once.
use Rattle.std.specs.Prelude.{◌≡◌, ℕ, zero, suc, ◌+◌, ◌*◌, ◌/◌, ◌%◌, ◌<◌, ◌≤◌, Bool, true, ◌&&◌, List, ◌==◌, bit_xor, nat_eq, nat_le, slice_index, slice_index_or, refl}
use Rattle.std.proofs.Common.{sym, ap, ◌∙◌, arith}
use Rattle.std.proofs.lemmas.Nat.{xor_lt}
use Rattle.std.proofs.lemmas.Bool.{and_from, le-leb}
use Rattle.std.proofs.lemmas.Bool.Decides.{Decides-eqb, Decides-below_and}
use Rattle.stage.specs.Plain.{within}
use Rattle.stage.specs.Lists.{within_at}
use Rattle.codings.specs.Scramblers.{one_more, up_to, bit, byte, counted, window, four_on, SequenceLaw}

-- the seven bits before the start
seven_ones : (i : ℕ) → i < 7 → counted i ≡ 1
seven_ones zero h = refl
seven_ones (suc zero) h = refl
seven_ones (suc (suc zero)) h = refl
seven_ones (suc (suc (suc zero))) h = refl
seven_ones (suc (suc (suc (suc zero)))) h = refl
seven_ones (suc (suc (suc (suc (suc zero))))) h = refl
seven_ones (suc (suc (suc (suc (suc (suc zero)))))) h = refl
seven_ones (suc (suc (suc (suc (suc (suc (suc i))))))) h = absurd (omega arith)

three_on : (i : ℕ) → i + 3 ≡ suc (suc (suc i))
three_on i = omega arith

seven_on : (i : ℕ) → i + 7 ≡ suc (suc (suc (suc (suc (suc (suc i))))))
seven_on i = omega arith

pub sequence_law : SequenceLaw
sequence_law =
    record {
      ones = seven_ones;
      recurrence = λ i. ap counted (seven_on i) ∙ ap (λ k. bit_xor (counted i) (counted k)) (sym (three_on i));
      from_start = λ n. ap counted (sym (seven_on n));
    }

-- two functions that agree below n, tested one by one
abbrev agree : (ℕ → ℕ) → (ℕ → ℕ) → ℕ → Bool
agree f g zero = true
agree f g (suc n) = f n == g n && agree f g n

tabled : (f g : ℕ → ℕ) (n : ℕ) → agree f g n ≡ true → (k : ℕ) → k < n → f k ≡ g k
tabled f g n h = (Decides-below_and (λ k. nat_eq (f k) (g k)) (λ k. f k ≡ g k) (agree f g) (λ k. Decides-eqb (f k) (g k)) refl (λ _. refl) n).0 h

-- the window four bits on, from the digits of the window
abbrev by_digits : ℕ → ℕ
by_digits w =
    128 * (w / 8 % 2) + 64 * (w / 4 % 2) + 32 * (w / 2 % 2) + 16 * (w % 2) + 8 * bit_xor (w / 64 % 2) (w / 8 % 2) + 4 * bit_xor (w / 32 % 2) (w / 4 % 2) + 2 * bit_xor (w / 16 % 2) (w / 2 % 2) + bit_xor (w / 8 % 2) (w % 2)

four_on_by_digits : (w : ℕ) → w < 256 → four_on w ≡ by_digits w
four_on_by_digits = tabled four_on by_digits 256 refl

-- every bit of the sequence is a bit
up_to_bits : (n : ℕ) → within 1 (up_to n) ≡ true
up_to_bits zero = refl
up_to_bits (suc n) =
    let a = within_at 1 (up_to n) 6 (up_to_bits n) in
    let b = within_at 1 (up_to n) 3 (up_to_bits n) in
    let small : bit_xor (slice_index (up_to n) 6) (slice_index (up_to n) 3) ≤ 1 = omega (arith, xor_lt 1 (slice_index (up_to n) 6) (slice_index (up_to n) 3) (omega arith) (omega arith)) in
    and_from (nat_le (bit_xor (slice_index (up_to n) 6) (slice_index (up_to n) 3)) 1) (within 1 (up_to n)) (le-leb _ 1 small) (up_to_bits n)

-- four bits more of a sequence move its window four bits on
window_four_on : (w : ℕ) (bits : List ℕ) → within 1 bits ≡ true → w ≡ window bits → four_on w ≡ window (one_more (one_more (one_more (one_more bits))))
window_four_on w bits h e =
    let b0 = slice_index_or bits 0 0 in
    let b1 = slice_index_or bits 1 0 in
    let b2 = slice_index_or bits 2 0 in
    let b3 = slice_index_or bits 3 0 in
    let b4 = slice_index_or bits 4 0 in
    let b5 = slice_index_or bits 5 0 in
    let b6 = slice_index_or bits 6 0 in
    let b7 = slice_index_or bits 7 0 in
    let h0 = within_at 1 bits 0 h in
    let h1 = within_at 1 bits 1 h in
    let h2 = within_at 1 bits 2 h in
    let h3 = within_at 1 bits 3 h in
    let h4 = within_at 1 bits 4 h in
    let h5 = within_at 1 bits 5 h in
    let h6 = within_at 1 bits 6 h in
    let h7 = within_at 1 bits 7 h in
    let q1 : w / 2 ≡ 64 * b7 + 32 * b6 + 16 * b5 + 8 * b4 + 4 * b3 + 2 * b2 + b1 = omega arith in
    let q2 : w / 4 ≡ 32 * b7 + 16 * b6 + 8 * b5 + 4 * b4 + 2 * b3 + b2 = omega arith in
    let q3 : w / 8 ≡ 16 * b7 + 8 * b6 + 4 * b5 + 2 * b4 + b3 = omega arith in
    let q4 : w / 16 ≡ 8 * b7 + 4 * b6 + 2 * b5 + b4 = omega arith in
    let q5 : w / 32 ≡ 4 * b7 + 2 * b6 + b5 = omega arith in
    let q6 : w / 64 ≡ 2 * b7 + b6 = omega arith in
    let d0 : w % 2 ≡ b0 = omega arith in
    let d1 : w / 2 % 2 ≡ b1 = rw q1 (omega arith) in
    let d2 : w / 4 % 2 ≡ b2 = rw q2 (omega arith) in
    let d3 : w / 8 % 2 ≡ b3 = rw q3 (omega arith) in
    let d4 : w / 16 % 2 ≡ b4 = rw q4 (omega arith) in
    let d5 : w / 32 % 2 ≡ b5 = rw q5 (omega arith) in
    let d6 : w / 64 % 2 ≡ b6 = rw q6 (omega arith) in
    four_on_by_digits w (omega arith) ∙ rw (d0, d1, d2, d3, d4, d5, d6)

four_on_window : (bits : List ℕ) → within 1 bits ≡ true → four_on (window bits) ≡ window (one_more (one_more (one_more (one_more bits))))
four_on_window bits h = window_four_on (window bits) bits h refl

-- a byte of the sequence is the window behind it
byte_is : (n : ℕ) → byte n ≡ window (up_to (suc (suc (suc (suc (suc (suc (suc (suc n)))))))))
byte_is n =
    let e1 : n + 1 ≡ suc n = omega arith in
    let e2 : n + 2 ≡ suc (suc n) = omega arith in
    let e3 = three_on n in
    let e4 : n + 4 ≡ suc (suc (suc (suc n))) = omega arith in
    let e5 : n + 5 ≡ suc (suc (suc (suc (suc n)))) = omega arith in
    let e6 : n + 6 ≡ suc (suc (suc (suc (suc (suc n))))) = omega arith in
    let e7 = seven_on n in
    rw (e1, e2, e3, e4, e5, e6, e7)

-- eight bits on, the window is the sequence's next byte
pub byte_next : (n : ℕ) → byte n ≡ four_on (four_on (window (up_to n)))
byte_next n =
    let m = suc (suc (suc (suc n))) in
    byte_is n ∙ sym (ap four_on (four_on_window (up_to n) (up_to_bits n)) ∙ four_on_window (up_to m) (up_to_bits m))

pub window_next : (n : ℕ) → window (up_to (n + 8)) ≡ byte n
window_next n =
    let e : n + 8 ≡ suc (suc (suc (suc (suc (suc (suc (suc n))))))) = omega arith in
    ap (λ k. window (up_to k)) e ∙ sym (byte_is n)

pub byte_small : (n : ℕ) → byte n < 256
byte_small n =
    let small : (k : ℕ) → bit k ≤ 1 = λ k. within_at 1 (up_to (suc k)) 0 (up_to_bits (suc k)) in
    omega (arith, small n, small (n + 1), small (n + 2), small (n + 3), small (n + 4), small (n + 5), small (n + 6), small (n + 7))
