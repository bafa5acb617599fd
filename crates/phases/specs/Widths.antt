-- Numbers that 1, 2 or 3 bits write.
use Rattle.std.specs.Prelude.{◌≡◌, ℕ, zero, suc, ◌+◌, ◌^◌, ◌<◌, ◌≤◌, true, ◌⊎◌, List, nat_le, slice_index, refl}
use Rattle.std.proofs.Common.{subst, inl, inr, arith}
use Rattle.std.proofs.lemmas.Bool.{and_parts, leb-true, cases_lt}
use Rattle.phases.specs.Maps.{is_width, written, bit_of, BitsAt}

-- what holds of each width holds of a width
pub each_width : (P : ℕ → Type 0) → P 1 → P 2 → P 3 → (b : ℕ) → is_width b ≡ true → P b
each_width P one two three b h = of (cases_lt b 2) (cases_lt b 3)
  where
    low : 1 ≤ b
    low = leb-true 1 b (and_parts (nat_le 1 b) (nat_le b 3) h).0

    high : b ≤ 3
    high = leb-true b 3 (and_parts (nat_le 1 b) (nat_le b 3) h).1

    of : (b < 2) ⊎ (2 ≤ b) → (b < 3) ⊎ (3 ≤ b) → P b
    of (inl l) t = subst P (omega (arith, low)) one
    of (inr l) (inl t) = subst P (omega arith) two
    of (inr l) (inr t) = subst P (omega (arith, high)) three

pub width_some : (b : ℕ) → is_width b ≡ true → 0 < b
width_some b h = each_width (λ k. 0 < k) (omega arith) (omega arith) (omega arith) b h

pub width_few : (b : ℕ) → is_width b ≡ true → b ≤ 3
width_few b h = each_width (λ k. k ≤ 3) (omega arith) (omega arith) (omega arith) b h

-- up to three bits write a number up to 7
pub written_small : (xs : List ℕ) (place c : ℕ) → c ≤ 3 → BitsAt xs place c → written xs place c ≤ 7
written_small xs place zero l h = omega arith
written_small xs place (suc zero) l h = omega (arith, h 0 (omega arith))
written_small xs place (suc (suc zero)) l h = omega (arith, h 0 (omega arith), h 1 (omega arith))
written_small xs place (suc (suc (suc zero))) l h = omega (arith, h 0 (omega arith), h 1 (omega arith), h 2 (omega arith))
written_small xs place (suc (suc (suc (suc c)))) l h = absurd (omega arith)

-- b bits write a number below 2 ^ b
pub written_below : (b : ℕ) → is_width b ≡ true → (xs : List ℕ) (place : ℕ) → BitsAt xs place b → written xs place b < 2 ^ b
written_below =
    each_width (λ b. (xs : List ℕ) (place : ℕ) → BitsAt xs place b → written xs place b < 2 ^ b)
    (λ xs place h. omega (arith, h 0 (omega arith)))
    (λ xs place h. omega (arith, h 0 (omega arith), h 1 (omega arith)))
    (λ xs place h. omega (arith, h 0 (omega arith), h 1 (omega arith), h 2 (omega arith)))

-- the number depends on the bits that write it alone
pub same_written : (xs ys : List ℕ) (place there c : ℕ) → ((j : ℕ) → j < c → slice_index xs (place + j) ≡ slice_index ys (there + j))
    → written xs place c ≡ written ys there c
same_written xs ys place there zero h = refl
same_written xs ys place there (suc c) h =
    let before = same_written xs ys place there c (λ j l. h j (omega arith)) in
    let here = h c (omega arith) in omega arith

bit_written_1 : (xs : List ℕ) (place : ℕ) → BitsAt xs place 1 → (j : ℕ) → j < 1 → bit_of 1 (written xs place 1) j ≡ slice_index xs (place + j)
bit_written_1 xs place h zero l = omega (arith, h 0 (omega arith))
bit_written_1 xs place h (suc j) l = absurd (omega arith)

bit_written_2 : (xs : List ℕ) (place : ℕ) → BitsAt xs place 2 → (j : ℕ) → j < 2 → bit_of 2 (written xs place 2) j ≡ slice_index xs (place + j)
bit_written_2 xs place h zero l = omega (arith, h 0 (omega arith), h 1 (omega arith))
bit_written_2 xs place h (suc zero) l = omega (arith, h 0 (omega arith), h 1 (omega arith))
bit_written_2 xs place h (suc (suc j)) l = absurd (omega arith)

bit_written_3 : (xs : List ℕ) (place : ℕ) → BitsAt xs place 3 → (j : ℕ) → j < 3 → bit_of 3 (written xs place 3) j ≡ slice_index xs (place + j)
bit_written_3 xs place h zero l = omega (arith, h 0 (omega arith), h 1 (omega arith), h 2 (omega arith))
bit_written_3 xs place h (suc zero) l = omega (arith, h 0 (omega arith), h 1 (omega arith), h 2 (omega arith))
bit_written_3 xs place h (suc (suc zero)) l = omega (arith, h 0 (omega arith), h 1 (omega arith), h 2 (omega arith))
bit_written_3 xs place h (suc (suc (suc j))) l = absurd (omega arith)

-- bit j of the number that bits write is their bit j
pub bit_written : (b : ℕ) → is_width b ≡ true → (xs : List ℕ) (place : ℕ) → BitsAt xs place b → (j : ℕ) → j < b
    → bit_of b (written xs place b) j ≡ slice_index xs (place + j)
bit_written =
    each_width (λ b. (xs : List ℕ) (place : ℕ) → BitsAt xs place b → (j : ℕ) → j < b → bit_of b (written xs place b) j ≡ slice_index xs (place + j))
    bit_written_1
    bit_written_2
    bit_written_3

-- and the bits of a number write it
pub bits_write : (b : ℕ) → is_width b ≡ true → (xs : List ℕ) (place w : ℕ) → w < 2 ^ b
    → ((j : ℕ) → j < b → slice_index xs (place + j) ≡ bit_of b w j) → written xs place b ≡ w
bits_write =
    each_width (λ b. (xs : List ℕ) (place w : ℕ) → w < 2 ^ b → ((j : ℕ) → j < b → slice_index xs (place + j) ≡ bit_of b w j) → written xs place b ≡ w)
    (λ xs place w l h. omega (arith, h 0 (omega arith)))
    (λ xs place w l h. omega (arith, h 0 (omega arith), h 1 (omega arith)))
    (λ xs place w l h. omega (arith, h 0 (omega arith), h 1 (omega arith), h 2 (omega arith)))
