-- The rule of the phase tables, tested over all their entries once.
use Rattle.std.specs.Prelude.{◌≡◌, ℕ, zero, suc, ◌+◌, ◌^◌, ◌<◌, ◌≤◌, Bool, true, ◌&&◌, ◌==◌, bit_xor, nat_eq, refl}
use Rattle.std.proofs.Common.{arith}
use Rattle.std.specs.Int.Count.{ones, ones_in}
use Rattle.std.proofs.lemmas.Bool.Decides.{Decides-below_and, Decides-eqb}
use Rattle.stage.specs.Lists.{within_at}
use Rattle.phases.specs.Maps.{is_width, phase_table, number_table, increment_of, number_of, in_use, Gray, GrayMaps}
use Rattle.phases.specs.Widths.{each_width}

-- whether two rules agree at every number below n
abbrev agree : (ℕ → ℕ) → (ℕ → ℕ) → ℕ → Bool
agree f g zero = true
agree f g (suc n) = f n == g n && agree f g n

-- a test that passes over all entries holds of each
tabled : (f g : ℕ → ℕ) (n : ℕ) → agree f g n ≡ true → (k : ℕ) → k < n → f k ≡ g k
tabled f g n h = (Decides-below_and (λ k. nat_eq (f k) (g k)) (λ k. f k ≡ g k) (agree f g) (λ k. Decides-eqb (f k) (g k)) refl (λ _. refl) n).0 h

-- in how many bits neighbours on the circle differ
abbrev apart : ℕ → ℕ → ℕ
apart b k = ones (bit_xor (number_of b (in_use b k)) (number_of b (in_use b (k + 1))))

gray_1 : Gray 1
unfolding ones ones_in
gray_1 =
    record {
      back = tabled (λ w. number_of 1 (increment_of 1 w)) (λ w. w) 2 refl;
      there = tabled (λ k. increment_of 1 (number_of 1 (in_use 1 k))) (in_use 1) 2 refl;
      neighbours = tabled (apart 1) (λ _. 1) 2 refl;
    }

gray_2 : Gray 2
unfolding ones ones_in
gray_2 =
    record {
      back = tabled (λ w. number_of 2 (increment_of 2 w)) (λ w. w) 4 refl;
      there = tabled (λ k. increment_of 2 (number_of 2 (in_use 2 k))) (in_use 2) 4 refl;
      neighbours = tabled (apart 2) (λ _. 1) 4 refl;
    }

gray_3 : Gray 3
unfolding ones ones_in
gray_3 =
    record {
      back = tabled (λ w. number_of 3 (increment_of 3 w)) (λ w. w) 8 refl;
      there = tabled (λ k. increment_of 3 (number_of 3 (in_use 3 k))) (in_use 3) 8 refl;
      neighbours = tabled (apart 3) (λ _. 1) 8 refl;
    }

pub gray_maps : GrayMaps
gray_maps = each_width Gray gray_1 gray_2 gray_3

-- an increment is at most 7
pub increment_small : (b : ℕ) → is_width b ≡ true → (w : ℕ) → increment_of b w ≤ 7
increment_small =
    each_width (λ b. (w : ℕ) → increment_of b w ≤ 7)
    (λ w. within_at 7 (phase_table 1) w refl)
    (λ w. within_at 7 (phase_table 2) w refl)
    (λ w. within_at 7 (phase_table 3) w refl)

-- a number has b bits, whatever the increment
pub number_below : (b : ℕ) → is_width b ≡ true → (y : ℕ) → number_of b y < 2 ^ b
number_below =
    each_width (λ b. (y : ℕ) → number_of b y < 2 ^ b)
    (λ y. omega (arith, within_at 1 (number_table 1) y refl))
    (λ y. omega (arith, within_at 3 (number_table 2) y refl))
    (λ y. omega (arith, within_at 7 (number_table 3) y refl))
