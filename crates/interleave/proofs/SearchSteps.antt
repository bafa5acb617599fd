-- A trial of divisors and a search for a number without a common factor, one number at a time.
use Rattle.std.specs.Prelude.{◌≡◌, ℕ, suc, ◌+◌, ◌-◌, ◌<◌, true, false, not, ◌||◌, nat_lt}
use Rattle.std.proofs.Common.{sym, ap, ◌∙◌, arith}
use Rattle.std.proofs.lemmas.Bool.{and_from, or_right, not_from_false, cond-true, cond-false}
use Rattle.interleave.specs.Factors.{divides_both, apart_below, are_apart, first_apart, smallest_apart}

-- one number more is tried
pub apart_more : (d a b : ℕ) → apart_below d a b ≡ true → divides_both d a b ≡ false → apart_below (d + 1) a b ≡ true
apart_more d a b h f =
    let e : d + 1 ≡ suc d = omega arith in
    ap (λ x. apart_below x a b) e ∙ and_from (apart_below d a b) (nat_lt d 2 || not (divides_both d a b)) h (or_right (nat_lt d 2) (not (divides_both d a b)) (not_from_false (divides_both d a b) f))

-- when all numbers up to the second are tried, the two are apart
pub apart_all : (d a b : ℕ) → d ≡ b + 1 → apart_below d a b ≡ true → true ≡ are_apart a b
apart_all d a b e h = sym h ∙ ap (λ x. apart_below x a b) e

-- a number that shares a factor is passed over
pub search_more : (m end k found : ℕ) → k < end → are_apart k m ≡ false → first_apart m (end - k) k ≡ found → first_apart m (end - (k + 1)) (k + 1) ≡ found
search_more m end k found l f h =
    let e : end - k ≡ suc (end - (k + 1)) = omega arith in
    sym (cond-false (are_apart k m) k (first_apart m (end - (k + 1)) (k + 1)) f) ∙ ap (λ x. first_apart m x k) (sym e) ∙ h

-- the first number that shares none is what is searched
pub search_here : (m end k found : ℕ) → k < end → are_apart k m ≡ true → first_apart m (end - k) k ≡ found → k ≡ found
search_here m end k found l f h =
    let e : end - k ≡ suc (end - (k + 1)) = omega arith in
    sym (cond-true (are_apart k m) k (first_apart m (end - (k + 1)) (k + 1)) f) ∙ ap (λ x. first_apart m x k) (sym e) ∙ h

-- where none is left, the end is what is searched
pub search_over : (m end k found : ℕ) → k ≡ end → first_apart m (end - k) k ≡ found → end ≡ found
search_over m end k found s h =
    let e : end - k ≡ 0 = omega arith in
    sym s ∙ ap (λ x. first_apart m x k) (sym e) ∙ h

-- the search as it begins
pub search_start : (m start : ℕ) → first_apart m (start + m - start) start ≡ smallest_apart m start
search_start m start = let e : start + m - start ≡ m = omega arith in ap (λ x. first_apart m x start) e
