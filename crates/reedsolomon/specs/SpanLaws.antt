-- What holds of the powers of two and goes over to XOR holds of all numbers below a power of two;
-- and tests over all numbers below a bound.
use Rattle.std.specs.Prelude.{◌≡◌, ℕ, zero, suc, ◌-◌, ◌^◌, ◌<◌, ◌≤◌, Bool, true, ◌&&◌, ◌⊎◌, bit_xor}
use Rattle.std.proofs.Common.{ap, subst, ◌∙◌, inl, inr, arith, pow-suc}
use Rattle.std.specs.Int.Bits.{xor_shifted}
use Rattle.std.proofs.lemmas.Bool.{cases_lt, and_parts}

-- whether a test passes at all numbers below n
abbrev pub all : (ℕ → Bool) → ℕ → Bool
all p zero = true
all p (suc n) = p n && all p n

pub all_holds : (p : ℕ → Bool) (n : ℕ) → all p n ≡ true → (k : ℕ) → k < n → p k ≡ true
all_holds p zero h k l = absurd (omega arith)
all_holds p (suc n) h k l = of (cases_lt k n) (and_parts (p n) (all p n) h) (all_holds p n)
  where
    of : (k < n) ⊎ (n ≤ k) → (p n ≡ true) × (all p n ≡ true) → (all p n ≡ true → (k : ℕ) → k < n → p k ≡ true) → p k ≡ true
    of (inl s) t more = more t.1 k s
    of (inr s) t more = let e : k ≡ n = omega arith in ap p e ∙ t.0

-- every number is a power of two and a smaller number, or smaller itself
pub spanned : (P : ℕ → Type 0) → P 0 → ((a b : ℕ) → P a → P b → P (bit_xor a b)) → (n : ℕ) → ((k : ℕ) → k < n → P (2 ^ k)) → (a : ℕ) → a < 2 ^ n → P a
spanned P none both zero powers a l = let e : 0 ≡ a = omega arith in subst P e none
spanned P none both (suc n) powers a l =
    of (cases_lt a (2 ^ n)) (spanned P none both n (λ k h. powers k (omega arith)))
  where
    of : (a < 2 ^ n) ⊎ (2 ^ n ≤ a) → ((b : ℕ) → b < 2 ^ n → P b) → P a
    of (inl s) below = below a s
    of (inr s) below =
        let r = a - 2 ^ n in
        let small : r < 2 ^ n = omega (arith, pow-suc 2 n) in
        let e : bit_xor (2 ^ n) r ≡ a = ap (λ (x : ℕ). bit_xor x r) (omega arith) ∙ xor_shifted 1 n r small ∙ omega arith in
        subst P e (both (2 ^ n) r (powers n (omega arith)) (below r small))
