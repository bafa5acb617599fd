-- Numbers without a common factor: one of them may be cancelled modulo the other.
use Rattle.std.specs.Prelude.{◌≡◌, ℕ, zero, suc, ◌+◌, ◌-◌, ◌*◌, ◌/◌, ◌%◌, ◌<◌, ◌≤◌, ◌⊎◌, ◌≢◌, refl}
use Rattle.std.proofs.Common.{sym, ap, ◌∙◌, inl, inr, arith, mod-eq_of_lt, add-mul, mul_comm, mul_assoc, mul-le-mul_left}
use Rattle.std.proofs.Math.Nat.{zero-mod, mod_self, mod-one, add-mod, mul-sub, mul-mod_right, add-mul-mod_self_left, div-add-mod, eq_of_mul-eq-mul_left}
use Rattle.std.proofs.lemmas.Bool.{cases_lt, cases_eq}
use Rattle.interleave.specs.Factors.{Divides, NoCommonFactor}

pub divides_sum : (d a b : ℕ) → Divides d a → Divides d b → Divides d (a + b)
divides_sum d a b p q = add-mod a b d ∙ ap (λ x. (x + b % d) % d) p ∙ ap (λ x. (0 + x) % d) q ∙ zero-mod d

pub apart_swap : (a b : ℕ) → NoCommonFactor a b → NoCommonFactor b a
apart_swap a b h d p q = h d q p

-- what divides a number and its sum with another divides the other
pub apart_less : (a b c : ℕ) → c ≡ a + b → NoCommonFactor c b → NoCommonFactor a b
apart_less a b c e h d p q = h d (ap (λ x. x % d) e ∙ divides_sum d a b p q) q

one_times : (a k n : ℕ) → a ≡ 1 → (a * k) % n ≡ 0 → k % n ≡ 0
one_times a k n e h = let s : a * k ≡ k = ap (λ x. x * k) e ∙ omega arith in ap (λ x. x % n) (sym s) ∙ h

-- the three cases of leaving a factor away
nothing_times : (a n k : ℕ) → a ≡ 0 → NoCommonFactor a n → Divides n k
nothing_times a n k e h =
    let one : n ≡ 1 = h n (ap (λ x. x % n) e ∙ zero-mod n) (mod_self n) in
    ap (λ x. k % x) one ∙ mod-one k

modulo_nothing : (a n k : ℕ) → n ≡ 0 → NoCommonFactor a n → Divides n (a * k) → Divides n k
modulo_nothing a n k e h d = one_times a k n (h a (mod_self a) (ap (λ x. x % a) e ∙ zero-mod a)) d

larger_factor : (a n k : ℕ) → n ≤ a → Divides n (a * k) → Divides n ((a - n) * k)
larger_factor a n k l d =
    let e : a ≡ (a - n) + n = omega arith in
    sym (add-mul-mod_self_left ((a - n) * k) n k) ∙ ap (λ x. x % n) (sym (add-mul (a - n) n k) ∙ ap (λ x. x * k) (sym e)) ∙ d

-- what n times a quotient is, modulo the smaller factor
smaller_factor : (a n k : ℕ) → a ≤ n → Divides n (a * k) → Divides a ((n - a) * (a * k / n))
smaller_factor a n k l d =
    let c : ℕ = a * k / n in
    let e : n ≡ (n - a) + a = omega arith in
    let whole : n * (a * k / n) ≡ a * k = omega (arith, div-add-mod (a * k) n, d) in
    sym (add-mul-mod_self_left ((n - a) * (a * k / n)) a (a * k / n))
    ∙ ap (λ x. x % a) (sym (add-mul (n - a) a (a * k / n)) ∙ ap (λ x. x * (a * k / n)) (sym e) ∙ whole)
    ∙ mul-mod_right a k

quotient_divides : (a n k : ℕ) → 0 < a → Divides n (a * k) → Divides a (a * k / n) → Divides n k
quotient_divides a n k l d p =
    let c : ℕ = a * k / n in
    let whole : n * (a * k / n) ≡ a * k = omega (arith, div-add-mod (a * k) n, d) in
    let part : a * (a * k / n / a) ≡ a * k / n = omega (arith, div-add-mod (a * k / n) a, p) in
    let same : a * k ≡ a * (n * (a * k / n / a)) =
    sym whole ∙ ap (λ x. n * x) (sym part) ∙ sym (mul_assoc n a (a * k / n / a)) ∙ ap (λ x. x * (a * k / n / a)) (mul_comm n a) ∙ mul_assoc a n (a * k / n / a) in
    ap (λ x. x % n) (eq_of_mul-eq-mul_left a l k (n * (a * k / n / a)) same) ∙ mul-mod_right n (a * k / n / a)

positive : (x : ℕ) → (x ≢ 0) → 0 < x
positive zero never = absurd (never refl)
positive (suc x) never = omega arith

-- a factor that shares none with n may be left away
pub divides_rest : (fuel a n k : ℕ) → a + n < fuel → NoCommonFactor a n → Divides n (a * k) → Divides n k
divides_rest zero a n k l h d = absurd (omega arith)
divides_rest (suc fuel) a n k l h d =
    of (cases_eq a 0) (cases_eq n 0) (cases_lt a n) (λ b c j. divides_rest fuel b c j)
  where
    of : (a ≡ 0) ⊎ (a ≢ 0) → (n ≡ 0) ⊎ (n ≢ 0) → (a < n) ⊎ (n ≤ a) → ((b c j : ℕ) → b + c < fuel → NoCommonFactor b c → Divides c (b * j) → Divides c j) → Divides n k
    of (inl e) y z again = nothing_times a n k e h
    of (inr e) (inl f) z again = modulo_nothing a n k f h d
    of (inr e) (inr f) (inl s) again =
        let some : 0 < a = positive a e in
        let q = again (n - a) a (a * k / n) (omega arith) (apart_less (n - a) a n (omega arith) (apart_swap a n h)) (smaller_factor a n k (omega arith) d) in
        quotient_divides a n k some d q
    of (inr e) (inr f) (inr s) again =
        let some : 0 < n = positive n f in
        again (a - n) n k (omega arith) (apart_less (a - n) n a (omega arith) h) (larger_factor a n k s d)

-- two numbers with one remainder differ by a multiple
pub divides_difference : (n u v : ℕ) → u ≤ v → u % n ≡ v % n → Divides n (v - u)
divides_difference n u v l e =
    let s : v - u ≡ n * (v / n - u / n) = omega (arith, div-add-mod u n, div-add-mod v n, mul-sub n (v / n) (u / n)) in
    ap (λ x. x % n) s ∙ mul-mod_right n (v / n - u / n)

cancels_upwards : (a n c x y : ℕ) → NoCommonFactor a n → x ≤ y → y < n → (a * x + c) % n ≡ (a * y + c) % n → x ≡ y
cancels_upwards a n c x y h l b e =
    let up : a * x ≤ a * y = mul-le-mul_left a l in
    let far : Divides n ((a * y + c) - (a * x + c)) = divides_difference n (a * x + c) (a * y + c) (omega arith) e in
    let gap : (a * y + c) - (a * x + c) ≡ a * (y - x) = omega (arith, mul-sub a y x) in
    let rest : Divides n (y - x) = divides_rest (a + n + 1) a n (y - x) (omega arith) h (ap (λ z. z % n) (sym gap) ∙ far) in
    let small : (y - x) % n ≡ y - x = mod-eq_of_lt (omega arith) in
    omega arith

-- modulo n, what shares no factor with n may be cancelled, and a number added to both sides too
pub cancels_after : (a n c x y : ℕ) → NoCommonFactor a n → x < n → y < n → (a * x + c) % n ≡ (a * y + c) % n → x ≡ y
cancels_after a n c x y h l b e = of (cases_lt x y)
  where
    of : (x < y) ⊎ (y ≤ x) → x ≡ y
    of (inl s) = cancels_upwards a n c x y h (omega arith) b e
    of (inr s) = sym (cancels_upwards a n c y x h s l (sym e))

pub cancels : (a n x y : ℕ) → NoCommonFactor a n → x < n → y < n → (a * x) % n ≡ (a * y) % n → x ≡ y
cancels a n x y h l b e =
    let p : a * x + 0 ≡ a * x = omega arith in
    let q : a * y + 0 ≡ a * y = omega arith in
    cancels_after a n 0 x y h l b (ap (λ z. z % n) p ∙ e ∙ ap (λ z. z % n) (sym q))
