-- The search finds the smallest number without a common factor.
use Rattle.std.specs.Prelude.{◌≡◌, ℕ, zero, suc, ◌+◌, ◌-◌, ◌*◌, ◌/◌, ◌%◌, ◌<◌, ◌≤◌, Bool, true, false, not, ◌||◌, ◌⊎◌, ◌==◌, ◌≢◌, nat_lt, refl, length, Some, None, Option}
use Rattle.std.proofs.Common.{sym, ap, subst, ◌∙◌, inl, inr, arith, mod-eq_of_lt, mod-lt, mul_assoc, div-add-mod'}
use Rattle.std.proofs.Math.Nat.{mod-zero, mod-mod, add-mod, mul-mod_left}
use Rattle.std.proofs.lemmas.Bool.{and_parts, and_from, eqb-true, eq-eqb, ltb-true, lt-ltb, or_cases, or_left, or_right, cases_lt, cases_eq, cases_Bool, not_from_false, cond-true, cond-false, true≢false}
use Rattle.std.specs.Bool.{MatchBool}
use Rattle.std.specs.List.{range_with_len, AllWithin, HoldsAt}
use Rattle.std.specs.Option.{MatchOption, unwrap_or}
use Rattle.std.proofs.lemmas.List.FromFn.{length-range_with_len, get_or-range_with_len}
use Rattle.interleave.specs.Factors.{Divides, NoCommonFactor, Smallest, divides_both, apart_below, are_apart, first_apart, smallest_apart, FindsTheSmallest}

denied : (x : Bool) → not x ≡ true → x ≡ false
denied true h = absurd (true≢false (sym h))
denied false h = refl

tried : (end a b d : ℕ) → apart_below end a b ≡ true → 2 ≤ d → d < end → divides_both d a b ≡ false
tried zero a b d h l s = absurd (omega arith)
tried (suc end) a b d h l s =
    let parts = and_parts (apart_below end a b) (nat_lt end 2 || not (divides_both end a b)) h in
    of (cases_lt d end) (or_cases (nat_lt end 2) (not (divides_both end a b)) parts.1) (tried end a b d parts.0 l)
  where
    of : (d < end) ⊎ (end ≤ d) → (nat_lt end 2 ≡ true) ⊎ (not (divides_both end a b) ≡ true) → (d < end → divides_both d a b ≡ false) → divides_both d a b ≡ false
    of (inl below) y before = before below
    of (inr last) (inl small) before = let t = ltb-true end 2 small in absurd (omega arith)
    of (inr last) (inr never) before =
        let e : end ≡ d = omega arith in
        subst (λ x. divides_both x a b ≡ false) e (denied (divides_both end a b) never)

divisor_below : (d b : ℕ) → 0 < b → Divides d b → (0 < d) × (d < b + 1)
divisor_below d b some p = (of (cases_lt 0 d), up (cases_lt b d))
  where
    of : (0 < d) ⊎ (d ≤ 0) → 0 < d
    of (inl l) = l
    of (inr l) =
        let z : d ≡ 0 = omega arith in
        let e : b ≡ 0 = sym (mod-zero b) ∙ ap (λ x. b % x) (sym z) ∙ p in
        absurd (omega arith)

    up : (b < d) ⊎ (d ≤ b) → d < b + 1
    up (inl l) = let e : b ≡ 0 = sym (mod-eq_of_lt l) ∙ p in absurd (omega arith)
    up (inr l) = omega arith

-- the trial says that there is no common factor exactly where there is none
pub tried_apart : (a b : ℕ) → 0 < b → are_apart a b ≡ true → NoCommonFactor a b
tried_apart a b some h d p q = of (cases_lt d 2)
  where
    of : (d < 2) ⊎ (2 ≤ d) → d ≡ 1
    of (inl l) = omega (arith, (divisor_below d b some q).0)
    of (inr l) =
        let never = tried (b + 1) a b d h l (divisor_below d b some q).1 in
        absurd (true≢false (sym (and_from (a % d == 0) (b % d == 0) (eq-eqb (a % d) 0 p) (eq-eqb (b % d) 0 q)) ∙ never))

pub apart_tried : (end a b : ℕ) → NoCommonFactor a b → apart_below end a b ≡ true
apart_tried zero a b h = refl
apart_tried (suc d) a b h =
    and_from (apart_below d a b) (nat_lt d 2 || not (divides_both d a b)) (apart_tried d a b h) (of (cases_lt d 2) (cases_Bool (divides_both d a b)))
  where
    of : (d < 2) ⊎ (2 ≤ d) → (divides_both d a b ≡ true) ⊎ (divides_both d a b ≡ false) → (nat_lt d 2 || not (divides_both d a b)) ≡ true
    of (inl l) y = or_left (nat_lt d 2) (not (divides_both d a b)) (lt-ltb d 2 l)
    of (inr l) (inl y) =
        let parts = and_parts (a % d == 0) (b % d == 0) y in
        let one = h d (eqb-true (a % d) 0 parts.0) (eqb-true (b % d) 0 parts.1) in
        absurd (omega arith)
    of (inr l) (inr y) = or_right (nat_lt d 2) (not (divides_both d a b)) (not_from_false (divides_both d a b) y)

-- next to a multiple of m stands a number that shares no factor with it
next_to_multiple : (c m : ℕ) → NoCommonFactor (c * m + 1) m
next_to_multiple c m d p q =
    let whole : m / d * d ≡ m = omega (arith, div-add-mod' m d) in
    let multiple : (c * m) % d ≡ 0 = ap (λ x. (c * x) % d) (sym whole) ∙ ap (λ x. x % d) (sym (mul_assoc c (m / d) d)) ∙ mul-mod_left (c * (m / d)) d in
    let none : 0 + 1 % d ≡ 1 % d = omega arith in
    let one : 1 % d ≡ 0 = sym (mod-mod 1 d) ∙ ap (λ x. x % d) (sym none) ∙ ap (λ x. (x + 1 % d) % d) (sym multiple) ∙ sym (add-mod (c * m) 1 d) ∙ p in
    let near = divisor_below d 1 (omega arith) one in
    omega arith

search_finds : (m count start k : ℕ) → 0 < m → start ≤ k → k ≤ start + count → NoCommonFactor k m → Smallest m start (first_apart m count start)
search_finds m zero start k some l u h =
    record {
      from = omega arith;
      apart = subst (λ (x : ℕ). NoCommonFactor x m) (omega arith) h;
      least = λ j a b _. absurd (omega arith);
    }
search_finds m (suc count) start k some l u h = of (cases_Bool (are_apart start m)) (λ a b. search_finds m count (start + 1) k some a b h)
  where
    refuted : are_apart start m ≡ false → (j : ℕ) → start ≡ j → NoCommonFactor j m → ⊥
    refuted never j e f = true≢false (sym (apart_tried (m + 1) start m (subst (λ (x : ℕ). NoCommonFactor x m) (sym e) f)) ∙ never)

    beyond : (j : ℕ) → start ≤ j → (start ≢ j) → start + 1 ≤ j
    beyond j a e = past (cases_lt start j)
      where
        past : (start < j) ⊎ (j ≤ start) → start + 1 ≤ j
        past (inl s) = omega arith
        past (inr s) = absurd (e (omega arith))

    not_the_start : are_apart start m ≡ false → (start ≡ k) ⊎ (start ≢ k) → start + 1 ≤ k
    not_the_start never (inl e) = absurd (refuted never k e h)
    not_the_start never (inr e) = beyond k l e

    before : are_apart start m ≡ false → Smallest m (start + 1) (first_apart m count (start + 1)) → (j : ℕ) → start ≤ j → j < first_apart m count (start + 1) → NoCommonFactor j m → (start ≡ j) ⊎ (start ≢ j) → ⊥
    before never later j a b f (inl e) = refuted never j e f
    before never later j a b f (inr e) = later.least j (beyond j a e) b f

    of : (are_apart start m ≡ true) ⊎ (are_apart start m ≡ false) → (start + 1 ≤ k → k ≤ start + 1 + count → Smallest m (start + 1) (first_apart m count (start + 1))) → Smallest m start (first_apart m (suc count) start)
    of (inl free) again =
        subst (λ (x : ℕ). Smallest m start x) (sym (cond-true (are_apart start m) start (first_apart m count (start + 1)) free))
        (record { from = omega arith; apart = tried_apart start m some free; least = λ j a b _. absurd (omega arith) })
    of (inr never) again =
        let later = again (not_the_start never (cases_eq start k)) (omega arith) in
        subst (λ (x : ℕ). Smallest m start x) (sym (cond-false (are_apart start m) start (first_apart m count (start + 1)) never))
        (record { from = omega (arith, later.from); apart = later.apart; least = λ j a b f. before never later j a b f (cases_eq start j) })

pub finds_the_smallest : FindsTheSmallest
finds_the_smallest m start some =
    let q : ℕ = (start + m - 1) / m in
    let split = div-add-mod' (start + m - 1) m in
    let rest = mod-lt (start + m - 1) {m = m} some in
    search_finds m m start ((start + m - 1) / m * m + 1) some (omega arith) (omega arith) (next_to_multiple ((start + m - 1) / m) m)

-- a trial that comes to its end, and one that does not
pub apart_all : (end a b : ℕ) → ((d : ℕ) → 2 ≤ d → d < end → divides_both d a b ≡ false) → apart_below end a b ≡ true
apart_all zero a b h = refl
apart_all (suc end) a b h =
    and_from (apart_below end a b) (nat_lt end 2 || not (divides_both end a b)) (apart_all end a b (λ d l s. h d l (omega arith))) (of (cases_lt end 2))
  where
    of : (end < 2) ⊎ (2 ≤ end) → (nat_lt end 2 || not (divides_both end a b)) ≡ true
    of (inl l) = or_left (nat_lt end 2) (not (divides_both end a b)) (lt-ltb end 2 l)
    of (inr l) = or_right (nat_lt end 2) (not (divides_both end a b)) (not_from_false (divides_both end a b) (h end l (omega arith)))

pub apart_fails : (d a b : ℕ) → 2 ≤ d → d < b + 1 → divides_both d a b ≡ true → false ≡ are_apart a b
apart_fails d a b l s h = of (cases_Bool (are_apart a b))
  where
    of : (are_apart a b ≡ true) ⊎ (are_apart a b ≡ false) → false ≡ are_apart a b
    of (inl t) = absurd (true≢false (sym h ∙ tried (b + 1) a b d t l s))
    of (inr t) = sym t

-- what a trial of all numbers from 2 to the second comes to
pub tried_all : (a b : ℕ) (r : Bool) → MatchBool r (AllWithin (λ d. divides_both d a b ≡ false) (range_with_len 2 (b + 1 - 2)) 0 (length (range_with_len 2 (b + 1 - 2)))) ((k : ℕ) × (k < length (range_with_len 2 (b + 1 - 2))) × HoldsAt (λ d. divides_both d a b ≡ true) (range_with_len 2 (b + 1 - 2)) k) → r ≡ are_apart a b
tried_all a b true h =
    let long = length-range_with_len 2 (b + 1 - 2) in
    sym (apart_all (b + 1) a b (λ d l s.
    subst (λ x. divides_both x a b ≡ false) (get_or-range_with_len 2 (b + 1 - 2) (d - 2) 0 (omega arith) ∙ omega arith) (h (d - 2) 0 (omega arith) (omega arith))))
tried_all a b false h =
    let inside : h.0 < b + 1 - 2 = omega (arith, h.1, length-range_with_len 2 (b + 1 - 2)) in
    apart_fails (2 + h.0) a b (omega arith) (omega arith) (subst (λ x. divides_both x a b ≡ true) (get_or-range_with_len 2 (b + 1 - 2) h.0 0 inside) (h.2 0))

-- a search that finds, and one that does not
pub found_first : (m count start i : ℕ) → start ≤ i → i < start + count → are_apart i m ≡ true → ((k : ℕ) → start ≤ k → k < i → are_apart k m ≡ false) → i ≡ first_apart m count start
found_first m zero start i l s h before = absurd (omega arith)
found_first m (suc count) start i l s h before = of (cases_eq start i) (λ a b. found_first m count (start + 1) i a b h (λ k c d. before k (omega arith) d))
  where
    of : (start ≡ i) ⊎ (start ≢ i) → (start + 1 ≤ i → i < start + 1 + count → i ≡ first_apart m count (start + 1)) → i ≡ first_apart m (suc count) start
    of (inl e) again = sym e ∙ sym (cond-true (are_apart start m) start (first_apart m count (start + 1)) (ap (λ x. are_apart x m) e ∙ h))
    of (inr e) again =
        again (omega arith) (omega arith) ∙ sym (cond-false (are_apart start m) start (first_apart m count (start + 1)) (before start (omega arith) (omega arith)))

pub found_none : (m count start : ℕ) → ((k : ℕ) → start ≤ k → k < start + count → are_apart k m ≡ false) → start + count ≡ first_apart m count start
found_none m zero start none = omega arith
found_none m (suc count) start none =
    let rest = found_none m count (start + 1) (λ k a b. none k (omega arith) (omega arith)) in
    let e : start + suc count ≡ start + 1 + count = omega arith in
    e ∙ rest ∙ sym (cond-false (are_apart start m) start (first_apart m count (start + 1)) (none start (omega arith) (omega arith)))

-- what a search comes to
pub searched : (m start : ℕ) (r : Option ℕ) → MatchOption r ((k : ℕ) → start ≤ k → k < start + m → are_apart k m ≡ false) (λ i. (start ≤ i) × (i < start + m) × (are_apart i m ≡ true) × ((k : ℕ) → start ≤ k → k < i → are_apart k m ≡ false)) → unwrap_or r (start + m) ≡ smallest_apart m start
searched m start None h = found_none m m start h
searched m start (Some i) h = found_first m m start i h.0 h.1 h.2 h.3
