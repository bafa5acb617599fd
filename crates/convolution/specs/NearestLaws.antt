-- The message nearest to a received list, and the stage's soundness.
use Rattle.std.specs.Prelude.{◌≡◌, ℕ, zero, suc, ◌+◌, ◌-◌, ◌*◌, ◌/◌, ◌%◌, ◌<◌, ◌≤◌, true, ◌&&◌, ◌⊎◌, List, [], ◌∷◌, length, Some, None, ◌==◌, bit_xor, nat_le, slice_index, slice_index_or, refl}
use Rattle.std.proofs.Common.{sym, ap, subst, ◌∙◌, inl, inr, arith, below_more}
use Rattle.std.specs.Int.Bits.{xor_zero_l}
use Rattle.std.proofs.lemmas.List.{length_push, get_or_push, get_or_append_left, get_or_past}
use Rattle.std.proofs.lemmas.Bool.{and_parts, and_from, eqb-true, eq-eqb, leb-true, le-leb, cond-true, cases_lt}
use Rattle.stage.specs.Plain.{within}
use Rattle.stage.specs.Model.{plain, legal}
use Rattle.stage.specs.Sound.{Sound}
use Rattle.stage.specs.Lists.{value_of_some, within_at, within_from, same_by_places}
use Rattle.stage.specs.Legality.{legal_within, legal_length}
use Rattle.stage.specs.AgreementLaws.{some_under_test}
use Rattle.convolution.specs.Convolutions.{most_bits, tail, x_taps, tapped, convolved, convolved_length, plain_length, nearest_bit, nearest, convolution}
use Rattle.convolution.specs.BitLaws.{x_past, xor_twice, tapped_small, x_past_same, x_with_past, xor_small, output_even, output_same, length_convolved, convolved_at, convolved_bits}

pub convolved_is : (n k : ℕ) → convolved_length n ≡ Some k → (n ≤ most_bits) × (2 * (n + tail) ≡ k)
convolved_is n k h =
    let t = some_under_test (nat_le n most_bits) (2 * (n + tail)) k h in (leb-true n most_bits t.0, t.1)

pub convolved_legal : (n : ℕ) → n ≤ most_bits → convolved_length n ≡ Some (2 * (n + tail))
convolved_legal n l = cond-true (nat_le n most_bits) _ _ (le-leb n most_bits l)

pub plain_is : (n k : ℕ) → plain_length k ≡ Some n → (n ≤ most_bits) × (2 * (n + tail) ≡ k)
plain_is n k h =
    let t = some_under_test (k % 2 == 0 && (nat_le (2 * tail) k && nat_le k (2 * (most_bits + tail)))) (k / 2 - tail) n h in
    let u = and_parts (k % 2 == 0) (nat_le (2 * tail) k && nat_le k (2 * (most_bits + tail))) t.0 in
    let v = and_parts (nat_le (2 * tail) k) (nat_le k (2 * (most_bits + tail))) u.1 in
    let even = eqb-true (k % 2) 0 u.0 in
    let low = leb-true (2 * tail) k v.0 in
    let high = leb-true k (2 * (most_bits + tail)) v.1 in
    let e = t.1 in
    (omega arith, omega arith)

plain_legal : (n : ℕ) → n ≤ most_bits → plain_length (2 * (n + tail)) ≡ Some n
plain_legal n l =
    let k = 2 * (n + tail) in
    cond-true (k % 2 == 0 && (nat_le (2 * tail) k && nat_le k (2 * (most_bits + tail)))) (Some (k / 2 - tail)) None
    (and_from (k % 2 == 0) (nat_le (2 * tail) k && nat_le k (2 * (most_bits + tail))) (eq-eqb (k % 2) 0 (omega arith)) (and_from (nat_le (2 * tail) k) (nat_le k (2 * (most_bits + tail))) (le-leb (2 * tail) k (omega arith)) (le-leb k (2 * (most_bits + tail)) (omega arith))))
    ∙ ap Some (omega arith)

there : (n k : ℕ) → convolved_length n ≡ Some k → plain_length k ≡ Some n
there n k h = let t = convolved_is n k h in subst (λ (j : ℕ). plain_length j ≡ Some n) t.1 (plain_legal n t.0)

back : (n k : ℕ) → plain_length k ≡ Some n → convolved_length n ≡ Some k
back n k h = let t = plain_is n k h in convolved_legal n t.0 ∙ ap Some t.1

pub legal_few : (xs : List ℕ) → legal (plain convolution) xs ≡ true → length xs ≤ most_bits
legal_few xs l =
    let v = value_of_some (convolved_length (length xs)) (legal_length (plain convolution) xs l) in (convolved_is (length xs) v.0 v.1).0

pub nearest_length : (n : ℕ) (ys : List ℕ) → length (nearest n ys) ≡ n
nearest_length zero ys = refl
nearest_length (suc n) ys = let e = nearest_length n ys in length_push (nearest n ys) _ ∙ omega arith

-- each bit makes X right after those before it
pub nearest_at : (n : ℕ) (ys : List ℕ) (i : ℕ) → i < n → slice_index (nearest n ys) i ≡ bit_xor (nearest_bit (slice_index ys (2 * i))) (tapped (nearest n ys) i x_past)
nearest_at zero ys i l = absurd (omega arith)
nearest_at (suc n) ys i l = of (cases_lt i n) (λ h. nearest_at n ys i h)
  where
    gs : List ℕ
    gs = nearest n ys

    long : length gs ≡ n
    long = nearest_length n ys

    older : (k : ℕ) → k < n → slice_index gs k ≡ slice_index (nearest (suc n) ys) k
    older k h = sym (get_or_append_left gs _ 0 k (omega (arith, long)))

    newest : slice_index_or (nearest (suc n) ys) n 0 ≡ bit_xor (nearest_bit (slice_index ys (2 * n))) (tapped (nearest (suc n) ys) n x_past)
    newest =
        get_or_push gs _ 0 n long
        ∙ ap (bit_xor (nearest_bit (slice_index ys (2 * n)))) (x_with_past gs n ∙ ap (λ b. bit_xor b (tapped gs n x_past)) (get_or_past gs n 0 (omega (arith, long))) ∙ xor_zero_l (tapped gs n x_past) ∙ x_past_same gs (nearest (suc n) ys) n older)

    of : (i < n) ⊎ (n ≤ i) → (i < n → slice_index gs i ≡ bit_xor (nearest_bit (slice_index ys (2 * i))) (tapped gs i x_past)) → slice_index (nearest (suc n) ys) i ≡ bit_xor (nearest_bit (slice_index ys (2 * i))) (tapped (nearest (suc n) ys) i x_past)
    of (inl h) before =
        sym (older i h) ∙ before h ∙ ap (bit_xor (nearest_bit (slice_index ys (2 * i)))) (x_past_same gs (nearest (suc n) ys) i (λ k m. older k (omega arith)))
    of (inr h) before =
        subst (λ (m : ℕ). slice_index (nearest (suc n) ys) m ≡ bit_xor (nearest_bit (slice_index ys (2 * m))) (tapped (nearest (suc n) ys) m x_past)) {x = n} {y = i} (omega arith) newest

pub nearest_bits : (n : ℕ) (ys : List ℕ) → within 1 (nearest n ys) ≡ true
nearest_bits zero ys = refl
nearest_bits (suc n) ys =
    let w = nearest_bits n ys in
    let long = nearest_length n ys in
    within_from 1 (nearest (suc n) ys) (λ i l. of w long i (cases_lt i n) (omega (arith, nearest_length (suc n) ys)))
  where
    of : within 1 (nearest n ys) ≡ true → length (nearest n ys) ≡ n → (i : ℕ) → (i < n) ⊎ (n ≤ i) → i < suc n → slice_index (nearest (suc n) ys) i ≤ 1
    of w long i (inl h) l = omega (arith, get_or_append_left (nearest n ys) (bit_xor (nearest_bit (slice_index ys (2 * n))) (tapped (nearest n ys) n x_taps) ∷ []) 0 i (omega arith), within_at 1 (nearest n ys) i w)
    of w long i (inr h) l = omega (arith, get_or_push (nearest n ys) (bit_xor (nearest_bit (slice_index ys (2 * n))) (tapped (nearest n ys) n x_taps)) 0 i (omega arith), xor_small (nearest_bit (slice_index ys (2 * n))) (tapped (nearest n ys) n x_taps) (omega arith) (tapped_small (nearest n ys) n x_taps w))

-- where a message's X are those received, its bits are the nearest
nearest_is_next : (xs ys : List ℕ) (i : ℕ) → within 1 xs ≡ true → tapped xs i x_taps ≡ slice_index ys (2 * i) → ((k : ℕ) → k < i → slice_index (nearest (length xs) ys) k ≡ slice_index xs k) → slice_index (nearest (length xs) ys) i ≡ slice_index xs i
nearest_is_next xs ys i w x before = of (cases_lt i (length xs))
  where
    of : (i < length xs) ⊎ (length xs ≤ i) → slice_index (nearest (length xs) ys) i ≡ slice_index xs i
    of (inl l) =
        let small = tapped_small xs i x_taps w in
        let e : nearest_bit (slice_index ys (2 * i)) ≡ tapped xs i x_taps = omega arith in
        nearest_at (length xs) ys i l
        ∙ ap (λ v. bit_xor v (tapped (nearest (length xs) ys) i x_past)) (e ∙ x_with_past xs i)
        ∙ ap (bit_xor (bit_xor (slice_index xs i) (tapped xs i x_past))) (x_past_same (nearest (length xs) ys) xs i before)
        ∙ xor_twice (slice_index xs i) (tapped xs i x_past)
    of (inr l) =
        get_or_past (nearest (length xs) ys) i 0 (omega (arith, nearest_length (length xs) ys)) ∙ sym (get_or_past xs i 0 l)

nearest_is : (xs ys : List ℕ) (m : ℕ) → within 1 xs ≡ true → ((i : ℕ) → i < m → tapped xs i x_taps ≡ slice_index ys (2 * i)) → (i : ℕ) → i < m → slice_index (nearest (length xs) ys) i ≡ slice_index xs i
nearest_is xs ys zero w x = λ i h. absurd (omega arith)
nearest_is xs ys (suc m) w x =
    let before = nearest_is xs ys m w (λ i h. x i (omega arith)) in
    let here = nearest_is_next xs ys m w (x m (omega arith)) before in
    λ i h. below_more (λ k. slice_index (nearest (length xs) ys) k ≡ slice_index xs k) m before here i (omega arith)

-- the place of X in a coding
x_at : (xs : List ℕ) (i : ℕ) → i < length xs + tail → tapped xs i x_taps ≡ slice_index (convolved xs) (2 * i)
x_at xs i l = sym (convolved_at xs (2 * i) (omega arith) ∙ output_even xs i)

taken_back : (xs : List ℕ) → within 1 xs ≡ true → nearest (length xs) (convolved xs) ≡ xs
taken_back xs w =
    same_by_places (nearest (length xs) (convolved xs)) xs (nearest_length (length xs) (convolved xs)) (λ i l.
    nearest_is xs (convolved xs) (length xs) w (λ k h. x_at xs k (omega arith)) i (omega (arith, nearest_length (length xs) (convolved xs))))

best : (xs ys : List ℕ) (k : ℕ) → within 1 xs ≡ true → length (convolved xs) ≡ length ys → k < length ys → ((j : ℕ) → j < k + 1 → slice_index (convolved xs) j ≡ slice_index ys j) → slice_index (convolved (nearest (length xs) ys)) k ≡ slice_index ys k
best xs ys k w long l same =
    let lx = length_convolved xs in
    let ln = nearest_length (length xs) ys in
    let bits = nearest_is xs ys (k / 2 + 1) w (λ i h. x_at xs i (omega arith) ∙ same (2 * i) (omega arith)) in
    convolved_at (nearest (length xs) ys) k (omega arith)
    ∙ output_same (nearest (length xs) ys) xs k (λ i h. bits i (omega arith))
    ∙ sym (convolved_at xs k (omega arith))
    ∙ same k (omega arith)

pub convolution_sound : Sound convolution
convolution_sound =
    record {
      takes_bytes = omega arith;
      puts_bytes = omega arith;
      short_lists = λ n k h. (omega (arith, (convolved_is n k h).0), omega (arith, (convolved_is n k h).0, (convolved_is n k h).1));
      lengths_there = there;
      lengths_back = back;
      stated_length = λ xs l. convolved_legal (length xs) (legal_few xs l) ∙ ap Some (sym (length_convolved xs));
      stated_alphabet = λ xs l. convolved_bits xs (legal_within (plain convolution) xs l);
      guess_length = λ n ys h. nearest_length n ys;
      guess_within = λ n ys h. nearest_bits n ys;
      guess_back = λ xs l. taken_back xs (legal_within (plain convolution) xs l);
      guess_best = λ xs ys k l long i same. best xs ys k (legal_within (plain convolution) xs l) long i same;
    }
