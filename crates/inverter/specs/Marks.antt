-- The stage that puts a closing mark is sound.
use Rattle.std.specs.Prelude.{◌≡◌, ℕ, ◌+◌, ◌-◌, ◌<◌, ◌≤◌, min, true, ◌&&◌, ◌⊎◌, List, [], ◌∷◌, ◌++◌, map, length, take, Some, None, nat_le, nat_lt, slice_index, refl}
use Rattle.std.proofs.Common.{sym, ap, ◌∙◌, inl, inr, arith}
use Rattle.std.proofs.lemmas.List.{length-map, length_push, length-take-le, get_or-take, get_or_append_left, get_or_push, get_or-map, take_at}
use Rattle.std.proofs.lemmas.Bool.{and_parts, and_from, leb-true, ltb-true, lt-ltb, le-leb, cond-true, cases_lt}
use Rattle.stage.specs.Plain.{within}
use Rattle.stage.specs.Model.{plain, legal, longest_list}
use Rattle.stage.specs.AgreementLaws.{some_under_test}
use Rattle.stage.specs.Sound.{Sound}
use Rattle.stage.specs.Lists.{value_of_some, within_at}
use Rattle.stage.specs.Legality.{legal_within, legal_length}
use Rattle.inverter.specs.Mark.{nearest_bit, mark, marked_length, unmarked_length, marking}

marked_is : (n k : ℕ) → marked_length n ≡ Some k → (n < longest_list) × (n + 1 ≡ k)
marked_is n k h =
    let t = some_under_test (nat_lt n longest_list) (n + 1) k h in (ltb-true n longest_list t.0, t.1)

pub unmarked_is : (n k : ℕ) → unmarked_length k ≡ Some n → (k ≤ longest_list) × (n + 1 ≡ k)
unmarked_is n k h =
    let t = some_under_test (nat_lt 0 k && nat_le k longest_list) (k - 1) n h in
    let parts = and_parts (nat_lt 0 k) (nat_le k longest_list) t.0 in
    (leb-true k longest_list parts.1, omega (arith, ltb-true 0 k parts.0, t.1))

pub marked_legal : (n : ℕ) → n < longest_list → marked_length n ≡ Some (n + 1)
marked_legal n l = cond-true (nat_lt n longest_list) (Some (n + 1)) None (lt-ltb n longest_list l)

unmarked_legal : (n k : ℕ) → n + 1 ≡ k → k ≤ longest_list → unmarked_length k ≡ Some n
unmarked_legal n k e l =
    cond-true (nat_lt 0 k && nat_le k longest_list) (Some (k - 1)) None (and_from (nat_lt 0 k) (nat_le k longest_list) (lt-ltb 0 k (omega arith)) (le-leb k longest_list l)) ∙ ap Some (omega arith)

there : (n k : ℕ) → marked_length n ≡ Some k → unmarked_length k ≡ Some n
there n k h = let t = marked_is n k h in unmarked_legal n k t.1 (omega arith)

pub back : (n k : ℕ) → unmarked_length k ≡ Some n → marked_length n ≡ Some k
back n k h = let t = unmarked_is n k h in marked_legal n (omega arith) ∙ ap Some t.1

legal_marked : (xs : List ℕ) → legal (plain marking) xs ≡ true → marked_length (length xs) ≡ Some (length (xs ++ mark))
legal_marked xs l =
    let v = value_of_some (marked_length (length xs)) (legal_length (plain marking) xs l) in
    let t = marked_is (length xs) v.0 v.1 in
    marked_legal (length xs) t.0 ∙ ap Some (sym (length_push xs 1))

marked_bits : (xs : List ℕ) → within 1 xs ≡ true → within 1 (xs ++ mark) ≡ true
marked_bits [] h = refl
marked_bits (x ∷ xs) h =
    let parts = and_parts (nat_le x 1) (within 1 xs) h in and_from (nat_le x 1) (within 1 (xs ++ mark)) parts.0 (marked_bits xs parts.1)

nearest_bits : (ys : List ℕ) → within 1 (map nearest_bit ys) ≡ true
nearest_bits [] = refl
nearest_bits (y ∷ ys) = and_from (nat_le (min y 1) 1) (within 1 (map nearest_bit ys)) (le-leb (min y 1) 1 (omega arith)) (nearest_bits ys)

bits_are_nearest : (xs : List ℕ) → within 1 xs ≡ true → map nearest_bit xs ≡ xs
bits_are_nearest [] h = refl
bits_are_nearest (x ∷ xs) h =
    let parts = and_parts (nat_le x 1) (within 1 xs) h in
    let small = leb-true x 1 parts.0 in
    let e : min x 1 ≡ x = omega arith in
    let t = bits_are_nearest xs parts.1 in cc

-- the guess's length, and its coding's elements
guess_long : (n : ℕ) (ys : List ℕ) → n + 1 ≡ length ys → length (map nearest_bit (take n ys)) ≡ n
guess_long n ys e = length-map (take n ys) nearest_bit ∙ length-take-le n ys (omega arith)

pub guess_at : (n : ℕ) (ys : List ℕ) (k : ℕ) → n + 1 ≡ length ys → k < n → slice_index (map nearest_bit (take n ys) ++ mark) k ≡ min (slice_index ys k) 1
guess_at n ys k e l =
    let long = guess_long n ys e in
    let lt : length (take n ys) ≡ n = length-take-le n ys (omega arith) in
    get_or_append_left (map nearest_bit (take n ys)) mark 0 k (omega arith)
    ∙ get_or-map nearest_bit (take n ys) k 0 0 (omega arith)
    ∙ ap nearest_bit (get_or-take n ys k 0 l)

pub guess_mark : (n : ℕ) (ys : List ℕ) → n + 1 ≡ length ys → slice_index (map nearest_bit (take n ys) ++ mark) n ≡ 1
guess_mark n ys e = get_or_push (map nearest_bit (take n ys)) 1 0 n (guess_long n ys e)

best : (xs ys : List ℕ) (k : ℕ) → within 1 xs ≡ true → length (xs ++ mark) ≡ length ys → k < length ys → slice_index (xs ++ mark) k ≡ slice_index ys k → slice_index (map nearest_bit (take (length xs) ys) ++ mark) k ≡ slice_index ys k
best xs ys k w long l e = of (cases_lt k (length xs))
  where
    whole : length xs + 1 ≡ length ys
    whole = sym (length_push xs 1) ∙ long

    of : (k < length xs) ⊎ (length xs ≤ k) → slice_index (map nearest_bit (take (length xs) ys) ++ mark) k ≡ slice_index ys k
    of (inl h) = omega (arith, guess_at (length xs) ys k whole h, get_or_append_left xs mark 0 k h, within_at 1 xs k w)
    of (inr h) =
        let at_end : k ≡ length xs = omega (arith, whole) in
        let right = get_or_push xs 1 0 k (sym at_end) in
        ap (λ j. slice_index (map nearest_bit (take (length xs) ys) ++ mark) j) at_end ∙ guess_mark (length xs) ys whole ∙ sym right ∙ e

pub marking_sound : Sound marking
marking_sound =
    record {
      takes_bytes = omega arith;
      puts_bytes = omega arith;
      short_lists = λ n k h. (omega (arith, (marked_is n k h).0), omega (arith, (marked_is n k h).0, (marked_is n k h).1));
      lengths_there = there;
      lengths_back = back;
      stated_length = legal_marked;
      stated_alphabet = λ xs l. marked_bits xs (legal_within (plain marking) xs l);
      guess_length = λ n ys h. guess_long n ys (marked_is n (length ys) h).1;
      guess_within = λ n ys h. nearest_bits (take n ys);
      guess_back = λ xs l. ap (map nearest_bit) (take_at xs mark (length xs) refl) ∙ bits_are_nearest xs (legal_within (plain marking) xs l);
      guess_best = λ xs ys k l long i same. best xs ys k (legal_within (plain marking) xs l) long i (same k (omega arith));
    }
