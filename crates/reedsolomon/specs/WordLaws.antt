-- The stage that puts parity behind a message is sound.
use Rattle.std.specs.Prelude.{◌≡◌, ℕ, ◌+◌, ◌-◌, ◌*◌, ◌<◌, ◌≤◌, min, true, ◌&&◌, ◌⊎◌, List, [], ◌∷◌, map, length, take, Some, None, nat_le, slice_index, refl}
use Rattle.std.proofs.Common.{sym, ap, ◌∙◌, inl, inr, arith}
use Rattle.std.proofs.lemmas.List.{length-map, length-append, length-take-le, get_or-take, get_or_append_left, get_or-map, take_at}
use Rattle.std.proofs.lemmas.Bool.{and_parts, and_from, leb-true, le-leb, cond-true, cases_lt}
use Rattle.stage.specs.Plain.{within}
use Rattle.stage.specs.Model.{plain, legal}
use Rattle.stage.specs.Sound.{Sound}
use Rattle.stage.specs.Lists.{value_of_some, within_at, same_by_places}
use Rattle.stage.specs.Legality.{legal_within, legal_length}
use Rattle.stage.specs.AgreementLaws.{some_under_test}
use Rattle.codings.specs.NearestBitLaws.{within_append}
use Rattle.reedsolomon.specs.Codes.{known_strength, lower, parity, with_parity}
use Rattle.reedsolomon.specs.Words.{longest_word, word_length, message_length, nearest_byte, words}
use Rattle.reedsolomon.specs.ParityLaws.{length_remainder, remainder_bytes}
use Rattle.reedsolomon.specs.GeneratorLaws.{generating}

-- lengths there and back
pub word_length_is : (t n k : ℕ) → word_length t n ≡ Some k → (1 ≤ n) × (n ≤ longest_word - 2 * t) × (n + 2 * t ≡ k)
word_length_is t n k h =
    let u = some_under_test (nat_le 1 n && nat_le n (longest_word - 2 * t)) (n + 2 * t) k h in
    let p = and_parts (nat_le 1 n) (nat_le n (longest_word - 2 * t)) u.0 in (leb-true 1 n p.0, leb-true n (longest_word - 2 * t) p.1, u.1)

pub message_length_is : (t n k : ℕ) → message_length t k ≡ Some n → (2 * t + 1 ≤ k) × (k ≤ longest_word) × (k - 2 * t ≡ n)
message_length_is t n k h =
    let u = some_under_test (nat_le (2 * t + 1) k && nat_le k longest_word) (k - 2 * t) n h in
    let p = and_parts (nat_le (2 * t + 1) k) (nat_le k longest_word) u.0 in (leb-true (2 * t + 1) k p.0, leb-true k longest_word p.1, u.1)

pub word_length_legal : (t n : ℕ) → 1 ≤ n → n ≤ longest_word - 2 * t → word_length t n ≡ Some (n + 2 * t)
word_length_legal t n l h =
    cond-true (nat_le 1 n && nat_le n (longest_word - 2 * t)) (Some (n + 2 * t)) None (and_from (nat_le 1 n) (nat_le n (longest_word - 2 * t)) (le-leb 1 n l) (le-leb n (longest_word - 2 * t) h))

message_length_legal : (t k : ℕ) → 2 * t + 1 ≤ k → k ≤ longest_word → message_length t k ≡ Some (k - 2 * t)
message_length_legal t k l h =
    cond-true (nat_le (2 * t + 1) k && nat_le k longest_word) (Some (k - 2 * t)) None (and_from (nat_le (2 * t + 1) k) (nat_le k longest_word) (le-leb (2 * t + 1) k l) (le-leb k longest_word h))

lengths_there : (t n k : ℕ) → t ≤ 8 → word_length t n ≡ Some k → message_length t k ≡ Some n
lengths_there t n k s h =
    let w = word_length_is t n k h in
    message_length_legal t k (omega (arith, w.0, w.2)) (omega (arith, w.1, w.2)) ∙ ap Some (omega (arith, w.2))

lengths_back : (t n k : ℕ) → t ≤ 8 → message_length t k ≡ Some n → word_length t n ≡ Some k
lengths_back t n k s h =
    let w = message_length_is t n k h in
    word_length_legal t n (omega (arith, w.0, w.2)) (omega (arith, w.0, w.1, w.2)) ∙ ap Some (omega (arith, w.0, w.2))

pub legal_is : (t : ℕ) (xs : List ℕ) → legal (plain (words t)) xs ≡ true → (1 ≤ length xs) × (length xs ≤ longest_word - 2 * t)
legal_is t xs l =
    let v = value_of_some (word_length t (length xs)) (legal_length (plain (words t)) xs l) in
    let w = word_length_is t (length xs) v.0 v.1 in (w.0, w.1)

pub length_parity : (t : ℕ) (xs : List ℕ) → known_strength t ≡ true → length (parity t xs) ≡ 2 * t
length_parity t xs known = length_remainder (lower t) xs ∙ (generating t known).long

pub length_with_parity : (t : ℕ) (xs : List ℕ) → known_strength t ≡ true → length (with_parity t xs) ≡ length xs + 2 * t
length_with_parity t xs known = omega (arith, length-append xs (parity t xs), length_parity t xs known)

nearest_bytes : (ys : List ℕ) → within 255 (map nearest_byte ys) ≡ true
nearest_bytes [] = refl
nearest_bytes (y ∷ ys) = and_from (nat_le (min y 255) 255) (within 255 (map nearest_byte ys)) (le-leb (min y 255) 255 (omega arith)) (nearest_bytes ys)

pub bytes_are_nearest : (xs : List ℕ) → within 255 xs ≡ true → map nearest_byte xs ≡ xs
bytes_are_nearest [] h = refl
bytes_are_nearest (x ∷ xs) h =
    let parts = and_parts (nat_le x 255) (within 255 xs) h in
    let small = leb-true x 255 parts.0 in
    let e : min x 255 ≡ x = omega arith in
    let t = bytes_are_nearest xs parts.1 in cc

-- the guess's length, and its coding's elements before the parity
guess_long : (n : ℕ) (ys : List ℕ) → n ≤ length ys → length (map nearest_byte (take n ys)) ≡ n
guess_long n ys e = length-map (take n ys) nearest_byte ∙ length-take-le n ys e

guess_at : (t n : ℕ) (ys : List ℕ) (k : ℕ) → n ≤ length ys → k < n → slice_index (with_parity t (map nearest_byte (take n ys))) k ≡ min (slice_index ys k) 255
guess_at t n ys k e l =
    let long = guess_long n ys e in
    let lt : length (take n ys) ≡ n = length-take-le n ys e in
    get_or_append_left (map nearest_byte (take n ys)) (parity t (map nearest_byte (take n ys))) 0 k (omega arith)
    ∙ get_or-map nearest_byte (take n ys) k 0 0 (omega arith)
    ∙ ap nearest_byte (get_or-take n ys k 0 l)

-- a received list whose first elements are a message's is guessed to be that message
guess_right : (xs ys : List ℕ) → within 255 xs ≡ true → length xs ≤ length ys → ((j : ℕ) → j < length xs → slice_index xs j ≡ slice_index ys j) → map nearest_byte (take (length xs) ys) ≡ xs
guess_right xs ys w l same =
    let lt : length (take (length xs) ys) ≡ length xs = length-take-le (length xs) ys l in
    let front : take (length xs) ys ≡ xs = same_by_places (take (length xs) ys) xs lt (λ i h. get_or-take (length xs) ys i 0 (omega arith) ∙ sym (same i (omega arith))) in
    ap (map nearest_byte) front ∙ bytes_are_nearest xs w

best : (t : ℕ) (xs ys : List ℕ) (k : ℕ) → within 255 xs ≡ true → length (with_parity t xs) ≡ length ys → k < length ys → ((j : ℕ) → j < k + 1 → slice_index (with_parity t xs) j ≡ slice_index ys j) → slice_index (with_parity t (map nearest_byte (take (length xs) ys))) k ≡ slice_index ys k
best t xs ys k w long l same = of (cases_lt k (length xs))
  where
    short : length xs ≤ length ys
    short = omega (arith, length-append xs (parity t xs))

    front : (j : ℕ) → j < length xs → j < k + 1 → slice_index xs j ≡ slice_index ys j
    front j h i = sym (get_or_append_left xs (parity t xs) 0 j h) ∙ same j i

    of : (k < length xs) ⊎ (length xs ≤ k) → slice_index (with_parity t (map nearest_byte (take (length xs) ys))) k ≡ slice_index ys k
    of (inl h) = omega (arith, guess_at t (length xs) ys k short h, front k h (omega arith), within_at 255 xs k w)
    of (inr h) = ap (λ zs. slice_index (with_parity t zs) k) (guess_right xs ys w short (λ j i. front j i (omega arith))) ∙ same k (omega arith)

pub words_sound : (t : ℕ) → known_strength t ≡ true → Sound (words t)
words_sound t known =
    let g = generating t known in
    let s = g.small.1 in
    record {
      takes_bytes = omega arith;
      puts_bytes = omega arith;
      short_lists = λ n k h. (omega (arith, (word_length_is t n k h).1), omega (arith, s, (word_length_is t n k h).1, (word_length_is t n k h).2));
      lengths_there = λ n k h. lengths_there t n k s h;
      lengths_back = λ n k h. lengths_back t n k s h;
      stated_length = λ xs l. word_length_legal t (length xs) (legal_is t xs l).0 (legal_is t xs l).1 ∙ ap Some (sym (length_with_parity t xs known));
      stated_alphabet = λ xs l. within_append 255 xs (parity t xs) (legal_within (plain (words t)) xs l) (remainder_bytes (lower t) xs g.bytes (legal_within (plain (words t)) xs l));
      guess_length = λ n ys h. guess_long n ys (omega (arith, (word_length_is t n (length ys) h).2));
      guess_within = λ n ys h. nearest_bytes (take n ys);
      guess_back = λ xs l. ap (map nearest_byte) (take_at xs (parity t xs) (length xs) refl) ∙ bytes_are_nearest xs (legal_within (plain (words t)) xs l);
      guess_best = λ xs ys k l long i same. best t xs ys k (legal_within (plain (words t)) xs l) long i same;
    }
