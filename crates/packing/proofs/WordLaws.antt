-- A checked header followed by seven zeros keeps the promise of a plain stage, because the check does.
use Rattle.std.proofs.Common.{◌≡◌, ℕ, ◌+◌, ◌<◌, ◌≤◌, true, eqb, ◌⊎◌, List, map, length, get_or, take, Some, sym, refl, ap, ◌∙◌, inl, inr, arith}
use Rattle.std.proofs.lemmas.List.{length-append, length-take-le, get_or_append_left, get_or-take, take_at, take-take}
use Rattle.std.proofs.lemmas.Bool.{cases_lt, eqb-true}
use Rattle.stage.specs.Model.{plain, coding, legal}
use Rattle.stage.specs.Plain.{within}
use Rattle.stage.specs.Promise.{Promise}
use Rattle.stage.specs.Sound.{Sound}
use Rattle.stage.specs.Legality.{legal_from_parts, legal_length, legal_within}
use Rattle.stage.specs.Lists.{same_by_places, some_is_there, value_of_some}
use Rattle.stage.specs.Plains.{plain_keeps}
use Rattle.codings.specs.Checks.{checking, nearest_bit, only_length}
use Rattle.stage.specs.AgreementLaws.{some_under_test}
use Rattle.codings.specs.CheckLaws.{bits_are_nearest, checking_sound, length_legal}
use Rattle.codings.specs.NearestBitLaws.{within_append}
use Rattle.frame.specs.declared.headers.Header.{Header}
use Rattle.packing.specs.Bits.{header_bits}
use Rattle.packing.specs.Packings.{header_word, padding}
use Rattle.packing.proofs.BitLaws.{within_take}
use Rattle.packing.proofs.HeaderBits.{header_bits_length, header_bits_within}

-- the one legal length, there and back
only_length_is : (from to n k : ℕ) → only_length from to n ≡ Some k → (n ≡ from) × (to ≡ k)
only_length_is from to n k h =
    let u = some_under_test (eqb n from) to k h in (eqb-true n from u.0, u.1)

only_length_back : (from to n k : ℕ) → only_length from to n ≡ Some k → only_length to from k ≡ Some n
only_length_back from to n k h =
    let t = only_length_is from to n k h in length_legal to from k (sym t.1) ∙ ap Some (sym t.0)

pub legal_for_check : (xs : List ℕ) → length xs ≡ 28 → within 1 xs ≡ true → legal (plain checking) xs ≡ true
legal_for_check xs l w = legal_from_parts (plain checking) xs refl w (some_is_there _ 33 (length_legal 28 33 (length xs) l))

pub legal_word : (xs : List ℕ) → length xs ≡ 28 → within 1 xs ≡ true → legal (plain header_word) xs ≡ true
legal_word xs l w = legal_from_parts (plain header_word) xs refl w (some_is_there _ 40 (length_legal 28 40 (length xs) l))

legal_word_length : (xs : List ℕ) → legal (plain header_word) xs ≡ true → length xs ≡ 28
legal_word_length xs l =
    let v = value_of_some (only_length 28 40 (length xs)) (legal_length (plain header_word) xs l) in
    (only_length_is 28 40 (length xs) v.0 v.1).0

-- what is legal as a word's message is legal for the check
pub legal_in_check : (xs : List ℕ) → legal (plain header_word) xs ≡ true → legal (plain checking) xs ≡ true
legal_in_check xs l = legal_for_check xs (legal_word_length xs l) (legal_within (plain header_word) xs l)

pub length_checked : (xs : List ℕ) → legal (plain checking) xs ≡ true → length (coding (plain checking) xs) ≡ 33
length_checked xs l =
    sym (only_length_is 28 33 (length xs) (length (coding (plain checking) xs)) (checking_sound.stated_length xs l)).1

pub length_word : (xs : List ℕ) → legal (plain header_word) xs ≡ true → length (coding (plain header_word) xs) ≡ 40
length_word xs l =
    omega (arith, length-append (coding (plain checking) xs) padding, length_checked xs (legal_in_check xs l))

-- the check's guess looks at the front alone
pub guess_of_front : (n : ℕ) (ys : List ℕ) → n ≤ 33 → checking.guess n ys ≡ checking.guess n (take 33 ys)
guess_of_front n ys l = ap (map nearest_bit) (sym (take-take n 33 ys l))

front_is_coded : (ys : List ℕ) → 33 ≤ length ys → only_length 28 33 28 ≡ Some (length (take 33 ys))
front_is_coded ys l = ap Some (sym (length-take-le 33 ys l))

-- the check's guess of a word's front is legal, so its coding is as long as the front
pub guess_legal : (ys : List ℕ) → 33 ≤ length ys → legal (plain checking) (checking.guess 28 (take 33 ys)) ≡ true
guess_legal ys l =
    legal_for_check
    (checking.guess 28 (take 33 ys))
    (checking_sound.guess_length 28 (take 33 ys) (front_is_coded ys l))
    (checking_sound.guess_within 28 (take 33 ys) (front_is_coded ys l))

word_lengths : (n : ℕ) (ys : List ℕ) → only_length 28 40 n ≡ Some (length ys) → (n ≡ 28) × (length ys ≡ 40)
word_lengths n ys h = let t = only_length_is 28 40 n (length ys) h in (t.0, sym t.1)

guess_is : (n : ℕ) (ys : List ℕ) → n ≡ 28 → checking.guess n ys ≡ checking.guess 28 (take 33 ys)
guess_is n ys e = ap (λ m. checking.guess m ys) e ∙ guess_of_front 28 ys (omega arith)

guess_again : (xs : List ℕ) → legal (plain header_word) xs ≡ true → checking.guess (length xs) (coding (plain header_word) xs) ≡ xs
guess_again xs l =
    let lc = legal_in_check xs l in
    guess_of_front (length xs) (coding (plain header_word) xs) (omega (arith, legal_word_length xs l))
    ∙ ap (checking.guess (length xs)) (take_at (coding (plain checking) xs) padding 33 (length_checked xs lc))
    ∙ checking_sound.guess_back xs lc

best : (xs ys : List ℕ) (k : ℕ) → legal (plain header_word) xs ≡ true → length (coding (plain header_word) xs) ≡ length ys → k < length ys
    → ((j : ℕ) → j < k + 1 → get_or (coding (plain header_word) xs) j 0 ≡ get_or ys j 0)
    → get_or (coding (plain header_word) (checking.guess (length xs) ys)) k 0 ≡ get_or ys k 0
best xs ys k l long i same = of (cases_lt k 33)
  where
    lc : legal (plain checking) xs ≡ true
    lc = legal_in_check xs l

    coded : length (coding (plain checking) xs) ≡ 33
    coded = length_checked xs lc

    whole : length ys ≡ 40
    whole = sym long ∙ length_word xs l

    front : length (take 33 ys) ≡ 33
    front = length-take-le 33 ys (omega (arith, whole))

    same_front : (j : ℕ) → j < 33 → j < k + 1 → get_or (coding (plain checking) xs) j 0 ≡ get_or (take 33 ys) j 0
    same_front j h s =
        sym (get_or_append_left (coding (plain checking) xs) padding 0 j (omega (arith, coded))) ∙ same j s ∙ sym (get_or-take 33 ys j 0 h)

    guessed : checking.guess (length xs) ys ≡ checking.guess (length xs) (take 33 ys)
    guessed = guess_of_front (length xs) ys (omega (arith, legal_word_length xs l))

    guess_coded : length (coding (plain checking) (checking.guess (length xs) (take 33 ys))) ≡ 33
    guess_coded =
        ap (λ n. length (coding (plain checking) (checking.guess n (take 33 ys)))) (legal_word_length xs l)
        ∙ length_checked (checking.guess 28 (take 33 ys)) (guess_legal ys (omega (arith, whole)))

    of : (k < 33) ⊎ (33 ≤ k) → get_or (coding (plain header_word) (checking.guess (length xs) ys)) k 0 ≡ get_or ys k 0
    of (inl h) =
        ap (λ zs. get_or (coding (plain header_word) zs) k 0) guessed
        ∙ get_or_append_left (coding (plain checking) (checking.guess (length xs) (take 33 ys))) padding 0 k (omega (arith, guess_coded))
        ∙ checking_sound.guess_best xs (take 33 ys) k lc (coded ∙ sym front) (omega (arith, front)) (λ j s. same_front j (omega arith) s)
        ∙ get_or-take 33 ys k 0 h
    of (inr h) =
        let is_coding : take 33 ys ≡ coding (plain checking) xs = sym (same_by_places (coding (plain checking) xs) (take 33 ys) (coded ∙ sym front) (λ j s. same_front j (omega (arith, coded)) (omega (arith, coded)))) in
        ap (λ zs. get_or (coding (plain header_word) zs) k 0) (guessed ∙ ap (checking.guess (length xs)) is_coding ∙ checking_sound.guess_back xs lc)
        ∙ same k (omega arith)

pub word_sound : Sound header_word
word_sound =
    record {
      takes_bytes = omega arith;
      puts_bytes = omega arith;
      short_lists = λ n k h. (omega (arith, (only_length_is 28 40 n k h).0), omega (arith, (only_length_is 28 40 n k h).1));
      lengths_there = only_length_back 28 40;
      lengths_back = λ n k h. only_length_back 40 28 k n h;
      stated_length = λ xs l. length_legal 28 40 (length xs) (legal_word_length xs l) ∙ ap Some (sym (length_word xs l));
      stated_alphabet = λ xs l. within_append 1 (coding (plain checking) xs) padding (checking_sound.stated_alphabet xs (legal_in_check xs l)) refl;
      guess_length = λ n ys h.
          let t = word_lengths n ys h in
          ap length (guess_is n ys t.0)
          ∙ checking_sound.guess_length 28 (take 33 ys) (front_is_coded ys (omega (arith, t.1)))
          ∙ sym t.0;
      guess_within = λ n ys h.
          let t = word_lengths n ys h in
          ap (within 1) (guess_is n ys t.0) ∙ checking_sound.guess_within 28 (take 33 ys) (front_is_coded ys (omega (arith, t.1)));
      guess_back = λ xs l. guess_again xs l;
      guess_best = λ xs ys k l long i same. best xs ys k l long i same;
    }

pub word_keeps : Promise (plain header_word)
word_keeps = plain_keeps header_word word_sound

-- the message stands in front of its word
pub front_of_word : (xs : List ℕ) → legal (plain header_word) xs ≡ true → take 28 (coding (plain header_word) xs) ≡ xs
front_of_word xs l =
    let bits = within_take 1 28 (coding (plain header_word) xs) (word_sound.stated_alphabet xs l) in
    sym (bits_are_nearest (take 28 (coding (plain header_word) xs)) bits)
    ∙ ap (λ n. checking.guess n (coding (plain header_word) xs)) (sym (legal_word_length xs l))
    ∙ guess_again xs l

-- a header's bits are legal, and its word is all bits
pub legal_bits : (h : Header) → legal (plain header_word) (header_bits h) ≡ true
legal_bits h = legal_word (header_bits h) (header_bits_length h) (header_bits_within h)

pub word_bits : (h : Header) → within 1 (coding (plain header_word) (header_bits h)) ≡ true
word_bits h = word_sound.stated_alphabet (header_bits h) (legal_bits h)
