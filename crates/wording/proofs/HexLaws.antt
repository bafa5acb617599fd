-- Hexadecimal text, digit by digit.
use Rattle.std.proofs.Common.{◌≡◌, ℕ, zero, suc, ◌+◌, ◌*◌, ◌/◌, ◌%◌, ◌<◌, ◌≤◌, Bool, true, rules, List, [], ◌∷◌, ◌++◌, map, length, get_or, take, drop, sym, refl, ap, ◌∙◌, append_assoc, le_of_suc-le-suc, arith}
use Rattle.wording.specs.Hexes.{all_hex, byte_at, digit_of, digit_value, digits_of, is_hex}
use Rattle.wording.specs.Cells.{is_cell}
use Rattle.std.specs.List.{list_all, range_with_len}
use Rattle.std.proofs.lemmas.List.FromFn.{map-range_with_len_more}
use Rattle.std.proofs.lemmas.List.{get_or-drop, get_or-take, take_all, take_more}
use Rattle.std.specs.Simd.{first_chunks}
use Rattle.std.proofs.lemmas.Bool.{and_parts}

-- an element of a list whose elements all pass a test
pub passes_at : (test : ℕ → Bool) (w : List ℕ) (i : ℕ) → list_all test w ≡ true → i < length w → test (get_or w i 0) ≡ true
passes_at test [] i h l = absurd (omega arith)
passes_at test (c ∷ cs) zero h l = (and_parts (test c) (list_all test cs) h).0
passes_at test (c ∷ cs) (suc i) h l = passes_at test cs i (and_parts (test c) (list_all test cs) h).1 (le_of_suc-le-suc l)

pub hex_is_cell : (c : ℕ) → is_hex c ≡ true → is_cell c ≡ true
hex_is_cell c h = search rules

digits_of_append : (xs ys : List ℕ) → digits_of (xs ++ ys) ≡ digits_of xs ++ digits_of ys
digits_of_append [] ys = refl
digits_of_append (x ∷ xs) ys = ap (λ (l : List ℕ). digit_of (x / 16) ∷ (digit_of (x % 16) ∷ l)) (digits_of_append xs ys)

-- two digits more behind what stood there
pub two_more_digits : (front a b c xs : List ℕ) (i high low : ℕ) → i < length xs → a ≡ front ++ digits_of (take i xs) → high ≡ digit_of (get_or xs i 0 / 16) → b ≡ a ++ (high ∷ []) → low ≡ digit_of (get_or xs i 0 % 16) → c ≡ b ++ (low ∷ []) → c ≡ front ++ digits_of (take (i + 1) xs)
two_more_digits front a b c xs i high low l ea eh eb el ec =
    let two : List ℕ = high ∷ (low ∷ []) in
    let t : digits_of (take (i + 1) xs) ≡ digits_of (take i xs) ++ digits_of (get_or xs i 0 ∷ []) = ap digits_of (take_more xs i 0 l) ∙ digits_of_append (take i xs) (get_or xs i 0 ∷ []) in
    let d : digits_of (take i xs) ++ two ≡ digits_of (take (i + 1) xs) = rw (eh, el) (sym t) in
    ec ∙ ap (λ (l : List ℕ). l ++ (low ∷ [])) eb ∙ append_assoc a (high ∷ []) (low ∷ []) ∙ ap (λ (l : List ℕ). l ++ two) ea
    ∙ append_assoc front (digits_of (take i xs)) two ∙ ap (λ (l : List ℕ). front ++ l) d

pub all_digits : (front a xs : List ℕ) (i : ℕ) → length xs ≤ i → a ≡ front ++ digits_of (take i xs) → a ≡ front ++ digits_of xs
all_digits front a xs i l e = e ∙ ap (λ (ys : List ℕ). front ++ digits_of ys) (take_all i xs l)

-- pair i of a word has the digits 2i and 2i + 1
pub pair_at : (w : List ℕ) (n i k : ℕ) (d : List ℕ) → i < n → k < 2 → get_or (get_or (first_chunks 2 n w) i d) k 0 ≡ get_or w (2 * i + k) 0
pair_at w zero i k d l two = absurd (omega arith)
pair_at w (suc n) zero k d l two = let e : k ≡ 2 * 0 + k = omega arith in get_or-take 2 w k 0 two ∙ ap (λ j. get_or w j 0) e
pair_at w (suc n) (suc i) k d l two =
    let e : 2 + (2 * i + k) ≡ 2 * suc i + k = omega arith in
    pair_at (drop 2 w) n i k d (le_of_suc-le-suc l) two ∙ get_or-drop 2 w (2 * i + k) 0 ∙ ap (λ j. get_or w j 0) e

-- so they are digits, if the word has no other character
pub digit_at : (w : List ℕ) (pairs : List (List ℕ)) (i k : ℕ) → pairs ≡ first_chunks 2 (length w / 2) w → length pairs ≡ length w / 2 → all_hex w ≡ true → i < length pairs → k < 2 → is_hex (get_or (get_or pairs i []) k 0) ≡ true
digit_at w pairs i k e long h l two =
    let pair : i < length w / 2 = omega arith in
    let inside : 2 * i + k < length w = omega arith in
    ap (λ ps. is_hex (get_or (get_or ps i []) k 0)) e ∙ ap is_hex (pair_at w (length w / 2) i k [] pair two) ∙ passes_at is_hex w (2 * i + k) h inside

-- and write the byte i
pub byte_is : (w : List ℕ) (pairs : List (List ℕ)) (i b : ℕ) → pairs ≡ first_chunks 2 (length w / 2) w → length pairs ≡ length w / 2 → i < length pairs → b ≡ 16 * digit_value (get_or (get_or pairs i []) 0 0) + digit_value (get_or (get_or pairs i []) 1 0) → b ≡ byte_at w i
byte_is w pairs i b e long l eb =
    let pair : i < length w / 2 = omega arith in
    let first : 2 * i + 0 ≡ 2 * i = omega arith in
    let high : get_or (get_or pairs i []) 0 0 ≡ get_or w (2 * i) 0 = ap (λ ps. get_or (get_or ps i []) 0 0) e ∙ pair_at w (length w / 2) i 0 [] pair (omega arith) ∙ ap (λ j. get_or w j 0) first in
    let low : get_or (get_or pairs i []) 1 0 ≡ get_or w (2 * i + 1) 0 = ap (λ ps. get_or (get_or ps i []) 1 0) e ∙ pair_at w (length w / 2) i 1 [] pair (omega arith) in
    eb ∙ ap (λ x. 16 * digit_value x + digit_value (get_or (get_or pairs i []) 1 0)) high ∙ ap (λ x. 16 * digit_value (get_or w (2 * i) 0) + digit_value x) low

pub one_more_byte : (word before after : List ℕ) (b i : ℕ) → before ≡ map (byte_at word) (range_with_len 0 i) → b ≡ byte_at word i → after ≡ before ++ (b ∷ []) → after ≡ map (byte_at word) (range_with_len 0 (i + 1))
one_more_byte word before after b i eb e ea =
    ea ∙ ap (λ (l : List ℕ). l ++ (b ∷ [])) eb ∙ ap (λ (x : ℕ). map (byte_at word) (range_with_len 0 i) ++ (x ∷ [])) e
    ∙ sym (map-range_with_len_more (byte_at word) 0 i i (omega arith))
