-- Five bytes, the word of their bits, and the header in them.
use Rattle.std.proofs.Common.{◌≡◌, ℕ, ◌+◌, ◌*◌, ◌/◌, ◌%◌, ◌≤◌, true, leb, List, [], ◌∷◌, ◌++◌, length, get_or, take, drop, sym, refl, ap, ◌∙◌, arith}
use Rattle.std.proofs.lemmas.List.{append-nil, length-drop, take_all}
use Rattle.std.proofs.lemmas.Bool.{and_from, le-leb}
use Rattle.stage.specs.Model.{plain, coding}
use Rattle.stage.specs.Plain.{within}
use Rattle.stage.specs.Lists.{within_at}
use Rattle.codings.specs.Unpackers.{unpacking}
use Rattle.packing.specs.Bits.{bits_of, header_bits, header_from, part, value}
use Rattle.packing.specs.Packings.{bytes_of, header_in}
use Rattle.packing.proofs.BitLaws.{part_again, part_and_rest, part_small, value_of_bits}
use Rattle.packing.proofs.HeaderBits.{InRange, header_from_in_range_bits, high_part, low_byte}

joined_of_five : (a b c d e a' b' c' d' e' : List ℕ) → a ≡ a' → b ≡ b' → c ≡ c' → d ≡ d' → e ≡ e' → a ++ (b ++ (c ++ (d ++ (e ++ [])))) ≡ a' ++ (b' ++ (c' ++ (d' ++ (e' ++ []))))
joined_of_five a b c d e a' b' c' d' e' ea eb ec ed ee = cc

parts_together : (word : List ℕ) → length word ≡ 40 → part 0 8 word ++ (part 8 8 word ++ (part 16 8 word ++ (part 24 8 word ++ (part 32 8 word ++ [])))) ≡ word
parts_together word l =
    part_and_rest word 0 8 8 _ refl
    (part_and_rest word 8 8 16 _ refl
    (part_and_rest word 16 8 24 _ refl
    (part_and_rest word 24 8 32 _ refl (append-nil (part 32 8 word) ∙ take_all 8 (drop 32 word) (omega (arith, length-drop 32 word))))))

-- the bits of a word's bytes are the word
pub word_again : (word : List ℕ) → length word ≡ 40 → within 1 word ≡ true → coding (plain unpacking) (bytes_of word) ≡ word
word_again word l w =
    joined_of_five
    (bits_of 8 (value (part 0 8 word)))
    (bits_of 8 (value (part 8 8 word)))
    (bits_of 8 (value (part 16 8 word)))
    (bits_of 8 (value (part 24 8 word)))
    (bits_of 8 (value (part 32 8 word)))
    (part 0 8 word)
    (part 8 8 word)
    (part 16 8 word)
    (part 24 8 word)
    (part 32 8 word)
    (part_again 0 8 word (omega arith) w)
    (part_again 8 8 word (omega arith) w)
    (part_again 16 8 word (omega arith) w)
    (part_again 24 8 word (omega arith) w)
    (part_again 32 8 word (omega arith) w)
    ∙ parts_together word l

byte_more : (x : ℕ) (xs : List ℕ) → x / 256 ≡ 0 → within 255 xs ≡ true → within 255 (x ∷ xs) ≡ true
byte_more x xs small w = and_from (leb x 255) (within 255 xs) (le-leb x 255 (omega arith)) w

five_within : (a b c d e : ℕ) → a / 256 ≡ 0 → b / 256 ≡ 0 → c / 256 ≡ 0 → d / 256 ≡ 0 → e / 256 ≡ 0 → within 255 (a ∷ b ∷ c ∷ d ∷ e ∷ []) ≡ true
five_within a b c d e la lb lc ld le =
    byte_more a (b ∷ c ∷ d ∷ e ∷ []) la (byte_more b (c ∷ d ∷ e ∷ []) lb (byte_more c (d ∷ e ∷ []) lc (byte_more d (e ∷ []) ld (byte_more e [] le refl))))

pub bytes_are_bytes : (word : List ℕ) → length word ≡ 40 → within 1 word ≡ true → within 255 (bytes_of word) ≡ true
bytes_are_bytes word l w =
    five_within
    (value (part 0 8 word))
    (value (part 8 8 word))
    (value (part 16 8 word))
    (value (part 24 8 word))
    (value (part 32 8 word))
    (part_small 0 8 word (omega arith) w)
    (part_small 8 8 word (omega arith) w)
    (part_small 16 8 word (omega arith) w)
    (part_small 24 8 word (omega arith) w)
    (part_small 32 8 word (omega arith) w)

-- five bytes, one by one
five : (bytes : List ℕ) → length bytes ≡ 5 → bytes ≡ get_or bytes 0 0 ∷ get_or bytes 1 0 ∷ get_or bytes 2 0 ∷ get_or bytes 3 0 ∷ get_or bytes 4 0 ∷ []
five [] l = absurd (omega arith)
five (a ∷ []) l = absurd (omega arith)
five (a ∷ b ∷ []) l = absurd (omega arith)
five (a ∷ b ∷ c ∷ []) l = absurd (omega arith)
five (a ∷ b ∷ c ∷ d ∷ []) l = absurd (omega arith)
five (a ∷ b ∷ c ∷ d ∷ e ∷ []) l = refl
five (a ∷ b ∷ c ∷ d ∷ e ∷ f ∷ rest) l = absurd (omega arith)

five_again : (a b c d e : ℕ) → a ≤ 255 → b ≤ 255 → c ≤ 255 → d ≤ 255 → e ≤ 255 → bytes_of (coding (plain unpacking) (a ∷ b ∷ c ∷ d ∷ e ∷ [])) ≡ a ∷ b ∷ c ∷ d ∷ e ∷ []
five_again a b c d e la lb lc ld le =
    let ea = value_of_bits 8 a (omega arith) in
    let eb = value_of_bits 8 b (omega arith) in
    let ec = value_of_bits 8 c (omega arith) in
    let ed = value_of_bits 8 d (omega arith) in
    let ee = value_of_bits 8 e (omega arith) in cc

-- the bytes of five bytes' bits are the bytes
pub bytes_again : (bytes : List ℕ) → length bytes ≡ 5 → within 255 bytes ≡ true → bytes_of (coding (plain unpacking) bytes) ≡ bytes
bytes_again bytes l w =
    let e = five bytes l in
    ap (λ zs. bytes_of (coding (plain unpacking) zs)) e
    ∙ five_again (get_or bytes 0 0) (get_or bytes 1 0) (get_or bytes 2 0) (get_or bytes 3 0) (get_or bytes 4 0) (within_at 255 bytes 0 w) (within_at 255 bytes 1 w) (within_at 255 bytes 2 w) (within_at 255 bytes 3 w) (within_at 255 bytes 4 w)
    ∙ sym e

-- MOD and FL share a byte
mod_and_fl : (b : ℕ) → bits_of 2 (b / 64) ++ bits_of 6 (b % 64) ≡ bits_of 8 b
mod_and_fl b =
    let m1 : b / 64 / 2 % 2 ≡ b / 128 % 2 = omega arith in
    let m0 : b / 64 / 1 % 2 ≡ b / 64 % 2 = omega arith in
    let f5 : b % 64 / 32 % 2 ≡ b / 32 % 2 = omega arith in
    let f4 : b % 64 / 16 % 2 ≡ b / 16 % 2 = omega arith in
    let f3 : b % 64 / 8 % 2 ≡ b / 8 % 2 = omega arith in
    let f2 : b % 64 / 4 % 2 ≡ b / 4 % 2 = omega arith in
    let f1 : b % 64 / 2 % 2 ≡ b / 2 % 2 = omega arith in
    let f0 : b % 64 / 1 % 2 ≡ b / 1 % 2 = omega arith in cc

-- TM[8] and DT are the upper half of a byte
tm_and_dt : (d : ℕ) → bits_of 1 (d / 128) ++ bits_of 3 (d / 16 % 8) ≡ take 4 (bits_of 8 d)
tm_and_dt d =
    let t8 : d / 128 / 1 % 2 ≡ d / 128 % 2 = omega arith in
    let d2 : d / 16 % 8 / 4 % 2 ≡ d / 64 % 2 = omega arith in
    let d1 : d / 16 % 8 / 2 % 2 ≡ d / 32 % 2 = omega arith in
    let d0 : d / 16 % 8 / 1 % 2 ≡ d / 16 % 2 = omega arith in cc

five_hold : (a b c d e : ℕ) → c ≤ 255 → header_bits (header_in (a ∷ b ∷ c ∷ d ∷ e ∷ [])) ≡ take 28 (coding (plain unpacking) (a ∷ b ∷ c ∷ d ∷ e ∷ []))
unfolding header_bits
five_hold a b c d e l =
    let tm : d / 128 * 256 + c ≡ 256 * (d / 128) + c = omega arith in
    let low : bits_of 8 (d / 128 * 256 + c) ≡ bits_of 8 c = ap (bits_of 8) tm ∙ low_byte (d / 128) c (omega arith) in
    let high : (d / 128 * 256 + c) / 256 ≡ d / 128 = ap (λ x. x / 256) tm ∙ high_part (d / 128) c (omega arith) in
    ap (λ zs. bits_of 8 a ++ (zs ++ (bits_of 8 (d / 128 * 256 + c) ++ (bits_of 1 ((d / 128 * 256 + c) / 256) ++ bits_of 3 (d / 16 % 8))))) (mod_and_fl b)
    ∙ ap (λ zs. bits_of 8 a ++ (bits_of 8 b ++ (zs ++ (bits_of 1 ((d / 128 * 256 + c) / 256) ++ bits_of 3 (d / 16 % 8))))) low
    ∙ ap (λ x. bits_of 8 a ++ (bits_of 8 b ++ (bits_of 8 c ++ (bits_of 1 x ++ bits_of 3 (d / 16 % 8))))) high
    ∙ ap (λ zs. bits_of 8 a ++ (bits_of 8 b ++ (bits_of 8 c ++ zs))) (tm_and_dt d)

-- the header in five bytes has the first 28 of their bits
pub header_bits_in : (bytes : List ℕ) → length bytes ≡ 5 → within 255 bytes ≡ true → header_bits (header_in bytes) ≡ take 28 (coding (plain unpacking) bytes)
header_bits_in bytes l w =
    let e = five bytes l in
    ap (λ zs. header_bits (header_in zs)) e
    ∙ five_hold (get_or bytes 0 0) (get_or bytes 1 0) (get_or bytes 2 0) (get_or bytes 3 0) (get_or bytes 4 0) (within_at 255 bytes 2 w)
    ∙ ap (λ zs. take 28 (coding (plain unpacking) zs)) (sym e)

pub header_in_range : (bytes : List ℕ) → within 255 bytes ≡ true → InRange (header_in bytes)
header_in_range bytes w =
    record {
      pdc_range = within_at 255 bytes 0 w;
      mod_range = omega (arith, within_at 255 bytes 1 w);
      fl_range = omega arith;
      tm_range = omega (arith, within_at 255 bytes 2 w, within_at 255 bytes 3 w);
      dt_range = omega arith;
    }

pub header_in_is : (bytes : List ℕ) → length bytes ≡ 5 → within 255 bytes ≡ true → header_in bytes ≡ header_from (take 28 (coding (plain unpacking) bytes))
header_in_is bytes l w =
    sym (header_from_in_range_bits (header_in bytes) (header_in_range bytes w)) ∙ ap header_from (header_bits_in bytes l w)
